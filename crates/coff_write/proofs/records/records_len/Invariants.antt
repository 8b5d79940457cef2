use Rattle.std.proofs.Common.{◌≡◌, ◌+◌, ◌≤◌, drop}
use Rattle.std.specs.Prelude.{min}
use Rattle.coff_write.specs.Format.{records_total, cap}
use Rattle.coff_write.proofs.records.records_len.Given as goal

abbrev pub invariant-loop-j : goal.invariant-loop-j
invariant-loop-j l = record { sum : min (l.total + records_total l.sections l.symbols l.j (drop l.j l.symbols)) cap ≡ min (records_total l.sections l.symbols 0 l.symbols) cap; bound : l.total ≤ cap }
