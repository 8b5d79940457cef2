use Rattle.std.proofs.Common.{◌≡◌, ◌+◌, ◌≤◌, drop}
use Rattle.std.specs.Prelude.{min}
use Rattle.coff_write.specs.Format.{rows_count, cap}
use Rattle.coff_write.proofs.records.rows_len.Given as goal

abbrev pub invariant-loop-s : goal.invariant-loop-s
invariant-loop-s l = record { sum : min (l.total + rows_count (drop l.s-index l.sections)) cap ≡ min (rows_count l.sections) cap; bound : l.total ≤ cap }
