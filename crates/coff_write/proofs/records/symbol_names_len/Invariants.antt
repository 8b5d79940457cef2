use Rattle.std.proofs.Common.{◌≡◌, ◌+◌, ◌≤◌, drop}
use Rattle.std.specs.Prelude.{min}
use Rattle.coff_write.specs.Format.{symbol_names_size, cap}
use Rattle.coff_write.proofs.records.symbol_names_len.Given as goal

abbrev pub invariant-loop-s : goal.invariant-loop-s
invariant-loop-s l = record { sum : min (l.total + symbol_names_size (drop l.s-index l.symbols)) cap ≡ min (symbol_names_size l.symbols) cap; bound : l.total ≤ cap }
