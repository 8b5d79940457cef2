use Rattle.std.proofs.Common.{◌≡◌, drop}
use Rattle.coff_write.specs.Format.{has_start}
use Rattle.coff_write.proofs.records.any_starts.Given as goal

abbrev pub invariant-loop-s : goal.invariant-loop-s
invariant-loop-s l = has_start l.section (drop l.s-index l.symbols) ≡ has_start l.section l.symbols
