use Rattle.std.proofs.Common.{◌≡◌, ◌+◌, drop}
use Rattle.coff_write.specs.Valid.{valid_sections}
use Rattle.coff_write.proofs.validity.right_sections.Given as goal

abbrev pub invariant-loop-k : goal.invariant-loop-k
invariant-loop-k l = valid_sections l.o (l.k + 1) (drop l.k l.sections) ≡ valid_sections l.o 1 l.sections
