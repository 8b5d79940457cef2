use Rattle.std.proofs.Common.{◌≡◌, drop}
use Rattle.coff_write.specs.Valid.{no_zero}
use Rattle.coff_write.proofs.validity.has_no_zero.Given as goal

abbrev pub invariant-loop-c : goal.invariant-loop-c
invariant-loop-c l = no_zero (drop l.c-index l.name) ≡ no_zero l.name
