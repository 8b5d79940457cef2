use Rattle.std.proofs.Common.{◌≡◌, drop}
use Rattle.c_program.specs.Named.{adjustor_number, first_number}
use Rattle.c_program.proofs.named.among_adjustors.Given as goal

abbrev pub invariant-loop-a : goal.invariant-loop-a
invariant-loop-a l = first_number (adjustor_number l.name) (drop l.a-index l.adjustors) ≡ first_number (adjustor_number l.name) l.adjustors
