use Rattle.std.proofs.Common.{◌≡◌, drop}
use Rattle.ir_core.specs.Valid.{are_parameters}
use Rattle.ir_core.proofs.validity.are_parameters.Given as goal

abbrev pub invariant-loop-i : goal.invariant-loop-i
invariant-loop-i l = are_parameters l.slots l.i (drop l.i l.classes) ≡ are_parameters l.slots 0 l.classes
