use Rattle.std.proofs.Common.{◌≡◌, drop}
use Rattle.ir_core.specs.Operands.{are_passed}
use Rattle.ir_core.proofs.operands.are_passed.Given as goal

abbrev pub invariant-loop-i : goal.invariant-loop-i
invariant-loop-i l = are_passed l.slots l.classes l.i (drop l.i l.args) ≡ are_passed l.slots l.classes 0 l.args
