use Rattle.std.proofs.Common.{◌≡◌, map, take, Some}
use Rattle.c_program.specs.declared.program.AdjustDef.{AdjustDef}
use Rattle.c_program.specs.Nodes.{small}
use Rattle.c_meaning.specs.Charge.{adjustor_charge}
use Rattle.c_charge.proofs.charges.of_adjustors.Given as goal

abbrev pub invariant-loop-a : goal.invariant-loop-a
invariant-loop-a l = l.charges.items ≡ map (λ (a : AdjustDef). small (adjustor_charge l.p (Some a))) (take l.a-index l.p.adjustors)
