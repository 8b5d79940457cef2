use Rattle.std.proofs.Common.{◌≡◌, map, take, Some}
use Rattle.c_program.specs.declared.program.FunDef.{FunDef}
use Rattle.c_program.specs.Nodes.{small}
use Rattle.c_meaning.specs.Charge.{function_charge}
use Rattle.c_charge.proofs.charges.of_functions.Given as goal

abbrev pub invariant-loop-f : goal.invariant-loop-f
invariant-loop-f l = l.charges.items ≡ map (λ (f : FunDef). small (function_charge l.p (Some f))) (take l.f-index l.p.functions)
