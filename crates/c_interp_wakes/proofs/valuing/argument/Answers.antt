use Rattle.std.proofs.Common.{refl, ◌∙◌, arith}
use Rattle.c_interp_wakes.proofs.WakeLaws.{value-Arguments}
use Rattle.c_interp_wakes.proofs.valuing.argument.Goals as goal

pub returns-clause-gives : goal.returns-clause-gives
returns-clause-gives c m ps s k = c.arguments.ensures.gives m ps s k ∙ value-Arguments m ps s k _ _ _ _ _ _ c.in_ok-push.ensures.ok refl

pub returns-clause-within : goal.returns-clause-within
returns-clause-within c = let e = c.arguments.ensures.within in omega arith
