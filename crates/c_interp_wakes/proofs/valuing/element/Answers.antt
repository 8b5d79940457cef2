use Rattle.c_interp_wakes.proofs.WakeLaws.{element-some, element-none}
use Rattle.c_interp_wakes.proofs.valuing.element.Goals as goal

pub returns-in-Some-clause-gives : goal.returns-in-Some-clause-gives
returns-in-Some-clause-gives c m ps s k = element-some m ps s k _ _ _ _ _ (c.in-Some.ensures s k) c.in_ok-part_copy-in-Some.ensures

pub returns-clause-gives : goal.returns-clause-gives
returns-clause-gives c m ps s k = element-none m ps s k _ _ _ (c.in-None.ensures s k)
