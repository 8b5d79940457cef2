use Rattle.c_interp_wakes.proofs.WakeLaws.{update-some, update-none}
use Rattle.c_interp_wakes.proofs.valuing.update.Goals as goal

pub returns-in-Some-clause-gives : goal.returns-in-Some-clause-gives
returns-in-Some-clause-gives c m ps s k = update-some m ps s k _ _ _ _ _ _ _ c.in-Some.ensures

pub returns-in-None-clause-gives : goal.returns-in-None-clause-gives
returns-in-None-clause-gives c m ps s k = update-none m ps s k _ _ _ _ _ _ c.in-None.ensures
