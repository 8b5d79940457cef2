use Rattle.c_interp_wakes.proofs.WakeLaws.{body-Broke, body-Gave}
use Rattle.c_interp_wakes.proofs.flowing.after_body.Goals as goal

pub returns-in-Broke-clause-gives : goal.returns-in-Broke-clause-gives
returns-in-Broke-clause-gives c m ps s k = body-Broke m ps s k _ _ c.in-Broke.is

pub returns-in-Gave-clause-gives : goal.returns-in-Gave-clause-gives
returns-in-Gave-clause-gives c m ps s k = body-Gave m ps s k _ _ _ c.in-Gave.is
