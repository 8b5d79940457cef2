use Rattle.c_interp_steps.proofs.LoopLaws.{step-some, step-none}
use Rattle.c_interp_steps.proofs.statements.enter_step.Goals as goal

pub returns-in-Some-clause-gives : goal.returns-in-Some-clause-gives
returns-in-Some-clause-gives c m ps s k = step-some m ps s k _ _ c.in-Some.is

pub returns-in-None-clause-gives : goal.returns-in-None-clause-gives
returns-in-None-clause-gives c m ps s k = step-none m ps s k _ c.in-None.is
