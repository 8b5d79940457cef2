use Rattle.c_interp_steps.proofs.LoopLaws.{loop-test, loop-always}
use Rattle.c_interp_steps.proofs.statements.enter_loop.Goals as goal

pub returns-in-Some-clause-gives : goal.returns-in-Some-clause-gives
returns-in-Some-clause-gives c m ps s k = loop-test m ps s k _ _ c.in-Some.is

pub returns-in-None-clause-gives : goal.returns-in-None-clause-gives
returns-in-None-clause-gives c m ps s k = loop-always m ps s k _ c.in-None.is
