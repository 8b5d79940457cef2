use Rattle.c_interp_steps.proofs.StackLaws.{no_items}
use Rattle.c_interp_steps.proofs.LoopLaws.{declares-next, declares-done}
use Rattle.c_interp_steps.proofs.statements.enter_declares.Goals as goal

pub returns-in-Some-clause-gives : goal.returns-in-Some-clause-gives
returns-in-Some-clause-gives c m ps s k = declares-next m ps s k _ _ _ c.in-Some.ensures.cases.0

pub returns-in-None-clause-gives : goal.returns-in-None-clause-gives
returns-in-None-clause-gives c m ps s k = declares-done m ps s k _ (no_items _ c.in-None.ensures.cases)
