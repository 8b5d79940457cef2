use Rattle.c_interp_steps.proofs.StackLaws.{no_items}
use Rattle.c_interp_steps.proofs.LoopLaws.{items-next, items-done}
use Rattle.c_interp_steps.proofs.statements.enter_items.Goals as goal

pub returns-in-Some-clause-gives : goal.returns-in-Some-clause-gives
returns-in-Some-clause-gives c m ps s k = items-next m ps s k _ _ _ c.in-Some.ensures.cases.0

pub returns-in-None-clause-gives : goal.returns-in-None-clause-gives
returns-in-None-clause-gives c m ps s k = items-done m ps s k _ (no_items _ c.in-None.ensures.cases)
