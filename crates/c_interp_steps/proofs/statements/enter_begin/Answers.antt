use Rattle.std.proofs.Common.{◌∙◌}
use Rattle.c_interp_steps.proofs.LoopLaws.{begin-Locals, begin-Effect, begin-Nothing}
use Rattle.c_interp_steps.proofs.statements.enter_begin.Goals as goal

pub returns-in-Locals-clause-gives : goal.returns-in-Locals-clause-gives
returns-in-Locals-clause-gives c m ps s k = c.enter_declares.ensures.gives m ps s k ∙ begin-Locals m ps s k _ _ _ c.as_slice.ensures c.in-Locals.is

pub returns-in-Effect-clause-gives : goal.returns-in-Effect-clause-gives
returns-in-Effect-clause-gives c m ps s k = begin-Effect m ps s k _ _ _ c.get.ensures c.in-Effect.is

pub returns-in-Nothing-clause-gives : goal.returns-in-Nothing-clause-gives
returns-in-Nothing-clause-gives c m ps s k = begin-Nothing m ps s k _ c.in-Nothing.is
