use Rattle.std.proofs.Common.{◌∙◌}
use Rattle.c_interp_wakes.proofs.WakeLaws.{run-Discard, run-SetLocal, run-LoopStep, run-Return, run-work}
use Rattle.c_interp_wakes.proofs.running.wake_run.Goals as goal

pub returns-in-Discard-clause-gives : goal.returns-in-Discard-clause-gives
returns-in-Discard-clause-gives c m ps s k = run-Discard m ps s k _ _ c.in-Discard.is

pub returns-in-SetLocal-clause-gives : goal.returns-in-SetLocal-clause-gives
returns-in-SetLocal-clause-gives c m ps s k = run-SetLocal m ps s k _ _ _ c.in-SetLocal.is

pub returns-in-If-clause-gives : goal.returns-in-If-clause-gives
returns-in-If-clause-gives c m ps s k = c.run_if.ensures.gives m ps s k ∙ run-work m ps s k _ _ _ c.in-If.is

pub returns-in-IfElse-clause-gives : goal.returns-in-IfElse-clause-gives
returns-in-IfElse-clause-gives c m ps s k = c.run_either.ensures.gives m ps s k ∙ run-work m ps s k _ _ _ c.in-IfElse.is

pub returns-in-LoopTest-clause-gives : goal.returns-in-LoopTest-clause-gives
returns-in-LoopTest-clause-gives c m ps s k = c.run_body.ensures.gives m ps s k ∙ run-work m ps s k _ _ _ c.in-LoopTest.is

pub returns-in-LoopStep-clause-gives : goal.returns-in-LoopStep-clause-gives
returns-in-LoopStep-clause-gives c m ps s k = run-LoopStep m ps s k _ _ _ c.in-LoopStep.is

pub returns-clause-gives : goal.returns-clause-gives
returns-clause-gives c m ps s k = run-Return m ps s k _ _ c.in-Return.is
