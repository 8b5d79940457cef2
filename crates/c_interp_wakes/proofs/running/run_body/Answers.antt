use Rattle.std.proofs.Common.{refl, sym, ◌∙◌}
use Rattle.c_interp_wakes.proofs.WakeLaws.{run-LoopTest-true, run-LoopTest-false}
use Rattle.c_interp_wakes.proofs.running.run_body.Goals as goal

pub returns-then-truth-clause-gives : goal.returns-then-truth-clause-gives
returns-then-truth-clause-gives c m ps s k = run-LoopTest-true m ps s k _ _ _ (sym c.truth.ensures ∙ c.if-truth.true) refl

pub returns-else-truth-clause-gives : goal.returns-else-truth-clause-gives
returns-else-truth-clause-gives c m ps s k = run-LoopTest-false m ps s k _ _ _ (sym c.truth.ensures ∙ c.if-truth.false) refl
