use Rattle.std.proofs.Common.{refl, sym, ◌∙◌}
use Rattle.c_interp_wakes.proofs.WakeLaws.{run-If-true, run-If-false}
use Rattle.c_interp_wakes.proofs.running.run_if.Goals as goal

pub returns-then-truth-clause-gives : goal.returns-then-truth-clause-gives
returns-then-truth-clause-gives c m ps s k = run-If-true m ps s k _ _ _ (sym c.truth.ensures ∙ c.if-truth.true) refl

pub returns-else-truth-clause-gives : goal.returns-else-truth-clause-gives
returns-else-truth-clause-gives c m ps s k = run-If-false m ps s k _ _ _ (sym c.truth.ensures ∙ c.if-truth.false) refl
