use Rattle.std.proofs.Common.{sym, ◌∙◌}
use Rattle.c_interp_wakes.proofs.WakeLaws.{choose-true, choose-false}
use Rattle.c_interp_wakes.proofs.valuing.choose_then.Goals as goal

pub returns-then-truth_of-clause-gives : goal.returns-then-truth_of-clause-gives
returns-then-truth_of-clause-gives c m ps s k = choose-true m ps s k _ _ _ (sym c.truth_of.ensures ∙ c.if-truth_of.true)

pub returns-else-truth_of-clause-gives : goal.returns-else-truth_of-clause-gives
returns-else-truth_of-clause-gives c m ps s k = choose-false m ps s k _ _ _ (sym c.truth_of.ensures ∙ c.if-truth_of.false)
