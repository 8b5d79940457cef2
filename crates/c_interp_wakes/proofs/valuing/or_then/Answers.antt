use Rattle.std.proofs.Common.{sym, ◌∙◌}
use Rattle.c_interp_wakes.proofs.WakeLaws.{or-goes, or-ends}
use Rattle.c_interp_wakes.proofs.valuing.or_then.Goals as goal

pub returns-then-truth_of-clause-gives : goal.returns-then-truth_of-clause-gives
returns-then-truth_of-clause-gives c m ps s k = or-ends m ps s k _ _ _ (sym c.truth_of.ensures ∙ c.if-truth_of.true) c.int.ensures

pub returns-else-truth_of-clause-gives : goal.returns-else-truth_of-clause-gives
returns-else-truth_of-clause-gives c m ps s k = or-goes m ps s k _ _ _ (sym c.truth_of.ensures ∙ c.if-truth_of.false) c.value_then.ensures
