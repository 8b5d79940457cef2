use Rattle.std.proofs.Common.{inl, inr}
use Rattle.c_interp_wakes.proofs.WakeLaws.{first-Normal, first-Continued, first-Broke, first-Gave}
use Rattle.c_interp_wakes.proofs.flowing.after_first.Goals as goal

pub returns-in-Normal-clause-gives : goal.returns-in-Normal-clause-gives
returns-in-Normal-clause-gives c m ps s k = elim c.in-Normal.is [ inl e ↦ first-Normal m ps s k _ _ _ e | inr e ↦ first-Continued m ps s k _ _ _ e ]

pub returns-in-Broke-clause-gives : goal.returns-in-Broke-clause-gives
returns-in-Broke-clause-gives c m ps s k = first-Broke m ps s k _ _ _ c.in-Broke.is

pub returns-in-Gave-clause-gives : goal.returns-in-Gave-clause-gives
returns-in-Gave-clause-gives c m ps s k = first-Gave m ps s k _ _ _ _ c.in-Gave.is
