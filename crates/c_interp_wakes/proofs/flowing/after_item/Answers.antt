use Rattle.std.proofs.Common.{◌∙◌}
use Rattle.c_interp_wakes.proofs.WakeLaws.{items-Normal, items-Broke, items-Continued, items-Gave}
use Rattle.c_interp_wakes.proofs.flowing.after_item.Goals as goal

pub returns-in-Normal-clause-gives : goal.returns-in-Normal-clause-gives
returns-in-Normal-clause-gives c m ps s k = c.enter_items.ensures.gives m ps s k ∙ items-Normal m ps s k _ _ c.in-Normal.is

pub returns-in-Broke-clause-gives : goal.returns-in-Broke-clause-gives
returns-in-Broke-clause-gives c m ps s k = items-Broke m ps s k _ _ c.in-Broke.is

pub returns-in-Continued-clause-gives : goal.returns-in-Continued-clause-gives
returns-in-Continued-clause-gives c m ps s k = items-Continued m ps s k _ _ c.in-Continued.is

pub returns-in-Gave-clause-gives : goal.returns-in-Gave-clause-gives
returns-in-Gave-clause-gives c m ps s k = items-Gave m ps s k _ _ _ c.in-Gave.is
