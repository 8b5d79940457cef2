use Rattle.std.proofs.Common.{◌∙◌}
use Rattle.c_interp_wakes.proofs.WakeLaws.{find-work}
use Rattle.c_interp_wakes.proofs.finding.wake_find.Goals as goal

pub returns-in-Target-clause-gives : goal.returns-in-Target-clause-gives
returns-in-Target-clause-gives c m ps s k = c.found.ensures.gives m ps s k ∙ find-work m ps s k _ _ _ c.in-Target.is

pub returns-in-Arrow-clause-gives : goal.returns-in-Arrow-clause-gives
returns-in-Arrow-clause-gives c = rw c.in-Arrow.is c.field.ensures.gives

pub returns-in-ElementAt-clause-gives : goal.returns-in-ElementAt-clause-gives
returns-in-ElementAt-clause-gives c = rw c.in-ElementAt.is c.element.ensures.gives
