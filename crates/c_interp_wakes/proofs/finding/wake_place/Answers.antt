use Rattle.c_interp_wakes.proofs.WakeLaws.{place-Field, place-ElementThen}
use Rattle.c_interp_wakes.proofs.finding.wake_place.Goals as goal

pub returns-in_ok-inside-in-Field-clause-gives : goal.returns-in_ok-inside-in-Field-clause-gives
returns-in_ok-inside-in-Field-clause-gives c m ps s k = place-Field m ps s k _ _ _ _ c.in_ok-inside-in-Field.ensures c.in-Field.is

pub returns-in-ElementThen-clause-gives : goal.returns-in-ElementThen-clause-gives
returns-in-ElementThen-clause-gives c m ps s k = place-ElementThen m ps s k _ _ _ _ c.in-ElementThen.is
