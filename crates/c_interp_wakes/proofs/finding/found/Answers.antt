use Rattle.std.proofs.Common.{refl}
use Rattle.c_interp_wakes.proofs.WakeLaws.{find-Target, find-Target-null}
use Rattle.c_interp_wakes.proofs.finding.found.Goals as goal

pub returns-in-Some-clause-gives : goal.returns-in-Some-clause-gives
returns-in-Some-clause-gives c m ps s k = find-Target m ps s k _ _ _ (c.in-Some.ensures s k) refl

pub returns-in-None-clause-gives : goal.returns-in-None-clause-gives
returns-in-None-clause-gives c m ps s k = find-Target-null m ps s k _ _ (c.in-None.ensures s k) refl
