use Rattle.std.proofs.Common.{refl}
use Rattle.c_interp_wakes.proofs.WakeLaws.{find-Arrow, find-Arrow-null}
use Rattle.c_interp_wakes.proofs.finding.field.Goals as goal

pub returns-in_ok-inside-in-Some-clause-gives : goal.returns-in_ok-inside-in-Some-clause-gives
returns-in_ok-inside-in-Some-clause-gives c m ps s k = find-Arrow m ps s k _ _ _ _ _ (c.in-Some.ensures s k) c.in_ok-inside-in-Some.ensures refl

pub returns-in-None-clause-gives : goal.returns-in-None-clause-gives
returns-in-None-clause-gives c m ps s k = find-Arrow-null m ps s k _ _ _ (c.in-None.ensures s k) refl
