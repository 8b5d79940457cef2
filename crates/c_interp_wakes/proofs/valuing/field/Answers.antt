use Rattle.std.proofs.Common.{refl}
use Rattle.c_interp_wakes.proofs.WakeLaws.{value-FieldOf}
use Rattle.c_interp_wakes.proofs.valuing.field.Goals as goal

pub returns-clause-gives : goal.returns-clause-gives
returns-clause-gives c m ps s k = value-FieldOf m ps s k _ _ _ _ c.in_ok-part.ensures refl
