use Rattle.std.proofs.Common.{arith}
use Rattle.std.proofs.lemmas.Int.{to_z-of_z}
use Rattle.c_interp_wakes.proofs.outcomes.updated_value.Goals as goal

pub returns-in-Some : goal.returns-in-Some
returns-in-Some c = grind (arith, to_z-of_z)

pub returns-in-None : goal.returns-in-None
returns-in-None c = grind (arith, to_z-of_z)
