use Rattle.std.proofs.Common.{arith}
use Rattle.std.proofs.lemmas.Int.{to_z-of_z}
use Rattle.c_values.specs.Numbers.{stepped}
use Rattle.c_values.proofs.numbers.step.Goals as goal

pub returns : goal.returns
unfolding stepped
returns c = grind (arith, to_z-of_z)
