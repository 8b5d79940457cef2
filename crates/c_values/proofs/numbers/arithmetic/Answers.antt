use Rattle.std.proofs.Common.{arith}
use Rattle.std.proofs.lemmas.Int.{to_z-of_z}
use Rattle.c_values.specs.Numbers.{arithmetic}
use Rattle.c_values.proofs.numbers.arithmetic.Goals as goal

pub returns-in_err-z : goal.returns-in_err-z
unfolding arithmetic
returns-in_err-z c = grind (arith, to_z-of_z)

pub returns : goal.returns
unfolding arithmetic
returns c = grind (arith, to_z-of_z)
