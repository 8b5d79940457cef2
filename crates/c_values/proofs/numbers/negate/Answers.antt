use Rattle.std.proofs.Common.{arith}
use Rattle.std.proofs.lemmas.Int.{to_z-of_z}
use Rattle.c_values.specs.Numbers.{negated}
use Rattle.c_values.proofs.numbers.negate.Goals as goal

pub returns : goal.returns
unfolding negated
returns c = grind (arith, to_z-of_z)
