use Rattle.std.proofs.Common.{arith}
use Rattle.std.proofs.lemmas.Int.{to_z-of_z}
use Rattle.c_values.specs.Numbers.{bits_in}
use Rattle.c_values.proofs.NumberLaws.{low_is, low_below}
use Rattle.c_values.proofs.numbers.low.Goals as goal

pub returns-clause-value : goal.returns-clause-value
returns-clause-value c = grind (arith, to_z-of_z, low_is (bits_in c.args.ty) c.args.z)

pub returns-clause-below : goal.returns-clause-below
returns-clause-below c = low_below c.args.ty c.args.z
