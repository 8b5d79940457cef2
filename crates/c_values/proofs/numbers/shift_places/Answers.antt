use Rattle.std.proofs.Common.{arith}
use Rattle.std.proofs.lemmas.Int.{to_z-of_z}
use Rattle.c_values.specs.Numbers.{bits_in, count_bits}
use Rattle.c_values.proofs.NumberLaws.{low_is}
use Rattle.c_values.proofs.numbers.shift_places.Goals as goal

pub returns-clause-value : goal.returns-clause-value
returns-clause-value c = grind (arith, to_z-of_z, low_is (count_bits (bits_in c.args.ty)) c.args.count)
