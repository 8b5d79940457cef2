use Rattle.std.proofs.Common.{refl}
use Rattle.c_values.specs.Numbers.{wrapped, arithmetic, low_bits, negated, complemented, stepped}
use Rattle.c_values.proofs.laws.worked_arithmetic.Goals as goal

pub returns : goal.returns
unfolding wrapped arithmetic low_bits negated complemented stepped
returns c = record { low_byte = refl; unsigned_of = refl; kept = refl; sum = refl; difference = refl; product = refl; quotient = refl; remainder = refl; least_quotient = refl; least_remainder = refl; by_zero = refl; left_31 = refl; left_63 = refl; right_1 = refl; right_unsigned = refl; and = refl; or = refl; xor = refl; minus_least = refl; turned = refl; up = refl; down = refl }
