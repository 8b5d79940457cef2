-- Numbers of 64 bits as the code computes them.
use Rattle.std.proofs.Common.{◌≡◌, ℕ, ℤ, pos, negsuc, suc, ◌+◌, ◌-◌, ◌%◌, ◌^◌, ◌<◌, nat_le, nat_lt, arith, w64, refl, Result, Err}
use Rattle.std.proofs.lemmas.Bool.Decides.{nat_tests}
use Rattle.std.specs.Int.{cast_unsigned}
use Rattle.hx_words.specs.TwosComplement.{bits_of}
use Rattle.hx_mem.proofs.Laws.{after_refused}

pub unsigned_bits_is : (z : ℤ) → cast_unsigned w64 z ≡ bits_of 64 z
unsigned_bits_is (pos n) = refl
unsigned_bits_is (negsuc n) = omega arith

-- the carry of a sum
pub carry_of-sum : (x y : ℕ) → x < 2 ^ 64 → y < 2 ^ 64 → nat_le (2 ^ 64) (x + y) ≡ nat_lt ((x + y) % 2 ^ 64) x
carry_of-sum x y x_lt y_lt = grind (arith, nat_tests)

pub ruleset unsigned_bits = (unsigned_bits_is)

pub ruleset sums = (carry_of-sum)

pub ruleset refusals = (after_refused)
