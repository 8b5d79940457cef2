-- Numbers of 64 bits as the code computes them.
use Rattle.std.proofs.Common.{◌≡◌, ℕ, ℤ, pos, negsuc, suc, ◌+◌, ◌-◌, ◌*◌, ◌%◌, ◌^◌, ◌<◌, ◌≤◌, Bool, nat_le, nat_lt, arith, w64, refl}
use Rattle.std.proofs.lemmas.Bool.Decides.{nat_tests}
use Rattle.std.specs.Int.{cast_unsigned}
use Rattle.hx_words.specs.TwosComplement.{bits_of}

pub unsigned_bits_is : (z : ℤ) → cast_unsigned w64 z ≡ bits_of 64 z
unsigned_bits_is (pos n) = refl
unsigned_bits_is (negsuc n) = omega arith

-- the carry of a sum, and of a difference as the sum with the complement and one
pub carry_of-sum : (x y : ℕ) → x < 2 ^ 64 → y < 2 ^ 64 → nat_le (2 ^ 64) (x + y + 0) ≡ nat_lt ((x + y) % 2 ^ 64) x
carry_of-sum x y x_lt y_lt = grind (arith, nat_tests)

pub carry_of-difference : (x y : ℕ) → x < 2 ^ 64 → y < 2 ^ 64 → nat_le (2 ^ 64) (x + (2 ^ 64 - 1 - y) + 1) ≡ nat_le y x
carry_of-difference x y x_lt y_lt = grind (arith, nat_tests)

pub value_of-difference : (x y : ℕ) → y < 2 ^ 64 → (x + (2 ^ 64 - 1 - y) + 1) % 2 ^ 64 ≡ (x + (2 ^ 64 - y)) % 2 ^ 64
value_of-difference x y y_lt = omega arith

pub ruleset unsigned_bits = (unsigned_bits_is)

pub ruleset sums = (carry_of-sum, carry_of-difference, value_of-difference)
