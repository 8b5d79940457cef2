-- What the flags of CMP say of the two numbers.
use Rattle.std.proofs.Common.{◌≡◌, ◌≢◌, ℕ, ◌^◌, ◌<◌, ◌≤◌, ◌≤ℤ◌, ◌<ℤ◌, ◌-ℤ◌, Bool, true, false, not, IsTrue, arith}
use Rattle.std.proofs.lemmas.Bool.Decides.{nat_tests}
use Rattle.std.proofs.lemmas.Int.{ints}
use Rattle.hx_words.specs.TwosComplement.{signed_of, IsSigned}
use Rattle.x64_isa.specs.declared.instruction.Condition.TheVariants.{Overflow, NotOverflow, Below, AboveOrEqual, Equals, NotEquals, BelowOrEqual, Above, Sign, NotSign, LessThan, GreaterOrEqual, LessOrEqual, GreaterThan}
use Rattle.x64_exec.specs.Words.{minus, flags_of_minus, holds}
use Rattle.x64_laws.specs.Decides.{CmpDecides}

-- a test and its contrary
both_ways : (b : Bool) → IsTrue b → IsTrue (not b) → ⊥
both_ways true t n = grind (arith, nat_tests)
both_ways false t n = grind (arith, nat_tests)

or_not : (b : Bool) → (IsTrue (not b) → ⊥) → IsTrue b
or_not true h = grind (arith, nat_tests)
or_not false h = elim (h (grind (arith, nat_tests))) [ ]

equals_says : (x y : ℕ) → x < 2 ^ 64 → y < 2 ^ 64 → IsTrue (holds Equals (flags_of_minus x y)) → x ≡ y
equals_says x y x_lt y_lt t = grind (arith, ints, nat_tests)

equals_where : (x y : ℕ) → x < 2 ^ 64 → y < 2 ^ 64 → x ≡ y → IsTrue (holds Equals (flags_of_minus x y))
equals_where x y x_lt y_lt h = grind (arith, ints, nat_tests)

pub decides_equals : CmpDecides Equals (λ x y. x ≡ y)
decides_equals x y x_lt y_lt = (equals_says x y x_lt y_lt, equals_where x y x_lt y_lt)

not_equals_says : (x y : ℕ) → x < 2 ^ 64 → y < 2 ^ 64 → IsTrue (holds NotEquals (flags_of_minus x y)) → x ≢ y
not_equals_says x y x_lt y_lt t = grind (arith, ints, nat_tests)

not_equals_where : (x y : ℕ) → x < 2 ^ 64 → y < 2 ^ 64 → x ≢ y → IsTrue (holds NotEquals (flags_of_minus x y))
not_equals_where x y x_lt y_lt h = grind (arith, ints, nat_tests)

pub decides_not_equals : CmpDecides NotEquals (λ x y. x ≢ y)
decides_not_equals x y x_lt y_lt = (not_equals_says x y x_lt y_lt, not_equals_where x y x_lt y_lt)

above_or_equal_says : (x y : ℕ) → x < 2 ^ 64 → y < 2 ^ 64 → IsTrue (holds AboveOrEqual (flags_of_minus x y)) → y ≤ x
above_or_equal_says x y x_lt y_lt t = grind (arith, ints, nat_tests)

above_or_equal_where : (x y : ℕ) → x < 2 ^ 64 → y < 2 ^ 64 → y ≤ x → IsTrue (holds AboveOrEqual (flags_of_minus x y))
above_or_equal_where x y x_lt y_lt h = grind (arith, ints, nat_tests)

pub decides_above_or_equal : CmpDecides AboveOrEqual (λ x y. y ≤ x)
decides_above_or_equal x y x_lt y_lt = (above_or_equal_says x y x_lt y_lt, above_or_equal_where x y x_lt y_lt)

below_says : (x y : ℕ) → x < 2 ^ 64 → y < 2 ^ 64 → IsTrue (holds Below (flags_of_minus x y)) → x < y
below_says x y x_lt y_lt t = grind (arith, ints, nat_tests)

below_where : (x y : ℕ) → x < 2 ^ 64 → y < 2 ^ 64 → x < y → IsTrue (holds Below (flags_of_minus x y))
below_where x y x_lt y_lt h = grind (arith, ints, nat_tests)

pub decides_below : CmpDecides Below (λ x y. x < y)
decides_below x y x_lt y_lt = (below_says x y x_lt y_lt, below_where x y x_lt y_lt)

above_says : (x y : ℕ) → x < 2 ^ 64 → y < 2 ^ 64 → IsTrue (holds Above (flags_of_minus x y)) → y < x
above_says x y x_lt y_lt t = grind (arith, ints, nat_tests)

above_where : (x y : ℕ) → x < 2 ^ 64 → y < 2 ^ 64 → y < x → IsTrue (holds Above (flags_of_minus x y))
above_where x y x_lt y_lt h = grind (arith, ints, nat_tests)

pub decides_above : CmpDecides Above (λ x y. y < x)
decides_above x y x_lt y_lt = (above_says x y x_lt y_lt, above_where x y x_lt y_lt)

below_or_equal_says : (x y : ℕ) → x < 2 ^ 64 → y < 2 ^ 64 → IsTrue (holds BelowOrEqual (flags_of_minus x y)) → x ≤ y
below_or_equal_says x y x_lt y_lt t = grind (arith, ints, nat_tests)

below_or_equal_where : (x y : ℕ) → x < 2 ^ 64 → y < 2 ^ 64 → x ≤ y → IsTrue (holds BelowOrEqual (flags_of_minus x y))
below_or_equal_where x y x_lt y_lt h = grind (arith, ints, nat_tests)

pub decides_below_or_equal : CmpDecides BelowOrEqual (λ x y. x ≤ y)
decides_below_or_equal x y x_lt y_lt = (below_or_equal_says x y x_lt y_lt, below_or_equal_where x y x_lt y_lt)

greater_or_equal_says : (x y : ℕ) → x < 2 ^ 64 → y < 2 ^ 64 → IsTrue (holds GreaterOrEqual (flags_of_minus x y)) → signed_of 64 y ≤ℤ signed_of 64 x
greater_or_equal_says x y x_lt y_lt t = grind (arith, ints, nat_tests)

greater_or_equal_where : (x y : ℕ) → x < 2 ^ 64 → y < 2 ^ 64 → signed_of 64 y ≤ℤ signed_of 64 x → IsTrue (holds GreaterOrEqual (flags_of_minus x y))
greater_or_equal_where x y x_lt y_lt h = grind (arith, ints, nat_tests)

pub decides_greater_or_equal : CmpDecides GreaterOrEqual (λ x y. signed_of 64 y ≤ℤ signed_of 64 x)
decides_greater_or_equal x y x_lt y_lt = (greater_or_equal_says x y x_lt y_lt, greater_or_equal_where x y x_lt y_lt)

less_than_says : (x y : ℕ) → x < 2 ^ 64 → y < 2 ^ 64 → IsTrue (holds LessThan (flags_of_minus x y)) → signed_of 64 x <ℤ signed_of 64 y
less_than_says x y x_lt y_lt t = grind (arith, ints, nat_tests)

less_than_where : (x y : ℕ) → x < 2 ^ 64 → y < 2 ^ 64 → signed_of 64 x <ℤ signed_of 64 y → IsTrue (holds LessThan (flags_of_minus x y))
less_than_where x y x_lt y_lt h = grind (arith, ints, nat_tests)

pub decides_less_than : CmpDecides LessThan (λ x y. signed_of 64 x <ℤ signed_of 64 y)
decides_less_than x y x_lt y_lt = (less_than_says x y x_lt y_lt, less_than_where x y x_lt y_lt)

greater_than_says : (x y : ℕ) → x < 2 ^ 64 → y < 2 ^ 64 → IsTrue (holds GreaterThan (flags_of_minus x y)) → signed_of 64 y <ℤ signed_of 64 x
greater_than_says x y x_lt y_lt t = grind (arith, ints, nat_tests)

greater_than_where : (x y : ℕ) → x < 2 ^ 64 → y < 2 ^ 64 → signed_of 64 y <ℤ signed_of 64 x → IsTrue (holds GreaterThan (flags_of_minus x y))
greater_than_where x y x_lt y_lt h = grind (arith, ints, nat_tests)

pub decides_greater_than : CmpDecides GreaterThan (λ x y. signed_of 64 y <ℤ signed_of 64 x)
decides_greater_than x y x_lt y_lt = (greater_than_says x y x_lt y_lt, greater_than_where x y x_lt y_lt)

less_or_equal_says : (x y : ℕ) → x < 2 ^ 64 → y < 2 ^ 64 → IsTrue (holds LessOrEqual (flags_of_minus x y)) → signed_of 64 x ≤ℤ signed_of 64 y
less_or_equal_says x y x_lt y_lt t = grind (arith, ints, nat_tests)

less_or_equal_where : (x y : ℕ) → x < 2 ^ 64 → y < 2 ^ 64 → signed_of 64 x ≤ℤ signed_of 64 y → IsTrue (holds LessOrEqual (flags_of_minus x y))
less_or_equal_where x y x_lt y_lt h = grind (arith, ints, nat_tests)

pub decides_less_or_equal : CmpDecides LessOrEqual (λ x y. signed_of 64 x ≤ℤ signed_of 64 y)
decides_less_or_equal x y x_lt y_lt = (less_or_equal_says x y x_lt y_lt, less_or_equal_where x y x_lt y_lt)

sign_says : (x y : ℕ) → x < 2 ^ 64 → y < 2 ^ 64 → IsTrue (holds Sign (flags_of_minus x y)) → 2 ^ 63 ≤ minus x y
sign_says x y x_lt y_lt t = grind (arith, ints, nat_tests)

sign_where : (x y : ℕ) → x < 2 ^ 64 → y < 2 ^ 64 → 2 ^ 63 ≤ minus x y → IsTrue (holds Sign (flags_of_minus x y))
sign_where x y x_lt y_lt h = grind (arith, ints, nat_tests)

pub decides_sign : CmpDecides Sign (λ x y. 2 ^ 63 ≤ minus x y)
decides_sign x y x_lt y_lt = (sign_says x y x_lt y_lt, sign_where x y x_lt y_lt)

not_sign_says : (x y : ℕ) → x < 2 ^ 64 → y < 2 ^ 64 → IsTrue (holds NotSign (flags_of_minus x y)) → minus x y < 2 ^ 63
not_sign_says x y x_lt y_lt t = grind (arith, ints, nat_tests)

not_sign_where : (x y : ℕ) → x < 2 ^ 64 → y < 2 ^ 64 → minus x y < 2 ^ 63 → IsTrue (holds NotSign (flags_of_minus x y))
not_sign_where x y x_lt y_lt h = grind (arith, ints, nat_tests)

pub decides_not_sign : CmpDecides NotSign (λ x y. minus x y < 2 ^ 63)
decides_not_sign x y x_lt y_lt = (not_sign_says x y x_lt y_lt, not_sign_where x y x_lt y_lt)

not_overflow_says : (x y : ℕ) → x < 2 ^ 64 → y < 2 ^ 64 → IsTrue (holds NotOverflow (flags_of_minus x y)) → IsSigned 64 (signed_of 64 x -ℤ signed_of 64 y)
not_overflow_says x y x_lt y_lt t = (grind (arith, ints, nat_tests), grind (arith, ints, nat_tests))

not_overflow_where : (x y : ℕ) → x < 2 ^ 64 → y < 2 ^ 64 → IsSigned 64 (signed_of 64 x -ℤ signed_of 64 y) → IsTrue (holds NotOverflow (flags_of_minus x y))
not_overflow_where x y x_lt y_lt h = grind (arith, ints, nat_tests)

pub decides_not_overflow : CmpDecides NotOverflow (λ x y. IsSigned 64 (signed_of 64 x -ℤ signed_of 64 y))
decides_not_overflow x y x_lt y_lt = (not_overflow_says x y x_lt y_lt, not_overflow_where x y x_lt y_lt)

overflow_says : (x y : ℕ) → x < 2 ^ 64 → y < 2 ^ 64 → IsTrue (holds Overflow (flags_of_minus x y)) → ¬ IsSigned 64 (signed_of 64 x -ℤ signed_of 64 y)
overflow_says x y x_lt y_lt t = λ h. both_ways (flags_of_minus x y).of t (not_overflow_where x y x_lt y_lt h)

overflow_where : (x y : ℕ) → x < 2 ^ 64 → y < 2 ^ 64 → (¬ IsSigned 64 (signed_of 64 x -ℤ signed_of 64 y)) → IsTrue (holds Overflow (flags_of_minus x y))
overflow_where x y x_lt y_lt h = or_not (flags_of_minus x y).of (λ n. h (not_overflow_says x y x_lt y_lt n))

pub decides_overflow : CmpDecides Overflow (λ x y. ¬ IsSigned 64 (signed_of 64 x -ℤ signed_of 64 y))
decides_overflow x y x_lt y_lt = (overflow_says x y x_lt y_lt, overflow_where x y x_lt y_lt)
