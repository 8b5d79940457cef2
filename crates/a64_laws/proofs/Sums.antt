-- What the flags of ADDS say of the two numbers, and overflow after SUBS.
use Rattle.std.proofs.Common.{◌≡◌, ◌≢◌, ℕ, pos, ◌+◌, ◌%◌, ◌^◌, ◌<◌, ◌≤◌, ◌≤ℤ◌, ◌<ℤ◌, ◌+ℤ◌, ◌-ℤ◌, Bool, true, false, not, IsTrue, arith}
use Rattle.std.proofs.lemmas.Bool.Decides.{nat_tests}
use Rattle.std.proofs.lemmas.Int.{ints}
use Rattle.hx_words.specs.TwosComplement.{signed_of, IsSigned}
use Rattle.a64_isa.specs.declared.instruction.Condition.TheVariants.{Equal, NotEqual, CarrySet, CarryClear, Overflow, NoOverflow, Higher, LowerOrSame, GreaterOrEqual, Less, Greater, LessOrEqual, Minus, Plus}
use Rattle.a64_exec.specs.Values.{sum_of, adds_of, subs_of, holds}
use Rattle.a64_exec.specs.Decides.{SubsDecides}
use Rattle.a64_laws.specs.Decides.{AddsDecides}

-- a test and its contrary
both_ways : (b : Bool) → IsTrue b → IsTrue (not b) → ⊥
both_ways true t n = grind (arith, nat_tests)
both_ways false t n = grind (arith, nat_tests)

or_not : (b : Bool) → (IsTrue (not b) → ⊥) → IsTrue b
or_not true h = grind (arith, nat_tests)
or_not false h = elim (h (grind (arith, nat_tests))) [ ]

adds_equal_says : (x y : ℕ) → x < 2 ^ 64 → y < 2 ^ 64 → IsTrue (holds Equal (adds_of x y).flags) → (x + y) % 2 ^ 64 ≡ 0
adds_equal_says x y x_lt y_lt t = grind (arith, ints, nat_tests)

adds_equal_where : (x y : ℕ) → x < 2 ^ 64 → y < 2 ^ 64 → ((x + y) % 2 ^ 64 ≡ 0) → IsTrue (holds Equal (adds_of x y).flags)
adds_equal_where x y x_lt y_lt h = grind (arith, ints, nat_tests)

pub adds_decides_equal : AddsDecides Equal (λ x y. (x + y) % 2 ^ 64 ≡ 0)
adds_decides_equal x y x_lt y_lt = (adds_equal_says x y x_lt y_lt, adds_equal_where x y x_lt y_lt)

adds_not_equal_says : (x y : ℕ) → x < 2 ^ 64 → y < 2 ^ 64 → IsTrue (holds NotEqual (adds_of x y).flags) → (x + y) % 2 ^ 64 ≢ 0
adds_not_equal_says x y x_lt y_lt t = grind (arith, ints, nat_tests)

adds_not_equal_where : (x y : ℕ) → x < 2 ^ 64 → y < 2 ^ 64 → ((x + y) % 2 ^ 64 ≢ 0) → IsTrue (holds NotEqual (adds_of x y).flags)
adds_not_equal_where x y x_lt y_lt h = grind (arith, ints, nat_tests)

pub adds_decides_not_equal : AddsDecides NotEqual (λ x y. (x + y) % 2 ^ 64 ≢ 0)
adds_decides_not_equal x y x_lt y_lt = (adds_not_equal_says x y x_lt y_lt, adds_not_equal_where x y x_lt y_lt)

adds_carry_set_says : (x y : ℕ) → x < 2 ^ 64 → y < 2 ^ 64 → IsTrue (holds CarrySet (adds_of x y).flags) → 2 ^ 64 ≤ x + y
adds_carry_set_says x y x_lt y_lt t = grind (arith, ints, nat_tests)

adds_carry_set_where : (x y : ℕ) → x < 2 ^ 64 → y < 2 ^ 64 → (2 ^ 64 ≤ x + y) → IsTrue (holds CarrySet (adds_of x y).flags)
adds_carry_set_where x y x_lt y_lt h = grind (arith, ints, nat_tests)

pub adds_decides_carry_set : AddsDecides CarrySet (λ x y. 2 ^ 64 ≤ x + y)
adds_decides_carry_set x y x_lt y_lt = (adds_carry_set_says x y x_lt y_lt, adds_carry_set_where x y x_lt y_lt)

adds_carry_clear_says : (x y : ℕ) → x < 2 ^ 64 → y < 2 ^ 64 → IsTrue (holds CarryClear (adds_of x y).flags) → x + y < 2 ^ 64
adds_carry_clear_says x y x_lt y_lt t = grind (arith, ints, nat_tests)

adds_carry_clear_where : (x y : ℕ) → x < 2 ^ 64 → y < 2 ^ 64 → (x + y < 2 ^ 64) → IsTrue (holds CarryClear (adds_of x y).flags)
adds_carry_clear_where x y x_lt y_lt h = grind (arith, ints, nat_tests)

pub adds_decides_carry_clear : AddsDecides CarryClear (λ x y. x + y < 2 ^ 64)
adds_decides_carry_clear x y x_lt y_lt = (adds_carry_clear_says x y x_lt y_lt, adds_carry_clear_where x y x_lt y_lt)

adds_minus_says : (x y : ℕ) → x < 2 ^ 64 → y < 2 ^ 64 → IsTrue (holds Minus (adds_of x y).flags) → 2 ^ 63 ≤ sum_of x y
adds_minus_says x y x_lt y_lt t = grind (arith, ints, nat_tests)

adds_minus_where : (x y : ℕ) → x < 2 ^ 64 → y < 2 ^ 64 → (2 ^ 63 ≤ sum_of x y) → IsTrue (holds Minus (adds_of x y).flags)
adds_minus_where x y x_lt y_lt h = grind (arith, ints, nat_tests)

pub adds_decides_minus : AddsDecides Minus (λ x y. 2 ^ 63 ≤ sum_of x y)
adds_decides_minus x y x_lt y_lt = (adds_minus_says x y x_lt y_lt, adds_minus_where x y x_lt y_lt)

adds_plus_says : (x y : ℕ) → x < 2 ^ 64 → y < 2 ^ 64 → IsTrue (holds Plus (adds_of x y).flags) → sum_of x y < 2 ^ 63
adds_plus_says x y x_lt y_lt t = grind (arith, ints, nat_tests)

adds_plus_where : (x y : ℕ) → x < 2 ^ 64 → y < 2 ^ 64 → (sum_of x y < 2 ^ 63) → IsTrue (holds Plus (adds_of x y).flags)
adds_plus_where x y x_lt y_lt h = grind (arith, ints, nat_tests)

pub adds_decides_plus : AddsDecides Plus (λ x y. sum_of x y < 2 ^ 63)
adds_decides_plus x y x_lt y_lt = (adds_plus_says x y x_lt y_lt, adds_plus_where x y x_lt y_lt)

adds_no_overflow_says : (x y : ℕ) → x < 2 ^ 64 → y < 2 ^ 64 → IsTrue (holds NoOverflow (adds_of x y).flags) → IsSigned 64 (signed_of 64 x +ℤ signed_of 64 y)
adds_no_overflow_says x y x_lt y_lt t = (grind (arith, ints, nat_tests), grind (arith, ints, nat_tests))

adds_no_overflow_where : (x y : ℕ) → x < 2 ^ 64 → y < 2 ^ 64 → (IsSigned 64 (signed_of 64 x +ℤ signed_of 64 y)) → IsTrue (holds NoOverflow (adds_of x y).flags)
adds_no_overflow_where x y x_lt y_lt h = grind (arith, ints, nat_tests)

pub adds_decides_no_overflow : AddsDecides NoOverflow (λ x y. IsSigned 64 (signed_of 64 x +ℤ signed_of 64 y))
adds_decides_no_overflow x y x_lt y_lt = (adds_no_overflow_says x y x_lt y_lt, adds_no_overflow_where x y x_lt y_lt)

adds_higher_says : (x y : ℕ) → x < 2 ^ 64 → y < 2 ^ 64 → IsTrue (holds Higher (adds_of x y).flags) → 2 ^ 64 < x + y
adds_higher_says x y x_lt y_lt t = grind (arith, ints, nat_tests)

adds_higher_where : (x y : ℕ) → x < 2 ^ 64 → y < 2 ^ 64 → (2 ^ 64 < x + y) → IsTrue (holds Higher (adds_of x y).flags)
adds_higher_where x y x_lt y_lt h = grind (arith, ints, nat_tests)

pub adds_decides_higher : AddsDecides Higher (λ x y. 2 ^ 64 < x + y)
adds_decides_higher x y x_lt y_lt = (adds_higher_says x y x_lt y_lt, adds_higher_where x y x_lt y_lt)

adds_lower_or_same_says : (x y : ℕ) → x < 2 ^ 64 → y < 2 ^ 64 → IsTrue (holds LowerOrSame (adds_of x y).flags) → x + y ≤ 2 ^ 64
adds_lower_or_same_says x y x_lt y_lt t = grind (arith, ints, nat_tests)

adds_lower_or_same_where : (x y : ℕ) → x < 2 ^ 64 → y < 2 ^ 64 → (x + y ≤ 2 ^ 64) → IsTrue (holds LowerOrSame (adds_of x y).flags)
adds_lower_or_same_where x y x_lt y_lt h = grind (arith, ints, nat_tests)

pub adds_decides_lower_or_same : AddsDecides LowerOrSame (λ x y. x + y ≤ 2 ^ 64)
adds_decides_lower_or_same x y x_lt y_lt = (adds_lower_or_same_says x y x_lt y_lt, adds_lower_or_same_where x y x_lt y_lt)

adds_greater_or_equal_says : (x y : ℕ) → x < 2 ^ 64 → y < 2 ^ 64 → IsTrue (holds GreaterOrEqual (adds_of x y).flags) → pos 0 ≤ℤ (signed_of 64 x +ℤ signed_of 64 y)
adds_greater_or_equal_says x y x_lt y_lt t = grind (arith, ints, nat_tests)

adds_greater_or_equal_where : (x y : ℕ) → x < 2 ^ 64 → y < 2 ^ 64 → (pos 0 ≤ℤ (signed_of 64 x +ℤ signed_of 64 y)) → IsTrue (holds GreaterOrEqual (adds_of x y).flags)
adds_greater_or_equal_where x y x_lt y_lt h = grind (arith, ints, nat_tests)

pub adds_decides_greater_or_equal : AddsDecides GreaterOrEqual (λ x y. pos 0 ≤ℤ (signed_of 64 x +ℤ signed_of 64 y))
adds_decides_greater_or_equal x y x_lt y_lt = (adds_greater_or_equal_says x y x_lt y_lt, adds_greater_or_equal_where x y x_lt y_lt)

adds_less_says : (x y : ℕ) → x < 2 ^ 64 → y < 2 ^ 64 → IsTrue (holds Less (adds_of x y).flags) → (signed_of 64 x +ℤ signed_of 64 y) <ℤ pos 0
adds_less_says x y x_lt y_lt t = grind (arith, ints, nat_tests)

adds_less_where : (x y : ℕ) → x < 2 ^ 64 → y < 2 ^ 64 → ((signed_of 64 x +ℤ signed_of 64 y) <ℤ pos 0) → IsTrue (holds Less (adds_of x y).flags)
adds_less_where x y x_lt y_lt h = grind (arith, ints, nat_tests)

pub adds_decides_less : AddsDecides Less (λ x y. (signed_of 64 x +ℤ signed_of 64 y) <ℤ pos 0)
adds_decides_less x y x_lt y_lt = (adds_less_says x y x_lt y_lt, adds_less_where x y x_lt y_lt)

adds_greater_says : (x y : ℕ) → x < 2 ^ 64 → y < 2 ^ 64 → IsTrue (holds Greater (adds_of x y).flags) → pos 0 <ℤ (signed_of 64 x +ℤ signed_of 64 y)
adds_greater_says x y x_lt y_lt t = grind (arith, ints, nat_tests)

adds_greater_where : (x y : ℕ) → x < 2 ^ 64 → y < 2 ^ 64 → (pos 0 <ℤ (signed_of 64 x +ℤ signed_of 64 y)) → IsTrue (holds Greater (adds_of x y).flags)
adds_greater_where x y x_lt y_lt h = grind (arith, ints, nat_tests)

pub adds_decides_greater : AddsDecides Greater (λ x y. pos 0 <ℤ (signed_of 64 x +ℤ signed_of 64 y))
adds_decides_greater x y x_lt y_lt = (adds_greater_says x y x_lt y_lt, adds_greater_where x y x_lt y_lt)

adds_less_or_equal_says : (x y : ℕ) → x < 2 ^ 64 → y < 2 ^ 64 → IsTrue (holds LessOrEqual (adds_of x y).flags) → (signed_of 64 x +ℤ signed_of 64 y) ≤ℤ pos 0
adds_less_or_equal_says x y x_lt y_lt t = grind (arith, ints, nat_tests)

adds_less_or_equal_where : (x y : ℕ) → x < 2 ^ 64 → y < 2 ^ 64 → ((signed_of 64 x +ℤ signed_of 64 y) ≤ℤ pos 0) → IsTrue (holds LessOrEqual (adds_of x y).flags)
adds_less_or_equal_where x y x_lt y_lt h = grind (arith, ints, nat_tests)

pub adds_decides_less_or_equal : AddsDecides LessOrEqual (λ x y. (signed_of 64 x +ℤ signed_of 64 y) ≤ℤ pos 0)
adds_decides_less_or_equal x y x_lt y_lt = (adds_less_or_equal_says x y x_lt y_lt, adds_less_or_equal_where x y x_lt y_lt)

subs_no_overflow_says : (x y : ℕ) → x < 2 ^ 64 → y < 2 ^ 64 → IsTrue (holds NoOverflow (subs_of x y).flags) → IsSigned 64 (signed_of 64 x -ℤ signed_of 64 y)
subs_no_overflow_says x y x_lt y_lt t = (grind (arith, ints, nat_tests), grind (arith, ints, nat_tests))

subs_no_overflow_where : (x y : ℕ) → x < 2 ^ 64 → y < 2 ^ 64 → (IsSigned 64 (signed_of 64 x -ℤ signed_of 64 y)) → IsTrue (holds NoOverflow (subs_of x y).flags)
subs_no_overflow_where x y x_lt y_lt h = grind (arith, ints, nat_tests)

pub subs_decides_no_overflow : SubsDecides NoOverflow (λ x y. IsSigned 64 (signed_of 64 x -ℤ signed_of 64 y))
subs_decides_no_overflow x y x_lt y_lt = (subs_no_overflow_says x y x_lt y_lt, subs_no_overflow_where x y x_lt y_lt)

adds_overflow_says : (x y : ℕ) → x < 2 ^ 64 → y < 2 ^ 64 → IsTrue (holds Overflow (adds_of x y).flags) → ¬ IsSigned 64 (signed_of 64 x +ℤ signed_of 64 y)
adds_overflow_says x y x_lt y_lt t = λ h. both_ways (adds_of x y).flags.v t (adds_no_overflow_where x y x_lt y_lt h)

adds_overflow_where : (x y : ℕ) → x < 2 ^ 64 → y < 2 ^ 64 → (¬ IsSigned 64 (signed_of 64 x +ℤ signed_of 64 y)) → IsTrue (holds Overflow (adds_of x y).flags)
adds_overflow_where x y x_lt y_lt h = or_not (adds_of x y).flags.v (λ n. h (adds_no_overflow_says x y x_lt y_lt n))

pub adds_decides_overflow : AddsDecides Overflow (λ x y. ¬ IsSigned 64 (signed_of 64 x +ℤ signed_of 64 y))
adds_decides_overflow x y x_lt y_lt = (adds_overflow_says x y x_lt y_lt, adds_overflow_where x y x_lt y_lt)

subs_overflow_says : (x y : ℕ) → x < 2 ^ 64 → y < 2 ^ 64 → IsTrue (holds Overflow (subs_of x y).flags) → ¬ IsSigned 64 (signed_of 64 x -ℤ signed_of 64 y)
subs_overflow_says x y x_lt y_lt t = λ h. both_ways (subs_of x y).flags.v t (subs_no_overflow_where x y x_lt y_lt h)

subs_overflow_where : (x y : ℕ) → x < 2 ^ 64 → y < 2 ^ 64 → (¬ IsSigned 64 (signed_of 64 x -ℤ signed_of 64 y)) → IsTrue (holds Overflow (subs_of x y).flags)
subs_overflow_where x y x_lt y_lt h = or_not (subs_of x y).flags.v (λ n. h (subs_no_overflow_says x y x_lt y_lt n))

pub subs_decides_overflow : SubsDecides Overflow (λ x y. ¬ IsSigned 64 (signed_of 64 x -ℤ signed_of 64 y))
subs_decides_overflow x y x_lt y_lt = (subs_overflow_says x y x_lt y_lt, subs_overflow_where x y x_lt y_lt)
