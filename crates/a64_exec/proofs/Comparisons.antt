-- What the flags of SUBS say of the two numbers.
use Rattle.std.proofs.Common.{◌≡◌, ◌≢◌, ◌↔◌, ℕ, ℤ, pos, negsuc, ◌+◌, ◌-◌, ◌%◌, ◌^◌, ◌<◌, ◌≤◌, ◌≤ℤ◌, ◌<ℤ◌, Bool, true, false, not, ◌&&◌, nat_le, nat_lt, eqb, cond, IsTrue, arith, refl, ap, sym, ◌∙◌}
use Rattle.std.proofs.lemmas.Bool.Decides.{nat_tests}
use Rattle.std.proofs.lemmas.Int.{ints}
use Rattle.hx_words.specs.TwosComplement.{signed_of}
use Rattle.a64_isa.specs.declared.instruction.Condition.TheVariants.{Equal, NotEqual, CarrySet, CarryClear, Higher, LowerOrSame, GreaterOrEqual, Less, Greater, LessOrEqual, Minus, Plus}
use Rattle.a64_exec.specs.Values.{is_minus, same, wrapped, complement, difference_of, subs_of, holds}
use Rattle.a64_exec.specs.Decides.{SubsDecides}

equal_says : (x y : ℕ) → x < 2 ^ 64 → y < 2 ^ 64 → IsTrue (holds Equal (subs_of x y).flags) → x ≡ y
equal_says x y x_lt y_lt t = grind (arith, ints, nat_tests)

equal_where : (x y : ℕ) → x < 2 ^ 64 → y < 2 ^ 64 → x ≡ y → IsTrue (holds Equal (subs_of x y).flags)
equal_where x y x_lt y_lt h = grind (arith, ints, nat_tests)

pub subs_decides_equal : SubsDecides Equal (λ x y. x ≡ y)
subs_decides_equal x y x_lt y_lt = (equal_says x y x_lt y_lt, equal_where x y x_lt y_lt)

not_equal_says : (x y : ℕ) → x < 2 ^ 64 → y < 2 ^ 64 → IsTrue (holds NotEqual (subs_of x y).flags) → x ≢ y
not_equal_says x y x_lt y_lt t = grind (arith, ints, nat_tests)

not_equal_where : (x y : ℕ) → x < 2 ^ 64 → y < 2 ^ 64 → x ≢ y → IsTrue (holds NotEqual (subs_of x y).flags)
not_equal_where x y x_lt y_lt h = grind (arith, ints, nat_tests)

pub subs_decides_not_equal : SubsDecides NotEqual (λ x y. x ≢ y)
subs_decides_not_equal x y x_lt y_lt = (not_equal_says x y x_lt y_lt, not_equal_where x y x_lt y_lt)

carry_set_says : (x y : ℕ) → x < 2 ^ 64 → y < 2 ^ 64 → IsTrue (holds CarrySet (subs_of x y).flags) → y ≤ x
carry_set_says x y x_lt y_lt t = grind (arith, ints, nat_tests)

carry_set_where : (x y : ℕ) → x < 2 ^ 64 → y < 2 ^ 64 → y ≤ x → IsTrue (holds CarrySet (subs_of x y).flags)
carry_set_where x y x_lt y_lt h = grind (arith, ints, nat_tests)

pub subs_decides_carry_set : SubsDecides CarrySet (λ x y. y ≤ x)
subs_decides_carry_set x y x_lt y_lt = (carry_set_says x y x_lt y_lt, carry_set_where x y x_lt y_lt)

carry_clear_says : (x y : ℕ) → x < 2 ^ 64 → y < 2 ^ 64 → IsTrue (holds CarryClear (subs_of x y).flags) → x < y
carry_clear_says x y x_lt y_lt t = grind (arith, ints, nat_tests)

carry_clear_where : (x y : ℕ) → x < 2 ^ 64 → y < 2 ^ 64 → x < y → IsTrue (holds CarryClear (subs_of x y).flags)
carry_clear_where x y x_lt y_lt h = grind (arith, ints, nat_tests)

pub subs_decides_carry_clear : SubsDecides CarryClear (λ x y. x < y)
subs_decides_carry_clear x y x_lt y_lt = (carry_clear_says x y x_lt y_lt, carry_clear_where x y x_lt y_lt)

higher_says : (x y : ℕ) → x < 2 ^ 64 → y < 2 ^ 64 → IsTrue (holds Higher (subs_of x y).flags) → y < x
higher_says x y x_lt y_lt t = grind (arith, ints, nat_tests)

higher_where : (x y : ℕ) → x < 2 ^ 64 → y < 2 ^ 64 → y < x → IsTrue (holds Higher (subs_of x y).flags)
higher_where x y x_lt y_lt h = grind (arith, ints, nat_tests)

pub subs_decides_higher : SubsDecides Higher (λ x y. y < x)
subs_decides_higher x y x_lt y_lt = (higher_says x y x_lt y_lt, higher_where x y x_lt y_lt)

lower_or_same_says : (x y : ℕ) → x < 2 ^ 64 → y < 2 ^ 64 → IsTrue (holds LowerOrSame (subs_of x y).flags) → x ≤ y
lower_or_same_says x y x_lt y_lt t = grind (arith, ints, nat_tests)

lower_or_same_where : (x y : ℕ) → x < 2 ^ 64 → y < 2 ^ 64 → x ≤ y → IsTrue (holds LowerOrSame (subs_of x y).flags)
lower_or_same_where x y x_lt y_lt h = grind (arith, ints, nat_tests)

pub subs_decides_lower_or_same : SubsDecides LowerOrSame (λ x y. x ≤ y)
subs_decides_lower_or_same x y x_lt y_lt = (lower_or_same_says x y x_lt y_lt, lower_or_same_where x y x_lt y_lt)

greater_or_equal_says : (x y : ℕ) → x < 2 ^ 64 → y < 2 ^ 64 → IsTrue (holds GreaterOrEqual (subs_of x y).flags) → signed_of 64 y ≤ℤ signed_of 64 x
greater_or_equal_says x y x_lt y_lt t = grind (arith, ints, nat_tests)

greater_or_equal_where : (x y : ℕ) → x < 2 ^ 64 → y < 2 ^ 64 → signed_of 64 y ≤ℤ signed_of 64 x → IsTrue (holds GreaterOrEqual (subs_of x y).flags)
greater_or_equal_where x y x_lt y_lt h = grind (arith, ints, nat_tests)

pub subs_decides_greater_or_equal : SubsDecides GreaterOrEqual (λ x y. signed_of 64 y ≤ℤ signed_of 64 x)
subs_decides_greater_or_equal x y x_lt y_lt = (greater_or_equal_says x y x_lt y_lt, greater_or_equal_where x y x_lt y_lt)

less_says : (x y : ℕ) → x < 2 ^ 64 → y < 2 ^ 64 → IsTrue (holds Less (subs_of x y).flags) → signed_of 64 x <ℤ signed_of 64 y
less_says x y x_lt y_lt t = grind (arith, ints, nat_tests)

less_where : (x y : ℕ) → x < 2 ^ 64 → y < 2 ^ 64 → signed_of 64 x <ℤ signed_of 64 y → IsTrue (holds Less (subs_of x y).flags)
less_where x y x_lt y_lt h = grind (arith, ints, nat_tests)

pub subs_decides_less : SubsDecides Less (λ x y. signed_of 64 x <ℤ signed_of 64 y)
subs_decides_less x y x_lt y_lt = (less_says x y x_lt y_lt, less_where x y x_lt y_lt)

greater_says : (x y : ℕ) → x < 2 ^ 64 → y < 2 ^ 64 → IsTrue (holds Greater (subs_of x y).flags) → signed_of 64 y <ℤ signed_of 64 x
greater_says x y x_lt y_lt t = grind (arith, ints, nat_tests)

greater_where : (x y : ℕ) → x < 2 ^ 64 → y < 2 ^ 64 → signed_of 64 y <ℤ signed_of 64 x → IsTrue (holds Greater (subs_of x y).flags)
greater_where x y x_lt y_lt h = grind (arith, ints, nat_tests)

pub subs_decides_greater : SubsDecides Greater (λ x y. signed_of 64 y <ℤ signed_of 64 x)
subs_decides_greater x y x_lt y_lt = (greater_says x y x_lt y_lt, greater_where x y x_lt y_lt)

less_or_equal_says : (x y : ℕ) → x < 2 ^ 64 → y < 2 ^ 64 → IsTrue (holds LessOrEqual (subs_of x y).flags) → signed_of 64 x ≤ℤ signed_of 64 y
less_or_equal_says x y x_lt y_lt t = grind (arith, ints, nat_tests)

less_or_equal_where : (x y : ℕ) → x < 2 ^ 64 → y < 2 ^ 64 → signed_of 64 x ≤ℤ signed_of 64 y → IsTrue (holds LessOrEqual (subs_of x y).flags)
less_or_equal_where x y x_lt y_lt h = grind (arith, ints, nat_tests)

pub subs_decides_less_or_equal : SubsDecides LessOrEqual (λ x y. signed_of 64 x ≤ℤ signed_of 64 y)
subs_decides_less_or_equal x y x_lt y_lt = (less_or_equal_says x y x_lt y_lt, less_or_equal_where x y x_lt y_lt)

minus_says : (x y : ℕ) → x < 2 ^ 64 → y < 2 ^ 64 → IsTrue (holds Minus (subs_of x y).flags) → 2 ^ 63 ≤ difference_of x y
minus_says x y x_lt y_lt t = grind (arith, ints, nat_tests)

minus_where : (x y : ℕ) → x < 2 ^ 64 → y < 2 ^ 64 → 2 ^ 63 ≤ difference_of x y → IsTrue (holds Minus (subs_of x y).flags)
minus_where x y x_lt y_lt h = grind (arith, ints, nat_tests)

pub subs_decides_minus : SubsDecides Minus (λ x y. 2 ^ 63 ≤ difference_of x y)
subs_decides_minus x y x_lt y_lt = (minus_says x y x_lt y_lt, minus_where x y x_lt y_lt)

plus_says : (x y : ℕ) → x < 2 ^ 64 → y < 2 ^ 64 → IsTrue (holds Plus (subs_of x y).flags) → difference_of x y < 2 ^ 63
plus_says x y x_lt y_lt t = grind (arith, ints, nat_tests)

plus_where : (x y : ℕ) → x < 2 ^ 64 → y < 2 ^ 64 → difference_of x y < 2 ^ 63 → IsTrue (holds Plus (subs_of x y).flags)
plus_where x y x_lt y_lt h = grind (arith, ints, nat_tests)

pub subs_decides_plus : SubsDecides Plus (λ x y. difference_of x y < 2 ^ 63)
subs_decides_plus x y x_lt y_lt = (plus_says x y x_lt y_lt, plus_where x y x_lt y_lt)
