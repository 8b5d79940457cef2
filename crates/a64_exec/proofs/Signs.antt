-- The overflow flag and the signed quotient in signed numbers.
use Rattle.std.proofs.Common.{◌≡◌, ◌≢◌, ◌↔◌, ℕ, ℤ, pos, negsuc, ◌+◌, ◌-◌, ◌*◌, ◌/◌, ◌%◌, ◌^◌, ◌<◌, ◌≤◌, ◌≤ℤ◌, ◌<ℤ◌, ◌+ℤ◌, ◌-ℤ◌, neg_ℤ, zero, suc, Bool, true, false, not, ◌&&◌, nat_le, nat_lt, eqb, cond, IsTrue, arith, refl, ap, sym, ◌∙◌, ◌⊎◌, inl, inr}
use Rattle.std.specs.Prelude.{int_div}
use Rattle.std.proofs.Math.Nat.{div-le_self}
use Rattle.std.proofs.lemmas.Bool.Decides.{nat_tests}
use Rattle.std.proofs.lemmas.Int.{ints}
use Rattle.hx_words.specs.TwosComplement.{signed_of, bits_of, IsSigned}
use Rattle.a64_exec.specs.Values.{is_minus, same, wrapped, complement, difference_of, adds_of, subs_of, quotient_of, signed_quotient_of, magnitude}

adds_fits : (x y : ℕ) → x < 2 ^ 64 → y < 2 ^ 64 → (adds_of x y).flags.v ≡ false → IsSigned 64 (signed_of 64 x +ℤ signed_of 64 y)
adds_fits x y x_lt y_lt e = (grind (arith, ints, nat_tests), grind (arith, ints, nat_tests))

adds_no_overflow : (x y : ℕ) → x < 2 ^ 64 → y < 2 ^ 64 → IsSigned 64 (signed_of 64 x +ℤ signed_of 64 y) → (adds_of x y).flags.v ≡ false
adds_no_overflow x y x_lt y_lt h = grind (arith, ints, nat_tests)

subs_fits : (x y : ℕ) → x < 2 ^ 64 → y < 2 ^ 64 → (subs_of x y).flags.v ≡ false → IsSigned 64 (signed_of 64 x -ℤ signed_of 64 y)
subs_fits x y x_lt y_lt e = (grind (arith, ints, nat_tests), grind (arith, ints, nat_tests))

subs_no_overflow : (x y : ℕ) → x < 2 ^ 64 → y < 2 ^ 64 → IsSigned 64 (signed_of 64 x -ℤ signed_of 64 y) → (subs_of x y).flags.v ≡ false
subs_no_overflow x y x_lt y_lt h = grind (arith, ints, nat_tests)

pub overflow_of-adds : (x y : ℕ) → x < 2 ^ 64 → y < 2 ^ 64 → ((adds_of x y).flags.v ≡ false) ↔ IsSigned 64 (signed_of 64 x +ℤ signed_of 64 y)
overflow_of-adds x y x_lt y_lt = (adds_fits x y x_lt y_lt, adds_no_overflow x y x_lt y_lt)

pub overflow_of-subs : (x y : ℕ) → x < 2 ^ 64 → y < 2 ^ 64 → ((subs_of x y).flags.v ≡ false) ↔ IsSigned 64 (signed_of 64 x -ℤ signed_of 64 y)
overflow_of-subs x y x_lt y_lt = (subs_fits x y x_lt y_lt, subs_no_overflow x y x_lt y_lt)

signed_minus : (x : ℕ) → x < 2 ^ 64 → 2 ^ 63 ≤ x → signed_of 64 x ≡ negsuc (2 ^ 64 - 1 - x)
signed_minus x x_lt minus = grind (arith, ints, nat_tests)

signed_plus : (x : ℕ) → x < 2 ^ 63 → signed_of 64 x ≡ pos x
signed_plus x plus = grind (arith, ints, nat_tests)

bits_of-neg : (q : ℕ) → q < 2 ^ 64 → bits_of 64 (neg_ℤ (pos q)) ≡ difference_of 0 q
bits_of-neg zero h = refl
bits_of-neg (suc k) h = omega arith

quotient_of-some : (a b : ℕ) → 0 < b → quotient_of a b ≡ a / b
quotient_of-some a b some = grind (arith, nat_tests)

magnitude-minus : (x : ℕ) → x < 2 ^ 64 → 2 ^ 63 ≤ x → magnitude x ≡ suc (2 ^ 64 - 1 - x)
magnitude-minus x x_lt minus = grind (arith, nat_tests)

magnitude-plus : (x : ℕ) → x < 2 ^ 63 → magnitude x ≡ x
magnitude-plus x plus = grind (arith, nat_tests)

minus_test : (x : ℕ) → 2 ^ 63 ≤ x → is_minus x ≡ true
minus_test x h = grind (arith, nat_tests)

plus_test : (x : ℕ) → x < 2 ^ 63 → is_minus x ≡ false
plus_test x h = grind (arith, nat_tests)

-- SDIV is the quotient of the signed numbers toward zero, as 64 bits
quotient_plus_plus : (x y : ℕ) → x < 2 ^ 63 → y < 2 ^ 63 → 0 < y → signed_quotient_of x y ≡ bits_of 64 (int_div (signed_of 64 x) (signed_of 64 y))
quotient_plus_plus x y x_lt y_lt some =
    let a = plus_test x x_lt in let b = plus_test y y_lt in let q = quotient_of-some x y some in
    rw (signed_plus x x_lt, signed_plus y y_lt, a, b) q

quotient_minus_minus : (x y : ℕ) → x < 2 ^ 64 → 2 ^ 63 ≤ x → y < 2 ^ 64 → 2 ^ 63 ≤ y → signed_quotient_of x y ≡ bits_of 64 (int_div (signed_of 64 x) (signed_of 64 y))
quotient_minus_minus x y x_lt x_minus y_lt y_minus =
    let a = minus_test x x_minus in let b = minus_test y y_minus in
    let mx : difference_of 0 x ≡ suc (2 ^ 64 - 1 - x) = omega arith in
    let my : difference_of 0 y ≡ suc (2 ^ 64 - 1 - y) = omega arith in
    rw (signed_minus x x_lt x_minus, signed_minus y y_lt y_minus, a, b) (rw (mx, my) (quotient_of-some (suc (2 ^ 64 - 1 - x)) (suc (2 ^ 64 - 1 - y)) (omega arith)))

part_lt : (a b : ℕ) → a < 2 ^ 64 → 0 < b → a / b < 2 ^ 64
part_lt a b h some = let le = div-le_self a b in omega arith

quotient_minus_plus : (x y : ℕ) → x < 2 ^ 64 → 2 ^ 63 ≤ x → y < 2 ^ 63 → 0 < y → signed_quotient_of x y ≡ bits_of 64 (int_div (signed_of 64 x) (signed_of 64 y))
quotient_minus_plus x y x_lt x_minus y_lt some =
    let a = minus_test x x_minus in let b = plus_test y y_lt in
    let mx : difference_of 0 x ≡ suc (2 ^ 64 - 1 - x) = omega arith in
    let q = quotient_of-some (suc (2 ^ 64 - 1 - x)) y some in
    let lt = part_lt (suc (2 ^ 64 - 1 - x)) y (omega arith) some in
    rw (signed_minus x x_lt x_minus, signed_plus y y_lt, a, b) (rw mx (ap (λ (k : ℕ). difference_of 0 k) q ∙ sym (bits_of-neg (suc (2 ^ 64 - 1 - x) / y) lt)))

quotient_plus_minus : (x y : ℕ) → x < 2 ^ 63 → y < 2 ^ 64 → 2 ^ 63 ≤ y → signed_quotient_of x y ≡ bits_of 64 (int_div (signed_of 64 x) (signed_of 64 y))
quotient_plus_minus x y x_lt y_lt y_minus =
    let a = plus_test x x_lt in let b = minus_test y y_minus in
    let my : difference_of 0 y ≡ suc (2 ^ 64 - 1 - y) = omega arith in
    let q = quotient_of-some x (suc (2 ^ 64 - 1 - y)) (omega arith) in
    let lt = part_lt x (suc (2 ^ 64 - 1 - y)) (omega arith) (omega arith) in
    rw (signed_plus x x_lt, signed_minus y y_lt y_minus, a, b) (rw my (ap (λ (k : ℕ). difference_of 0 k) q ∙ sym (bits_of-neg (x / suc (2 ^ 64 - 1 - y)) lt)))

-- the two halves of the numbers
by_half : (x : ℕ) (b : Bool) → nat_lt x (2 ^ 63) ≡ b → (x < 2 ^ 63) ⊎ (2 ^ 63 ≤ x)
by_half x true e = inl (grind (arith, nat_tests))
by_half x false e = inr (grind (arith, nat_tests))

pub signed_quotient_of-int_div : (x y : ℕ) → x < 2 ^ 64 → y < 2 ^ 64 → 0 < y → signed_quotient_of x y ≡ bits_of 64 (int_div (signed_of 64 x) (signed_of 64 y))
signed_quotient_of-int_div x y x_lt y_lt some =
    elim (by_half x (nat_lt x (2 ^ 63)) refl) [
      | inl x_plus ↦ elim (by_half y (nat_lt y (2 ^ 63)) refl) [
        | inl y_plus ↦ quotient_plus_plus x y x_plus y_plus some
        | inr y_minus ↦ quotient_plus_minus x y x_plus y_lt y_minus
      ]
      | inr x_minus ↦ elim (by_half y (nat_lt y (2 ^ 63)) refl) [
        | inl y_plus ↦ quotient_minus_plus x y x_lt x_minus y_plus some
        | inr y_minus ↦ quotient_minus_minus x y x_lt x_minus y_lt y_minus
      ]
    ]
