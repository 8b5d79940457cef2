-- CQO and then IDIV as the truncated division of signed numbers.
use Rattle.std.proofs.Common.{◌≡◌, ◌≢◌, ℕ, ℤ, pos, negsuc, zero, suc, ◌+◌, ◌-◌, ◌*◌, ◌/◌, ◌^◌, ◌<◌, ◌≤◌, neg_ℤ, Bool, true, false, nat_lt, arith, refl, ap, ◌∙◌, ◌⊎◌, inl, inr, Some, None}
use Rattle.std.specs.Prelude.{int_div, int_rem, ◌==◌}
use Rattle.std.proofs.lemmas.Bool.Decides.{nat_tests}
use Rattle.std.proofs.lemmas.Int.{ints}
use Rattle.hx_words.specs.TwosComplement.{signed_of, bits_of}
use Rattle.std.proofs.Math.Nat.{div-le_self}
use Rattle.x64_exec.specs.Words.{signs, fits_signed, dividend, division, divided_signed, signed_divided}

by_half : (x : ℕ) (b : Bool) → nat_lt x (2 ^ 63) ≡ b → (x < 2 ^ 63) ⊎ (2 ^ 63 ≤ x)
by_half x true e = inl (grind (arith, nat_tests))
by_half x false e = inr (grind (arith, nat_tests))

extended_plus : (x : ℕ) → x < 2 ^ 63 → signed_of 128 (dividend (signs x) x) ≡ signed_of 64 x
extended_plus x plus = grind (arith, ints, nat_tests)

extended_minus : (x : ℕ) → x < 2 ^ 64 → 2 ^ 63 ≤ x → signed_of 128 (dividend (signs x) x) ≡ signed_of 64 x
extended_minus x x_lt minus = grind (arith, ints, nat_tests)

-- rdx:rax after CQO holds the signed number of rax
pub extended : (x : ℕ) → x < 2 ^ 64 → signed_of 128 (dividend (signs x) x) ≡ signed_of 64 x
extended x x_lt = elim (by_half x (nat_lt x (2 ^ 63)) refl) [
  | inl plus ↦ extended_plus x plus
  | inr minus ↦ extended_minus x x_lt minus
]

some_test : (d : ℕ) → 0 < d → (d == 0) ≡ false
some_test d some = grind (arith, nat_tests)

pub extended_divided : (x d : ℕ) → x < 2 ^ 64 → 0 < d → signed_divided (signs x) x d ≡ divided_signed (signed_of 64 x) (signed_of 64 d)
extended_divided x d x_lt some = rw (some_test d some) (ap (λ (n : ℤ). divided_signed n (signed_of 64 d)) (extended x x_lt))

-- which quotients of numbers of 64 bits are numbers of 64 bits: all but that of the least by -1
fits_pos : (n : ℕ) → n < 2 ^ 63 → fits_signed (pos n) ≡ true
fits_pos n h = grind (arith, ints, nat_tests)

fits_neg : (n : ℕ) → n ≤ 2 ^ 63 → fits_signed (neg_ℤ (pos n)) ≡ true
fits_neg zero h = refl
fits_neg (suc n) h = grind (arith, ints, nat_tests)

fits_plus_plus : (a b : ℕ) → a < 2 ^ 63 → fits_signed (int_div (pos a) (pos b)) ≡ true
fits_plus_plus a b h = let le = div-le_self a b in fits_pos (a / b) (omega arith)

fits_minus_plus : (a b : ℕ) → suc a ≤ 2 ^ 63 → fits_signed (int_div (negsuc a) (pos b)) ≡ true
fits_minus_plus a b h = let le = div-le_self (suc a) b in fits_neg (suc a / b) (omega arith)

fits_plus_minus : (a b : ℕ) → a < 2 ^ 63 → fits_signed (int_div (pos a) (negsuc b)) ≡ true
fits_plus_minus a b h = let le = div-le_self a (suc b) in fits_neg (a / suc b) (omega arith)

halved : (q c : ℕ) → q + q ≤ q * suc (suc c)
halved zero c = omega arith
halved (suc q) c = omega (arith, halved q c)

fits_minus_minus : (a b : ℕ) → suc a ≤ 2 ^ 63 → (suc a ≡ 2 ^ 63 → b ≢ 0) → fits_signed (int_div (negsuc a) (negsuc b)) ≡ true
fits_minus_minus a zero h other = let ne : suc a ≢ 2 ^ 63 = λ e. other e refl in fits_pos (suc a / 1) (omega (arith, ne))
fits_minus_minus a (suc c) h other = let two = halved (suc a / suc (suc c)) c in let le : suc a / suc (suc c) * suc (suc c) ≤ suc a = omega arith in fits_pos (suc a / suc (suc c)) (omega arith)

signed_minus : (x : ℕ) → x < 2 ^ 64 → 2 ^ 63 ≤ x → signed_of 64 x ≡ negsuc (2 ^ 64 - 1 - x)
signed_minus x x_lt minus = grind (arith, ints, nat_tests)

signed_plus : (x : ℕ) → x < 2 ^ 63 → signed_of 64 x ≡ pos x
signed_plus x plus = grind (arith, ints, nat_tests)

fits : (x d : ℕ) → x < 2 ^ 64 → d < 2 ^ 64 → (x ≡ 2 ^ 63 → d ≢ 2 ^ 64 - 1) → fits_signed (int_div (signed_of 64 x) (signed_of 64 d)) ≡ true
fits x d x_lt d_lt other = elim (by_half x (nat_lt x (2 ^ 63)) refl) [
  | inl x_plus ↦ elim (by_half d (nat_lt d (2 ^ 63)) refl) [
    | inl d_plus ↦ rw (signed_plus x x_plus, signed_plus d d_plus) (fits_plus_plus x d x_plus)
    | inr d_minus ↦ rw (signed_plus x x_plus, signed_minus d d_lt d_minus) (fits_plus_minus x (2 ^ 64 - 1 - d) x_plus)
  ]
  | inr x_minus ↦ elim (by_half d (nat_lt d (2 ^ 63)) refl) [
    | inl d_plus ↦ rw (signed_minus x x_lt x_minus, signed_plus d d_plus) (fits_minus_plus (2 ^ 64 - 1 - x) d (omega arith))
    | inr d_minus ↦ rw (signed_minus x x_lt x_minus, signed_minus d d_lt d_minus) (fits_minus_minus (2 ^ 64 - 1 - x) (2 ^ 64 - 1 - d) (omega arith) (λ e n. other (omega arith) (omega arith)))
  ]
]

whole : (n d : ℤ) → fits_signed (int_div n d) ≡ true → divided_signed n d ≡ Some (division (bits_of 64 (int_div n d)) (bits_of 64 (int_rem n d)))
whole n d e = rw e refl

pub quotient_of-extended : (x d : ℕ) → x < 2 ^ 64 → d < 2 ^ 64 → 0 < d → (x ≡ 2 ^ 63 → d ≢ 2 ^ 64 - 1) → signed_divided (signs x) x d ≡ Some (division (bits_of 64 (int_div (signed_of 64 x) (signed_of 64 d))) (bits_of 64 (int_rem (signed_of 64 x) (signed_of 64 d))))
quotient_of-extended x d x_lt d_lt some other = extended_divided x d x_lt some ∙ whole (signed_of 64 x) (signed_of 64 d) (fits x d x_lt d_lt other)

pub zero_divisor : (x : ℕ) → signed_divided (signs x) x 0 ≡ None
zero_divisor x = refl

pub least_by_minus_one : signed_divided (signs (2 ^ 63)) (2 ^ 63) (2 ^ 64 - 1) ≡ None
least_by_minus_one = refl
