-- The quotient and the remainder of signed numbers as the code computes them.
use Rattle.std.proofs.Common.{◌≡◌, ◌≢◌, ℕ, ℤ, pos, negsuc, zero, suc, ◌+◌, ◌-◌, ◌*◌, ◌%◌, ◌^◌, ◌<◌, ◌≤◌, ◌≤ℤ◌, ◌<ℤ◌, Bool, true, false, arith, w64, FitsSigned, refl, ap, ap₂, sym, subst, ◌∙◌, Option, Some, None}
use Rattle.std.specs.Prelude.{int_div, int_rem, unsigned_abs, IsTrue}
use Rattle.std.specs.Int.{cast_signed, cast_unsigned, w128}
use lib.Signed.{mag}
use Rattle.std.proofs.lemmas.Bool.Decides.{nat_tests}
use Rattle.std.proofs.lemmas.Int.{ints, to_z-of_z, rem_below, rem_is, fits_signed_from_abs}
use Rattle.hx_words.specs.TwosComplement.{IsSigned, bits_of}
use Rattle.x64_exec.specs.Words.{fits_signed, division, divided_signed}

wider : (z : ℤ) → FitsSigned w64 z → FitsSigned w128 z
wider (pos n) h = omega (arith, ints)
wider (negsuc n) h = omega (arith, ints)

signed_of-fits : (z : ℤ) → FitsSigned w64 z → IsSigned 64 z
signed_of-fits (pos n) h = (omega (arith, ints), omega (arith, ints))
signed_of-fits (negsuc n) h = (omega (arith, ints), omega (arith, ints))

some_abs : (d : ℤ) → d ≢ pos 0 → 0 < unsigned_abs d
some_abs (pos zero) h = absurd (h refl)
some_abs (pos (suc n)) h = omega arith
some_abs (negsuc n) h = omega arith

abs_most : (d : ℤ) → FitsSigned w64 d → unsigned_abs d ≤ 2 ^ 63
abs_most (pos n) h = omega arith
abs_most (negsuc n) h = omega arith

remainder_fits : (n d : ℤ) → d ≢ pos 0 → FitsSigned w64 d → IsSigned 64 (int_rem n d)
remainder_fits n d some fits =
    let low : unsigned_abs (int_rem n d) < unsigned_abs d = rem_below n d (some_abs d some) in
    let most : unsigned_abs d ≤ 2 ^ 63 = abs_most d fits in
    signed_of-fits (int_rem n d) (fits_signed_from_abs w64 (int_rem n d) (omega arith))

abbrev rest : ℤ → ℤ → ℤ
rest n d = cast_signed w128 (cast_unsigned w128 (int_rem (cast_signed w128 (cast_unsigned w128 n)) (cast_signed w128 (cast_unsigned w128 d))))

pub remainder_is : (n d : ℤ) → FitsSigned w128 n → FitsSigned w64 d → rest n (cast_signed w64 (cast_unsigned w64 d)) ≡ int_rem n d
remainder_is n d nf df = ap (rest n) (to_z-of_z w64 d df) ∙ rem_is w128 n d nf (wider d df)

pub remainder_bits : (n d : ℤ) → FitsSigned w128 n → FitsSigned w64 d → d ≢ pos 0 → IsSigned 64 (rest n (cast_signed w64 (cast_unsigned w64 d)))
remainder_bits n d nf df some = subst (IsSigned 64) (sym (remainder_is n d nf df)) (remainder_fits n d some df)

abbrev quot : ℤ → ℤ → ℤ
quot n d = int_div (cast_signed w128 (cast_unsigned w128 n)) (cast_signed w128 (cast_unsigned w128 (cast_signed w64 (cast_unsigned w64 d))))

pub quotient_is : (n d q : ℤ) → FitsSigned w128 n → FitsSigned w64 d → q ≡ quot n d → q ≡ int_div n d
quotient_is n d q nf df e =
    let narrow : cast_signed w64 (cast_unsigned w64 d) ≡ d = to_z-of_z w64 d df in
    e ∙ ap₂ int_div (to_z-of_z w128 n nf) (ap (λ z. cast_signed w128 (cast_unsigned w128 z)) narrow ∙ to_z-of_z w128 d (wider d df))

pub divided_is : (n d q : ℤ) (a b : ℕ) → q ≡ int_div n d → fits_signed q ≡ true → a ≡ bits_of 64 q → b ≡ bits_of 64 (int_rem n d) → Some (division a b) ≡ divided_signed n d
divided_is n d q a b quotient fits first second =
    let test : fits_signed (int_div n d) ≡ true = sym (ap fits_signed quotient) ∙ fits in
    rw test (ap₂ (λ x y. Some (division x y)) (first ∙ ap (bits_of 64) quotient) second)

-- the range of a number as the check knows it
pub range64 : (z : ℤ) → mag z < 2 ^ 63 → FitsSigned w64 z
range64 (pos n) h = omega arith
range64 (negsuc n) h = omega arith

pub range128 : (z : ℤ) → mag z < 2 ^ 127 → FitsSigned w128 z
range128 (pos n) h = omega arith
range128 (negsuc n) h = omega arith

-- the quotient as it is passed on
pub whole : (n d q : ℤ) → FitsSigned w128 n → FitsSigned w64 d → FitsSigned w128 (quot n d) → q ≡ quot n d → cast_signed w128 (cast_unsigned w128 q) ≡ q
whole n d q nf df fits e = to_z-of_z w128 q (subst (FitsSigned w128) (sym e) fits)
