-- Numbers of a width.
use Rattle.std.proofs.Common.{◌≡◌, ℕ, ◌*◌, ◌^◌, ◌<◌, ◌≤◌, arith, refl, mod-lt}
use Rattle.std.proofs.Math.Nat.{mod-mod, mod-eq_of_lt}
use Rattle.std.proofs.lemmas.Nat.{pow_pos}
use Rattle.std.proofs.lemmas.Int.{ints}
use Rattle.std.proofs.lemmas.Bool.Decides.{nat_tests}
use Rattle.hx_words.specs.TwosComplement.{signed_of}
use Rattle.hx_bits.specs.declared.widths.Width.{Width}
use Rattle.hx_bits.specs.declared.widths.Width.TheVariants.{W8, W16, W32, W64}
use Rattle.hx_bits.specs.Widths.{bits_in, bytes_in, truncated, sign_extended}

pub bits_in-bytes_in : (w : Width) → bits_in w ≡ 8 * bytes_in w
bits_in-bytes_in W8 = refl
bits_in-bytes_in W16 = refl
bits_in-bytes_in W32 = refl
bits_in-bytes_in W64 = refl

-- the bound of a width, by its bits and by its bytes
pub pow-bytes_in : (w : Width) → 256 ^ bytes_in w ≡ 2 ^ bits_in w
pow-bytes_in W8 = refl
pow-bytes_in W16 = refl
pow-bytes_in W32 = refl
pow-bytes_in W64 = refl

pub bytes_in_pos : (w : Width) → 0 < bytes_in w
bytes_in_pos W8 = omega arith
bytes_in_pos W16 = omega arith
bytes_in_pos W32 = omega arith
bytes_in_pos W64 = omega arith

pub bytes_in_le : (w : Width) → bytes_in w ≤ 8
bytes_in_le W8 = omega arith
bytes_in_le W16 = omega arith
bytes_in_le W32 = omega arith
bytes_in_le W64 = omega arith

pub truncated_lt : (w : Width) (v : ℕ) → truncated w v < 2 ^ bits_in w
truncated_lt w v = mod-lt v (pow_pos (bits_in w))

pub truncated-truncated : (w : Width) (v : ℕ) → truncated w (truncated w v) ≡ truncated w v
truncated-truncated w v = mod-mod v (2 ^ bits_in w)

pub truncated_same : (w : Width) (v : ℕ) → v < 2 ^ bits_in w → truncated w v ≡ v
truncated_same w v h = mod-eq_of_lt h

-- an extension is a number of 64 bits, and keeps the low bits and the signed number
pub sign_extended_lt : (w : Width) (v : ℕ) → sign_extended w v < 2 ^ 64
sign_extended_lt W8 v = grind (arith, ints, nat_tests)
sign_extended_lt W16 v = grind (arith, ints, nat_tests)
sign_extended_lt W32 v = grind (arith, ints, nat_tests)
sign_extended_lt W64 v = grind (arith, ints, nat_tests)

pub truncated-sign_extended : (w : Width) (v : ℕ) → truncated w (sign_extended w v) ≡ truncated w v
truncated-sign_extended W8 v = grind (arith, ints, nat_tests)
truncated-sign_extended W16 v = grind (arith, ints, nat_tests)
truncated-sign_extended W32 v = grind (arith, ints, nat_tests)
truncated-sign_extended W64 v = grind (arith, ints, nat_tests)

pub signed_of-sign_extended : (w : Width) (v : ℕ) → signed_of 64 (sign_extended w v) ≡ signed_of (bits_in w) (truncated w v)
signed_of-sign_extended W8 v = grind (arith, ints, nat_tests)
signed_of-sign_extended W16 v = grind (arith, ints, nat_tests)
signed_of-sign_extended W32 v = grind (arith, ints, nat_tests)
signed_of-sign_extended W64 v = grind (arith, ints, nat_tests)
