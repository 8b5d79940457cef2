-- Sums in a type of 64 bits at most, worked out in 128 bits.
use Rattle.std.proofs.Common.{◌≡◌, ℕ, suc, ◌-◌, ◌%◌, ◌^◌, ◌<◌, Bool, true, false, refl, ap, ◌∙◌, arith, mod-lt, ℤ, pos, negsuc}
use Rattle.std.specs.Int.{int_rem_euclid, int_wrap, cast_signed, w128}
use Rattle.std.specs.Prelude.{cond, nat_lt, unsigned_abs}
use Rattle.c_types.specs.declared.types.IntTy.{IntTy}
use Rattle.c_types.specs.declared.types.IntTy.TheVariants.{I8, U8, I16, U16, I32, U32, I64, U64}
use Rattle.c_values.specs.Numbers.{bits_in, is_signed, low_bits, wrapped, of_bits}

low_is : (n : ℕ) (z : ℤ) → int_rem_euclid z (pos (2 ^ n)) ≡ pos (low_bits n z)
unfolding low_bits
low_is n (pos m) = refl
low_is n (negsuc m) = refl

below_at : (n : ℕ) (z : ℤ) → 0 < 2 ^ n → low_bits n z < 2 ^ n
unfolding low_bits
below_at n (pos m) h = mod-lt m h
below_at n (negsuc m) h = omega (arith, h)

-- the low bits of what 128 bits keep
fold_pos : (m : ℕ) → ((m % 2 ^ 128) % 2 ^ 8 ≡ m % 2 ^ 8) × ((m % 2 ^ 128) % 2 ^ 16 ≡ m % 2 ^ 16) × ((m % 2 ^ 128) % 2 ^ 32 ≡ m % 2 ^ 32) × ((m % 2 ^ 128) % 2 ^ 64 ≡ m % 2 ^ 64)
fold_pos m = (omega arith, omega arith, omega arith, omega arith)

fold_neg : (m : ℕ) → ((2 ^ 128 - 1 - m % 2 ^ 128) % 2 ^ 8 ≡ 2 ^ 8 - 1 - m % 2 ^ 8) × ((2 ^ 128 - 1 - m % 2 ^ 128) % 2 ^ 16 ≡ 2 ^ 16 - 1 - m % 2 ^ 16) × ((2 ^ 128 - 1 - m % 2 ^ 128) % 2 ^ 32 ≡ 2 ^ 32 - 1 - m % 2 ^ 32) × ((2 ^ 128 - 1 - m % 2 ^ 128) % 2 ^ 64 ≡ 2 ^ 64 - 1 - m % 2 ^ 64)
fold_neg m = (omega arith, omega arith, omega arith, omega arith)

turn_over : (r : ℕ) → r < 2 ^ 128 → (2 ^ 8 - 1 - (2 ^ 128 - suc r) % 2 ^ 8 ≡ r % 2 ^ 8) × (2 ^ 16 - 1 - (2 ^ 128 - suc r) % 2 ^ 16 ≡ r % 2 ^ 16) × (2 ^ 32 - 1 - (2 ^ 128 - suc r) % 2 ^ 32 ≡ r % 2 ^ 32) × (2 ^ 64 - 1 - (2 ^ 128 - suc r) % 2 ^ 64 ≡ r % 2 ^ 64)
turn_over r h = (omega (arith, h), omega (arith, h), omega (arith, h), omega (arith, h))

low_of_cast : (i : IntTy) (r : ℕ) → r < 2 ^ 128 → low_bits (bits_in i) (cast_signed w128 r) ≡ r % 2 ^ bits_in i
unfolding low_bits
low_of_cast i r h = by (nat_lt r (2 ^ 127))
  where
    turned : (i : IntTy) → low_bits (bits_in i) (negsuc (2 ^ 128 - suc r)) ≡ r % 2 ^ bits_in i
    turned I8 = (turn_over r h).0
    turned U8 = (turn_over r h).0
    turned I16 = (turn_over r h).1
    turned U16 = (turn_over r h).1
    turned I32 = (turn_over r h).2
    turned U32 = (turn_over r h).2
    turned I64 = (turn_over r h).3
    turned U64 = (turn_over r h).3

    by : (b : Bool) → low_bits (bits_in i) (cond b (pos r) (negsuc (2 ^ 128 - suc r))) ≡ r % 2 ^ bits_in i
    by true = refl
    by false = turned i

low_kept : (i : IntTy) (z : ℤ) → low_bits 128 z % 2 ^ bits_in i ≡ low_bits (bits_in i) z
unfolding low_bits
low_kept I8 (pos m) = (fold_pos m).0
low_kept U8 (pos m) = (fold_pos m).0
low_kept I16 (pos m) = (fold_pos m).1
low_kept U16 (pos m) = (fold_pos m).1
low_kept I32 (pos m) = (fold_pos m).2
low_kept U32 (pos m) = (fold_pos m).2
low_kept I64 (pos m) = (fold_pos m).3
low_kept U64 (pos m) = (fold_pos m).3
low_kept I8 (negsuc m) = (fold_neg m).0
low_kept U8 (negsuc m) = (fold_neg m).0
low_kept I16 (negsuc m) = (fold_neg m).1
low_kept U16 (negsuc m) = (fold_neg m).1
low_kept I32 (negsuc m) = (fold_neg m).2
low_kept U32 (negsuc m) = (fold_neg m).2
low_kept I64 (negsuc m) = (fold_neg m).3
low_kept U64 (negsuc m) = (fold_neg m).3

int_wrap_is : (z : ℤ) → int_wrap w128 z ≡ cast_signed w128 (low_bits 128 z)
unfolding int_wrap
int_wrap_is z = ap (λ n. cast_signed w128 (unsigned_abs n)) (low_is 128 z)

-- to keep 128 bits on the way changes nothing
pub wrapped_kept : (i : IntTy) (z : ℤ) → wrapped i (int_wrap w128 z) ≡ wrapped i z
unfolding wrapped
wrapped_kept i z = ap (λ m. of_bits (is_signed i) (bits_in i) m)
    (ap (low_bits (bits_in i)) (int_wrap_is z) ∙ low_of_cast i (low_bits 128 z) (below_at 128 z (omega arith)) ∙ low_kept i z)
