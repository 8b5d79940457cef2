-- What a site that is filled has passed.
use Rattle.std.proofs.Common.{◌≡◌, ℕ, ℤ, pos, negsuc, ◌-◌, ◌%◌, ◌^◌, ◌<◌, ◌*ℤ◌, ◌≤ℤ◌, neg_ℤ, nat_abs, int_le, int_div, Bool, true, false, cond, ◌&&◌, Result, Ok, Err, arith, refl}
use Rattle.std.proofs.lemmas.Int.{ints}
use Rattle.std.proofs.lemmas.Bool.{eqb-true, and_from, cond-true}
use Rattle.hx_words.specs.TwosComplement.{IsSigned}
use Rattle.link_reloc.specs.declared.refusal.RelocRefusal.{RelocRefusal}
use Rattle.link_reloc.specs.declared.refusal.RelocRefusal.TheVariants.{Addend, Misaligned, OutOfReach}
use Rattle.link_reloc.specs.Sites.{from_zero, multiple, within, within_signed}

passed : (b : Bool) (r : Result ℕ RelocRefusal) (e : RelocRefusal) (v : ℕ) → cond b r (Err e) ≡ Ok v → (b ≡ true) × (r ≡ Ok v)
passed true r e v h = (refl, h)
passed false r e v h = absurd (let no : ⊥ = cc in no)

abbrev pub answered : ℕ → Result ℕ RelocRefusal
answered x = Ok x

pub fits_value : (x v : ℕ) → answered x ≡ answered v → x ≡ v
fits_value x v h = cc

pub was_zero : (field : ℕ) (r : Result ℕ RelocRefusal) (v : ℕ) → from_zero field r ≡ Ok v → (field ≡ 0) × (r ≡ Ok v)
was_zero field r v h = let p = passed _ r Addend v h in (eqb-true field 0 p.0, p.1)

pub was_multiple : (n : ℕ) (z : ℤ) (r : Result ℕ RelocRefusal) (v : ℕ) → multiple n z r ≡ Ok v → (nat_abs z % n ≡ 0) × (r ≡ Ok v)
was_multiple n z r v h = let p = passed _ r (Misaligned z) v h in (eqb-true (nat_abs z % n) 0 p.0, p.1)

both : (a b : Bool) → (a && b) ≡ true → (a ≡ true) × (b ≡ true)
both true b h = (refl, h)
both false b h = absurd (let no : ⊥ = cc in no)

pub bounds : (low high z : ℤ) → (int_le low z && int_le z high) ≡ true → (low ≤ℤ z) × (z ≤ℤ high)
bounds low high z h =
    let p = both (int_le low z) (int_le z high) h in
    let a : int_le low z ≡ true = p.0 in
    let b : int_le z high ≡ true = p.1 in
    (grind (arith, ints, a), grind (arith, ints, b))

pub was_within : (low high z : ℤ) (put : ℤ → ℕ) (v : ℕ) → within low high z put ≡ Ok v → ((low ≤ℤ z) × (z ≤ℤ high)) × (put z ≡ v)
was_within low high z put v h = let p = passed _ (Ok (put z)) (OutOfReach z) v h in (bounds low high z p.0, fits_value (put z) v p.1)

pub was_signed : (len : ℕ) (z : ℤ) (put : ℤ → ℕ) (v : ℕ) → 0 < 2 ^ (len - 1) → within_signed len z put ≡ Ok v → IsSigned len z × (put z ≡ v)
was_signed len z put v some h =
    let p = was_within (neg_ℤ (pos (2 ^ (len - 1)))) (pos (2 ^ (len - 1) - 1)) z put v h in
    ((p.0.0, omega (arith, ints, some, p.0.1)), p.1)

-- a number that 4 divides
pub four_times : (z : ℤ) → nat_abs z % 4 ≡ 0 → pos 4 *ℤ int_div z (pos 4) ≡ z
four_times (pos n) h = grind (arith, ints, h)
four_times (negsuc n) h = grind (arith, ints, h)

-- a value within bounds
pub is_signed : (len : ℕ) (z : ℤ) (put : ℤ → ℕ) → neg_ℤ (pos (2 ^ (len - 1))) ≤ℤ z → z ≤ℤ pos (2 ^ (len - 1) - 1) → within_signed len z put ≡ Ok (put z)
is_signed len z put low high =
    let a : int_le (neg_ℤ (pos (2 ^ (len - 1)))) z ≡ true = grind (arith, ints, low) in
    let b : int_le z (pos (2 ^ (len - 1) - 1)) ≡ true = grind (arith, ints, high) in
    cond-true _ _ _ (and_from _ _ a b)
