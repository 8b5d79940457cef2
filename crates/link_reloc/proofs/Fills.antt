-- Fills of sites, one after the other.
use Rattle.std.proofs.Common.{◌≡◌, ℕ, ◌+◌, ◌%◌, ◌^◌, ◌<◌, ◌≤◌, ◌⊎◌, ⊎_elim, List, length, take, drop, Result, Ok, Err, refl, sym, ap, ◌∙◌, arith, mod-lt}
use Rattle.std.proofs.Math.Nat.{one-le-pow}
use Rattle.hx_words.specs.LittleEndian.{number_of, bytes_of}
use Rattle.hx_words.proofs.LittleEndianLaws.{length-bytes_of, number_of-bytes_of}
use Rattle.hx_bits.proofs.LowBytes.{bytes_of-mod}
use Rattle.hx_names.specs.declared.pieces.SiteKind.{SiteKind}
use Rattle.hx_names.specs.declared.pieces.SiteKind.TheVariants.{Nothing, Addr64, Addr32Nb, Rel32, Branch26, PageBaseRel21, PageOffset12A, PageOffset12L}
use Rattle.link_reloc.specs.declared.refusal.RelocRefusal.{RelocRefusal}
use Rattle.link_reloc.specs.Sites.{width, held, overwritten, after_of, site_of, filled}
use Rattle.link_reloc.proofs.Writes.{length-overwritten, overwritten_inside, overwritten_below, overwritten_above}

-- n bytes that are written from a place on
pow_some : (n : ℕ) → 0 < 256 ^ n
pow_some n = one-le-pow n 256 (omega arith)

module _ (n : ℕ) (xs : List ℕ) (at : ℕ) (fits : at + n ≤ length xs) where
  room : (v : ℕ) → at + length (bytes_of n v) ≤ length xs
  room v = omega (arith, length-bytes_of n v)

  pub size_after : (r : Result ℕ RelocRefusal) → length (after_of n xs at r) ≡ length xs
  size_after (Ok v) = length-overwritten xs at (bytes_of n v) (room v)
  size_after (Err e) = refl

  pub outside_after : (r : Result ℕ RelocRefusal) (i m : ℕ) → (i + m ≤ at) ⊎ (at + n ≤ i) → held m (after_of n xs at r) i ≡ held m xs i
  unfolding held
  outside_after (Ok v) i m h = ⊎_elim
      (λ below. ap number_of (overwritten_below xs at (bytes_of n v) (room v) i m below))
      (λ above. ap number_of (overwritten_above xs at (bytes_of n v) (room v) i m (omega (arith, above, length-bytes_of n v)))) h
  outside_after (Err e) i m h = refl

  pub inside_after : (v : ℕ) → held n (overwritten xs at (bytes_of n v)) at ≡ v % 256 ^ n
  unfolding held
  inside_after v =
      ap (λ k. number_of (take k (drop at (overwritten xs at (bytes_of n v))))) (sym (length-bytes_of n v))
      ∙ ap number_of (overwritten_inside xs at (bytes_of n v) (room v) ∙ sym (bytes_of-mod n v))
      ∙ number_of-bytes_of n (v % 256 ^ n) (mod-lt v (pow_some n))

pub inside_filled : (k : SiteKind) (xs : List ℕ) (at s t b v : ℕ) → at + width k ≤ length xs → site_of k xs at s t b ≡ Ok v → held (width k) (filled k xs at s t b) at ≡ v % 256 ^ width k
inside_filled k xs at s t b v h e = ap (λ r. held (width k) (after_of (width k) xs at r) at) e ∙ inside_after (width k) xs at h v

pub apart_filled : (j k : SiteKind) (xs : List ℕ) (i s t b v at s2 t2 b2 : ℕ) → i + width j ≤ length xs → at + width k ≤ length xs → (i + width j ≤ at) ⊎ (at + width k ≤ i) → site_of j xs i s t b ≡ Ok v → held (width j) (filled k (filled j xs i s t b) at s2 t2 b2) i ≡ v % 256 ^ width j
apart_filled j k xs i s t b v at s2 t2 b2 fits fits2 apart e =
    let size : length (filled j xs i s t b) ≡ length xs = size_after (width j) xs i fits (site_of j xs i s t b) in
    outside_after (width k) (filled j xs i s t b) at (omega (arith, fits2, size)) (site_of k (filled j xs i s t b) at s2 t2 b2) i (width j) apart
    ∙ inside_filled j xs i s t b v fits e

pub width_le : (k : SiteKind) → width k ≤ 8
width_le Nothing = omega arith
width_le Addr64 = omega arith
width_le Addr32Nb = omega arith
width_le Rel32 = omega arith
width_le Branch26 = omega arith
width_le PageBaseRel21 = omega arith
width_le PageOffset12A = omega arith
width_le PageOffset12L = omega arith
