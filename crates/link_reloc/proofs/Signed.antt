-- Signed numbers of some bits.
use Rattle.std.proofs.Common.{◌≡◌, ℕ, ℤ, pos, negsuc, ◌-◌, ◌^◌, ◌<◌, ◌≤◌, ◌+ℤ◌, ◌*ℤ◌, ◌≤ℤ◌, ◌<ℤ◌, neg_ℤ, Ok, arith}
use Rattle.std.proofs.lemmas.Int.{ints}
use Rattle.std.proofs.Math.Nat.{pow-le-pow_right}
use Rattle.hx_words.specs.TwosComplement.{bits_of}
use Rattle.hx_words.proofs.TwosComplementLaws.{twice}
use Rattle.link_reloc.specs.Sites.{within_signed}

pub half_le : (len : ℕ) → len ≤ 32 → 2 ^ (len - 1) ≤ 2 ^ 31
half_le len h = let below : len - 1 ≤ 31 = omega arith in pow-le-pow_right (omega arith) below

pub negative : (len : ℕ) (z : ℤ) (n : ℕ) → 0 < len → neg_ℤ (pos (2 ^ (len - 1))) ≤ℤ z → z <ℤ pos 0 → pos n ≡ z +ℤ pos 2 *ℤ pos (2 ^ (len - 1)) → Ok n ≡ within_signed len z (λ z. bits_of len z)
negative len (pos m) n some low below e = absurd (let no : ⊥ = omega (arith, ints) in no)
negative len (negsuc m) n some low below e = grind (arith, ints, twice len some)
