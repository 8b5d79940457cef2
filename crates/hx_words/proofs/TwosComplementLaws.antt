-- Signed numbers and their bits determine each other.
use Rattle.std.proofs.Common.{◌≡◌, ℕ, ℤ, pos, negsuc, zero, suc, ◌+◌, ◌-◌, ◌*◌, ◌^◌, ◌<◌, ◌≤◌, ◌-ℤ◌, arith, rules, refl, ap, ◌∙◌}
use Rattle.std.proofs.lemmas.Int.{ints}
use Rattle.std.proofs.lemmas.Nat.{pow-add, pow_pos}
use Rattle.std.proofs.lemmas.Bool.Decides.{nat_tests}
use Rattle.hx_words.specs.TwosComplement.{signed_of, bits_of, IsSigned}

-- a power of two is twice the one below
pub twice : (len : ℕ) → 0 < len → 2 ^ len ≡ 2 ^ (len - 1) + 2 ^ (len - 1)
twice len h =
    let e : len ≡ 1 + (len - 1) = omega arith in
    let p : 2 ^ len ≡ 2 ^ 1 * 2 ^ (len - 1) = ap (λ k. 2 ^ k) e ∙ pow-add 2 1 (len - 1) in
    omega arith

pub bits_of-signed_of : (len n : ℕ) → 0 < len → n < 2 ^ len → bits_of len (signed_of len n) ≡ n
bits_of-signed_of len n some h = grind (arith, ints, nat_tests)

pub signed_of-bits_of : (len : ℕ) (z : ℤ) → 0 < len → IsSigned len z → signed_of len (bits_of len z) ≡ z
signed_of-bits_of len (pos n) some h = grind (arith, ints, nat_tests, twice len some)
signed_of-bits_of len (negsuc n) some h = grind (arith, ints, nat_tests, twice len some)

pub bits_of_lt : (len : ℕ) (z : ℤ) → 0 < len → IsSigned len z → bits_of len z < 2 ^ len
bits_of_lt len (pos n) some h = grind (arith, ints, twice len some)
bits_of_lt len (negsuc n) some h = grind (arith, ints, twice len some, pow_pos len)

pub IsSigned-signed_of : (len n : ℕ) → 0 < len → n < 2 ^ len → IsSigned len (signed_of len n)
IsSigned-signed_of len n some h = grind (arith, ints, nat_tests, twice len some)
