-- What a number that is written with a `-` gives where it is 0.
use Rattle.std.proofs.Common.{◌≡◌, ℕ, ◌-◌, ◌*◌, ◌^◌, ◌<◌, ◌≤◌, if◌then◌else◌, Some, arith, refl}
use Rattle.std.specs.Prelude.{nat_lt}
use Rattle.std.proofs.lemmas.Int.{ints}
use Rattle.std.proofs.lemmas.Bool.Decides.{nat_tests}
use Rattle.hx_words.specs.TwosComplement.{signed_of, bits_of}
use Rattle.c_types.specs.declared.types.Span.{Span}
use Rattle.c_types.specs.declared.types.IntTy.{IntTy}
use Rattle.c_types.specs.declared.types.IntTy.TheVariants.{I8, U8, I16, U16, I32, U32, I64, U64}
use Rattle.c_tree.specs.declared.expressions.Literal.{Literal}
use Rattle.c_typing.specs.Conversions.{number_in}
use Rattle.c_typing.specs.Initials.{written}

none-of : (i : IntTy) → number_in i (2 ^ 64) ≡ 0
none-of I8 = refl
none-of U8 = refl
none-of I16 = refl
none-of U16 = refl
none-of I32 = refl
none-of U32 = refl
none-of I64 = refl
none-of U64 = refl

-- it is 0 in each type
pub none_written : (s : Span) (n : Literal) → n.value ≡ 0 → 0 ≡ written (Some s) n
none_written s n h = rw (h, none-of n.ty) refl

-- a signed number of few bits in 64 bits
pub signed_bits : (len n half low : ℕ) → half ≡ 2 ^ (len - 1) → 2 * half ≡ 2 ^ len → low ≡ n → low < 2 * half → half ≤ 2 ^ 31 →
    (if nat_lt low half then low else 2 ^ 64 - (2 * half - low)) ≡ bits_of 64 (signed_of len n)
signed_bits len n half low a b e h k = grind (arith, ints, nat_tests)
