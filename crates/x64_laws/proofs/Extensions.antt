-- A sign-extended number stands for the signed number of its low bits.
use Rattle.std.proofs.Common.{◌≡◌, ℕ, ℤ, ◌%◌, ◌^◌, arith}
use Rattle.std.proofs.lemmas.Int.{ints}
use Rattle.hx_bits.specs.declared.widths.Width.TheVariants.{W8, W16, W32}
use Rattle.hx_bits.specs.Widths.{sign_extended}
use Rattle.hx_words.specs.TwosComplement.{signed_of, IsSigned}
use Rattle.hx_words.proofs.TwosComplementLaws.{signed_of-bits_of, IsSigned-signed_of}

wider8 : (z : ℤ) → IsSigned 8 z → IsSigned 64 z
wider8 z h = (omega (arith, ints, h.0), omega (arith, ints, h.1))

wider16 : (z : ℤ) → IsSigned 16 z → IsSigned 64 z
wider16 z h = (omega (arith, ints, h.0), omega (arith, ints, h.1))

wider32 : (z : ℤ) → IsSigned 32 z → IsSigned 64 z
wider32 z h = (omega (arith, ints, h.0), omega (arith, ints, h.1))

pub extended_byte : (v : ℕ) → signed_of 64 (sign_extended W8 v) ≡ signed_of 8 (v % 2 ^ 8)
extended_byte v = signed_of-bits_of 64 (signed_of 8 (v % 2 ^ 8)) (omega arith) (wider8 (signed_of 8 (v % 2 ^ 8)) (IsSigned-signed_of 8 (v % 2 ^ 8) (omega arith) (omega arith)))

pub extended_half : (v : ℕ) → signed_of 64 (sign_extended W16 v) ≡ signed_of 16 (v % 2 ^ 16)
extended_half v = signed_of-bits_of 64 (signed_of 16 (v % 2 ^ 16)) (omega arith) (wider16 (signed_of 16 (v % 2 ^ 16)) (IsSigned-signed_of 16 (v % 2 ^ 16) (omega arith) (omega arith)))

pub extended_word : (v : ℕ) → signed_of 64 (sign_extended W32 v) ≡ signed_of 32 (v % 2 ^ 32)
extended_word v = signed_of-bits_of 64 (signed_of 32 (v % 2 ^ 32)) (omega arith) (wider32 (signed_of 32 (v % 2 ^ 32)) (IsSigned-signed_of 32 (v % 2 ^ 32) (omega arith) (omega arith)))
