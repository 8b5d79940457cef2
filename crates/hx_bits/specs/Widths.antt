-- The widths of operands. Both instruction sets have 8, 16, 32 and 64 bits (Intel SDM volume 1, 4.1;
-- Arm ARM, DataSize), and extend a narrower number to 64 bits by zeros or by its sign
-- (MOVZX and MOVSX; UXTB and SXTB and their kin).
use Rattle.std.specs.Prelude.{ℕ, ◌%◌, ◌^◌}
use Rattle.hx_bits.specs.declared.widths.Width.{Width}
use Rattle.hx_bits.specs.declared.widths.Width.TheVariants.{W8, W16, W32, W64}
use Rattle.hx_words.specs.TwosComplement.{signed_of, bits_of}

abbrev pub bits_in : Width → ℕ
bits_in W8 = 8
bits_in W16 = 16
bits_in W32 = 32
bits_in W64 = 64

abbrev pub bytes_in : Width → ℕ
bytes_in W8 = 1
bytes_in W16 = 2
bytes_in W32 = 4
bytes_in W64 = 8

-- the low bits of a number
abbrev pub truncated : Width → ℕ → ℕ
truncated w v = v % 2 ^ bits_in w

-- the 64 bits of the signed number that the low bits stand for
abbrev pub sign_extended : Width → ℕ → ℕ
sign_extended w v = bits_of 64 (signed_of (bits_in w) (truncated w v))
