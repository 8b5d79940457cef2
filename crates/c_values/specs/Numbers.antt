-- The integers of the language: which numbers a type holds, and arithmetic in a type. A signed type is
-- in two's complement, and a result that its type doesn't hold wraps (C leaves that undefined for a
-- signed type: the rule is this project's own).
use Rattle.std.specs.Prelude.{ℕ, zero, suc, ◌-◌, ◌/◌, ◌%◌, ◌^◌, Bool, true, false, nat_le, if◌then◌else◌, Option, Some, None}
use Rattle.std.specs.Prelude.{ℤ, pos, negsuc, ◌+ℤ◌, ◌-ℤ◌, ◌*ℤ◌, neg_ℤ, ◌≤ℤ◌, ◌<ℤ◌, int_lt, int_le, int_div, int_rem, bit_and, bit_or, bit_xor}
use Rattle.hx_words.specs.TwosComplement.{signed_of}
use Rattle.c_types.specs.declared.types.IntTy.{IntTy}
use Rattle.c_types.specs.declared.types.IntTy.TheVariants.{I8, U8, I16, U16, I32, U32, I64, U64}
use Rattle.c_program.specs.declared.expressions.Arithmetic.{Arithmetic}
use Rattle.c_program.specs.declared.expressions.Arithmetic.TheVariants as op
use Rattle.c_program.specs.declared.expressions.Comparison.{Comparison}
use Rattle.c_program.specs.declared.expressions.Comparison.TheVariants as by

abbrev pub bits_in : IntTy → ℕ
bits_in I8 = 8
bits_in U8 = 8
bits_in I16 = 16
bits_in U16 = 16
bits_in I32 = 32
bits_in U32 = 32
bits_in I64 = 64
bits_in U64 = 64

abbrev pub is_signed : IntTy → Bool
is_signed I8 = true
is_signed U8 = false
is_signed I16 = true
is_signed U16 = false
is_signed I32 = true
is_signed U32 = false
is_signed I64 = true
is_signed U64 = false

-- the number from 0 to 2 ^ n - 1 that differs from z by a multiple of 2 ^ n: the low n bits of z
unfoldable pub low_bits : ℕ → ℤ → ℕ
low_bits n (pos m) = m % 2 ^ n
low_bits n (negsuc m) = 2 ^ n - 1 - m % 2 ^ n

-- the number that n bits stand for
abbrev pub of_bits : Bool → ℕ → ℕ → ℤ
of_bits false n m = pos m
of_bits true n m = signed_of n m

-- the number of the type that differs from z by a multiple of 2 ^ bits: C's conversion (6.3.1.3)
unfoldable pub wrapped : IntTy → ℤ → ℤ
wrapped i z = of_bits (is_signed i) (bits_in i) (low_bits (bits_in i) z)

-- the least number of the type, and the one behind its greatest
abbrev pub least : Bool → ℕ → ℤ
least false n = pos 0
least true n = neg_ℤ (pos (2 ^ (n - 1)))

abbrev pub behind : Bool → ℕ → ℤ
behind false n = pos (2 ^ n)
behind true n = pos (2 ^ (n - 1))

-- the type holds the number
pub record Holds (i : IntTy) (z : ℤ) : Type 0 where
  pub low : least (is_signed i) (bits_in i) ≤ℤ z
  pub high : z <ℤ behind (is_signed i) (bits_in i)

-- a count of shifts is taken modulo 32, or modulo 64 in a type of 64 bits
abbrev pub count_bits : ℕ → ℕ
count_bits n = if nat_le n 32 then 5 else 6

abbrev pub shift_count : IntTy → ℤ → ℕ
shift_count i z = low_bits (count_bits (bits_in i)) z

-- the greatest number whose product with 2 ^ n isn't above z: a negative number keeps its sign
abbrev pub shifted_right : ℤ → ℕ → ℤ
shifted_right (pos m) n = pos (m / 2 ^ n)
shifted_right (negsuc m) n = negsuc (m / 2 ^ n)

-- a division of two numbers, where the divisor isn't 0
abbrev pub unless_zero : ℤ → ℤ → Option ℤ
unless_zero (pos zero) z = None
unless_zero (pos (suc n)) z = Some z
unless_zero (negsuc n) z = Some z

-- the operation on numbers, before the result is wrapped; none for a division by 0
abbrev pub worked : Arithmetic → IntTy → ℤ → ℤ → Option ℤ
worked op.Add i a b = Some (a +ℤ b)
worked op.Subtract i a b = Some (a -ℤ b)
worked op.Multiply i a b = Some (a *ℤ b)
-- truncated toward 0 (6.5.5), so the remainder has the sign of a
worked op.Divide i a b = unless_zero b (int_div a b)
worked op.Remainder i a b = unless_zero b (int_rem a b)
worked op.BitAnd i a b = Some (pos (bit_and (low_bits (bits_in i) a) (low_bits (bits_in i) b)))
worked op.BitOr i a b = Some (pos (bit_or (low_bits (bits_in i) a) (low_bits (bits_in i) b)))
worked op.BitXor i a b = Some (pos (bit_xor (low_bits (bits_in i) a) (low_bits (bits_in i) b)))
worked op.ShiftLeft i a b = Some (a *ℤ pos (2 ^ shift_count i b))
worked op.ShiftRight i a b = Some (shifted_right a (shift_count i b))

abbrev pub wrapped_in : IntTy → Option ℤ → Option ℤ
wrapped_in i None = None
wrapped_in i (Some z) = Some (wrapped i z)

-- the operation in a type, in which both operands are read; none for a division by 0. The least value
-- divided by -1 wraps to the least value, and leaves 0
unfoldable pub arithmetic : Arithmetic → IntTy → ℤ → ℤ → Option ℤ
arithmetic o i a b = wrapped_in i (worked o i (wrapped i a) (wrapped i b))

unfoldable pub negated : IntTy → ℤ → ℤ
negated i z = wrapped i (neg_ℤ (wrapped i z))

-- each bit turned over
unfoldable pub complemented : IntTy → ℤ → ℤ
complemented i z = wrapped i (neg_ℤ (wrapped i z) -ℤ pos 1)

-- one more, or one less
unfoldable pub stepped : IntTy → Bool → ℤ → ℤ
stepped i true z = wrapped i (wrapped i z +ℤ pos 1)
stepped i false z = wrapped i (wrapped i z -ℤ pos 1)

-- an order of two numbers; equality goes by values, not here
abbrev pub in_order : Comparison → ℤ → ℤ → Bool
in_order by.Equal a b = false
in_order by.NotEqual a b = false
in_order by.Less a b = int_lt a b
in_order by.LessEqual a b = int_le a b
in_order by.Greater a b = int_lt b a
in_order by.GreaterEqual a b = int_le b a
