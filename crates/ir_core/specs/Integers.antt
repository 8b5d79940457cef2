-- The integers of the operations: which number the bits of a type stand for, and what the operations do with numbers
-- of one type. A result that its type doesn't hold wraps (C leaves that undefined for a signed type: the rule is this
-- project's own).
use Rattle.std.specs.Prelude.{ℕ, zero, suc, ◌-◌, ◌*◌, ◌/◌, ◌%◌, ◌^◌, Bool, true, false, not, ◌&&◌, nat_le, if◌then◌else◌, Option, Some, None}
use Rattle.std.specs.Prelude.{ℤ, pos, negsuc, ◌+ℤ◌, ◌-ℤ◌, ◌*ℤ◌, neg_ℤ, int_lt, int_le, int_div, int_rem, bit_and, bit_or, bit_xor}
use Rattle.hx_words.specs.TwosComplement.{signed_of}
use Rattle.c_types.specs.declared.types.IntTy.{IntTy}
use Rattle.c_types.specs.declared.types.IntTy.TheVariants.{I8, U8, I16, U16, I32, U32, I64, U64}
use Rattle.ir_core.specs.declared.operations.IrUnary.{IrUnary}
use Rattle.ir_core.specs.declared.operations.IrUnary.TheVariants.{Negate, Flip, IsZero}
use Rattle.ir_core.specs.declared.operations.IrBinary.{IrBinary}
use Rattle.ir_core.specs.declared.operations.IrBinary.TheVariants as by

abbrev pub bytes_in : IntTy → ℕ
bytes_in I8 = 1
bytes_in U8 = 1
bytes_in I16 = 2
bytes_in U16 = 2
bytes_in I32 = 4
bytes_in U32 = 4
bytes_in I64 = 8
bytes_in U64 = 8

abbrev pub bits_in : IntTy → ℕ
bits_in i = 8 * bytes_in i

abbrev pub is_signed : IntTy → Bool
is_signed I8 = true
is_signed U8 = false
is_signed I16 = true
is_signed U16 = false
is_signed I32 = true
is_signed U32 = false
is_signed I64 = true
is_signed U64 = false

-- the number from 0 to 2 ^ n - 1 that differs from z by a multiple of 2 ^ n: the low n bits of z
unfoldable pub low_bits : ℕ → ℤ → ℕ
low_bits n (pos m) = m % 2 ^ n
low_bits n (negsuc m) = 2 ^ n - 1 - m % 2 ^ n

-- the number that n bits stand for
abbrev pub of_bits : Bool → ℕ → ℕ → ℤ
of_bits false n m = pos m
of_bits true n m = signed_of n m

-- the number of the type that differs from z by a multiple of 2 ^ bits: C's conversion (6.3.1.3)
unfoldable pub wrapped : IntTy → ℤ → ℤ
wrapped i z = of_bits (is_signed i) (bits_in i) (low_bits (bits_in i) z)

-- a count of shifts is taken modulo 32, or modulo 64 in a type of 64 bits
abbrev pub shift_count : IntTy → ℤ → ℕ
shift_count i z = low_bits (if nat_le (bytes_in i) 4 then 5 else 6) z

-- the greatest number whose product with 2 ^ n isn't above z: a negative number keeps its sign
abbrev pub shifted_right : ℤ → ℕ → ℤ
shifted_right (pos m) n = pos (m / 2 ^ n)
shifted_right (negsuc m) n = negsuc (m / 2 ^ n)

-- a division of two numbers, where the divisor isn't 0
abbrev pub unless_zero : ℤ → ℤ → Option ℤ
unless_zero (pos zero) z = None
unless_zero (pos (suc n)) z = Some z
unless_zero (negsuc n) z = Some z

abbrev pub is_zero : ℤ → Bool
is_zero (pos zero) = true
is_zero (pos (suc n)) = false
is_zero (negsuc n) = false

abbrev pub same_number : ℤ → ℤ → Bool
same_number a b = int_le a b && int_le b a

-- 1 or 0
abbrev pub truth : Bool → ℤ
truth true = pos 1
truth false = pos 0

-- what is done to a number, before the result is wrapped
abbrev pub unary_worked : IrUnary → ℤ → ℤ
unary_worked Negate a = neg_ℤ a
unary_worked Flip a = neg_ℤ a -ℤ pos 1
unary_worked IsZero a = truth (is_zero a)

-- what is done to two numbers of a type, before the result is wrapped; none for a division by 0
abbrev pub worked : IrBinary → IntTy → ℤ → ℤ → Option ℤ
worked by.Add i a b = Some (a +ℤ b)
worked by.Sub i a b = Some (a -ℤ b)
worked by.Mul i a b = Some (a *ℤ b)
-- truncated toward 0 (6.5.5), so the remainder has the sign of a; the least number by -1 wraps, and leaves 0
worked by.Div i a b = unless_zero b (int_div a b)
worked by.Rem i a b = unless_zero b (int_rem a b)
worked by.And i a b = Some (pos (bit_and (low_bits (bits_in i) a) (low_bits (bits_in i) b)))
worked by.Or i a b = Some (pos (bit_or (low_bits (bits_in i) a) (low_bits (bits_in i) b)))
worked by.Xor i a b = Some (pos (bit_xor (low_bits (bits_in i) a) (low_bits (bits_in i) b)))
worked by.Shl i a b = Some (a *ℤ pos (2 ^ shift_count i b))
worked by.Shr i a b = Some (shifted_right a (shift_count i b))
worked by.Eq i a b = Some (truth (same_number a b))
worked by.Ne i a b = Some (truth (not (same_number a b)))
worked by.Lt i a b = Some (truth (int_lt a b))
worked by.Le i a b = Some (truth (int_le a b))
worked by.Gt i a b = Some (truth (int_lt b a))
worked by.Ge i a b = Some (truth (int_le b a))

-- the type of a result: an int for a test
abbrev pub unary_type : IrUnary → IntTy → IntTy
unary_type Negate i = i
unary_type Flip i = i
unary_type IsZero i = I32

abbrev pub is_comparison : IrBinary → Bool
is_comparison by.Add = false
is_comparison by.Sub = false
is_comparison by.Mul = false
is_comparison by.Div = false
is_comparison by.Rem = false
is_comparison by.And = false
is_comparison by.Or = false
is_comparison by.Xor = false
is_comparison by.Shl = false
is_comparison by.Shr = false
is_comparison by.Eq = true
is_comparison by.Ne = true
is_comparison by.Lt = true
is_comparison by.Le = true
is_comparison by.Gt = true
is_comparison by.Ge = true

abbrev pub result_type : IrBinary → IntTy → IntTy
result_type o i = if is_comparison o then I32 else i
