-- What the operations of A64 compute, on numbers below 2^64 (Arm ARM, C6.2 and the shared pseudocode, J1.3).
use Rattle.std.specs.Prelude.{ℕ, ℤ, ◌+◌, ◌-◌, ◌*◌, ◌/◌, ◌%◌, ◌^◌, Bool, true, false, not, ◌&&◌, ◌||◌, ◌==◌, nat_lt, nat_le, if◌then◌else◌}
use Rattle.hx_words.specs.TwosComplement.{bits_of}
use Rattle.reg_map.specs.declared.registers.AFlags.{AFlags}
use Rattle.a64_exec.specs.declared.values.FlaggedSum.{FlaggedSum}
use Rattle.a64_isa.specs.declared.instruction.Condition.{Condition}
use Rattle.a64_isa.specs.declared.instruction.Condition.TheVariants.{Equal, NotEqual, CarrySet, CarryClear, Minus, Plus, Overflow, NoOverflow, Higher, LowerOrSame, GreaterOrEqual, Less, Greater, LessOrEqual}

-- the low 64 bits
abbrev pub wrapped : ℕ → ℕ
wrapped n = n % 2 ^ 64

-- NOT
abbrev pub complement : ℕ → ℕ
complement x = 2 ^ 64 - 1 - x

-- a number that is added, as 64 bits in two's complement
abbrev pub moved : ℕ → ℤ → ℕ → ℕ
moved place offset unit = wrapped (place + wrapped (bits_of 64 offset * unit))

-- the sign, bit 63
abbrev pub is_minus : ℕ → Bool
is_minus x = nat_le (2 ^ 63) x

abbrev pub same : Bool → Bool → Bool
same true b = b
same false b = not b

-- AddWithCarry: N and Z of the sum's low bits, C where these are not the whole sum, and V where they are not the
-- whole signed sum, which is where both operands have one sign and the low bits have the other
abbrev pub flags_of : ℕ → ℕ → ℕ → Bool → AFlags
flags_of x y low carry = record {
  n = is_minus low;
  z = low == 0;
  c = carry;
  v = same (is_minus x) (is_minus y) && not (same (is_minus x) (is_minus low));
}

abbrev pub add_with_carry : ℕ → ℕ → ℕ → FlaggedSum
add_with_carry x y carry = record {
  value = wrapped (x + y + carry);
  flags = flags_of x y (wrapped (x + y + carry)) (nat_le (2 ^ 64) (x + y + carry));
}

-- ADD and SUB; the flag forms
abbrev pub sum_of : ℕ → ℕ → ℕ
sum_of x y = wrapped (x + y)

abbrev pub difference_of : ℕ → ℕ → ℕ
difference_of x y = wrapped (x + (2 ^ 64 - y))

abbrev pub adds_of : ℕ → ℕ → FlaggedSum
adds_of x y = add_with_carry x y 0

abbrev pub subs_of : ℕ → ℕ → FlaggedSum
subs_of x y = add_with_carry x (complement y) 1

-- imm, or imm shifted left by 12
abbrev pub immediate_of : ℕ → Bool → ℕ
immediate_of imm shift12 = if shift12 then imm * 2 ^ 12 else imm

-- UDIV and SDIV: a zero divisor gives 0, and the least number by -1 wraps
abbrev pub quotient_of : ℕ → ℕ → ℕ
quotient_of x y = if y == 0 then 0 else x / y

-- the number that 64 bits stand for, without its sign
abbrev pub magnitude : ℕ → ℕ
magnitude x = if is_minus x then difference_of 0 x else x

abbrev pub signed_quotient_of : ℕ → ℕ → ℕ
signed_quotient_of x y =
    if same (is_minus x) (is_minus y) then quotient_of (magnitude x) (magnitude y)
    else difference_of 0 (quotient_of (magnitude x) (magnitude y))

-- LSLV, LSRV and ASRV: counts are taken modulo 64, and ASRV fills with the sign
abbrev pub shifted_left : ℕ → ℕ → ℕ
shifted_left x count = wrapped (x * 2 ^ count)

abbrev pub shifted_right : ℕ → ℕ → ℕ
shifted_right x count = x / 2 ^ count

abbrev pub shifted_right_signed : ℕ → ℕ → ℕ
shifted_right_signed x count =
    if is_minus x then complement (complement x / 2 ^ count) else x / 2 ^ count

-- MADD and MSUB
abbrev pub product_added : ℕ → ℕ → ℕ → ℕ
product_added a n m = sum_of a (wrapped (n * m))

abbrev pub product_subtracted : ℕ → ℕ → ℕ → ℕ
product_subtracted a n m = difference_of a (wrapped (n * m))

-- MOVZ, MOVK and MOVN: a quarter of 16 bits
abbrev pub quarter_of : ℕ → ℕ → ℕ
quarter_of imm hw = imm * 2 ^ (16 * hw)

abbrev pub with_quarter : ℕ → ℕ → ℕ → ℕ
with_quarter x imm hw =
    x / 2 ^ (16 * hw + 16) * 2 ^ (16 * hw + 16) + quarter_of imm hw + x % 2 ^ (16 * hw)

-- The part of UBFM and SBFM: bits 0 to imms moved to the top, and down again by 63 - imms + immr places,
-- modulo 64. So bits immr to imms come to the bottom where immr is at most imms, and else bits 0 to imms come to
-- bit 64 - immr; above and below them stands zero, or for SBFM their sign above.
abbrev pub field_top : ℕ → ℕ → ℕ
field_top x imms = shifted_left x (63 - imms)

abbrev pub field_down : ℕ → ℕ → ℕ
field_down imms immr = (63 - imms + immr) % 64

abbrev pub bitfield_of : ℕ → ℕ → ℕ → ℕ
bitfield_of x imms immr = shifted_right (field_top x imms) (field_down imms immr)

abbrev pub signed_bitfield_of : ℕ → ℕ → ℕ → ℕ
signed_bitfield_of x imms immr = shifted_right_signed (field_top x imms) (field_down imms immr)

-- ConditionHolds
abbrev pub holds : Condition → AFlags → Bool
holds Equal f = f.z
holds NotEqual f = not f.z
holds CarrySet f = f.c
holds CarryClear f = not f.c
holds Minus f = f.n
holds Plus f = not f.n
holds Overflow f = f.v
holds NoOverflow f = not f.v
holds Higher f = f.c && not f.z
holds LowerOrSame f = not (f.c && not f.z)
holds GreaterOrEqual f = same f.n f.v
holds Less f = not (same f.n f.v)
holds Greater f = same f.n f.v && not f.z
holds LessOrEqual f = not (same f.n f.v && not f.z)
