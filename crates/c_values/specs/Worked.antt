-- Arithmetic that is worked out by hand.
use Rattle.std.specs.Prelude.{◌≡◌, true, false, Some, None, pos, negsuc}
use Rattle.c_types.specs.declared.types.IntTy.TheVariants.{I8, U8, U16, I32, U32, I64, U64}
use Rattle.c_program.specs.declared.expressions.Arithmetic.TheVariants as op
use Rattle.c_values.specs.Numbers.{wrapped, arithmetic, negated, complemented, stepped}

-- `negsuc n` is -(n + 1)
pub record Numbers : Type 0 where
  pub low_byte : wrapped I8 (pos 255) ≡ negsuc 0
  pub unsigned_of : wrapped U16 (negsuc 0) ≡ pos 65535
  pub kept : wrapped I64 (negsuc 9223372036854775807) ≡ negsuc 9223372036854775807
  pub sum : arithmetic op.Add I32 (pos 2147483647) (pos 1) ≡ Some (negsuc 2147483647)
  pub difference : arithmetic op.Subtract U32 (pos 0) (pos 1) ≡ Some (pos 4294967295)
  pub product : arithmetic op.Multiply I32 (pos 65536) (pos 65536) ≡ Some (pos 0)
  pub quotient : arithmetic op.Divide I32 (negsuc 6) (pos 2) ≡ Some (negsuc 2)
  pub remainder : arithmetic op.Remainder I32 (negsuc 6) (pos 2) ≡ Some (negsuc 0)
  pub least_quotient : arithmetic op.Divide I32 (negsuc 2147483647) (negsuc 0) ≡ Some (negsuc 2147483647)
  pub least_remainder : arithmetic op.Remainder I32 (negsuc 2147483647) (negsuc 0) ≡ Some (pos 0)
  pub by_zero : arithmetic op.Remainder U64 (pos 5) (pos 0) ≡ None
  pub left_31 : arithmetic op.ShiftLeft I32 (pos 1) (negsuc 0) ≡ Some (negsuc 2147483647)
  pub left_63 : arithmetic op.ShiftLeft U64 (pos 1) (negsuc 0) ≡ Some (pos 9223372036854775808)
  pub right_1 : arithmetic op.ShiftRight I32 (negsuc 6) (pos 33) ≡ Some (negsuc 3)
  pub right_unsigned : arithmetic op.ShiftRight U32 (pos 4294967295) (pos 28) ≡ Some (pos 15)
  pub and : arithmetic op.BitAnd I32 (negsuc 0) (pos 12) ≡ Some (pos 12)
  pub or : arithmetic op.BitOr I32 (negsuc 7) (pos 3) ≡ Some (negsuc 4)
  pub xor : arithmetic op.BitXor U64 (pos 6) (pos 3) ≡ Some (pos 5)
  pub minus_least : negated I64 (negsuc 9223372036854775807) ≡ negsuc 9223372036854775807
  pub turned : complemented U32 (pos 0) ≡ pos 4294967295
  pub up : stepped I8 true (pos 127) ≡ negsuc 127
  pub down : stepped U8 false (pos 0) ≡ pos 255
