-- Conversions (C11, 6.3), all of which the typed trees write out.
use Rattle.std.specs.Prelude.{ℕ, ◌*◌, ◌%◌, ◌^◌, Bool, false, ◌&&◌, ◌||◌, ◌==◌, nat_lt, Option, Some, None, option_map, Result, Ok, Err, if◌then◌else◌}
use Rattle.hx_words.specs.TwosComplement.{signed_of, bits_of}
use Rattle.c_types.specs.declared.types.IntTy.{IntTy}
use Rattle.c_types.specs.declared.types.IntTy.TheVariants.{I32, U32, I64, U64}
use Rattle.c_types.specs.declared.types.Ty.{Ty}
use Rattle.c_types.specs.declared.types.Ty.TheVariants.{Void, Int, Ptr, Fun, Struct, Array}
use Rattle.c_types.specs.Layout.{bytes_of}
use Rattle.c_program.specs.declared.expressions.TypedExpr.{TypedExpr}
use Rattle.c_program.specs.declared.expressions.TypedExpr.TheVariants as typed
use Rattle.c_program.specs.declared.expressions.Place.{Place}
use Rattle.c_program.specs.declared.expressions.Target.{Target}
use Rattle.c_typing.specs.declared.faults.Fault.{Fault}
use Rattle.c_typing.specs.declared.faults.TypeKind.TheVariants.{NotValue, NotScalar}
use Rattle.c_typing.specs.declared.operands.Value.{Value}
use Rattle.c_typing.specs.declared.operands.Designated.{Designated}
use Rattle.c_typing.specs.declared.operands.Designated.TheVariants as designated
use Rattle.c_typing.specs.declared.operands.Operand.{Operand}
use Rattle.c_typing.specs.Visits.{fault}
use Rattle.c_typing.specs.TypeForms.{is_signed, same_int, same_type, is_void, is_array, is_struct, is_pointer, integer_in}

-- Integers

-- the integer promotions (6.3.1.1p2): int holds each value of a smaller type
abbrev pub promoted : IntTy → IntTy
promoted i = if nat_lt (bytes_of i) 4 then I32 else i

-- the usual arithmetic conversions (6.3.1.8) of promoted types: the higher rank, and of one rank the
-- unsigned type; long long holds each value of unsigned int
abbrev pub common : IntTy → IntTy → IntTy
common i j =
    if same_int i U64 || same_int j U64 then U64
    else (if same_int i I64 || same_int j I64 then I64
    else (if same_int i U32 || same_int j U32 then U32 else I32))

-- a conversion is written out where the types differ; one to the common type comes at once, and not by
-- way of int
unfoldable pub converted : (to from : IntTy) → TypedExpr → TypedExpr
converted to from e = if same_int to from then e else typed.Convert to e

-- a number in a type (6.3.1.3), in 64 bits of two's complement: the low bits of the type's width, which
-- a signed type reads as a signed number (this project's choice for 6.3.1.3p3)
abbrev pub number_in : IntTy → ℕ → ℕ
number_in i n =
    let bits = 8 * bytes_of i in
    if is_signed i then bits_of 64 (signed_of bits (n % 2 ^ bits)) else n % 2 ^ bits

-- Values (6.3.2.1)

abbrev pub as_read : ℕ → Ty → Place → Result Value Fault
as_read at ty p = if is_array ty then Err (fault NotValue at) else Ok (record { ty = ty; tree = typed.Load ty p; literal = None })

abbrev pub as_given : ℕ → Value → Result Value Fault
as_given at v = if is_void v.ty || is_array v.ty then Err (fault NotValue at) else Ok v

-- the name of a function is a pointer to it (6.3.2.1p4)
abbrev pub as_function : ℕ → Target → Value
as_function k f = record { ty = Fun k; tree = typed.Function (Fun k) f; literal = None }

abbrev pub value_at : ℕ → Designated → Result Value Fault
value_at at (designated.Value v) = as_given at v
value_at at (designated.Place ty p local) = as_read at ty p
value_at at (designated.Function k f) = Ok (as_function k f)
value_at at (designated.Service s) = Err (fault NotValue at)
value_at at designated.Typedef = Err (fault NotValue at)
value_at at designated.VaList = Err (fault NotValue at)

-- what an expression that is used as a value gives: a place is read (6.3.2.1p2). Nothing here makes a
-- pointer of an array
unfoldable pub as_value : Operand → Result Value Fault
as_value o = value_at o.at o.what

abbrev pub tree_of : Result Value Fault → Result TypedExpr Fault
tree_of (Ok v) = Ok v.tree
tree_of (Err e) = Err e

abbrev pub effect_of : Operand → Designated → Result TypedExpr Fault
effect_of o (designated.Value v) = if is_void v.ty then Ok v.tree else tree_of (as_value o)
effect_of o (designated.Place ty p local) = tree_of (as_value o)
effect_of o (designated.Function k f) = tree_of (as_value o)
effect_of o (designated.Service s) = tree_of (as_value o)
effect_of o designated.Typedef = tree_of (as_value o)
effect_of o designated.VaList = tree_of (as_value o)

-- an expression whose value is dropped, which may be void (6.8.3)
unfoldable pub as_effect : Operand → Result TypedExpr Fault
as_effect o = effect_of o o.what

-- a condition, or an operand of `!`, `&&` or `||` (6.5.3.3, 6.5.13, 6.8.4.1): an integer, or a pointer,
-- which is true where it isn't null. No conversion is made
unfoldable pub as_scalar : ℕ → Value → Result TypedExpr Fault
as_scalar at v = if is_struct v.ty then Err (fault NotScalar at) else Ok v.tree

abbrev pub is_zero : Option ℕ → Bool
is_zero None = false
is_zero (Some n) = n == 0

-- the literal 0, whatever its type, is a null pointer of any type (6.3.2.3p3)
abbrev pub is_null : Ty → Value → Bool
is_null ty v = is_pointer ty && is_zero v.literal

abbrev pub to_same : Ty → Value → Option TypedExpr
to_same ty v =
    if same_type ty v.ty then Some v.tree
    else (if is_null ty v then Some (typed.Null ty) else None)

abbrev pub to_integer : IntTy → Value → Option TypedExpr
to_integer i v = option_map (λ j. converted i j v.tree) (integer_in v.ty)

-- a value in a type, as if by assignment (6.5.16.1): integers convert to any integer type; any other
-- value has the type already or is the literal 0. Nothing where no conversion is allowed
unfoldable pub converted_to : Ty → Value → Option TypedExpr
converted_to Void v = to_same Void v
converted_to (Int i) v = to_integer i v
converted_to (Ptr k) v = to_same (Ptr k) v
converted_to (Fun k) v = to_same (Fun k) v
converted_to (Struct k) v = to_same (Struct k) v
converted_to (Array k n) v = to_same (Array k n) v

abbrev pub joined_integers : Value → Value → Option IntTy → Option IntTy → Option Ty
joined_integers l r (Some i) (Some j) = Some (Int (common i j))
joined_integers l r i j =
    if same_type l.ty r.ty then Some l.ty
    else (if is_null l.ty r then Some l.ty
    else (if is_null r.ty l then Some r.ty else None))

-- the type in which two values meet, as the sides of `?:` (6.5.15) and of `==` (6.5.9) do: the common
-- type of integers, the type of both, or the pointer's beside the literal 0
unfoldable pub joined : Value → Value → Option Ty
joined l r = joined_integers l r (integer_in l.ty) (integer_in r.ty)
