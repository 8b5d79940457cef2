-- The type of what an expression gives (C11, 6.5: each expression has a type, and 6.3: the conversions
-- are written out, so it is told by the node and, where a node passes a value on, by its operand).
use Rattle.c_types.specs.declared.types.IntTy.TheVariants.{I32}
use Rattle.c_types.specs.declared.types.Ty.{Ty}
use Rattle.c_types.specs.declared.types.Ty.TheVariants.{Void, Int}
use Rattle.c_program.specs.declared.expressions.Service.{Service}
use Rattle.c_program.specs.declared.expressions.Service.TheVariants.{PutByte, GetByte, Exit}
use Rattle.c_program.specs.declared.expressions.Place.TheOpen.{Place-F, TypedExpr-F}
use Rattle.c_program.specs.declared.expressions.TypedExpr.{TypedExpr}
use Rattle.c_program.specs.declared.expressions.Place.TheFolds.{fold-TypedExpr}

-- what a service gives (this project's own)
abbrev pub service_type : Service → Ty
service_type PutByte = Void
service_type GetByte = Int I32
service_type Exit = Void

-- a place's type stands with what uses the place
abbrev pub no_type_at : Place-F (Unit {0}) Ty → Unit {0}
no_type_at p = tt

abbrev pub type_at : TypedExpr-F (Unit {0}) Ty → Ty
type_at (TypedExpr-F.Number i n) = Int i
type_at (TypedExpr-F.Char c) = Int I32
type_at (TypedExpr-F.Null t) = t
type_at (TypedExpr-F.Function t f) = t
type_at (TypedExpr-F.Load t p) = t
type_at (TypedExpr-F.Address t p) = t
type_at (TypedExpr-F.Same e) = e
type_at (TypedExpr-F.Negate i e) = Int i
type_at (TypedExpr-F.Complement i e) = Int i
type_at (TypedExpr-F.Not e) = Int I32
type_at (TypedExpr-F.Convert i e) = Int i
type_at (TypedExpr-F.Binary op i l r) = Int i
type_at (TypedExpr-F.Compare op t l r) = Int I32
type_at (TypedExpr-F.And l r) = Int I32
type_at (TypedExpr-F.Or l r) = Int I32
type_at (TypedExpr-F.Conditional t c l r) = t
type_at (TypedExpr-F.Assign t p e) = t
type_at (TypedExpr-F.Update op i j p e) = Int i
type_at (TypedExpr-F.Before i up p) = Int i
type_at (TypedExpr-F.After i up p) = Int i
type_at (TypedExpr-F.Call t f args) = t
type_at (TypedExpr-F.CallPointer t k f args) = t
type_at (TypedExpr-F.CallService s args) = service_type s
type_at (TypedExpr-F.VaArg i) = Int i
type_at (TypedExpr-F.FieldOf t e s f) = t
type_at (TypedExpr-F.ElementOf t a i n) = t

unfoldable pub value_type : TypedExpr → Ty
value_type = fold-TypedExpr (Unit {0}) Ty no_type_at type_at
