-- The bytes that a call of a function keeps (this project's own): the sizes of its parameters, of its
-- other locals, of its result and of each struct that a part of its body gives as a value, and 8 for
-- each extra argument of the call of the program with the most of them where the function is
-- variadic. A `va_list` is a local of 0 bytes and stands in no list.
use Rattle.std.specs.Prelude.{ℕ, ◌+◌, ◌-◌, ◌*◌, cond, sum, sum_by, List, length, Option, Some, None, slice_get}
use Rattle.c_types.specs.declared.types.Ty.{Ty}
use Rattle.c_types.specs.declared.types.Ty.TheVariants.{Void, Int, Ptr, Fun, Struct, Array}
use Rattle.c_types.specs.declared.types.FunTy.{FunTy}
use Rattle.c_types.specs.declared.types.Types.{Types}
use Rattle.c_types.specs.Layout.{size_of}
use Rattle.c_program.specs.declared.expressions.Place.TheOpen.{Place-F, TypedExpr-F}
use Rattle.c_program.specs.declared.expressions.Place.{Place}
use Rattle.c_program.specs.declared.expressions.TypedExpr.{TypedExpr}
use Rattle.c_program.specs.declared.expressions.Place.TheFolds.{fold-Place, fold-TypedExpr}
use Rattle.c_program.specs.declared.statements.Declared.{Declared}
use Rattle.c_program.specs.declared.statements.ForBegin.{ForBegin}
use Rattle.c_program.specs.declared.statements.ForBegin.TheVariants as begin
use Rattle.c_program.specs.declared.statements.TypedItem.{TypedItem}
use Rattle.c_program.specs.declared.statements.TypedItem.TheOpen.{TypedItem-F, TypedStmt-F}
use Rattle.c_program.specs.declared.statements.TypedItem.TheFolds.{fold-TypedItem, fold-TypedStmt}
use Rattle.c_program.specs.declared.statements.TypedStmt.{TypedStmt}
use Rattle.c_program.specs.declared.program.FunctionBody.{FunctionBody}
use Rattle.c_program.specs.declared.program.FunDef.{FunDef}
use Rattle.c_program.specs.declared.program.AdjustDef.{AdjustDef}
use Rattle.c_program.specs.declared.program.Program.{Program}

-- the size of a struct; no other value counts
abbrev pub struct_bytes : Types → Ty → ℕ
struct_bytes t Void = 0
struct_bytes t (Int i) = 0
struct_bytes t (Ptr k) = 0
struct_bytes t (Fun k) = 0
struct_bytes t (Struct k) = size_of t (Struct k)
struct_bytes t (Array k n) = 0

abbrev pub place_bytes_at : Place-F ℕ ℕ → ℕ
place_bytes_at (Place-F.Local k) = 0
place_bytes_at (Place-F.Global k) = 0
place_bytes_at (Place-F.Target ty e) = e
place_bytes_at (Place-F.Arrow e s f) = e
place_bytes_at (Place-F.Field p s f) = p
place_bytes_at (Place-F.Element ty p i n) = p + i

abbrev pub expr_bytes_at : Types → TypedExpr-F ℕ ℕ → ℕ
expr_bytes_at t (TypedExpr-F.Number i n) = 0
expr_bytes_at t (TypedExpr-F.Char c) = 0
expr_bytes_at t (TypedExpr-F.Null ty) = 0
expr_bytes_at t (TypedExpr-F.Function ty f) = 0
expr_bytes_at t (TypedExpr-F.Load ty p) = p + struct_bytes t ty
expr_bytes_at t (TypedExpr-F.Address ty p) = p
expr_bytes_at t (TypedExpr-F.Same e) = e
expr_bytes_at t (TypedExpr-F.Negate i e) = e
expr_bytes_at t (TypedExpr-F.Complement i e) = e
expr_bytes_at t (TypedExpr-F.Not e) = e
expr_bytes_at t (TypedExpr-F.Convert i e) = e
expr_bytes_at t (TypedExpr-F.Binary op i l r) = l + r
expr_bytes_at t (TypedExpr-F.Compare op ty l r) = l + r
expr_bytes_at t (TypedExpr-F.And l r) = l + r
expr_bytes_at t (TypedExpr-F.Or l r) = l + r
expr_bytes_at t (TypedExpr-F.Conditional ty c l r) = c + l + r + struct_bytes t ty
expr_bytes_at t (TypedExpr-F.Assign ty p e) = p + e + struct_bytes t ty
expr_bytes_at t (TypedExpr-F.Update op i j p e) = p + e
expr_bytes_at t (TypedExpr-F.Before i up p) = p
expr_bytes_at t (TypedExpr-F.After i up p) = p
expr_bytes_at t (TypedExpr-F.Call ty f args) = sum args + struct_bytes t ty
expr_bytes_at t (TypedExpr-F.CallPointer ty k f args) = f + sum args + struct_bytes t ty
expr_bytes_at t (TypedExpr-F.CallService s args) = sum args
expr_bytes_at t (TypedExpr-F.VaArg i) = 0
expr_bytes_at t (TypedExpr-F.FieldOf ty e s f) = e + struct_bytes t ty
expr_bytes_at t (TypedExpr-F.ElementOf ty a i n) = a + i + struct_bytes t ty

unfoldable pub place_bytes : Types → Place → ℕ
place_bytes t = fold-Place ℕ ℕ place_bytes_at (expr_bytes_at t)

unfoldable pub expr_bytes : Types → TypedExpr → ℕ
expr_bytes t = fold-TypedExpr ℕ ℕ place_bytes_at (expr_bytes_at t)

abbrev pub optional_bytes : Types → Option TypedExpr → ℕ
optional_bytes t None = 0
optional_bytes t (Some e) = expr_bytes t e

abbrev pub declared_bytes : Types → Declared → ℕ
declared_bytes t d = optional_bytes t d.init

abbrev pub begin_bytes : Types → ForBegin → ℕ
begin_bytes t (begin.Locals ds) = sum_by (declared_bytes t) ds
begin_bytes t (begin.Effect e) = expr_bytes t e
begin_bytes t begin.Nothing = 0

abbrev pub item_bytes_at : Types → TypedItem-F ℕ ℕ → ℕ
item_bytes_at t (TypedItem-F.Declare d) = declared_bytes t d
item_bytes_at t TypedItem-F.VaList = 0
item_bytes_at t (TypedItem-F.Stmt x) = x

abbrev pub stmt_bytes_at : Types → TypedStmt-F ℕ ℕ → ℕ
stmt_bytes_at t (TypedStmt-F.Block xs) = sum xs
stmt_bytes_at t TypedStmt-F.Empty = 0
stmt_bytes_at t (TypedStmt-F.Effect e) = expr_bytes t e
stmt_bytes_at t TypedStmt-F.Break = 0
stmt_bytes_at t TypedStmt-F.Continue = 0
stmt_bytes_at t (TypedStmt-F.If c x) = expr_bytes t c + x
stmt_bytes_at t (TypedStmt-F.IfElse c x y) = expr_bytes t c + x + y
stmt_bytes_at t (TypedStmt-F.While c x) = expr_bytes t c + x
stmt_bytes_at t (TypedStmt-F.Do x c) = x + expr_bytes t c
stmt_bytes_at t (TypedStmt-F.For a c b x) = begin_bytes t a + optional_bytes t c + optional_bytes t b + x
stmt_bytes_at t (TypedStmt-F.Return e) = optional_bytes t e
stmt_bytes_at t TypedStmt-F.VaStart = 0
stmt_bytes_at t TypedStmt-F.VaEnd = 0

unfoldable pub item_bytes : Types → TypedItem → ℕ
item_bytes t = fold-TypedItem ℕ ℕ (item_bytes_at t) (stmt_bytes_at t)

unfoldable pub stmt_bytes : Types → TypedStmt → ℕ
stmt_bytes t = fold-TypedStmt ℕ ℕ (item_bytes_at t) (stmt_bytes_at t)

-- the structs that a block gives as values
abbrev pub block_bytes : Types → List TypedItem → ℕ
block_bytes t xs = sum_by (item_bytes t) xs

-- variables of these types
abbrev pub variable_bytes : Types → List Ty → ℕ
variable_bytes t tys = sum_by (size_of t) tys

-- what a body keeps: its locals, which are the parameters first, and the structs that it gives as
-- values; without a body the parameters alone
abbrev pub body_bytes : Types → List Ty → Option FunctionBody → ℕ
body_bytes t params None = variable_bytes t params
body_bytes t params (Some b) = variable_bytes t b.locals + block_bytes t b.block

-- of a type that `extras` arguments can follow
abbrev pub extra_bytes : FunTy → ℕ → ℕ
extra_bytes f extras = cond f.variadic (8 * extras) 0

-- of a function of this type and with this body, or of an adjustor, which has none
abbrev pub typed_bytes : Types → ℕ → Option FunctionBody → Option FunTy → ℕ
typed_bytes t extras body None = 0
typed_bytes t extras body (Some f) = size_of t f.result + body_bytes t f.params body + extra_bytes f extras

abbrev pub adjustor_bytes : Program → Option AdjustDef → ℕ
adjustor_bytes p None = 0
adjustor_bytes p (Some a) = typed_bytes p.types p.extras None (slice_get p.types.funs a.ty)

abbrev pub function_bytes : Program → FunDef → ℕ
function_bytes p f = typed_bytes p.types p.extras f.body (slice_get p.types.funs f.ty)

abbrev pub bytes_at : Program → ℕ → Option FunDef → ℕ
bytes_at p k None = adjustor_bytes p (slice_get p.adjustors (k - length p.functions))
bytes_at p k (Some f) = function_bytes p f

-- of the function or adjustor at this place of the two lists, functions first; 0 where there is none
abbrev pub frame_bytes_of : Program → ℕ → ℕ
frame_bytes_of p k = bytes_at p k (slice_get p.functions k)
