-- The nodes of a checked program, by which its size and its cost are counted (this project's own):
-- each item, parameter, statement (a block too), declarator, expression and inserted conversion is
-- one. A read of a place is none beside the place, and the name in a call is none beside the call. A
-- compound assignment, `++` or `--` is one with its inner conversions.
use Rattle.std.specs.Prelude.{ℕ, ◌+◌, min, sum, sum_by, List, length, Option, Some, None, slice_get}
use Rattle.c_types.specs.declared.types.FunTy.{FunTy}
use Rattle.c_program.specs.declared.expressions.Place.TheOpen.{Place-F, TypedExpr-F}
use Rattle.c_program.specs.declared.expressions.Place.{Place}
use Rattle.c_program.specs.declared.expressions.TypedExpr.{TypedExpr}
use Rattle.c_program.specs.declared.expressions.Place.TheFolds.{fold-Place, fold-TypedExpr}
use Rattle.c_program.specs.declared.statements.Declared.{Declared}
use Rattle.c_program.specs.declared.statements.ForBegin.{ForBegin}
use Rattle.c_program.specs.declared.statements.ForBegin.TheVariants as begin
use Rattle.c_program.specs.declared.statements.TypedItem.{TypedItem}
use Rattle.c_program.specs.declared.statements.TypedItem.TheOpen.{TypedItem-F, TypedStmt-F}
use Rattle.c_program.specs.declared.statements.TypedItem.TheFolds.{fold-TypedItem, fold-TypedStmt}
use Rattle.c_program.specs.declared.statements.TypedStmt.{TypedStmt}
use Rattle.c_program.specs.declared.program.FunctionBody.{FunctionBody}
use Rattle.c_program.specs.declared.program.FunDef.{FunDef}
use Rattle.c_program.specs.declared.program.Program.{Program}

abbrev pub place_nodes_at : Place-F ℕ ℕ → ℕ
place_nodes_at (Place-F.Local k) = 1
place_nodes_at (Place-F.Global k) = 1
place_nodes_at (Place-F.Target t e) = e + 1
place_nodes_at (Place-F.Arrow e s f) = e + 1
place_nodes_at (Place-F.Field p s f) = p + 1
place_nodes_at (Place-F.Element t p i n) = p + i + 1

abbrev pub expr_nodes_at : TypedExpr-F ℕ ℕ → ℕ
expr_nodes_at (TypedExpr-F.Number i n) = 1
expr_nodes_at (TypedExpr-F.Char c) = 1
expr_nodes_at (TypedExpr-F.Null t) = 1
expr_nodes_at (TypedExpr-F.Function t f) = 1
expr_nodes_at (TypedExpr-F.Load t p) = p
expr_nodes_at (TypedExpr-F.Address t p) = p + 1
expr_nodes_at (TypedExpr-F.Same e) = e + 1
expr_nodes_at (TypedExpr-F.Negate i e) = e + 1
expr_nodes_at (TypedExpr-F.Complement i e) = e + 1
expr_nodes_at (TypedExpr-F.Not e) = e + 1
expr_nodes_at (TypedExpr-F.Convert i e) = e + 1
expr_nodes_at (TypedExpr-F.Binary op i l r) = l + r + 1
expr_nodes_at (TypedExpr-F.Compare op t l r) = l + r + 1
expr_nodes_at (TypedExpr-F.And l r) = l + r + 1
expr_nodes_at (TypedExpr-F.Or l r) = l + r + 1
expr_nodes_at (TypedExpr-F.Conditional t c l r) = c + l + r + 1
expr_nodes_at (TypedExpr-F.Assign t p e) = p + e + 1
expr_nodes_at (TypedExpr-F.Update op i j p e) = p + e + 1
expr_nodes_at (TypedExpr-F.Before i up p) = p + 1
expr_nodes_at (TypedExpr-F.After i up p) = p + 1
expr_nodes_at (TypedExpr-F.Call t f args) = sum args + 1
expr_nodes_at (TypedExpr-F.CallPointer t k f args) = f + sum args + 1
expr_nodes_at (TypedExpr-F.CallService s args) = sum args + 1
expr_nodes_at (TypedExpr-F.VaArg i) = 1
expr_nodes_at (TypedExpr-F.FieldOf t e s f) = e + 1
expr_nodes_at (TypedExpr-F.ElementOf t a i n) = a + i + 1

unfoldable pub place_nodes : Place → ℕ
place_nodes = fold-Place ℕ ℕ place_nodes_at expr_nodes_at

unfoldable pub expr_nodes : TypedExpr → ℕ
expr_nodes = fold-TypedExpr ℕ ℕ place_nodes_at expr_nodes_at

abbrev pub optional_nodes : Option TypedExpr → ℕ
optional_nodes None = 0
optional_nodes (Some e) = expr_nodes e

-- a declarator and its initial value
abbrev pub declared_nodes : Declared → ℕ
declared_nodes d = optional_nodes d.init + 1

abbrev pub begin_nodes : ForBegin → ℕ
begin_nodes (begin.Locals ds) = sum_by declared_nodes ds
begin_nodes (begin.Effect e) = expr_nodes e
begin_nodes begin.Nothing = 0

abbrev pub item_nodes_at : TypedItem-F ℕ ℕ → ℕ
item_nodes_at (TypedItem-F.Declare d) = declared_nodes d
item_nodes_at TypedItem-F.VaList = 1
item_nodes_at (TypedItem-F.Stmt x) = x

abbrev pub stmt_nodes_at : TypedStmt-F ℕ ℕ → ℕ
stmt_nodes_at (TypedStmt-F.Block xs) = sum xs + 1
stmt_nodes_at TypedStmt-F.Empty = 1
stmt_nodes_at (TypedStmt-F.Effect e) = expr_nodes e + 1
stmt_nodes_at TypedStmt-F.Break = 1
stmt_nodes_at TypedStmt-F.Continue = 1
stmt_nodes_at (TypedStmt-F.If c x) = expr_nodes c + x + 1
stmt_nodes_at (TypedStmt-F.IfElse c x y) = expr_nodes c + x + y + 1
stmt_nodes_at (TypedStmt-F.While c x) = expr_nodes c + x + 1
stmt_nodes_at (TypedStmt-F.Do x c) = x + expr_nodes c + 1
stmt_nodes_at (TypedStmt-F.For a c b x) = begin_nodes a + optional_nodes c + optional_nodes b + x + 1
stmt_nodes_at (TypedStmt-F.Return e) = optional_nodes e + 1
stmt_nodes_at TypedStmt-F.VaStart = 1
stmt_nodes_at TypedStmt-F.VaEnd = 1

unfoldable pub item_nodes : TypedItem → ℕ
item_nodes = fold-TypedItem ℕ ℕ item_nodes_at stmt_nodes_at

unfoldable pub stmt_nodes : TypedStmt → ℕ
stmt_nodes = fold-TypedStmt ℕ ℕ item_nodes_at stmt_nodes_at

-- a block, which is a statement
abbrev pub block_nodes : List TypedItem → ℕ
block_nodes xs = sum_by item_nodes xs + 1

abbrev pub parameters_in : Option FunTy → ℕ
parameters_in None = 0
parameters_in (Some t) = length t.params

-- the item, the parameters and the block of a definition with this type; none without a body
abbrev pub body_nodes : List FunTy → ℕ → Option FunctionBody → ℕ
body_nodes funs ty None = 0
body_nodes funs ty (Some b) = 1 + parameters_in (slice_get funs ty) + block_nodes b.block

abbrev pub function_nodes : List FunTy → FunDef → ℕ
function_nodes funs f = body_nodes funs f.ty f.body

-- the nodes of all that the units hold; an adjustor is one
abbrev pub program_nodes : Program → ℕ
program_nodes p = p.other_nodes + sum_by (function_nodes p.types.funs) p.functions + length p.adjustors

-- a count as a 64-bit number, which is the count itself wherever one holds it
abbrev pub small : ℕ → ℕ
small n = min n 18446744073709551615
