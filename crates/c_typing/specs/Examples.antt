-- Small programs as trees written by hand, each with what stands in its text above it; spans count
-- bytes from 0.
use Rattle.std.specs.Prelude.{ℕ, ◌+◌, false, List, [], ◌∷◌, Some, None, codes}
use Rattle.c_types.specs.declared.types.Span.{Span}
use Rattle.c_types.specs.declared.types.IntTy.TheVariants.{I32}
use Rattle.c_types.specs.declared.types.Ty.TheVariants.{Int}
use Rattle.c_tree.specs.declared.operators.UnaryOp.TheVariants as prefix
use Rattle.c_tree.specs.declared.expressions.Name.{Name}
use Rattle.c_tree.specs.declared.expressions.Base.{Base}
use Rattle.c_tree.specs.declared.expressions.Base.TheVariants as base
use Rattle.c_tree.specs.declared.expressions.Expr.{Expr}
use Rattle.c_tree.specs.declared.expressions.Expr.TheVariants as expr
use Rattle.c_tree.specs.declared.statements.LocalDecl.{LocalDecl}
use Rattle.c_tree.specs.declared.statements.Local.TheVariants as local
use Rattle.c_tree.specs.declared.statements.BlockItem.{BlockItem}
use Rattle.c_tree.specs.declared.statements.BlockItem.TheVariants as block_item
use Rattle.c_tree.specs.declared.statements.Stmt.TheVariants as stmt
use Rattle.c_tree.specs.declared.declarations.FunctionHead.{FunctionHead}
use Rattle.c_tree.specs.declared.declarations.Item.TheVariants as item
use Rattle.c_tree.specs.declared.declarations.Unit.{Unit as Unit'}
use Rattle.c_program.specs.declared.expressions.TypedExpr.TheVariants as typed
use Rattle.c_program.specs.declared.statements.TypedItem.TheVariants as typed_item
use Rattle.c_program.specs.declared.statements.TypedStmt.TheVariants as typed_stmt
use Rattle.c_program.specs.declared.program.Program.{Program}
use Rattle.c_typing.specs.Heads.{function_type}

abbrev pub from_to : ℕ → ℕ → Span
from_to a b = record { start = a; end = b }

abbrev pub name_at : List ℕ → ℕ → ℕ → Name
name_at text a b = record { text = text; span = from_to a b }

abbrev pub int_at : ℕ → Base
int_at a = base.Int I32 (from_to a (a + 3))

abbrev pub number : ℕ → ℕ → Expr
number n a = expr.Number (record { value = n; ty = I32; span = from_to a (a + 1) })

abbrev pub return_of : ℕ → Expr → BlockItem
return_of a e = block_item.Stmt (stmt.Return (from_to a (a + 6)) (Some e))

-- `int NAME(void)`
abbrev pub plain_head : ℕ → Name → FunctionHead
plain_head a n = record { result = record { base = int_at a; stars = [] }; name = n; params = record { list = []; ellipsis = None } }

-- no bytes
abbrev pub empty_unit : Unit'
empty_unit = record { items = [] }

-- `int main(void){return 0;}`
abbrev pub least_unit : Unit'
least_unit = record { items = item.Define (plain_head 0 (name_at (codes "main") 4 8)) (from_to 14 15) (return_of 15 (number 0 22) ∷ []) ∷ [] }

-- what it is: one function, of the one type, without locals
abbrev pub least_program : Program
least_program = record {
  types = record { tys = []; structs = []; funs = function_type (Int I32) [] false ∷ [] };
  globals = [];
  functions = (record { name = codes "main"; ty = 0; body = Some (record { unit = 0; number = 0; locals = []; block = typed_item.Stmt (typed_stmt.Return (Some (typed.Number I32 0))) ∷ [] }) }) ∷ [];
  adjustors = [];
  other_nodes = 0;
  extras = 0;
}

-- `int a;`
abbrev pub plain_local : LocalDecl
plain_local = record { decl = record { stars = []; name = name_at (codes "a") 19 20; lengths = [] }; init = None }

-- `int*p=&a;`
abbrev pub pointing_local : LocalDecl
pointing_local = record { decl = record { stars = from_to 24 25 ∷ []; name = name_at (codes "p") 25 26; lengths = [] }; init = Some (expr.Unary prefix.Address (from_to 27 28) (expr.Name (name_at (codes "a") 28 29))) }

-- `int main(void){int a;int*p=&a;return 0;}`
abbrev pub address_unit : Unit'
address_unit = record {
  items = item.Define (plain_head 0 (name_at (codes "main") 4 8)) (from_to 14 15) (
      block_item.Local (local.Declared (int_at 15) (plain_local ∷ []))
      ∷ block_item.Local (local.Declared (int_at 21) (pointing_local ∷ []))
      ∷ return_of 30 (number 0 37) ∷ []) ∷ [];
}

-- `int f(int n,...)`
abbrev pub variadic_head : FunctionHead
variadic_head = record { result = record { base = int_at 0; stars = [] }; name = name_at (codes "f") 4 5; params = record { list = (record { base = int_at 6; stars = []; name = Some (name_at (codes "n") 10 11) }) ∷ []; ellipsis = Some (from_to 12 15) } }

-- `int f(int n,...){return n;}int main(void){return f(2,1);}`
abbrev pub count_unit : Unit'
count_unit = record {
  items =
      item.Define variadic_head (from_to 16 17) (return_of 17 (expr.Name (name_at (codes "n") 24 25)) ∷ [])
      ∷ item.Define (plain_head 27 (name_at (codes "main") 31 35)) (from_to 41 42) (return_of 42 (expr.Call (expr.Name (name_at (codes "f") 49 50)) (from_to 50 51) (number 2 51 ∷ number 1 53 ∷ [])) ∷ []) ∷ [];
}
