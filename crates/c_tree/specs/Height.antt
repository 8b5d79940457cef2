-- The nodes on the longest path from the root of a tree. These are nodes: the unit, and each item,
-- parameter, field, initial value of a global, statement, declaration of locals, declarator and
-- expression. An operator with its operands is one expression, and a parenthesised expression is one
-- more than what it holds. The initial value of a variable stands beside its declarator.
use Rattle.std.specs.Prelude.{ℕ, ◌+◌, max, min, List, [], ◌∷◌, map, Option, Some, None}
use Rattle.c_tree.specs.declared.expressions.Expr.{Expr, fold-Expr}
use Rattle.c_tree.specs.declared.expressions.Expr.TheOpen.{Expr-F}
use Rattle.c_tree.specs.declared.statements.LocalDecl.{LocalDecl}
use Rattle.c_tree.specs.declared.statements.Local.{Local}
use Rattle.c_tree.specs.declared.statements.Local.TheVariants as local
use Rattle.c_tree.specs.declared.statements.ForStart.{ForStart}
use Rattle.c_tree.specs.declared.statements.ForStart.TheVariants as start
use Rattle.c_tree.specs.declared.statements.BlockItem.{BlockItem}
use Rattle.c_tree.specs.declared.statements.Stmt.{Stmt}
use Rattle.c_tree.specs.declared.statements.BlockItem.TheOpen.{BlockItem-F, Stmt-F}
use Rattle.c_tree.specs.declared.statements.BlockItem.TheFolds.{fold-BlockItem, fold-Stmt}
use Rattle.c_tree.specs.declared.declarations.Init.{Init, fold-Init}
use Rattle.c_tree.specs.declared.declarations.Init.TheOpen.{Init-F}
use Rattle.c_tree.specs.declared.declarations.Field.{Field}
use Rattle.c_tree.specs.declared.declarations.Params.{Params}
use Rattle.c_tree.specs.declared.declarations.GlobalDecl.{GlobalDecl}
use Rattle.c_tree.specs.declared.declarations.Item.{Item}
use Rattle.c_tree.specs.declared.declarations.Item.TheVariants as item
use Rattle.c_tree.specs.declared.declarations.Unit.{Unit as Unit'}

-- the largest number, or 0
abbrev pub tallest : List ℕ → ℕ
tallest [] = 0
tallest (n ∷ ns) = max n (tallest ns)

abbrev pub height_in : Option ℕ → ℕ
height_in None = 0
height_in (Some n) = n

abbrev pub expr_height_at : Expr-F ℕ → ℕ
expr_height_at (Expr-F.Name n) = 1
expr_height_at (Expr-F.Number n) = 1
expr_height_at (Expr-F.Char c s) = 1
expr_height_at (Expr-F.Paren s e) = e + 1
expr_height_at (Expr-F.VaArg s n t) = 1
expr_height_at (Expr-F.Call f s args) = max f (tallest args) + 1
expr_height_at (Expr-F.Index a s i) = max a i + 1
expr_height_at (Expr-F.Select e k s n) = e + 1
expr_height_at (Expr-F.PostIncrement e s) = e + 1
expr_height_at (Expr-F.PostDecrement e s) = e + 1
expr_height_at (Expr-F.Unary op s e) = e + 1
expr_height_at (Expr-F.Cast s i t e) = e + 1
expr_height_at (Expr-F.SizeOf s t) = 1
expr_height_at (Expr-F.Binary op s l r) = max l r + 1
expr_height_at (Expr-F.Conditional c s l r) = max (max c l) r + 1
expr_height_at (Expr-F.Assign op s l r) = max l r + 1

unfoldable pub expr_height : Expr → ℕ
expr_height = fold-Expr ℕ expr_height_at

abbrev pub optional_height : Option Expr → ℕ
optional_height None = 0
optional_height (Some e) = expr_height e

-- a declarator, and its initial value beside it
abbrev pub local_decl_height : LocalDecl → ℕ
local_decl_height d = max 1 (optional_height d.init)

abbrev pub locals_height : List LocalDecl → ℕ
locals_height ds = tallest (map local_decl_height ds) + 1

abbrev pub local_height : Local → ℕ
local_height (local.Declared b ds) = locals_height ds
local_height (local.VaList s n) = 1

abbrev pub start_height : ForStart → ℕ
start_height (start.Local b ds) = locals_height ds
start_height (start.Effect e) = expr_height e
start_height start.Nothing = 0

abbrev pub item_height_at : BlockItem-F ℕ ℕ → ℕ
item_height_at (BlockItem-F.Local d) = local_height d
item_height_at (BlockItem-F.Stmt x) = x

abbrev pub stmt_height_at : Stmt-F ℕ ℕ → ℕ
stmt_height_at (Stmt-F.Block s xs) = tallest xs + 1
stmt_height_at (Stmt-F.Empty s) = 1
stmt_height_at (Stmt-F.Effect e) = expr_height e + 1
stmt_height_at (Stmt-F.Break s) = 1
stmt_height_at (Stmt-F.Continue s) = 1
stmt_height_at (Stmt-F.If s c x) = max (expr_height c) x + 1
stmt_height_at (Stmt-F.IfElse s c x y) = max (max (expr_height c) x) y + 1
stmt_height_at (Stmt-F.While s c x) = max (expr_height c) x + 1
stmt_height_at (Stmt-F.Do s x c) = max (expr_height c) x + 1
stmt_height_at (Stmt-F.For s a c b x) = max (max (start_height a) (max (optional_height c) (optional_height b))) x + 1
stmt_height_at (Stmt-F.Return s e) = optional_height e + 1
stmt_height_at (Stmt-F.VaStart s l n) = 1
stmt_height_at (Stmt-F.VaEnd s l) = 1

unfoldable pub block_item_height : BlockItem → ℕ
block_item_height = fold-BlockItem ℕ ℕ item_height_at stmt_height_at

unfoldable pub stmt_height : Stmt → ℕ
stmt_height = fold-Stmt ℕ ℕ item_height_at stmt_height_at

-- a block, which is a statement
abbrev pub block_height : List BlockItem → ℕ
block_height xs = tallest (map block_item_height xs) + 1

abbrev pub init_height_at : Init-F ℕ → ℕ
init_height_at (Init-F.Number m n) = 1
init_height_at (Init-F.Char c s) = 1
init_height_at (Init-F.Text t s) = 1
init_height_at (Init-F.Name a n ps) = 1
init_height_at (Init-F.List s xs) = tallest xs + 1

unfoldable pub init_height : Init → ℕ
init_height = fold-Init ℕ init_height_at

abbrev pub optional_init_height : Option Init → ℕ
optional_init_height None = 0
optional_init_height (Some i) = init_height i

abbrev pub global_decl_height : GlobalDecl → ℕ
global_decl_height d = max 1 (optional_init_height d.init)

-- one for each of a list's
abbrev pub ones : {A : Type 0} → List A → ℕ
ones [] = 0
ones (x ∷ xs) = 1

abbrev pub field_height : Field → ℕ
field_height f = ones f.decls + 1

abbrev pub params_height : Params → ℕ
params_height ps = ones ps.list

abbrev pub item_height : Item → ℕ
item_height (item.Typedef s h) = params_height h.params + 1
item_height (item.Struct s n fs) = tallest (map field_height fs) + 1
item_height (item.Extern s b d) = 2
item_height (item.Globals b ds) = tallest (map global_decl_height ds) + 1
item_height (item.Declare h) = params_height h.params + 1
item_height (item.Define h s xs) = max (params_height h.params) (block_height xs) + 1
item_height (item.Adjustor s a b p m n) = 1

abbrev pub unit_height : Unit' → ℕ
unit_height u = tallest (map item_height u.items) + 1

-- a height as a 64-bit number, which is the height itself wherever one holds it
abbrev pub small : ℕ → ℕ
small n = min n 18446744073709551615
