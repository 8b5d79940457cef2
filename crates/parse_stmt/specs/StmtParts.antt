-- Trees of statements that are given up once they are too high. A part is a tree with its height, or
-- no longer there.
use Rattle.std.specs.Prelude.{ℕ, ◌+◌, max, cond, List, [], ◌∷◌, ◌++◌, map, Option, Some, None, nat_lt, nat_le}
use Rattle.c_types.specs.declared.types.Span.{Span}
use Rattle.c_tree.specs.declared.expressions.Name.{Name}
use Rattle.c_tree.specs.declared.expressions.Base.{Base}
use Rattle.c_tree.specs.declared.expressions.Expr.{Expr}
use Rattle.c_tree.specs.declared.declarations.Decl.{Decl}
use Rattle.c_tree.specs.declared.statements.LocalDecl.{LocalDecl}
use Rattle.c_tree.specs.declared.statements.Local.TheVariants as local
use Rattle.c_tree.specs.declared.statements.ForStart.{ForStart}
use Rattle.c_tree.specs.declared.statements.ForStart.TheVariants as start
use Rattle.c_tree.specs.declared.statements.BlockItem.{BlockItem}
use Rattle.c_tree.specs.declared.statements.BlockItem.TheVariants as block_item
use Rattle.c_tree.specs.declared.statements.Stmt.{Stmt}
use Rattle.c_tree.specs.declared.statements.Stmt.TheVariants as stmt
use Rattle.c_tree.specs.Height.{tallest, local_decl_height, block_item_height}
use Rattle.parse_expr.specs.declared.parts.Part.{Part}
use Rattle.parse_expr.specs.declared.parts.Part.TheVariants as part
use Rattle.parse_stmt.specs.declared.parts.Capped.{Capped}
use Rattle.parse_stmt.specs.declared.parts.Capped.TheVariants.{Built, Deep}
use Rattle.parse_stmt.specs.declared.parts.ForHead.{ForHead}
use Rattle.parse_stmt.specs.StmtGrammar.{local_decl}

abbrev pub ExprPart : Type 0
ExprPart = Capped Expr

abbrev pub OptionPart : Type 0
OptionPart = Capped (Option Expr)

abbrev pub DeclsPart : Type 0
DeclsPart = Capped (List LocalDecl)

abbrev pub StmtPart : Type 0
StmtPart = Capped Stmt

-- what a function's body or a block holds
abbrev pub Body : Type 0
Body = Capped (List BlockItem)

-- a tree of the height h that is no higher than n
abbrev pub capped : {A : Type 0} → ℕ → A → ℕ → Capped A
capped n x h = cond (nat_le h n) (Built x h) Deep

abbrev pub decls_height : List LocalDecl → ℕ
decls_height ds = tallest (map local_decl_height ds)

abbrev pub items_height : List BlockItem → ℕ
items_height xs = tallest (map block_item_height xs)

-- what a body is read as
abbrev pub cap_body : ℕ → List BlockItem → Body
cap_body n xs = capped n xs (items_height xs)

-- ---- what is done with parts

abbrev pub mapped : {A B : Type 0} → (A → B) → Capped A → Capped B
mapped f (Built x h) = Built (f x) h
mapped f Deep = Deep

-- two trees side by side
abbrev pub merged : {A B C : Type 0} → (A → B → C) → Capped A → Capped B → Capped C
merged f (Built x h) (Built y k) = Built (f x y) (max h k)
merged f (Built x h) Deep = Deep
merged f Deep q = Deep

-- one node above
abbrev pub raised : {A : Type 0} → ℕ → Capped A → Capped A
raised n (Built x h) = cond (nat_lt h n) (Built x (h + 1)) Deep
raised n Deep = Deep

-- one node beside
abbrev pub at_least_one : {A : Type 0} → Capped A → Capped A
at_least_one (Built x h) = Built x (max 1 h)
at_least_one Deep = Deep

-- one node without parts
abbrev pub leaf_part : {A : Type 0} → A → Capped A
leaf_part x = Built x 1

abbrev pub of_part : Part → ExprPart
of_part (part.Built e h) = Built e h
of_part (part.Deep b) = Deep

abbrev pub no_items : Body
no_items = Built [] 0

abbrev pub no_decls : DeclsPart
no_decls = Built [] 0

abbrev pub no_part : OptionPart
no_part = Built None 0

unfoldable pub some_part : ExprPart → OptionPart
some_part = mapped Some

unfoldable pub with_decl : DeclsPart → Decl → OptionPart → DeclsPart
with_decl ds d i = merged (λ xs x. xs ++ local_decl d x ∷ []) ds (at_least_one i)

unfoldable pub with_stmt : Body → StmtPart → Body
with_stmt = merged (λ xs x. xs ++ block_item.Stmt x ∷ [])

unfoldable pub with_locals : ℕ → Base → DeclsPart → Body → Body
with_locals n b ds xs = merged (λ ys y. ys ++ block_item.Local (local.Declared b y) ∷ []) xs (raised n ds)

unfoldable pub with_va_list : Span → Name → Body → Body
with_va_list s x xs = merged (λ ys y. ys ++ y ∷ []) xs (leaf_part (block_item.Local (local.VaList s x)))

unfoldable pub start_locals : ℕ → Base → DeclsPart → Capped ForStart
start_locals n b ds = raised n (mapped (start.Local b) ds)

abbrev pub start_of : Option Expr → ForStart
start_of None = start.Nothing
start_of (Some e) = start.Effect e

unfoldable pub start_part : OptionPart → Capped ForStart
start_part = mapped start_of

abbrev pub pair_of : Option Expr → Option Expr → Option Expr × Option Expr
pair_of c e = (c, e)

abbrev pub head_of : ForStart → Option Expr × Option Expr → ForHead
head_of i p = record { start = i; test = p.0; step = p.1 }

unfoldable pub for_head : Capped ForStart → OptionPart → OptionPart → Capped ForHead
for_head i c e = merged head_of i (merged pair_of c e)

unfoldable pub block_part : ℕ → Span → Body → StmtPart
block_part n s xs = raised n (mapped (stmt.Block s) xs)

unfoldable pub effect_part : ℕ → ExprPart → StmtPart
effect_part n e = raised n (mapped stmt.Effect e)

unfoldable pub return_part : ℕ → Span → OptionPart → StmtPart
return_part n s e = raised n (mapped (stmt.Return s) e)

unfoldable pub if_part : ℕ → Span → ExprPart → StmtPart → StmtPart
if_part n s c x = raised n (merged (stmt.If s) c x)

unfoldable pub if_else_part : ℕ → Span → ExprPart → StmtPart → StmtPart → StmtPart
if_else_part n s c x y = raised n (merged (λ f z. f z) (merged (stmt.IfElse s) c x) y)

unfoldable pub while_part : ℕ → Span → ExprPart → StmtPart → StmtPart
while_part n s c x = raised n (merged (stmt.While s) c x)

unfoldable pub do_part : ℕ → Span → StmtPart → ExprPart → StmtPart
do_part n s x c = raised n (merged (λ y z. stmt.Do s z y) c x)

unfoldable pub for_part : ℕ → Span → Capped ForHead → StmtPart → StmtPart
for_part n s h x = raised n (merged (λ y z. stmt.For s y.start y.test y.step z) h x)
