-- The height of each form, from the heights of its parts.
use Rattle.std.proofs.Common.{◌≡◌, ℕ, ◌+◌, max, List, map, Option, sym, ap, ◌∙◌}
use Rattle.std.specs.Prelude.{ℤ}
use Rattle.c_types.specs.declared.types.Span.{Span}
use Rattle.c_types.specs.declared.types.IntTy.{IntTy}
use Rattle.c_tree.specs.declared.operators.UnaryOp.{UnaryOp}
use Rattle.c_tree.specs.declared.operators.BinaryOp.{BinaryOp}
use Rattle.c_tree.specs.declared.operators.AssignOp.{AssignOp}
use Rattle.c_tree.specs.declared.operators.Selector.{Selector}
use Rattle.c_tree.specs.declared.expressions.Name.{Name}
use Rattle.c_tree.specs.declared.expressions.Literal.{Literal}
use Rattle.c_tree.specs.declared.expressions.TypeName.{TypeName}
use Rattle.c_tree.specs.declared.expressions.Expr.{Expr, fold-Expr, fold-roll-Expr}
use Rattle.c_tree.specs.declared.expressions.Expr.TheOpen.{Expr-F}
use Rattle.c_tree.specs.declared.expressions.Expr.TheVariants as expr
use Rattle.c_tree.specs.declared.expressions.Expr.TheVariants.{rolls-Name as rolls-Expr-Name, rolls-Number as rolls-Expr-Number, rolls-Char as rolls-Expr-Char, rolls-Paren as rolls-Expr-Paren, rolls-VaArg as rolls-Expr-VaArg, rolls-Call as rolls-Expr-Call, rolls-Index as rolls-Expr-Index, rolls-Select as rolls-Expr-Select, rolls-PostIncrement as rolls-Expr-PostIncrement, rolls-PostDecrement as rolls-Expr-PostDecrement, rolls-Unary as rolls-Expr-Unary, rolls-Cast as rolls-Expr-Cast, rolls-SizeOf as rolls-Expr-SizeOf, rolls-Binary as rolls-Expr-Binary, rolls-Conditional as rolls-Expr-Conditional, rolls-Assign as rolls-Expr-Assign}
use Rattle.c_tree.specs.declared.statements.Local.{Local}
use Rattle.c_tree.specs.declared.statements.ForStart.{ForStart}
use Rattle.c_tree.specs.declared.statements.BlockItem.{BlockItem}
use Rattle.c_tree.specs.declared.statements.Stmt.{Stmt}
use Rattle.c_tree.specs.declared.statements.BlockItem.TheOpen.{BlockItem-F, Stmt-F}
use Rattle.c_tree.specs.declared.statements.BlockItem.TheFolds.{fold-BlockItem, fold-Stmt, fold-roll-BlockItem, fold-roll-Stmt}
use Rattle.c_tree.specs.declared.statements.BlockItem.TheVariants as block_item
use Rattle.c_tree.specs.declared.statements.BlockItem.TheVariants.{rolls-Local as rolls-BlockItem-Local, rolls-Stmt as rolls-BlockItem-Stmt}
use Rattle.c_tree.specs.declared.statements.Stmt.TheVariants as stmt
use Rattle.c_tree.specs.declared.statements.Stmt.TheVariants.{rolls-Block as rolls-Stmt-Block, rolls-Empty as rolls-Stmt-Empty, rolls-Effect as rolls-Stmt-Effect, rolls-Break as rolls-Stmt-Break, rolls-Continue as rolls-Stmt-Continue, rolls-If as rolls-Stmt-If, rolls-IfElse as rolls-Stmt-IfElse, rolls-While as rolls-Stmt-While, rolls-Do as rolls-Stmt-Do, rolls-For as rolls-Stmt-For, rolls-Return as rolls-Stmt-Return, rolls-VaStart as rolls-Stmt-VaStart, rolls-VaEnd as rolls-Stmt-VaEnd}
use Rattle.c_tree.specs.declared.declarations.Step.{Step}
use Rattle.c_tree.specs.declared.declarations.Init.{Init, fold-Init, fold-roll-Init}
use Rattle.c_tree.specs.declared.declarations.Init.TheOpen.{Init-F}
use Rattle.c_tree.specs.declared.declarations.Init.TheVariants as init
use Rattle.c_tree.specs.declared.declarations.Init.TheVariants.{rolls-Number as rolls-Init-Number, rolls-Char as rolls-Init-Char, rolls-Text as rolls-Init-Text, rolls-Name as rolls-Init-Name, rolls-List as rolls-Init-List}
use Rattle.c_tree.specs.Height.{tallest, expr_height_at, expr_height, optional_height, local_height, start_height, item_height_at, stmt_height_at, block_item_height, stmt_height, block_height, init_height_at, init_height}

pub expr_height-Name : (n : Name) → expr_height (expr.Name n) ≡ 1
unfolding expr_height
expr_height-Name n = ap (fold-Expr ℕ expr_height_at) (sym (rolls-Expr-Name n)) ∙ fold-roll-Expr ℕ expr_height_at (Expr-F.Name n)

pub expr_height-Number : (n : Literal) → expr_height (expr.Number n) ≡ 1
unfolding expr_height
expr_height-Number n = ap (fold-Expr ℕ expr_height_at) (sym (rolls-Expr-Number n)) ∙ fold-roll-Expr ℕ expr_height_at (Expr-F.Number n)

pub expr_height-Char : (c : ℤ) (s : Span) → expr_height (expr.Char c s) ≡ 1
unfolding expr_height
expr_height-Char c s = ap (fold-Expr ℕ expr_height_at) (sym (rolls-Expr-Char c s)) ∙ fold-roll-Expr ℕ expr_height_at (Expr-F.Char c s)

pub expr_height-Paren : (s : Span) (e : Expr) → expr_height (expr.Paren s e) ≡ expr_height e + 1
unfolding expr_height
expr_height-Paren s e = ap (fold-Expr ℕ expr_height_at) (sym (rolls-Expr-Paren s e)) ∙ fold-roll-Expr ℕ expr_height_at (Expr-F.Paren s e)

pub expr_height-VaArg : (s : Span) (n : Name) (t : TypeName) → expr_height (expr.VaArg s n t) ≡ 1
unfolding expr_height
expr_height-VaArg s n t = ap (fold-Expr ℕ expr_height_at) (sym (rolls-Expr-VaArg s n t)) ∙ fold-roll-Expr ℕ expr_height_at (Expr-F.VaArg s n t)

pub expr_height-Call : (f : Expr) (s : Span) (args : List Expr) → expr_height (expr.Call f s args) ≡ max (expr_height f) (tallest (map expr_height args)) + 1
unfolding expr_height
expr_height-Call f s args = ap (fold-Expr ℕ expr_height_at) (sym (rolls-Expr-Call f s args)) ∙ fold-roll-Expr ℕ expr_height_at (Expr-F.Call f s args)

pub expr_height-Index : (a : Expr) (s : Span) (i : Expr) → expr_height (expr.Index a s i) ≡ max (expr_height a) (expr_height i) + 1
unfolding expr_height
expr_height-Index a s i = ap (fold-Expr ℕ expr_height_at) (sym (rolls-Expr-Index a s i)) ∙ fold-roll-Expr ℕ expr_height_at (Expr-F.Index a s i)

pub expr_height-Select : (e : Expr) (k : Selector) (s : Span) (n : Name) → expr_height (expr.Select e k s n) ≡ expr_height e + 1
unfolding expr_height
expr_height-Select e k s n = ap (fold-Expr ℕ expr_height_at) (sym (rolls-Expr-Select e k s n)) ∙ fold-roll-Expr ℕ expr_height_at (Expr-F.Select e k s n)

pub expr_height-PostIncrement : (e : Expr) (s : Span) → expr_height (expr.PostIncrement e s) ≡ expr_height e + 1
unfolding expr_height
expr_height-PostIncrement e s = ap (fold-Expr ℕ expr_height_at) (sym (rolls-Expr-PostIncrement e s)) ∙ fold-roll-Expr ℕ expr_height_at (Expr-F.PostIncrement e s)

pub expr_height-PostDecrement : (e : Expr) (s : Span) → expr_height (expr.PostDecrement e s) ≡ expr_height e + 1
unfolding expr_height
expr_height-PostDecrement e s = ap (fold-Expr ℕ expr_height_at) (sym (rolls-Expr-PostDecrement e s)) ∙ fold-roll-Expr ℕ expr_height_at (Expr-F.PostDecrement e s)

pub expr_height-Unary : (op : UnaryOp) (s : Span) (e : Expr) → expr_height (expr.Unary op s e) ≡ expr_height e + 1
unfolding expr_height
expr_height-Unary op s e = ap (fold-Expr ℕ expr_height_at) (sym (rolls-Expr-Unary op s e)) ∙ fold-roll-Expr ℕ expr_height_at (Expr-F.Unary op s e)

pub expr_height-Cast : (s : Span) (i : IntTy) (t : Span) (e : Expr) → expr_height (expr.Cast s i t e) ≡ expr_height e + 1
unfolding expr_height
expr_height-Cast s i t e = ap (fold-Expr ℕ expr_height_at) (sym (rolls-Expr-Cast s i t e)) ∙ fold-roll-Expr ℕ expr_height_at (Expr-F.Cast s i t e)

pub expr_height-SizeOf : (s : Span) (t : TypeName) → expr_height (expr.SizeOf s t) ≡ 1
unfolding expr_height
expr_height-SizeOf s t = ap (fold-Expr ℕ expr_height_at) (sym (rolls-Expr-SizeOf s t)) ∙ fold-roll-Expr ℕ expr_height_at (Expr-F.SizeOf s t)

pub expr_height-Binary : (op : BinaryOp) (s : Span) (l : Expr) (r : Expr) → expr_height (expr.Binary op s l r) ≡ max (expr_height l) (expr_height r) + 1
unfolding expr_height
expr_height-Binary op s l r = ap (fold-Expr ℕ expr_height_at) (sym (rolls-Expr-Binary op s l r)) ∙ fold-roll-Expr ℕ expr_height_at (Expr-F.Binary op s l r)

pub expr_height-Conditional : (c : Expr) (s : Span) (l : Expr) (r : Expr) → expr_height (expr.Conditional c s l r) ≡ max (max (expr_height c) (expr_height l)) (expr_height r) + 1
unfolding expr_height
expr_height-Conditional c s l r = ap (fold-Expr ℕ expr_height_at) (sym (rolls-Expr-Conditional c s l r)) ∙ fold-roll-Expr ℕ expr_height_at (Expr-F.Conditional c s l r)

pub expr_height-Assign : (op : AssignOp) (s : Span) (l : Expr) (r : Expr) → expr_height (expr.Assign op s l r) ≡ max (expr_height l) (expr_height r) + 1
unfolding expr_height
expr_height-Assign op s l r = ap (fold-Expr ℕ expr_height_at) (sym (rolls-Expr-Assign op s l r)) ∙ fold-roll-Expr ℕ expr_height_at (Expr-F.Assign op s l r)

pub block_item_height-Local : (d : Local) → block_item_height (block_item.Local d) ≡ local_height d
unfolding block_item_height stmt_height
block_item_height-Local d = ap (fold-BlockItem ℕ ℕ item_height_at stmt_height_at) (sym (rolls-BlockItem-Local d)) ∙ fold-roll-BlockItem ℕ ℕ item_height_at stmt_height_at (BlockItem-F.Local d)

pub block_item_height-Stmt : (x : Stmt) → block_item_height (block_item.Stmt x) ≡ stmt_height x
unfolding block_item_height stmt_height
block_item_height-Stmt x = ap (fold-BlockItem ℕ ℕ item_height_at stmt_height_at) (sym (rolls-BlockItem-Stmt x)) ∙ fold-roll-BlockItem ℕ ℕ item_height_at stmt_height_at (BlockItem-F.Stmt x)

pub stmt_height-Block : (s : Span) (xs : List BlockItem) → stmt_height (stmt.Block s xs) ≡ block_height xs
unfolding block_item_height stmt_height
stmt_height-Block s xs = ap (fold-Stmt ℕ ℕ item_height_at stmt_height_at) (sym (rolls-Stmt-Block s xs)) ∙ fold-roll-Stmt ℕ ℕ item_height_at stmt_height_at (Stmt-F.Block s xs)

pub stmt_height-Empty : (s : Span) → stmt_height (stmt.Empty s) ≡ 1
unfolding block_item_height stmt_height
stmt_height-Empty s = ap (fold-Stmt ℕ ℕ item_height_at stmt_height_at) (sym (rolls-Stmt-Empty s)) ∙ fold-roll-Stmt ℕ ℕ item_height_at stmt_height_at (Stmt-F.Empty s)

pub stmt_height-Effect : (e : Expr) → stmt_height (stmt.Effect e) ≡ expr_height e + 1
unfolding block_item_height stmt_height
stmt_height-Effect e = ap (fold-Stmt ℕ ℕ item_height_at stmt_height_at) (sym (rolls-Stmt-Effect e)) ∙ fold-roll-Stmt ℕ ℕ item_height_at stmt_height_at (Stmt-F.Effect e)

pub stmt_height-Break : (s : Span) → stmt_height (stmt.Break s) ≡ 1
unfolding block_item_height stmt_height
stmt_height-Break s = ap (fold-Stmt ℕ ℕ item_height_at stmt_height_at) (sym (rolls-Stmt-Break s)) ∙ fold-roll-Stmt ℕ ℕ item_height_at stmt_height_at (Stmt-F.Break s)

pub stmt_height-Continue : (s : Span) → stmt_height (stmt.Continue s) ≡ 1
unfolding block_item_height stmt_height
stmt_height-Continue s = ap (fold-Stmt ℕ ℕ item_height_at stmt_height_at) (sym (rolls-Stmt-Continue s)) ∙ fold-roll-Stmt ℕ ℕ item_height_at stmt_height_at (Stmt-F.Continue s)

pub stmt_height-If : (s : Span) (c : Expr) (x : Stmt) → stmt_height (stmt.If s c x) ≡ max (expr_height c) (stmt_height x) + 1
unfolding block_item_height stmt_height
stmt_height-If s c x = ap (fold-Stmt ℕ ℕ item_height_at stmt_height_at) (sym (rolls-Stmt-If s c x)) ∙ fold-roll-Stmt ℕ ℕ item_height_at stmt_height_at (Stmt-F.If s c x)

pub stmt_height-IfElse : (s : Span) (c : Expr) (x : Stmt) (y : Stmt) → stmt_height (stmt.IfElse s c x y) ≡ max (max (expr_height c) (stmt_height x)) (stmt_height y) + 1
unfolding block_item_height stmt_height
stmt_height-IfElse s c x y = ap (fold-Stmt ℕ ℕ item_height_at stmt_height_at) (sym (rolls-Stmt-IfElse s c x y)) ∙ fold-roll-Stmt ℕ ℕ item_height_at stmt_height_at (Stmt-F.IfElse s c x y)

pub stmt_height-While : (s : Span) (c : Expr) (x : Stmt) → stmt_height (stmt.While s c x) ≡ max (expr_height c) (stmt_height x) + 1
unfolding block_item_height stmt_height
stmt_height-While s c x = ap (fold-Stmt ℕ ℕ item_height_at stmt_height_at) (sym (rolls-Stmt-While s c x)) ∙ fold-roll-Stmt ℕ ℕ item_height_at stmt_height_at (Stmt-F.While s c x)

pub stmt_height-Do : (s : Span) (x : Stmt) (c : Expr) → stmt_height (stmt.Do s x c) ≡ max (expr_height c) (stmt_height x) + 1
unfolding block_item_height stmt_height
stmt_height-Do s x c = ap (fold-Stmt ℕ ℕ item_height_at stmt_height_at) (sym (rolls-Stmt-Do s x c)) ∙ fold-roll-Stmt ℕ ℕ item_height_at stmt_height_at (Stmt-F.Do s x c)

pub stmt_height-For : (s : Span) (a : ForStart) (c : Option Expr) (b : Option Expr) (x : Stmt) → stmt_height (stmt.For s a c b x) ≡ max (max (start_height a) (max (optional_height c) (optional_height b))) (stmt_height x) + 1
unfolding block_item_height stmt_height
stmt_height-For s a c b x = ap (fold-Stmt ℕ ℕ item_height_at stmt_height_at) (sym (rolls-Stmt-For s a c b x)) ∙ fold-roll-Stmt ℕ ℕ item_height_at stmt_height_at (Stmt-F.For s a c b x)

pub stmt_height-Return : (s : Span) (e : Option Expr) → stmt_height (stmt.Return s e) ≡ optional_height e + 1
unfolding block_item_height stmt_height
stmt_height-Return s e = ap (fold-Stmt ℕ ℕ item_height_at stmt_height_at) (sym (rolls-Stmt-Return s e)) ∙ fold-roll-Stmt ℕ ℕ item_height_at stmt_height_at (Stmt-F.Return s e)

pub stmt_height-VaStart : (s : Span) (l : Name) (n : Name) → stmt_height (stmt.VaStart s l n) ≡ 1
unfolding block_item_height stmt_height
stmt_height-VaStart s l n = ap (fold-Stmt ℕ ℕ item_height_at stmt_height_at) (sym (rolls-Stmt-VaStart s l n)) ∙ fold-roll-Stmt ℕ ℕ item_height_at stmt_height_at (Stmt-F.VaStart s l n)

pub stmt_height-VaEnd : (s : Span) (l : Name) → stmt_height (stmt.VaEnd s l) ≡ 1
unfolding block_item_height stmt_height
stmt_height-VaEnd s l = ap (fold-Stmt ℕ ℕ item_height_at stmt_height_at) (sym (rolls-Stmt-VaEnd s l)) ∙ fold-roll-Stmt ℕ ℕ item_height_at stmt_height_at (Stmt-F.VaEnd s l)

pub init_height-Number : (m : Option Span) (n : Literal) → init_height (init.Number m n) ≡ 1
unfolding init_height
init_height-Number m n = ap (fold-Init ℕ init_height_at) (sym (rolls-Init-Number m n)) ∙ fold-roll-Init ℕ init_height_at (Init-F.Number m n)

pub init_height-Char : (c : ℤ) (s : Span) → init_height (init.Char c s) ≡ 1
unfolding init_height
init_height-Char c s = ap (fold-Init ℕ init_height_at) (sym (rolls-Init-Char c s)) ∙ fold-roll-Init ℕ init_height_at (Init-F.Char c s)

pub init_height-Text : (t : List ℕ) (s : Span) → init_height (init.Text t s) ≡ 1
unfolding init_height
init_height-Text t s = ap (fold-Init ℕ init_height_at) (sym (rolls-Init-Text t s)) ∙ fold-roll-Init ℕ init_height_at (Init-F.Text t s)

pub init_height-Name : (a : Option Span) (n : Name) (ps : List Step) → init_height (init.Name a n ps) ≡ 1
unfolding init_height
init_height-Name a n ps = ap (fold-Init ℕ init_height_at) (sym (rolls-Init-Name a n ps)) ∙ fold-roll-Init ℕ init_height_at (Init-F.Name a n ps)

pub init_height-List : (s : Span) (xs : List Init) → init_height (init.List s xs) ≡ tallest (map init_height xs) + 1
unfolding init_height
init_height-List s xs = ap (fold-Init ℕ init_height_at) (sym (rolls-Init-List s xs)) ∙ fold-roll-Init ℕ init_height_at (Init-F.List s xs)

pub ruleset expr_heights = (expr_height-Name, expr_height-Number, expr_height-Char, expr_height-Paren, expr_height-VaArg, expr_height-Call, expr_height-Index, expr_height-Select, expr_height-PostIncrement, expr_height-PostDecrement, expr_height-Unary, expr_height-Cast, expr_height-SizeOf, expr_height-Binary, expr_height-Conditional, expr_height-Assign)

pub ruleset stmt_heights = (stmt_height-Block, stmt_height-Empty, stmt_height-Effect, stmt_height-Break, stmt_height-Continue, stmt_height-If, stmt_height-IfElse, stmt_height-While, stmt_height-Do, stmt_height-For, stmt_height-Return, stmt_height-VaStart, stmt_height-VaEnd)

pub ruleset block_item_heights = (block_item_height-Local, block_item_height-Stmt)

pub ruleset init_heights = (init_height-Number, init_height-Char, init_height-Text, init_height-Name, init_height-List)
