-- The nodes of each form, from those of its parts.
use Rattle.std.proofs.Common.{◌≡◌, ℕ, ◌+◌, sum_by, Bool, List, Option, sym, ap, ◌∙◌}
use Rattle.std.specs.Prelude.{ℤ}
use Rattle.std.proofs.lemmas.List.Sums.{sum-map}
use Rattle.c_types.specs.declared.types.IntTy.{IntTy}
use Rattle.c_types.specs.declared.types.Ty.{Ty}
use Rattle.c_program.specs.declared.expressions.Service.{Service}
use Rattle.c_program.specs.declared.expressions.Target.{Target}
use Rattle.c_program.specs.declared.expressions.Arithmetic.{Arithmetic}
use Rattle.c_program.specs.declared.expressions.Comparison.{Comparison}
use Rattle.c_program.specs.declared.expressions.Place.{Place}
use Rattle.c_program.specs.declared.expressions.TypedExpr.{TypedExpr}
use Rattle.c_program.specs.declared.expressions.Place.TheOpen.{Place-F, TypedExpr-F}
use Rattle.c_program.specs.declared.expressions.Place.TheFolds.{fold-Place, fold-TypedExpr, fold-roll-Place, fold-roll-TypedExpr}
use Rattle.c_program.specs.declared.statements.Declared.{Declared}
use Rattle.c_program.specs.declared.statements.ForBegin.{ForBegin}
use Rattle.c_program.specs.declared.statements.TypedItem.{TypedItem}
use Rattle.c_program.specs.declared.statements.TypedStmt.{TypedStmt}
use Rattle.c_program.specs.declared.statements.TypedItem.TheOpen.{TypedItem-F, TypedStmt-F}
use Rattle.c_program.specs.declared.statements.TypedItem.TheFolds.{fold-TypedItem, fold-TypedStmt, fold-roll-TypedItem, fold-roll-TypedStmt}
use Rattle.c_program.specs.declared.expressions.Place.TheVariants as place
use Rattle.c_program.specs.declared.expressions.Place.TheVariants.{rolls-Local as rolls-Place-Local, rolls-Global as rolls-Place-Global, rolls-Target as rolls-Place-Target, rolls-Arrow as rolls-Place-Arrow, rolls-Field as rolls-Place-Field, rolls-Element as rolls-Place-Element}
use Rattle.c_program.specs.declared.expressions.TypedExpr.TheVariants as expr
use Rattle.c_program.specs.declared.expressions.TypedExpr.TheVariants.{rolls-Number as rolls-TypedExpr-Number, rolls-Char as rolls-TypedExpr-Char, rolls-Null as rolls-TypedExpr-Null, rolls-Function as rolls-TypedExpr-Function, rolls-Load as rolls-TypedExpr-Load, rolls-Address as rolls-TypedExpr-Address, rolls-Same as rolls-TypedExpr-Same, rolls-Negate as rolls-TypedExpr-Negate, rolls-Complement as rolls-TypedExpr-Complement, rolls-Not as rolls-TypedExpr-Not, rolls-Convert as rolls-TypedExpr-Convert, rolls-Binary as rolls-TypedExpr-Binary, rolls-Compare as rolls-TypedExpr-Compare, rolls-And as rolls-TypedExpr-And, rolls-Or as rolls-TypedExpr-Or, rolls-Conditional as rolls-TypedExpr-Conditional, rolls-Assign as rolls-TypedExpr-Assign, rolls-Update as rolls-TypedExpr-Update, rolls-Before as rolls-TypedExpr-Before, rolls-After as rolls-TypedExpr-After, rolls-Call as rolls-TypedExpr-Call, rolls-CallPointer as rolls-TypedExpr-CallPointer, rolls-CallService as rolls-TypedExpr-CallService, rolls-VaArg as rolls-TypedExpr-VaArg, rolls-FieldOf as rolls-TypedExpr-FieldOf, rolls-ElementOf as rolls-TypedExpr-ElementOf}
use Rattle.c_program.specs.declared.statements.TypedItem.TheVariants as item
use Rattle.c_program.specs.declared.statements.TypedItem.TheVariants.{rolls-Declare as rolls-TypedItem-Declare, rolls-VaList as rolls-TypedItem-VaList, rolls-Stmt as rolls-TypedItem-Stmt}
use Rattle.c_program.specs.declared.statements.TypedStmt.TheVariants as stmt
use Rattle.c_program.specs.declared.statements.TypedStmt.TheVariants.{rolls-Block as rolls-TypedStmt-Block, rolls-Empty as rolls-TypedStmt-Empty, rolls-Effect as rolls-TypedStmt-Effect, rolls-Break as rolls-TypedStmt-Break, rolls-Continue as rolls-TypedStmt-Continue, rolls-If as rolls-TypedStmt-If, rolls-IfElse as rolls-TypedStmt-IfElse, rolls-While as rolls-TypedStmt-While, rolls-Do as rolls-TypedStmt-Do, rolls-For as rolls-TypedStmt-For, rolls-Return as rolls-TypedStmt-Return, rolls-VaStart as rolls-TypedStmt-VaStart, rolls-VaEnd as rolls-TypedStmt-VaEnd}
use Rattle.c_program.specs.Nodes.{place_nodes_at, expr_nodes_at, place_nodes, expr_nodes, optional_nodes, declared_nodes, begin_nodes, item_nodes_at, stmt_nodes_at, item_nodes, stmt_nodes}

pub place_nodes-Local : (k : ℕ) → place_nodes (place.Local k) ≡ 1
unfolding place_nodes expr_nodes
place_nodes-Local k = ap (fold-Place ℕ ℕ place_nodes_at expr_nodes_at) (sym (rolls-Place-Local k)) ∙ fold-roll-Place ℕ ℕ place_nodes_at expr_nodes_at (Place-F.Local k)

pub place_nodes-Global : (k : ℕ) → place_nodes (place.Global k) ≡ 1
unfolding place_nodes expr_nodes
place_nodes-Global k = ap (fold-Place ℕ ℕ place_nodes_at expr_nodes_at) (sym (rolls-Place-Global k)) ∙ fold-roll-Place ℕ ℕ place_nodes_at expr_nodes_at (Place-F.Global k)

pub place_nodes-Target : (t : Ty) (e : TypedExpr) → place_nodes (place.Target t e) ≡ expr_nodes e + 1
unfolding place_nodes expr_nodes
place_nodes-Target t e = ap (fold-Place ℕ ℕ place_nodes_at expr_nodes_at) (sym (rolls-Place-Target t e)) ∙ fold-roll-Place ℕ ℕ place_nodes_at expr_nodes_at (Place-F.Target t e)

pub place_nodes-Arrow : (e : TypedExpr) (s : ℕ) (f : ℕ) → place_nodes (place.Arrow e s f) ≡ expr_nodes e + 1
unfolding place_nodes expr_nodes
place_nodes-Arrow e s f = ap (fold-Place ℕ ℕ place_nodes_at expr_nodes_at) (sym (rolls-Place-Arrow e s f)) ∙ fold-roll-Place ℕ ℕ place_nodes_at expr_nodes_at (Place-F.Arrow e s f)

pub place_nodes-Field : (p : Place) (s : ℕ) (f : ℕ) → place_nodes (place.Field p s f) ≡ place_nodes p + 1
unfolding place_nodes expr_nodes
place_nodes-Field p s f = ap (fold-Place ℕ ℕ place_nodes_at expr_nodes_at) (sym (rolls-Place-Field p s f)) ∙ fold-roll-Place ℕ ℕ place_nodes_at expr_nodes_at (Place-F.Field p s f)

pub place_nodes-Element : (t : Ty) (p : Place) (i : TypedExpr) (n : ℕ) → place_nodes (place.Element t p i n) ≡ place_nodes p + expr_nodes i + 1
unfolding place_nodes expr_nodes
place_nodes-Element t p i n = ap (fold-Place ℕ ℕ place_nodes_at expr_nodes_at) (sym (rolls-Place-Element t p i n)) ∙ fold-roll-Place ℕ ℕ place_nodes_at expr_nodes_at (Place-F.Element t p i n)

pub expr_nodes-Number : (i : IntTy) (n : ℕ) → expr_nodes (expr.Number i n) ≡ 1
unfolding place_nodes expr_nodes
expr_nodes-Number i n = ap (fold-TypedExpr ℕ ℕ place_nodes_at expr_nodes_at) (sym (rolls-TypedExpr-Number i n)) ∙ fold-roll-TypedExpr ℕ ℕ place_nodes_at expr_nodes_at (TypedExpr-F.Number i n)

pub expr_nodes-Char : (c : ℤ) → expr_nodes (expr.Char c) ≡ 1
unfolding place_nodes expr_nodes
expr_nodes-Char c = ap (fold-TypedExpr ℕ ℕ place_nodes_at expr_nodes_at) (sym (rolls-TypedExpr-Char c)) ∙ fold-roll-TypedExpr ℕ ℕ place_nodes_at expr_nodes_at (TypedExpr-F.Char c)

pub expr_nodes-Null : (t : Ty) → expr_nodes (expr.Null t) ≡ 1
unfolding place_nodes expr_nodes
expr_nodes-Null t = ap (fold-TypedExpr ℕ ℕ place_nodes_at expr_nodes_at) (sym (rolls-TypedExpr-Null t)) ∙ fold-roll-TypedExpr ℕ ℕ place_nodes_at expr_nodes_at (TypedExpr-F.Null t)

pub expr_nodes-Function : (t : Ty) (f : Target) → expr_nodes (expr.Function t f) ≡ 1
unfolding place_nodes expr_nodes
expr_nodes-Function t f = ap (fold-TypedExpr ℕ ℕ place_nodes_at expr_nodes_at) (sym (rolls-TypedExpr-Function t f)) ∙ fold-roll-TypedExpr ℕ ℕ place_nodes_at expr_nodes_at (TypedExpr-F.Function t f)

pub expr_nodes-Load : (t : Ty) (p : Place) → expr_nodes (expr.Load t p) ≡ place_nodes p
unfolding place_nodes expr_nodes
expr_nodes-Load t p = ap (fold-TypedExpr ℕ ℕ place_nodes_at expr_nodes_at) (sym (rolls-TypedExpr-Load t p)) ∙ fold-roll-TypedExpr ℕ ℕ place_nodes_at expr_nodes_at (TypedExpr-F.Load t p)

pub expr_nodes-Address : (t : Ty) (p : Place) → expr_nodes (expr.Address t p) ≡ place_nodes p + 1
unfolding place_nodes expr_nodes
expr_nodes-Address t p = ap (fold-TypedExpr ℕ ℕ place_nodes_at expr_nodes_at) (sym (rolls-TypedExpr-Address t p)) ∙ fold-roll-TypedExpr ℕ ℕ place_nodes_at expr_nodes_at (TypedExpr-F.Address t p)

pub expr_nodes-Same : (e : TypedExpr) → expr_nodes (expr.Same e) ≡ expr_nodes e + 1
unfolding place_nodes expr_nodes
expr_nodes-Same e = ap (fold-TypedExpr ℕ ℕ place_nodes_at expr_nodes_at) (sym (rolls-TypedExpr-Same e)) ∙ fold-roll-TypedExpr ℕ ℕ place_nodes_at expr_nodes_at (TypedExpr-F.Same e)

pub expr_nodes-Negate : (i : IntTy) (e : TypedExpr) → expr_nodes (expr.Negate i e) ≡ expr_nodes e + 1
unfolding place_nodes expr_nodes
expr_nodes-Negate i e = ap (fold-TypedExpr ℕ ℕ place_nodes_at expr_nodes_at) (sym (rolls-TypedExpr-Negate i e)) ∙ fold-roll-TypedExpr ℕ ℕ place_nodes_at expr_nodes_at (TypedExpr-F.Negate i e)

pub expr_nodes-Complement : (i : IntTy) (e : TypedExpr) → expr_nodes (expr.Complement i e) ≡ expr_nodes e + 1
unfolding place_nodes expr_nodes
expr_nodes-Complement i e = ap (fold-TypedExpr ℕ ℕ place_nodes_at expr_nodes_at) (sym (rolls-TypedExpr-Complement i e)) ∙ fold-roll-TypedExpr ℕ ℕ place_nodes_at expr_nodes_at (TypedExpr-F.Complement i e)

pub expr_nodes-Not : (e : TypedExpr) → expr_nodes (expr.Not e) ≡ expr_nodes e + 1
unfolding place_nodes expr_nodes
expr_nodes-Not e = ap (fold-TypedExpr ℕ ℕ place_nodes_at expr_nodes_at) (sym (rolls-TypedExpr-Not e)) ∙ fold-roll-TypedExpr ℕ ℕ place_nodes_at expr_nodes_at (TypedExpr-F.Not e)

pub expr_nodes-Convert : (i : IntTy) (e : TypedExpr) → expr_nodes (expr.Convert i e) ≡ expr_nodes e + 1
unfolding place_nodes expr_nodes
expr_nodes-Convert i e = ap (fold-TypedExpr ℕ ℕ place_nodes_at expr_nodes_at) (sym (rolls-TypedExpr-Convert i e)) ∙ fold-roll-TypedExpr ℕ ℕ place_nodes_at expr_nodes_at (TypedExpr-F.Convert i e)

pub expr_nodes-Binary : (op : Arithmetic) (i : IntTy) (l : TypedExpr) (r : TypedExpr) → expr_nodes (expr.Binary op i l r) ≡ expr_nodes l + expr_nodes r + 1
unfolding place_nodes expr_nodes
expr_nodes-Binary op i l r = ap (fold-TypedExpr ℕ ℕ place_nodes_at expr_nodes_at) (sym (rolls-TypedExpr-Binary op i l r)) ∙ fold-roll-TypedExpr ℕ ℕ place_nodes_at expr_nodes_at (TypedExpr-F.Binary op i l r)

pub expr_nodes-Compare : (op : Comparison) (t : Ty) (l : TypedExpr) (r : TypedExpr) → expr_nodes (expr.Compare op t l r) ≡ expr_nodes l + expr_nodes r + 1
unfolding place_nodes expr_nodes
expr_nodes-Compare op t l r = ap (fold-TypedExpr ℕ ℕ place_nodes_at expr_nodes_at) (sym (rolls-TypedExpr-Compare op t l r)) ∙ fold-roll-TypedExpr ℕ ℕ place_nodes_at expr_nodes_at (TypedExpr-F.Compare op t l r)

pub expr_nodes-And : (l : TypedExpr) (r : TypedExpr) → expr_nodes (expr.And l r) ≡ expr_nodes l + expr_nodes r + 1
unfolding place_nodes expr_nodes
expr_nodes-And l r = ap (fold-TypedExpr ℕ ℕ place_nodes_at expr_nodes_at) (sym (rolls-TypedExpr-And l r)) ∙ fold-roll-TypedExpr ℕ ℕ place_nodes_at expr_nodes_at (TypedExpr-F.And l r)

pub expr_nodes-Or : (l : TypedExpr) (r : TypedExpr) → expr_nodes (expr.Or l r) ≡ expr_nodes l + expr_nodes r + 1
unfolding place_nodes expr_nodes
expr_nodes-Or l r = ap (fold-TypedExpr ℕ ℕ place_nodes_at expr_nodes_at) (sym (rolls-TypedExpr-Or l r)) ∙ fold-roll-TypedExpr ℕ ℕ place_nodes_at expr_nodes_at (TypedExpr-F.Or l r)

pub expr_nodes-Conditional : (t : Ty) (c : TypedExpr) (l : TypedExpr) (r : TypedExpr) → expr_nodes (expr.Conditional t c l r) ≡ expr_nodes c + expr_nodes l + expr_nodes r + 1
unfolding place_nodes expr_nodes
expr_nodes-Conditional t c l r = ap (fold-TypedExpr ℕ ℕ place_nodes_at expr_nodes_at) (sym (rolls-TypedExpr-Conditional t c l r)) ∙ fold-roll-TypedExpr ℕ ℕ place_nodes_at expr_nodes_at (TypedExpr-F.Conditional t c l r)

pub expr_nodes-Assign : (t : Ty) (p : Place) (e : TypedExpr) → expr_nodes (expr.Assign t p e) ≡ place_nodes p + expr_nodes e + 1
unfolding place_nodes expr_nodes
expr_nodes-Assign t p e = ap (fold-TypedExpr ℕ ℕ place_nodes_at expr_nodes_at) (sym (rolls-TypedExpr-Assign t p e)) ∙ fold-roll-TypedExpr ℕ ℕ place_nodes_at expr_nodes_at (TypedExpr-F.Assign t p e)

pub expr_nodes-Update : (op : Arithmetic) (i : IntTy) (j : IntTy) (p : Place) (e : TypedExpr) → expr_nodes (expr.Update op i j p e) ≡ place_nodes p + expr_nodes e + 1
unfolding place_nodes expr_nodes
expr_nodes-Update op i j p e = ap (fold-TypedExpr ℕ ℕ place_nodes_at expr_nodes_at) (sym (rolls-TypedExpr-Update op i j p e)) ∙ fold-roll-TypedExpr ℕ ℕ place_nodes_at expr_nodes_at (TypedExpr-F.Update op i j p e)

pub expr_nodes-Before : (i : IntTy) (up : Bool) (p : Place) → expr_nodes (expr.Before i up p) ≡ place_nodes p + 1
unfolding place_nodes expr_nodes
expr_nodes-Before i up p = ap (fold-TypedExpr ℕ ℕ place_nodes_at expr_nodes_at) (sym (rolls-TypedExpr-Before i up p)) ∙ fold-roll-TypedExpr ℕ ℕ place_nodes_at expr_nodes_at (TypedExpr-F.Before i up p)

pub expr_nodes-After : (i : IntTy) (up : Bool) (p : Place) → expr_nodes (expr.After i up p) ≡ place_nodes p + 1
unfolding place_nodes expr_nodes
expr_nodes-After i up p = ap (fold-TypedExpr ℕ ℕ place_nodes_at expr_nodes_at) (sym (rolls-TypedExpr-After i up p)) ∙ fold-roll-TypedExpr ℕ ℕ place_nodes_at expr_nodes_at (TypedExpr-F.After i up p)

pub expr_nodes-Call : (t : Ty) (f : Target) (args : List TypedExpr) → expr_nodes (expr.Call t f args) ≡ sum_by expr_nodes args + 1
unfolding place_nodes expr_nodes
expr_nodes-Call t f args = ap (fold-TypedExpr ℕ ℕ place_nodes_at expr_nodes_at) (sym (rolls-TypedExpr-Call t f args)) ∙ fold-roll-TypedExpr ℕ ℕ place_nodes_at expr_nodes_at (TypedExpr-F.Call t f args) ∙ ap (λ m. m + 1) (sum-map expr_nodes args)

pub expr_nodes-CallPointer : (t : Ty) (k : ℕ) (f : TypedExpr) (args : List TypedExpr) → expr_nodes (expr.CallPointer t k f args) ≡ expr_nodes f + sum_by expr_nodes args + 1
unfolding place_nodes expr_nodes
expr_nodes-CallPointer t k f args = ap (fold-TypedExpr ℕ ℕ place_nodes_at expr_nodes_at) (sym (rolls-TypedExpr-CallPointer t k f args)) ∙ fold-roll-TypedExpr ℕ ℕ place_nodes_at expr_nodes_at (TypedExpr-F.CallPointer t k f args) ∙ ap (λ m. expr_nodes f + m + 1) (sum-map expr_nodes args)

pub expr_nodes-CallService : (s : Service) (args : List TypedExpr) → expr_nodes (expr.CallService s args) ≡ sum_by expr_nodes args + 1
unfolding place_nodes expr_nodes
expr_nodes-CallService s args = ap (fold-TypedExpr ℕ ℕ place_nodes_at expr_nodes_at) (sym (rolls-TypedExpr-CallService s args)) ∙ fold-roll-TypedExpr ℕ ℕ place_nodes_at expr_nodes_at (TypedExpr-F.CallService s args) ∙ ap (λ m. m + 1) (sum-map expr_nodes args)

pub expr_nodes-VaArg : (i : IntTy) → expr_nodes (expr.VaArg i) ≡ 1
unfolding place_nodes expr_nodes
expr_nodes-VaArg i = ap (fold-TypedExpr ℕ ℕ place_nodes_at expr_nodes_at) (sym (rolls-TypedExpr-VaArg i)) ∙ fold-roll-TypedExpr ℕ ℕ place_nodes_at expr_nodes_at (TypedExpr-F.VaArg i)

pub expr_nodes-FieldOf : (t : Ty) (e : TypedExpr) (s : ℕ) (f : ℕ) → expr_nodes (expr.FieldOf t e s f) ≡ expr_nodes e + 1
unfolding place_nodes expr_nodes
expr_nodes-FieldOf t e s f = ap (fold-TypedExpr ℕ ℕ place_nodes_at expr_nodes_at) (sym (rolls-TypedExpr-FieldOf t e s f)) ∙ fold-roll-TypedExpr ℕ ℕ place_nodes_at expr_nodes_at (TypedExpr-F.FieldOf t e s f)

pub expr_nodes-ElementOf : (t : Ty) (a : TypedExpr) (i : TypedExpr) (n : ℕ) → expr_nodes (expr.ElementOf t a i n) ≡ expr_nodes a + expr_nodes i + 1
unfolding place_nodes expr_nodes
expr_nodes-ElementOf t a i n = ap (fold-TypedExpr ℕ ℕ place_nodes_at expr_nodes_at) (sym (rolls-TypedExpr-ElementOf t a i n)) ∙ fold-roll-TypedExpr ℕ ℕ place_nodes_at expr_nodes_at (TypedExpr-F.ElementOf t a i n)

pub item_nodes-Declare : (d : Declared) → item_nodes (item.Declare d) ≡ declared_nodes d
unfolding item_nodes stmt_nodes
item_nodes-Declare d = ap (fold-TypedItem ℕ ℕ item_nodes_at stmt_nodes_at) (sym (rolls-TypedItem-Declare d)) ∙ fold-roll-TypedItem ℕ ℕ item_nodes_at stmt_nodes_at (TypedItem-F.Declare d)

pub item_nodes-VaList : item_nodes item.VaList ≡ 1
unfolding item_nodes stmt_nodes
item_nodes-VaList = ap (fold-TypedItem ℕ ℕ item_nodes_at stmt_nodes_at) (sym rolls-TypedItem-VaList) ∙ fold-roll-TypedItem ℕ ℕ item_nodes_at stmt_nodes_at TypedItem-F.VaList

pub item_nodes-Stmt : (x : TypedStmt) → item_nodes (item.Stmt x) ≡ stmt_nodes x
unfolding item_nodes stmt_nodes
item_nodes-Stmt x = ap (fold-TypedItem ℕ ℕ item_nodes_at stmt_nodes_at) (sym (rolls-TypedItem-Stmt x)) ∙ fold-roll-TypedItem ℕ ℕ item_nodes_at stmt_nodes_at (TypedItem-F.Stmt x)

pub stmt_nodes-Block : (xs : List TypedItem) → stmt_nodes (stmt.Block xs) ≡ sum_by item_nodes xs + 1
unfolding item_nodes stmt_nodes
stmt_nodes-Block xs = ap (fold-TypedStmt ℕ ℕ item_nodes_at stmt_nodes_at) (sym (rolls-TypedStmt-Block xs)) ∙ fold-roll-TypedStmt ℕ ℕ item_nodes_at stmt_nodes_at (TypedStmt-F.Block xs) ∙ ap (λ m. m + 1) (sum-map item_nodes xs)

pub stmt_nodes-Empty : stmt_nodes stmt.Empty ≡ 1
unfolding item_nodes stmt_nodes
stmt_nodes-Empty = ap (fold-TypedStmt ℕ ℕ item_nodes_at stmt_nodes_at) (sym rolls-TypedStmt-Empty) ∙ fold-roll-TypedStmt ℕ ℕ item_nodes_at stmt_nodes_at TypedStmt-F.Empty

pub stmt_nodes-Effect : (e : TypedExpr) → stmt_nodes (stmt.Effect e) ≡ expr_nodes e + 1
unfolding item_nodes stmt_nodes
stmt_nodes-Effect e = ap (fold-TypedStmt ℕ ℕ item_nodes_at stmt_nodes_at) (sym (rolls-TypedStmt-Effect e)) ∙ fold-roll-TypedStmt ℕ ℕ item_nodes_at stmt_nodes_at (TypedStmt-F.Effect e)

pub stmt_nodes-Break : stmt_nodes stmt.Break ≡ 1
unfolding item_nodes stmt_nodes
stmt_nodes-Break = ap (fold-TypedStmt ℕ ℕ item_nodes_at stmt_nodes_at) (sym rolls-TypedStmt-Break) ∙ fold-roll-TypedStmt ℕ ℕ item_nodes_at stmt_nodes_at TypedStmt-F.Break

pub stmt_nodes-Continue : stmt_nodes stmt.Continue ≡ 1
unfolding item_nodes stmt_nodes
stmt_nodes-Continue = ap (fold-TypedStmt ℕ ℕ item_nodes_at stmt_nodes_at) (sym rolls-TypedStmt-Continue) ∙ fold-roll-TypedStmt ℕ ℕ item_nodes_at stmt_nodes_at TypedStmt-F.Continue

pub stmt_nodes-If : (c : TypedExpr) (x : TypedStmt) → stmt_nodes (stmt.If c x) ≡ expr_nodes c + stmt_nodes x + 1
unfolding item_nodes stmt_nodes
stmt_nodes-If c x = ap (fold-TypedStmt ℕ ℕ item_nodes_at stmt_nodes_at) (sym (rolls-TypedStmt-If c x)) ∙ fold-roll-TypedStmt ℕ ℕ item_nodes_at stmt_nodes_at (TypedStmt-F.If c x)

pub stmt_nodes-IfElse : (c : TypedExpr) (x : TypedStmt) (y : TypedStmt) → stmt_nodes (stmt.IfElse c x y) ≡ expr_nodes c + stmt_nodes x + stmt_nodes y + 1
unfolding item_nodes stmt_nodes
stmt_nodes-IfElse c x y = ap (fold-TypedStmt ℕ ℕ item_nodes_at stmt_nodes_at) (sym (rolls-TypedStmt-IfElse c x y)) ∙ fold-roll-TypedStmt ℕ ℕ item_nodes_at stmt_nodes_at (TypedStmt-F.IfElse c x y)

pub stmt_nodes-While : (c : TypedExpr) (x : TypedStmt) → stmt_nodes (stmt.While c x) ≡ expr_nodes c + stmt_nodes x + 1
unfolding item_nodes stmt_nodes
stmt_nodes-While c x = ap (fold-TypedStmt ℕ ℕ item_nodes_at stmt_nodes_at) (sym (rolls-TypedStmt-While c x)) ∙ fold-roll-TypedStmt ℕ ℕ item_nodes_at stmt_nodes_at (TypedStmt-F.While c x)

pub stmt_nodes-Do : (x : TypedStmt) (c : TypedExpr) → stmt_nodes (stmt.Do x c) ≡ stmt_nodes x + expr_nodes c + 1
unfolding item_nodes stmt_nodes
stmt_nodes-Do x c = ap (fold-TypedStmt ℕ ℕ item_nodes_at stmt_nodes_at) (sym (rolls-TypedStmt-Do x c)) ∙ fold-roll-TypedStmt ℕ ℕ item_nodes_at stmt_nodes_at (TypedStmt-F.Do x c)

pub stmt_nodes-For : (a : ForBegin) (c : Option TypedExpr) (b : Option TypedExpr) (x : TypedStmt) → stmt_nodes (stmt.For a c b x) ≡ begin_nodes a + optional_nodes c + optional_nodes b + stmt_nodes x + 1
unfolding item_nodes stmt_nodes
stmt_nodes-For a c b x = ap (fold-TypedStmt ℕ ℕ item_nodes_at stmt_nodes_at) (sym (rolls-TypedStmt-For a c b x)) ∙ fold-roll-TypedStmt ℕ ℕ item_nodes_at stmt_nodes_at (TypedStmt-F.For a c b x)

pub stmt_nodes-Return : (e : Option TypedExpr) → stmt_nodes (stmt.Return e) ≡ optional_nodes e + 1
unfolding item_nodes stmt_nodes
stmt_nodes-Return e = ap (fold-TypedStmt ℕ ℕ item_nodes_at stmt_nodes_at) (sym (rolls-TypedStmt-Return e)) ∙ fold-roll-TypedStmt ℕ ℕ item_nodes_at stmt_nodes_at (TypedStmt-F.Return e)

pub stmt_nodes-VaStart : stmt_nodes stmt.VaStart ≡ 1
unfolding item_nodes stmt_nodes
stmt_nodes-VaStart = ap (fold-TypedStmt ℕ ℕ item_nodes_at stmt_nodes_at) (sym rolls-TypedStmt-VaStart) ∙ fold-roll-TypedStmt ℕ ℕ item_nodes_at stmt_nodes_at TypedStmt-F.VaStart

pub stmt_nodes-VaEnd : stmt_nodes stmt.VaEnd ≡ 1
unfolding item_nodes stmt_nodes
stmt_nodes-VaEnd = ap (fold-TypedStmt ℕ ℕ item_nodes_at stmt_nodes_at) (sym rolls-TypedStmt-VaEnd) ∙ fold-roll-TypedStmt ℕ ℕ item_nodes_at stmt_nodes_at TypedStmt-F.VaEnd

pub ruleset place_counts = (place_nodes-Local, place_nodes-Global, place_nodes-Target, place_nodes-Arrow, place_nodes-Field, place_nodes-Element)

pub ruleset expr_counts = (expr_nodes-Number, expr_nodes-Char, expr_nodes-Null, expr_nodes-Function, expr_nodes-Load, expr_nodes-Address, expr_nodes-Same, expr_nodes-Negate, expr_nodes-Complement, expr_nodes-Not, expr_nodes-Convert, expr_nodes-Binary, expr_nodes-Compare, expr_nodes-And, expr_nodes-Or, expr_nodes-Conditional, expr_nodes-Assign, expr_nodes-Update, expr_nodes-Before, expr_nodes-After, expr_nodes-Call, expr_nodes-CallPointer, expr_nodes-CallService, expr_nodes-VaArg, expr_nodes-FieldOf, expr_nodes-ElementOf)

pub ruleset item_counts = (item_nodes-Declare, item_nodes-VaList, item_nodes-Stmt)

pub ruleset stmt_counts = (stmt_nodes-Block, stmt_nodes-Empty, stmt_nodes-Effect, stmt_nodes-Break, stmt_nodes-Continue, stmt_nodes-If, stmt_nodes-IfElse, stmt_nodes-While, stmt_nodes-Do, stmt_nodes-For, stmt_nodes-Return, stmt_nodes-VaStart, stmt_nodes-VaEnd)
