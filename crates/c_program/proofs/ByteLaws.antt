-- The structs that each form gives as values, from those of its parts.
use Rattle.std.proofs.Common.{◌≡◌, ℕ, ◌+◌, sum_by, Bool, List, Option, sym, ap, ◌∙◌}
use Rattle.std.specs.Prelude.{ℤ}
use Rattle.std.proofs.lemmas.List.Sums.{sum-map}
use Rattle.c_types.specs.declared.types.IntTy.{IntTy}
use Rattle.c_types.specs.declared.types.Ty.{Ty}
use Rattle.c_types.specs.declared.types.Types.{Types}
use Rattle.c_program.specs.declared.expressions.Service.{Service}
use Rattle.c_program.specs.declared.expressions.Target.{Target}
use Rattle.c_program.specs.declared.expressions.Arithmetic.{Arithmetic}
use Rattle.c_program.specs.declared.expressions.Comparison.{Comparison}
use Rattle.c_program.specs.declared.expressions.Place.{Place}
use Rattle.c_program.specs.declared.expressions.TypedExpr.{TypedExpr}
use Rattle.c_program.specs.declared.expressions.Place.TheOpen.{Place-F, TypedExpr-F}
use Rattle.c_program.specs.declared.expressions.Place.TheFolds.{fold-Place, fold-TypedExpr, fold-roll-Place, fold-roll-TypedExpr}
use Rattle.c_program.specs.declared.statements.Declared.{Declared}
use Rattle.c_program.specs.declared.statements.ForBegin.{ForBegin}
use Rattle.c_program.specs.declared.statements.TypedItem.{TypedItem}
use Rattle.c_program.specs.declared.statements.TypedStmt.{TypedStmt}
use Rattle.c_program.specs.declared.statements.TypedItem.TheOpen.{TypedItem-F, TypedStmt-F}
use Rattle.c_program.specs.declared.statements.TypedItem.TheFolds.{fold-TypedItem, fold-TypedStmt, fold-roll-TypedItem, fold-roll-TypedStmt}
use Rattle.c_program.specs.declared.expressions.Place.TheVariants as place
use Rattle.c_program.specs.declared.expressions.Place.TheVariants.{rolls-Local as rolls-Place-Local, rolls-Global as rolls-Place-Global, rolls-Target as rolls-Place-Target, rolls-Arrow as rolls-Place-Arrow, rolls-Field as rolls-Place-Field, rolls-Element as rolls-Place-Element}
use Rattle.c_program.specs.declared.expressions.TypedExpr.TheVariants as expr
use Rattle.c_program.specs.declared.expressions.TypedExpr.TheVariants.{rolls-Number as rolls-TypedExpr-Number, rolls-Char as rolls-TypedExpr-Char, rolls-Null as rolls-TypedExpr-Null, rolls-Function as rolls-TypedExpr-Function, rolls-Load as rolls-TypedExpr-Load, rolls-Address as rolls-TypedExpr-Address, rolls-Same as rolls-TypedExpr-Same, rolls-Negate as rolls-TypedExpr-Negate, rolls-Complement as rolls-TypedExpr-Complement, rolls-Not as rolls-TypedExpr-Not, rolls-Convert as rolls-TypedExpr-Convert, rolls-Binary as rolls-TypedExpr-Binary, rolls-Compare as rolls-TypedExpr-Compare, rolls-And as rolls-TypedExpr-And, rolls-Or as rolls-TypedExpr-Or, rolls-Conditional as rolls-TypedExpr-Conditional, rolls-Assign as rolls-TypedExpr-Assign, rolls-Update as rolls-TypedExpr-Update, rolls-Before as rolls-TypedExpr-Before, rolls-After as rolls-TypedExpr-After, rolls-Call as rolls-TypedExpr-Call, rolls-CallPointer as rolls-TypedExpr-CallPointer, rolls-CallService as rolls-TypedExpr-CallService, rolls-VaArg as rolls-TypedExpr-VaArg, rolls-FieldOf as rolls-TypedExpr-FieldOf, rolls-ElementOf as rolls-TypedExpr-ElementOf}
use Rattle.c_program.specs.declared.statements.TypedItem.TheVariants as item
use Rattle.c_program.specs.declared.statements.TypedItem.TheVariants.{rolls-Declare as rolls-TypedItem-Declare, rolls-VaList as rolls-TypedItem-VaList, rolls-Stmt as rolls-TypedItem-Stmt}
use Rattle.c_program.specs.declared.statements.TypedStmt.TheVariants as stmt
use Rattle.c_program.specs.declared.statements.TypedStmt.TheVariants.{rolls-Block as rolls-TypedStmt-Block, rolls-Empty as rolls-TypedStmt-Empty, rolls-Effect as rolls-TypedStmt-Effect, rolls-Break as rolls-TypedStmt-Break, rolls-Continue as rolls-TypedStmt-Continue, rolls-If as rolls-TypedStmt-If, rolls-IfElse as rolls-TypedStmt-IfElse, rolls-While as rolls-TypedStmt-While, rolls-Do as rolls-TypedStmt-Do, rolls-For as rolls-TypedStmt-For, rolls-Return as rolls-TypedStmt-Return, rolls-VaStart as rolls-TypedStmt-VaStart, rolls-VaEnd as rolls-TypedStmt-VaEnd}
use Rattle.c_program.specs.FrameBytes.{struct_bytes, place_bytes_at, expr_bytes_at, place_bytes, expr_bytes, optional_bytes, declared_bytes, begin_bytes, item_bytes_at, stmt_bytes_at, item_bytes, stmt_bytes}

pub place_bytes-Local : (types : Types) (k : ℕ) → place_bytes types (place.Local k) ≡ 0
unfolding place_bytes expr_bytes
place_bytes-Local types k = ap (fold-Place ℕ ℕ place_bytes_at (expr_bytes_at types)) (sym (rolls-Place-Local k)) ∙ fold-roll-Place ℕ ℕ place_bytes_at (expr_bytes_at types) (Place-F.Local k)

pub place_bytes-Global : (types : Types) (k : ℕ) → place_bytes types (place.Global k) ≡ 0
unfolding place_bytes expr_bytes
place_bytes-Global types k = ap (fold-Place ℕ ℕ place_bytes_at (expr_bytes_at types)) (sym (rolls-Place-Global k)) ∙ fold-roll-Place ℕ ℕ place_bytes_at (expr_bytes_at types) (Place-F.Global k)

pub place_bytes-Target : (types : Types) (t : Ty) (e : TypedExpr) → place_bytes types (place.Target t e) ≡ expr_bytes types e
unfolding place_bytes expr_bytes
place_bytes-Target types t e = ap (fold-Place ℕ ℕ place_bytes_at (expr_bytes_at types)) (sym (rolls-Place-Target t e)) ∙ fold-roll-Place ℕ ℕ place_bytes_at (expr_bytes_at types) (Place-F.Target t e)

pub place_bytes-Arrow : (types : Types) (e : TypedExpr) (s : ℕ) (f : ℕ) → place_bytes types (place.Arrow e s f) ≡ expr_bytes types e
unfolding place_bytes expr_bytes
place_bytes-Arrow types e s f = ap (fold-Place ℕ ℕ place_bytes_at (expr_bytes_at types)) (sym (rolls-Place-Arrow e s f)) ∙ fold-roll-Place ℕ ℕ place_bytes_at (expr_bytes_at types) (Place-F.Arrow e s f)

pub place_bytes-Field : (types : Types) (p : Place) (s : ℕ) (f : ℕ) → place_bytes types (place.Field p s f) ≡ place_bytes types p
unfolding place_bytes expr_bytes
place_bytes-Field types p s f = ap (fold-Place ℕ ℕ place_bytes_at (expr_bytes_at types)) (sym (rolls-Place-Field p s f)) ∙ fold-roll-Place ℕ ℕ place_bytes_at (expr_bytes_at types) (Place-F.Field p s f)

pub place_bytes-Element : (types : Types) (t : Ty) (p : Place) (i : TypedExpr) (n : ℕ) → place_bytes types (place.Element t p i n) ≡ place_bytes types p + expr_bytes types i
unfolding place_bytes expr_bytes
place_bytes-Element types t p i n = ap (fold-Place ℕ ℕ place_bytes_at (expr_bytes_at types)) (sym (rolls-Place-Element t p i n)) ∙ fold-roll-Place ℕ ℕ place_bytes_at (expr_bytes_at types) (Place-F.Element t p i n)

pub expr_bytes-Number : (types : Types) (i : IntTy) (n : ℕ) → expr_bytes types (expr.Number i n) ≡ 0
unfolding place_bytes expr_bytes
expr_bytes-Number types i n = ap (fold-TypedExpr ℕ ℕ place_bytes_at (expr_bytes_at types)) (sym (rolls-TypedExpr-Number i n)) ∙ fold-roll-TypedExpr ℕ ℕ place_bytes_at (expr_bytes_at types) (TypedExpr-F.Number i n)

pub expr_bytes-Char : (types : Types) (c : ℤ) → expr_bytes types (expr.Char c) ≡ 0
unfolding place_bytes expr_bytes
expr_bytes-Char types c = ap (fold-TypedExpr ℕ ℕ place_bytes_at (expr_bytes_at types)) (sym (rolls-TypedExpr-Char c)) ∙ fold-roll-TypedExpr ℕ ℕ place_bytes_at (expr_bytes_at types) (TypedExpr-F.Char c)

pub expr_bytes-Null : (types : Types) (t : Ty) → expr_bytes types (expr.Null t) ≡ 0
unfolding place_bytes expr_bytes
expr_bytes-Null types t = ap (fold-TypedExpr ℕ ℕ place_bytes_at (expr_bytes_at types)) (sym (rolls-TypedExpr-Null t)) ∙ fold-roll-TypedExpr ℕ ℕ place_bytes_at (expr_bytes_at types) (TypedExpr-F.Null t)

pub expr_bytes-Function : (types : Types) (t : Ty) (f : Target) → expr_bytes types (expr.Function t f) ≡ 0
unfolding place_bytes expr_bytes
expr_bytes-Function types t f = ap (fold-TypedExpr ℕ ℕ place_bytes_at (expr_bytes_at types)) (sym (rolls-TypedExpr-Function t f)) ∙ fold-roll-TypedExpr ℕ ℕ place_bytes_at (expr_bytes_at types) (TypedExpr-F.Function t f)

pub expr_bytes-Load : (types : Types) (t : Ty) (p : Place) → expr_bytes types (expr.Load t p) ≡ place_bytes types p + struct_bytes types t
unfolding place_bytes expr_bytes
expr_bytes-Load types t p = ap (fold-TypedExpr ℕ ℕ place_bytes_at (expr_bytes_at types)) (sym (rolls-TypedExpr-Load t p)) ∙ fold-roll-TypedExpr ℕ ℕ place_bytes_at (expr_bytes_at types) (TypedExpr-F.Load t p)

pub expr_bytes-Address : (types : Types) (t : Ty) (p : Place) → expr_bytes types (expr.Address t p) ≡ place_bytes types p
unfolding place_bytes expr_bytes
expr_bytes-Address types t p = ap (fold-TypedExpr ℕ ℕ place_bytes_at (expr_bytes_at types)) (sym (rolls-TypedExpr-Address t p)) ∙ fold-roll-TypedExpr ℕ ℕ place_bytes_at (expr_bytes_at types) (TypedExpr-F.Address t p)

pub expr_bytes-Same : (types : Types) (e : TypedExpr) → expr_bytes types (expr.Same e) ≡ expr_bytes types e
unfolding place_bytes expr_bytes
expr_bytes-Same types e = ap (fold-TypedExpr ℕ ℕ place_bytes_at (expr_bytes_at types)) (sym (rolls-TypedExpr-Same e)) ∙ fold-roll-TypedExpr ℕ ℕ place_bytes_at (expr_bytes_at types) (TypedExpr-F.Same e)

pub expr_bytes-Negate : (types : Types) (i : IntTy) (e : TypedExpr) → expr_bytes types (expr.Negate i e) ≡ expr_bytes types e
unfolding place_bytes expr_bytes
expr_bytes-Negate types i e = ap (fold-TypedExpr ℕ ℕ place_bytes_at (expr_bytes_at types)) (sym (rolls-TypedExpr-Negate i e)) ∙ fold-roll-TypedExpr ℕ ℕ place_bytes_at (expr_bytes_at types) (TypedExpr-F.Negate i e)

pub expr_bytes-Complement : (types : Types) (i : IntTy) (e : TypedExpr) → expr_bytes types (expr.Complement i e) ≡ expr_bytes types e
unfolding place_bytes expr_bytes
expr_bytes-Complement types i e = ap (fold-TypedExpr ℕ ℕ place_bytes_at (expr_bytes_at types)) (sym (rolls-TypedExpr-Complement i e)) ∙ fold-roll-TypedExpr ℕ ℕ place_bytes_at (expr_bytes_at types) (TypedExpr-F.Complement i e)

pub expr_bytes-Not : (types : Types) (e : TypedExpr) → expr_bytes types (expr.Not e) ≡ expr_bytes types e
unfolding place_bytes expr_bytes
expr_bytes-Not types e = ap (fold-TypedExpr ℕ ℕ place_bytes_at (expr_bytes_at types)) (sym (rolls-TypedExpr-Not e)) ∙ fold-roll-TypedExpr ℕ ℕ place_bytes_at (expr_bytes_at types) (TypedExpr-F.Not e)

pub expr_bytes-Convert : (types : Types) (i : IntTy) (e : TypedExpr) → expr_bytes types (expr.Convert i e) ≡ expr_bytes types e
unfolding place_bytes expr_bytes
expr_bytes-Convert types i e = ap (fold-TypedExpr ℕ ℕ place_bytes_at (expr_bytes_at types)) (sym (rolls-TypedExpr-Convert i e)) ∙ fold-roll-TypedExpr ℕ ℕ place_bytes_at (expr_bytes_at types) (TypedExpr-F.Convert i e)

pub expr_bytes-Binary : (types : Types) (op : Arithmetic) (i : IntTy) (l : TypedExpr) (r : TypedExpr) → expr_bytes types (expr.Binary op i l r) ≡ expr_bytes types l + expr_bytes types r
unfolding place_bytes expr_bytes
expr_bytes-Binary types op i l r = ap (fold-TypedExpr ℕ ℕ place_bytes_at (expr_bytes_at types)) (sym (rolls-TypedExpr-Binary op i l r)) ∙ fold-roll-TypedExpr ℕ ℕ place_bytes_at (expr_bytes_at types) (TypedExpr-F.Binary op i l r)

pub expr_bytes-Compare : (types : Types) (op : Comparison) (t : Ty) (l : TypedExpr) (r : TypedExpr) → expr_bytes types (expr.Compare op t l r) ≡ expr_bytes types l + expr_bytes types r
unfolding place_bytes expr_bytes
expr_bytes-Compare types op t l r = ap (fold-TypedExpr ℕ ℕ place_bytes_at (expr_bytes_at types)) (sym (rolls-TypedExpr-Compare op t l r)) ∙ fold-roll-TypedExpr ℕ ℕ place_bytes_at (expr_bytes_at types) (TypedExpr-F.Compare op t l r)

pub expr_bytes-And : (types : Types) (l : TypedExpr) (r : TypedExpr) → expr_bytes types (expr.And l r) ≡ expr_bytes types l + expr_bytes types r
unfolding place_bytes expr_bytes
expr_bytes-And types l r = ap (fold-TypedExpr ℕ ℕ place_bytes_at (expr_bytes_at types)) (sym (rolls-TypedExpr-And l r)) ∙ fold-roll-TypedExpr ℕ ℕ place_bytes_at (expr_bytes_at types) (TypedExpr-F.And l r)

pub expr_bytes-Or : (types : Types) (l : TypedExpr) (r : TypedExpr) → expr_bytes types (expr.Or l r) ≡ expr_bytes types l + expr_bytes types r
unfolding place_bytes expr_bytes
expr_bytes-Or types l r = ap (fold-TypedExpr ℕ ℕ place_bytes_at (expr_bytes_at types)) (sym (rolls-TypedExpr-Or l r)) ∙ fold-roll-TypedExpr ℕ ℕ place_bytes_at (expr_bytes_at types) (TypedExpr-F.Or l r)

pub expr_bytes-Conditional : (types : Types) (t : Ty) (c : TypedExpr) (l : TypedExpr) (r : TypedExpr) → expr_bytes types (expr.Conditional t c l r) ≡ expr_bytes types c + expr_bytes types l + expr_bytes types r + struct_bytes types t
unfolding place_bytes expr_bytes
expr_bytes-Conditional types t c l r = ap (fold-TypedExpr ℕ ℕ place_bytes_at (expr_bytes_at types)) (sym (rolls-TypedExpr-Conditional t c l r)) ∙ fold-roll-TypedExpr ℕ ℕ place_bytes_at (expr_bytes_at types) (TypedExpr-F.Conditional t c l r)

pub expr_bytes-Assign : (types : Types) (t : Ty) (p : Place) (e : TypedExpr) → expr_bytes types (expr.Assign t p e) ≡ place_bytes types p + expr_bytes types e + struct_bytes types t
unfolding place_bytes expr_bytes
expr_bytes-Assign types t p e = ap (fold-TypedExpr ℕ ℕ place_bytes_at (expr_bytes_at types)) (sym (rolls-TypedExpr-Assign t p e)) ∙ fold-roll-TypedExpr ℕ ℕ place_bytes_at (expr_bytes_at types) (TypedExpr-F.Assign t p e)

pub expr_bytes-Update : (types : Types) (op : Arithmetic) (i : IntTy) (j : IntTy) (p : Place) (e : TypedExpr) → expr_bytes types (expr.Update op i j p e) ≡ place_bytes types p + expr_bytes types e
unfolding place_bytes expr_bytes
expr_bytes-Update types op i j p e = ap (fold-TypedExpr ℕ ℕ place_bytes_at (expr_bytes_at types)) (sym (rolls-TypedExpr-Update op i j p e)) ∙ fold-roll-TypedExpr ℕ ℕ place_bytes_at (expr_bytes_at types) (TypedExpr-F.Update op i j p e)

pub expr_bytes-Before : (types : Types) (i : IntTy) (up : Bool) (p : Place) → expr_bytes types (expr.Before i up p) ≡ place_bytes types p
unfolding place_bytes expr_bytes
expr_bytes-Before types i up p = ap (fold-TypedExpr ℕ ℕ place_bytes_at (expr_bytes_at types)) (sym (rolls-TypedExpr-Before i up p)) ∙ fold-roll-TypedExpr ℕ ℕ place_bytes_at (expr_bytes_at types) (TypedExpr-F.Before i up p)

pub expr_bytes-After : (types : Types) (i : IntTy) (up : Bool) (p : Place) → expr_bytes types (expr.After i up p) ≡ place_bytes types p
unfolding place_bytes expr_bytes
expr_bytes-After types i up p = ap (fold-TypedExpr ℕ ℕ place_bytes_at (expr_bytes_at types)) (sym (rolls-TypedExpr-After i up p)) ∙ fold-roll-TypedExpr ℕ ℕ place_bytes_at (expr_bytes_at types) (TypedExpr-F.After i up p)

pub expr_bytes-Call : (types : Types) (t : Ty) (f : Target) (args : List TypedExpr) → expr_bytes types (expr.Call t f args) ≡ sum_by (expr_bytes types) args + struct_bytes types t
unfolding place_bytes expr_bytes
expr_bytes-Call types t f args = ap (fold-TypedExpr ℕ ℕ place_bytes_at (expr_bytes_at types)) (sym (rolls-TypedExpr-Call t f args)) ∙ fold-roll-TypedExpr ℕ ℕ place_bytes_at (expr_bytes_at types) (TypedExpr-F.Call t f args) ∙ ap (λ m. m + struct_bytes types t) (sum-map (expr_bytes types) args)

pub expr_bytes-CallPointer : (types : Types) (t : Ty) (k : ℕ) (f : TypedExpr) (args : List TypedExpr) → expr_bytes types (expr.CallPointer t k f args) ≡ expr_bytes types f + sum_by (expr_bytes types) args + struct_bytes types t
unfolding place_bytes expr_bytes
expr_bytes-CallPointer types t k f args = ap (fold-TypedExpr ℕ ℕ place_bytes_at (expr_bytes_at types)) (sym (rolls-TypedExpr-CallPointer t k f args)) ∙ fold-roll-TypedExpr ℕ ℕ place_bytes_at (expr_bytes_at types) (TypedExpr-F.CallPointer t k f args) ∙ ap (λ m. expr_bytes types f + m + struct_bytes types t) (sum-map (expr_bytes types) args)

pub expr_bytes-CallService : (types : Types) (s : Service) (args : List TypedExpr) → expr_bytes types (expr.CallService s args) ≡ sum_by (expr_bytes types) args
unfolding place_bytes expr_bytes
expr_bytes-CallService types s args = ap (fold-TypedExpr ℕ ℕ place_bytes_at (expr_bytes_at types)) (sym (rolls-TypedExpr-CallService s args)) ∙ fold-roll-TypedExpr ℕ ℕ place_bytes_at (expr_bytes_at types) (TypedExpr-F.CallService s args) ∙ sum-map (expr_bytes types) args

pub expr_bytes-VaArg : (types : Types) (i : IntTy) → expr_bytes types (expr.VaArg i) ≡ 0
unfolding place_bytes expr_bytes
expr_bytes-VaArg types i = ap (fold-TypedExpr ℕ ℕ place_bytes_at (expr_bytes_at types)) (sym (rolls-TypedExpr-VaArg i)) ∙ fold-roll-TypedExpr ℕ ℕ place_bytes_at (expr_bytes_at types) (TypedExpr-F.VaArg i)

pub expr_bytes-FieldOf : (types : Types) (t : Ty) (e : TypedExpr) (s : ℕ) (f : ℕ) → expr_bytes types (expr.FieldOf t e s f) ≡ expr_bytes types e + struct_bytes types t
unfolding place_bytes expr_bytes
expr_bytes-FieldOf types t e s f = ap (fold-TypedExpr ℕ ℕ place_bytes_at (expr_bytes_at types)) (sym (rolls-TypedExpr-FieldOf t e s f)) ∙ fold-roll-TypedExpr ℕ ℕ place_bytes_at (expr_bytes_at types) (TypedExpr-F.FieldOf t e s f)

pub expr_bytes-ElementOf : (types : Types) (t : Ty) (a : TypedExpr) (i : TypedExpr) (n : ℕ) → expr_bytes types (expr.ElementOf t a i n) ≡ expr_bytes types a + expr_bytes types i + struct_bytes types t
unfolding place_bytes expr_bytes
expr_bytes-ElementOf types t a i n = ap (fold-TypedExpr ℕ ℕ place_bytes_at (expr_bytes_at types)) (sym (rolls-TypedExpr-ElementOf t a i n)) ∙ fold-roll-TypedExpr ℕ ℕ place_bytes_at (expr_bytes_at types) (TypedExpr-F.ElementOf t a i n)

pub item_bytes-Declare : (types : Types) (d : Declared) → item_bytes types (item.Declare d) ≡ declared_bytes types d
unfolding item_bytes stmt_bytes
item_bytes-Declare types d = ap (fold-TypedItem ℕ ℕ (item_bytes_at types) (stmt_bytes_at types)) (sym (rolls-TypedItem-Declare d)) ∙ fold-roll-TypedItem ℕ ℕ (item_bytes_at types) (stmt_bytes_at types) (TypedItem-F.Declare d)

pub item_bytes-VaList : (types : Types) → item_bytes types item.VaList ≡ 0
unfolding item_bytes stmt_bytes
item_bytes-VaList types = ap (fold-TypedItem ℕ ℕ (item_bytes_at types) (stmt_bytes_at types)) (sym rolls-TypedItem-VaList) ∙ fold-roll-TypedItem ℕ ℕ (item_bytes_at types) (stmt_bytes_at types) TypedItem-F.VaList

pub item_bytes-Stmt : (types : Types) (x : TypedStmt) → item_bytes types (item.Stmt x) ≡ stmt_bytes types x
unfolding item_bytes stmt_bytes
item_bytes-Stmt types x = ap (fold-TypedItem ℕ ℕ (item_bytes_at types) (stmt_bytes_at types)) (sym (rolls-TypedItem-Stmt x)) ∙ fold-roll-TypedItem ℕ ℕ (item_bytes_at types) (stmt_bytes_at types) (TypedItem-F.Stmt x)

pub stmt_bytes-Block : (types : Types) (xs : List TypedItem) → stmt_bytes types (stmt.Block xs) ≡ sum_by (item_bytes types) xs
unfolding item_bytes stmt_bytes
stmt_bytes-Block types xs = ap (fold-TypedStmt ℕ ℕ (item_bytes_at types) (stmt_bytes_at types)) (sym (rolls-TypedStmt-Block xs)) ∙ fold-roll-TypedStmt ℕ ℕ (item_bytes_at types) (stmt_bytes_at types) (TypedStmt-F.Block xs) ∙ sum-map (item_bytes types) xs

pub stmt_bytes-Empty : (types : Types) → stmt_bytes types stmt.Empty ≡ 0
unfolding item_bytes stmt_bytes
stmt_bytes-Empty types = ap (fold-TypedStmt ℕ ℕ (item_bytes_at types) (stmt_bytes_at types)) (sym rolls-TypedStmt-Empty) ∙ fold-roll-TypedStmt ℕ ℕ (item_bytes_at types) (stmt_bytes_at types) TypedStmt-F.Empty

pub stmt_bytes-Effect : (types : Types) (e : TypedExpr) → stmt_bytes types (stmt.Effect e) ≡ expr_bytes types e
unfolding item_bytes stmt_bytes
stmt_bytes-Effect types e = ap (fold-TypedStmt ℕ ℕ (item_bytes_at types) (stmt_bytes_at types)) (sym (rolls-TypedStmt-Effect e)) ∙ fold-roll-TypedStmt ℕ ℕ (item_bytes_at types) (stmt_bytes_at types) (TypedStmt-F.Effect e)

pub stmt_bytes-Break : (types : Types) → stmt_bytes types stmt.Break ≡ 0
unfolding item_bytes stmt_bytes
stmt_bytes-Break types = ap (fold-TypedStmt ℕ ℕ (item_bytes_at types) (stmt_bytes_at types)) (sym rolls-TypedStmt-Break) ∙ fold-roll-TypedStmt ℕ ℕ (item_bytes_at types) (stmt_bytes_at types) TypedStmt-F.Break

pub stmt_bytes-Continue : (types : Types) → stmt_bytes types stmt.Continue ≡ 0
unfolding item_bytes stmt_bytes
stmt_bytes-Continue types = ap (fold-TypedStmt ℕ ℕ (item_bytes_at types) (stmt_bytes_at types)) (sym rolls-TypedStmt-Continue) ∙ fold-roll-TypedStmt ℕ ℕ (item_bytes_at types) (stmt_bytes_at types) TypedStmt-F.Continue

pub stmt_bytes-If : (types : Types) (c : TypedExpr) (x : TypedStmt) → stmt_bytes types (stmt.If c x) ≡ expr_bytes types c + stmt_bytes types x
unfolding item_bytes stmt_bytes
stmt_bytes-If types c x = ap (fold-TypedStmt ℕ ℕ (item_bytes_at types) (stmt_bytes_at types)) (sym (rolls-TypedStmt-If c x)) ∙ fold-roll-TypedStmt ℕ ℕ (item_bytes_at types) (stmt_bytes_at types) (TypedStmt-F.If c x)

pub stmt_bytes-IfElse : (types : Types) (c : TypedExpr) (x : TypedStmt) (y : TypedStmt) → stmt_bytes types (stmt.IfElse c x y) ≡ expr_bytes types c + stmt_bytes types x + stmt_bytes types y
unfolding item_bytes stmt_bytes
stmt_bytes-IfElse types c x y = ap (fold-TypedStmt ℕ ℕ (item_bytes_at types) (stmt_bytes_at types)) (sym (rolls-TypedStmt-IfElse c x y)) ∙ fold-roll-TypedStmt ℕ ℕ (item_bytes_at types) (stmt_bytes_at types) (TypedStmt-F.IfElse c x y)

pub stmt_bytes-While : (types : Types) (c : TypedExpr) (x : TypedStmt) → stmt_bytes types (stmt.While c x) ≡ expr_bytes types c + stmt_bytes types x
unfolding item_bytes stmt_bytes
stmt_bytes-While types c x = ap (fold-TypedStmt ℕ ℕ (item_bytes_at types) (stmt_bytes_at types)) (sym (rolls-TypedStmt-While c x)) ∙ fold-roll-TypedStmt ℕ ℕ (item_bytes_at types) (stmt_bytes_at types) (TypedStmt-F.While c x)

pub stmt_bytes-Do : (types : Types) (x : TypedStmt) (c : TypedExpr) → stmt_bytes types (stmt.Do x c) ≡ stmt_bytes types x + expr_bytes types c
unfolding item_bytes stmt_bytes
stmt_bytes-Do types x c = ap (fold-TypedStmt ℕ ℕ (item_bytes_at types) (stmt_bytes_at types)) (sym (rolls-TypedStmt-Do x c)) ∙ fold-roll-TypedStmt ℕ ℕ (item_bytes_at types) (stmt_bytes_at types) (TypedStmt-F.Do x c)

pub stmt_bytes-For : (types : Types) (a : ForBegin) (c : Option TypedExpr) (b : Option TypedExpr) (x : TypedStmt) → stmt_bytes types (stmt.For a c b x) ≡ begin_bytes types a + optional_bytes types c + optional_bytes types b + stmt_bytes types x
unfolding item_bytes stmt_bytes
stmt_bytes-For types a c b x = ap (fold-TypedStmt ℕ ℕ (item_bytes_at types) (stmt_bytes_at types)) (sym (rolls-TypedStmt-For a c b x)) ∙ fold-roll-TypedStmt ℕ ℕ (item_bytes_at types) (stmt_bytes_at types) (TypedStmt-F.For a c b x)

pub stmt_bytes-Return : (types : Types) (e : Option TypedExpr) → stmt_bytes types (stmt.Return e) ≡ optional_bytes types e
unfolding item_bytes stmt_bytes
stmt_bytes-Return types e = ap (fold-TypedStmt ℕ ℕ (item_bytes_at types) (stmt_bytes_at types)) (sym (rolls-TypedStmt-Return e)) ∙ fold-roll-TypedStmt ℕ ℕ (item_bytes_at types) (stmt_bytes_at types) (TypedStmt-F.Return e)

pub stmt_bytes-VaStart : (types : Types) → stmt_bytes types stmt.VaStart ≡ 0
unfolding item_bytes stmt_bytes
stmt_bytes-VaStart types = ap (fold-TypedStmt ℕ ℕ (item_bytes_at types) (stmt_bytes_at types)) (sym rolls-TypedStmt-VaStart) ∙ fold-roll-TypedStmt ℕ ℕ (item_bytes_at types) (stmt_bytes_at types) TypedStmt-F.VaStart

pub stmt_bytes-VaEnd : (types : Types) → stmt_bytes types stmt.VaEnd ≡ 0
unfolding item_bytes stmt_bytes
stmt_bytes-VaEnd types = ap (fold-TypedStmt ℕ ℕ (item_bytes_at types) (stmt_bytes_at types)) (sym rolls-TypedStmt-VaEnd) ∙ fold-roll-TypedStmt ℕ ℕ (item_bytes_at types) (stmt_bytes_at types) TypedStmt-F.VaEnd

pub ruleset place_sums = (place_bytes-Local, place_bytes-Global, place_bytes-Target, place_bytes-Arrow, place_bytes-Field, place_bytes-Element)

pub ruleset expr_sums = (expr_bytes-Number, expr_bytes-Char, expr_bytes-Null, expr_bytes-Function, expr_bytes-Load, expr_bytes-Address, expr_bytes-Same, expr_bytes-Negate, expr_bytes-Complement, expr_bytes-Not, expr_bytes-Convert, expr_bytes-Binary, expr_bytes-Compare, expr_bytes-And, expr_bytes-Or, expr_bytes-Conditional, expr_bytes-Assign, expr_bytes-Update, expr_bytes-Before, expr_bytes-After, expr_bytes-Call, expr_bytes-CallPointer, expr_bytes-CallService, expr_bytes-VaArg, expr_bytes-FieldOf, expr_bytes-ElementOf)

pub ruleset item_sums = (item_bytes-Declare, item_bytes-VaList, item_bytes-Stmt)

pub ruleset stmt_sums = (stmt_bytes-Block, stmt_bytes-Empty, stmt_bytes-Effect, stmt_bytes-Break, stmt_bytes-Continue, stmt_bytes-If, stmt_bytes-IfElse, stmt_bytes-While, stmt_bytes-Do, stmt_bytes-For, stmt_bytes-Return, stmt_bytes-VaStart, stmt_bytes-VaEnd)
