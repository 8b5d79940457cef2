-- Statements and the declarations of locals (C11, 6.8 and 6.7).
use Rattle.std.specs.Prelude.{ℕ, ◌-◌, Bool, true, false, ◌==◌, List, [], ◌∷◌, ◌++◌, map, length, Option, Some, None, Result, Ok, Err, if◌then◌else◌}
use Rattle.c_types.specs.declared.types.Ty.{Ty}
use Rattle.c_tree.specs.declared.expressions.Name.{Name}
use Rattle.c_tree.specs.declared.expressions.Base.{Base}
use Rattle.c_tree.specs.declared.expressions.Expr.{Expr}
use Rattle.c_tree.specs.declared.statements.LocalDecl.{LocalDecl}
use Rattle.c_tree.specs.declared.statements.Local.{Local}
use Rattle.c_tree.specs.declared.statements.Local.TheVariants as local
use Rattle.c_tree.specs.declared.statements.ForStart.{ForStart}
use Rattle.c_tree.specs.declared.statements.ForStart.TheVariants as start
use Rattle.c_tree.specs.declared.statements.BlockItem.{BlockItem}
use Rattle.c_tree.specs.declared.statements.Stmt.{Stmt}
use Rattle.c_tree.specs.declared.statements.BlockItem.TheOpen.{BlockItem-F, Stmt-F}
use Rattle.c_tree.specs.declared.statements.BlockItem.TheFolds.{fold-BlockItem, fold-Stmt}
use Rattle.c_program.specs.declared.expressions.TypedExpr.{TypedExpr}
use Rattle.c_program.specs.declared.statements.Declared.{Declared}
use Rattle.c_program.specs.declared.statements.ForBegin.{ForBegin}
use Rattle.c_program.specs.declared.statements.ForBegin.TheVariants as begin
use Rattle.c_program.specs.declared.statements.TypedItem.{TypedItem}
use Rattle.c_program.specs.declared.statements.TypedItem.TheVariants as item
use Rattle.c_program.specs.declared.statements.TypedStmt.{TypedStmt}
use Rattle.c_program.specs.declared.statements.TypedStmt.TheVariants as typed
use Rattle.c_typing.specs.declared.faults.Fault.{Fault}
use Rattle.c_typing.specs.declared.faults.TypeKind.TheVariants as kind
use Rattle.c_typing.specs.declared.scopes.UnitScope.{UnitScope}
use Rattle.c_typing.specs.declared.scopes.LocalMeaning.{LocalMeaning}
use Rattle.c_typing.specs.declared.scopes.LocalMeaning.TheVariants as meaning
use Rattle.c_typing.specs.declared.scopes.LocalScope.{LocalScope}
use Rattle.c_typing.specs.declared.operands.Value.{Value}
use Rattle.c_typing.specs.declared.tables.Tables.{Tables}
use Rattle.c_typing.specs.declared.tables.Enclosing.{Enclosing}
use Rattle.c_typing.specs.Visits.{Visit, fault, or_fault, and_then, ◌>>=◌, give, refuse, judged, optionally}
use Rattle.c_typing.specs.Scopes.{named, local_meaning, is_taken, with_local, inside}
use Rattle.c_typing.specs.TypeForms.{is_void, declared_type}
use Rattle.c_typing.specs.Conversions.{as_effect, as_scalar, converted_to}
use Rattle.c_typing.specs.Expressions.{visit_expr, value, list_of}

-- a visited part, and the scope behind it
pub record Scoped (A : Type 0) : Type 0 where
  pub part : A
  pub locals : LocalScope

-- a visit of a part of a block, from the scope before it
abbrev pub ScopeVisit : Type 0 → Type 0
ScopeVisit A = LocalScope → Visit Tables (Scoped (List A))

-- parts in order, each in the scope behind the one before
unfoldable pub in_scopes : {A : Type 0} → List (ScopeVisit A) → ScopeVisit A
in_scopes [] locals = give (record { part = []; locals = locals })
in_scopes (v ∷ vs) locals =
    v locals >>= (λ first.
    in_scopes vs first.locals >>= (λ rest.
    give (record { part = first.part ++ rest.part; locals = rest.locals })))

-- what parts in scopes give, behind what those before them gave
abbrev pub scoped_behind : {A : Type 0} → List A → Result (Scoped (List A) × Tables) Fault → Result (Scoped (List A) × Tables) Fault
scoped_behind front (Ok x) = Ok (record { part = front ++ x.0.part; locals = x.0.locals }, x.1)
scoped_behind front (Err e) = Err e

-- Locals

-- a local gets the next number; a parameter is a local
unfoldable pub enter_local : Ty → Visit Tables ℕ
enter_local ty t = Ok (length t.locals, record t { locals = t.locals ++ ty ∷ [] })

-- a name that a local may have
unfoldable pub free_name : UnitScope → LocalScope → Name → Visit Tables (Unit {0})
free_name unit locals n = if is_taken unit locals n.text then refuse kind.Redeclared n.span.start else give tt

-- an expression that is used as a value, or for its effect
abbrev pub visit_value : UnitScope → LocalScope → Expr → Visit Tables Value
visit_value unit locals e = value (visit_expr unit locals e)

abbrev pub visit_effect : UnitScope → LocalScope → Expr → Visit Tables TypedExpr
visit_effect unit locals e = visit_expr unit locals e >>= (λ o. judged (as_effect o))

-- an initial value is converted as if by assignment (6.7.9p11); it sees the local itself (6.2.1p7)
unfoldable pub visit_initial : UnitScope → LocalScope → ℕ → Ty → Expr → Visit Tables TypedExpr
visit_initial unit locals at ty e = visit_value unit locals e >>= (λ v. judged (or_fault kind.Mismatch at (converted_to ty v)))

unfoldable pub visit_declarator : UnitScope → Base → LocalDecl → ScopeVisit Declared
visit_declarator unit b d locals =
    free_name unit locals d.decl.name >>= (λ u.
    declared_type unit b d.decl >>= (λ ty.
    enter_local ty >>= (λ n.
    let after : LocalScope = with_local d.decl.name.text (meaning.Variable n ty) locals in
    optionally (visit_initial unit after d.decl.name.span.start ty) d.init >>= (λ init.
    give (record { part = (record { local = n; ty = ty; init = init }) ∷ []; locals = after })))))

unfoldable pub visit_declarators : UnitScope → Base → List LocalDecl → ScopeVisit Declared
visit_declarators unit b ds locals = in_scopes (map (visit_declarator unit b) ds) locals

-- a function that more arguments can follow has at most one `va_list`, and no other function has one
-- (this project's own)
unfoldable pub enter_list : Enclosing → ℕ → Visit Tables (Unit {0})
enter_list f at t = if f.variadic then (if t.has_list then Err (fault kind.Variadic at) else Ok (tt, record t { has_list = true })) else Err (fault kind.Variadic at)

unfoldable pub visit_list : UnitScope → Enclosing → Name → ScopeVisit TypedItem
visit_list unit f n locals =
    free_name unit locals n >>= (λ u.
    enter_list f n.span.start >>= (λ w.
    give (record { part = item.VaList ∷ []; locals = with_local n.text meaning.VaList locals })))

abbrev pub visit_local : UnitScope → Enclosing → Local → ScopeVisit TypedItem
visit_local unit f (local.Declared b ds) locals = visit_declarators unit b ds locals >>= (λ x. give (record { part = map item.Declare x.part; locals = x.locals }))
visit_local unit f (local.VaList s n) locals = visit_list unit f n locals

-- Statements

abbrev pub condition_of : ℕ → Value → Visit Tables TypedExpr
condition_of at v = judged (as_scalar at v)

-- `return`: a value exactly where the function gives one, converted as if by assignment (6.8.6.4)
abbrev pub returned : Enclosing → ℕ → Option Value → Result (Option TypedExpr) Fault
returned f at None = if is_void f.result then Ok None else Err (fault kind.Flow at)
returned f at (Some v) = if is_void f.result then Err (fault kind.Flow at) else and_then (or_fault kind.Mismatch at (converted_to f.result v)) (λ e. Ok (Some e))

-- the last fixed parameter (7.16.1.4p4), not another name that hides it
abbrev pub is_last : Enclosing → Option LocalMeaning → Bool
is_last f None = false
is_last f (Some (meaning.Variable n ty)) = n == f.parameters - 1
is_last f (Some meaning.VaList) = false

unfoldable pub started : UnitScope → Enclosing → LocalScope → ℕ → Name → Name → Result TypedStmt Fault
started unit f locals at l n =
    and_then (or_fault kind.Unknown at (named unit locals l.text)) (λ d.
    and_then (or_fault kind.Unknown at (named unit locals n.text)) (λ e.
    and_then (list_of at (Some d)) (λ u.
    if is_last f (local_meaning locals n.text) then Ok typed.VaStart else Err (fault kind.Variadic at))))

unfoldable pub ended : UnitScope → LocalScope → ℕ → Name → Result TypedStmt Fault
ended unit locals at l = and_then (list_of at (named unit locals l.text)) (λ u. Ok typed.VaEnd)

-- what a block's item and a statement give, from whether a loop is around and the scope before them
abbrev pub ItemVisit : Type 0
ItemVisit = Bool → ScopeVisit TypedItem

abbrev pub StmtVisit : Type 0
StmtVisit = Bool → LocalScope → Visit Tables TypedStmt

abbrev pub visit_start : UnitScope → LocalScope → ForStart → Visit Tables (Scoped ForBegin)
visit_start unit locals (start.Local b ds) = visit_declarators unit b ds locals >>= (λ x. give (record { part = begin.Locals x.part; locals = x.locals }))
visit_start unit locals (start.Effect e) = visit_effect unit locals e >>= (λ x. give (record { part = begin.Effect x; locals = locals }))
visit_start unit locals start.Nothing = give (record { part = begin.Nothing; locals = locals })

abbrev pub visit_block_item_at : UnitScope → Enclosing → BlockItem-F ItemVisit StmtVisit → ItemVisit
visit_block_item_at unit f (BlockItem-F.Local d) loop locals = visit_local unit f d locals
visit_block_item_at unit f (BlockItem-F.Stmt x) loop locals = x loop locals >>= (λ y. give (record { part = item.Stmt y ∷ []; locals = locals }))

-- `break` and `continue` stand in a loop (6.8.6.2, 6.8.6.3)
abbrev pub jump : ℕ → TypedStmt → Bool → Visit Tables TypedStmt
jump at x loop = if loop then give x else refuse kind.Flow at

-- the parts of a statement come first, and then the rule that a condition is scalar (6.8.4.1, 6.8.5)
abbrev pub visit_if : ℕ → Visit Tables Value → Visit Tables TypedStmt → Visit Tables TypedStmt
visit_if at c x = c >>= (λ v. x >>= (λ y. condition_of at v >>= (λ e. give (typed.If e y))))

abbrev pub visit_if_else : ℕ → Visit Tables Value → Visit Tables TypedStmt → Visit Tables TypedStmt → Visit Tables TypedStmt
visit_if_else at c x y = c >>= (λ v. x >>= (λ a. y >>= (λ b. condition_of at v >>= (λ e. give (typed.IfElse e a b)))))

abbrev pub visit_while : ℕ → Visit Tables Value → Visit Tables TypedStmt → Visit Tables TypedStmt
visit_while at c x = c >>= (λ v. x >>= (λ y. condition_of at v >>= (λ e. give (typed.While e y))))

abbrev pub visit_do : ℕ → Visit Tables TypedStmt → Visit Tables Value → Visit Tables TypedStmt
visit_do at x c = x >>= (λ y. c >>= (λ v. condition_of at v >>= (λ e. give (typed.Do y e))))

-- what a `for` begins with is in scope to its end (6.8.5.3, 6.8.5p5)
abbrev pub visit_for : UnitScope → ℕ → ForStart → Option Expr → Option Expr → StmtVisit → LocalScope → Visit Tables TypedStmt
visit_for unit at a c b x locals =
    visit_start unit (inside locals) a >>= (λ first.
    optionally (visit_value unit first.locals) c >>= (λ test.
    optionally (visit_effect unit first.locals) b >>= (λ step.
    x true first.locals >>= (λ body.
    optionally (condition_of at) test >>= (λ e.
    give (typed.For first.part e step body))))))

abbrev pub visit_stmt_at : UnitScope → Enclosing → Stmt-F ItemVisit StmtVisit → StmtVisit
visit_stmt_at unit f (Stmt-F.Block s xs) loop locals = in_scopes (map (λ (v : ItemVisit). v loop) xs) (inside locals) >>= (λ x. give (typed.Block x.part))
visit_stmt_at unit f (Stmt-F.Empty s) loop locals = give typed.Empty
visit_stmt_at unit f (Stmt-F.Effect e) loop locals = visit_effect unit locals e >>= (λ x. give (typed.Effect x))
visit_stmt_at unit f (Stmt-F.Break s) loop locals = jump s.start typed.Break loop
visit_stmt_at unit f (Stmt-F.Continue s) loop locals = jump s.start typed.Continue loop
visit_stmt_at unit f (Stmt-F.If s c x) loop locals = visit_if s.start (visit_value unit locals c) (x loop locals)
visit_stmt_at unit f (Stmt-F.IfElse s c x y) loop locals = visit_if_else s.start (visit_value unit locals c) (x loop locals) (y loop locals)
visit_stmt_at unit f (Stmt-F.While s c x) loop locals = visit_while s.start (visit_value unit locals c) (x true locals)
visit_stmt_at unit f (Stmt-F.Do s x c) loop locals = visit_do s.start (x true locals) (visit_value unit locals c)
visit_stmt_at unit f (Stmt-F.For s a c b x) loop locals = visit_for unit s.start a c b x locals
visit_stmt_at unit f (Stmt-F.Return s e) loop locals = optionally (visit_value unit locals) e >>= (λ v. judged (returned f s.start v) >>= (λ x. give (typed.Return x)))
visit_stmt_at unit f (Stmt-F.VaStart s l n) loop locals = judged (started unit f locals s.start l n)
visit_stmt_at unit f (Stmt-F.VaEnd s l) loop locals = judged (ended unit locals s.start l)

unfoldable pub visit_block_item : UnitScope → Enclosing → BlockItem → ItemVisit
visit_block_item unit f = fold-BlockItem ItemVisit StmtVisit (visit_block_item_at unit f) (visit_stmt_at unit f)

unfoldable pub visit_stmt : UnitScope → Enclosing → Stmt → StmtVisit
visit_stmt unit f = fold-Stmt ItemVisit StmtVisit (visit_block_item_at unit f) (visit_stmt_at unit f)

-- what a block holds, in order
unfoldable pub visit_block : UnitScope → Enclosing → Bool → List BlockItem → ScopeVisit TypedItem
visit_block unit f loop items locals = in_scopes (map (λ x. visit_block_item unit f x loop) items) locals

-- the block of a function, which is the scope of its parameters too (6.2.1p4)
abbrev pub visit_body : UnitScope → Enclosing → LocalScope → List BlockItem → Visit Tables (Scoped (List TypedItem))
visit_body unit f parameters items = visit_block unit f false items parameters
