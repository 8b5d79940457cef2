-- Blocks: what leaves one, and declarators as items, one more at a time.
use Rattle.std.proofs.Common.{◌≡◌, ℕ, Bool, ◌+◌, ◌<◌, ◌≤◌, List, [], ◌∷◌, ◌++◌, map, drop, length, get_or, Option, Result, Ok, Err, refl, sym, ap, ◌∙◌, subst, append_assoc, append-nil}
use Rattle.std.proofs.lemmas.List.{drop_all}
use Rattle.c_tree.specs.declared.expressions.Expr.{Expr}
use Rattle.c_tree.specs.declared.statements.LocalDecl.{LocalDecl}
use Rattle.c_tree.specs.declared.statements.ForStart.{ForStart}
use Rattle.c_tree.specs.declared.statements.Stmt.{Stmt}
use Rattle.c_tree.specs.declared.statements.Stmt.TheVariants as stmt
use Rattle.c_types.specs.declared.types.Span.{Span}
use Rattle.c_typing.specs.declared.tables.Enclosing.{Enclosing}
use Rattle.c_typing.proofs.StmtLaws.{visit_stmt-IfElse}
use Rattle.check_types.proofs.VisitLaws.{leaves_next}
use Rattle.c_program.specs.declared.statements.Declared.{Declared}
use Rattle.c_program.specs.declared.statements.TypedItem.{TypedItem}
use Rattle.c_program.specs.declared.statements.TypedItem.TheVariants as item
use Rattle.c_program.specs.declared.expressions.TypedExpr.{TypedExpr}
use Rattle.c_program.specs.declared.statements.TypedStmt.{TypedStmt}
use Rattle.c_program.specs.declared.statements.TypedStmt.TheVariants as typed
use Rattle.c_typing.specs.declared.operands.Value.{Value}
use Rattle.c_typing.specs.Conversions.{as_scalar}
use Rattle.c_typing.specs.declared.scopes.UnitScope.{UnitScope}
use Rattle.c_typing.specs.declared.faults.Fault.{Fault}
use Rattle.c_typing.specs.declared.faults.Refusal.{Refusal}
use Rattle.c_typing.specs.declared.faults.Refusal.TheVariants as refusal
use Rattle.c_typing.specs.declared.scopes.LocalName.{LocalName}
use Rattle.c_typing.specs.declared.scopes.LocalScope.{LocalScope}
use Rattle.c_typing.specs.declared.tables.Tables.{Tables}
use Rattle.c_typing.specs.Visits.{Visit, ◌>>=◌, Leaves, Tells, onward, followed, give, judged, judged_from}
use Rattle.c_typing.specs.Scopes.{inside}
use Rattle.c_typing.specs.Statements.{Scoped, ScopeVisit, StmtVisit, in_scopes, scoped_behind, visit_value, visit_stmt, visit_if_else, visit_for}
use Rattle.c_typing.proofs.LoopLaws.{rest_is, scopes_refused}
use Rattle.check_decls.specs.Steps.{LeavesOne, LeavesAll}
use Rattle.check_stmt.specs.Blocks.{LeavesScope, items_behind, left_block, either_of, visit_for_inside}

-- the last element and those before it
pub last_same : {A : Type 0} (xs ys : List A) (x y : A) → xs ++ x ∷ [] ≡ ys ++ y ∷ [] → (xs ≡ ys) × (x ≡ y)
last_same [] [] x y h = (refl, cc)
last_same [] (b ∷ []) x y h = cc
last_same [] (b ∷ c ∷ ys) x y h = cc
last_same (a ∷ []) [] x y h = cc
last_same (a ∷ c ∷ xs) [] x y h = cc
last_same (a ∷ xs) (b ∷ ys) x y h =
    let rest : xs ++ x ∷ [] ≡ ys ++ y ∷ [] = cc in
    let head : a ≡ b = cc in
    let both = last_same xs ys x y rest in
    (ap (λ zs. a ∷ zs) both.0 ∙ ap (λ z. z ∷ ys) head, both.1)

items-cons : (front : List TypedItem) (y : Declared) (r : Result (Scoped (List Declared) × Tables) Fault) →
    items_behind front (onward r (λ rest. give (record { part = y ∷ [] ++ rest.part; locals = rest.locals }))) ≡ items_behind (front ++ item.Declare y ∷ []) r
unfolding give
items-cons front y (Ok x) = ap (λ ys. Ok (record { part = ys; locals = x.0.locals }, x.1)) (sym (append_assoc front (item.Declare y ∷ []) (map item.Declare x.0.part)))
items-cons front y (Err e) = refl

items-next : (front : List TypedItem) (v : ScopeVisit Declared) (vs : List (ScopeVisit Declared)) (locals after : LocalScope) (t t' : Tables) (y : Declared) →
    v locals t ≡ Ok (record { part = y ∷ []; locals = after }, t') → items_behind front (in_scopes (v ∷ vs) locals t) ≡ items_behind (front ++ item.Declare y ∷ []) (in_scopes vs after t')
unfolding in_scopes followed
items-next front v vs locals after t t' y e =
    ap (λ r. items_behind front (onward r (λ x. followed (in_scopes vs x.locals) (λ rest. give (record { part = x.part ++ rest.part; locals = rest.locals }))))) e
    ∙ items-cons front y (in_scopes vs after t')

-- one more declarator
pub items_more : (visit : LocalDecl → ScopeVisit Declared) (xs : List LocalDecl) (i : ℕ) (x : LocalDecl) (front next : List TypedItem) (locals after : LocalScope) (t t' : Tables) (y : Declared) (whole : Result (Scoped (List TypedItem) × Tables) Fault) →
    i < length xs → x ≡ get_or xs i x → visit x locals t ≡ Ok (record { part = y ∷ []; locals = after }, t') → next ≡ front ++ item.Declare y ∷ [] →
    items_behind front (in_scopes (map visit (drop i xs)) locals t) ≡ whole → items_behind next (in_scopes (map visit (drop (i + 1) xs)) after t') ≡ whole
items_more visit xs i x front next locals after t t' y whole h e v n inv =
    ap (λ ys. items_behind ys (in_scopes (map visit (drop (i + 1) xs)) after t')) n
    ∙ sym (ap (λ ys. items_behind front (in_scopes (map visit ys) locals t)) (rest_is xs i x h e) ∙ items-next front (visit x) (map visit (drop (i + 1) xs)) locals after t t' y v)
    ∙ inv

items-failed : (front : List TypedItem) (v : ScopeVisit Declared) (vs : List (ScopeVisit Declared)) (locals : LocalScope) (t : Tables) (f : Fault) →
    v locals t ≡ Err f → items_behind front (in_scopes (v ∷ vs) locals t) ≡ Err f
unfolding in_scopes followed
items-failed front v vs locals t f e = ap (λ r. items_behind front (onward r (λ x. followed (in_scopes vs x.locals) (λ rest. give (record { part = x.part ++ rest.part; locals = rest.locals }))))) e

-- a call for a declarator refused
pub items_left : (visit : LocalDecl → ScopeVisit Declared) (xs : List LocalDecl) (i : ℕ) (x : LocalDecl) (front : List TypedItem) (locals after : LocalScope) (t t' : Tables) (e : Refusal) (whole : Result (Scoped (List TypedItem) × Tables) Fault) →
    i < length xs → x ≡ get_or xs i x → LeavesOne (visit x locals t) (Err e) after t' → items_behind front (in_scopes (map visit (drop i xs)) locals t) ≡ whole → LeavesAll whole (Err e) after t'
items_left visit xs i x front locals after t t' (refusal.Fault f) whole h w v inv =
    sym inv ∙ ap (λ ys. items_behind front (in_scopes (map visit ys) locals t)) (rest_is xs i x h w) ∙ items-failed front (visit x) (map visit (drop (i + 1) xs)) locals t f v
items_left visit xs i x front locals after t t' refusal.NoMemory whole h w v inv = tt

-- no declarator is left
pub items_whole : (visit : LocalDecl → ScopeVisit Declared) (xs : List LocalDecl) (i : ℕ) (front : List TypedItem) (locals : LocalScope) (t : Tables) (whole : Result (Scoped (List TypedItem) × Tables) Fault) →
    length xs ≤ i → items_behind front (in_scopes (map visit (drop i xs)) locals t) ≡ whole → whole ≡ Ok (record { part = front; locals = locals }, t)
unfolding in_scopes give
items_whole visit xs i front locals t whole h inv =
    sym inv ∙ ap (λ ys. items_behind front (in_scopes (map visit ys) locals t)) (drop_all i xs h) ∙ ap (λ ys. Ok (record { part = ys; locals = locals }, t)) (append-nil front)

-- the innermost block is the one that goes on
pub left_as : (outer rest : List (List LocalName)) (own : List LocalName) → outer ≡ rest ++ own ∷ [] → left_block outer (record { own = own; outer = rest })
left_as outer rest own e around h =
    let both = last_same rest around.outer own around.own (sym e ∙ h) in
    ap (λ (x : List LocalName). record { own = x; outer = rest }) both.1 ∙ ap (λ (x : List (List LocalName)). record { own = around.own; outer = x }) both.0

pub left_none : (outer : List (List LocalName)) (locals : LocalScope) → outer ≡ [] → left_block outer locals
left_none outer locals e around h = absurd (none around.outer around.own (sym h ∙ e))
  where
    none : (xs : List (List LocalName)) (x : List LocalName) → xs ++ x ∷ [] ≡ [] → ⊥
    none [] x h = cc
    none (y ∷ ys) x h = cc

-- a call for an item refused
pub scopes_refused_all : {A B : Type 0} (visit : A → ScopeVisit B) (xs : List A) (i : ℕ) (x : A) (front : List B) (locals after : LocalScope) (t t' : Tables) (e : Refusal) (whole : Result (Scoped (List B) × Tables) Fault) →
    i < length xs → x ≡ get_or xs i x → LeavesAll (visit x locals t) (Err e) after t' → scoped_behind front (in_scopes (map visit (drop i xs)) locals t) ≡ whole → LeavesAll whole (Err e) after t'
scopes_refused_all visit xs i x front locals after t t' (refusal.Fault f) whole h w v inv = scopes_refused visit xs i x front locals t f whole h w v inv
scopes_refused_all visit xs i x front locals after t t' refusal.NoMemory whole h w v inv = tt

-- a call for a part refused: so does what goes on after the part
pub all_refused : {A B : Type 0} (rule : Result (Scoped (List A) × Tables) Fault) (next : Scoped (List A) → Visit Tables B) (e : Refusal) (locals : LocalScope) (s s' : Tables) →
    LeavesAll {A = A} rule (Err e) locals s → Leaves {A = B} (onward rule next) (Err e) s'
all_refused rule next (refusal.Fault f) locals s s' h = ap (λ r. onward r next) h
all_refused rule next refusal.NoMemory locals s s' h = tt

pub scope_refused : {A B : Type 0} (rule : Result (Scoped A × Tables) Fault) (next : Scoped A → Visit Tables B) (e : Refusal) (locals : LocalScope) (s s' : Tables) →
    LeavesScope {A = A} rule (Err e) locals s → Leaves {A = B} (onward rule next) (Err e) s'
scope_refused rule next (refusal.Fault f) locals s s' h = ap (λ r. onward r next) h
scope_refused rule next refusal.NoMemory locals s s' h = tt

pub start_refused_all : {A B : Type 0} (rule : Result (Scoped (List A) × Tables) Fault) (next : Scoped (List A) → Visit Tables (Scoped B)) (e : Refusal) (locals after : LocalScope) (s s' : Tables) →
    LeavesAll {A = A} rule (Err e) locals s → LeavesScope {A = B} (onward rule next) (Err e) after s'
start_refused_all rule next (refusal.Fault f) locals after s s' h = ap (λ r. onward r next) h
start_refused_all rule next refusal.NoMemory locals after s s' h = tt

pub start_refused : {A B : Type 0} (rule : Result (A × Tables) Fault) (next : A → Visit Tables (Scoped B)) (e : Refusal) (after : LocalScope) (s s' : Tables) →
    Leaves {A = A} rule (Err e) s → LeavesScope {A = B} (onward rule next) (Err e) after s'
start_refused rule next (refusal.Fault f) after s s' h = ap (λ r. onward r next) h
start_refused rule next refusal.NoMemory after s s' h = tt

pub item_refused : {A B : Type 0} (rule : Result (A × Tables) Fault) (next : A → Visit Tables (Scoped (List B))) (e : Refusal) (after : LocalScope) (s s' : Tables) →
    Leaves {A = A} rule (Err e) s → LeavesAll {A = B} (onward rule next) (Err e) after s'
item_refused rule next (refusal.Fault f) after s s' h = ap (λ r. onward r next) h
item_refused rule next refusal.NoMemory after s s' h = tt

-- a `for` from its first part on
pub for_entered : (unit : UnitScope) (at : ℕ) (a : ForStart) (c b : Option Expr) (x : StmtVisit) (locals around : LocalScope) (t s : Tables) (r : Result TypedStmt Refusal) →
    locals ≡ inside around → Leaves (visit_for_inside unit at a c b x locals t) r s → Leaves (visit_for unit at a c b x around t) r s
unfolding visit_for_inside
for_entered unit at a c b x locals around t s r e h = subst (λ (l : LocalScope). Leaves (visit_for_inside unit at a c b x l t) r s) e h

-- what a block that begins and ends leaves is the scope around it
pub left_again : (before inner after around : LocalScope) → before ≡ inside around → inner.outer ≡ before.outer → left_block inner.outer after → after ≡ around
left_again before inner after around e o h = h around (o ∙ ap (λ (x : LocalScope). x.outer) e)

-- an `if` with an `else` behind its parts
pub either_left : (at : ℕ) (v : Value) (first second : TypedStmt) (t s : Tables) (e : Refusal) → Tells {A = TypedExpr} (as_scalar at v) (Err e) → Leaves {A = TypedStmt} (either_of at v first second t) (Err e) s
unfolding followed judged
either_left at v first second t s (refusal.Fault f) h = ap (λ r. onward (judged_from r t) (λ e. give (typed.IfElse e first second))) h
either_left at v first second t s refusal.NoMemory h = tt

pub either_done : (at : ℕ) (v : Value) (first second y n : TypedStmt) (k : TypedExpr) (t : Tables) → as_scalar at v ≡ Ok k → y ≡ first → n ≡ second → either_of at v first second t ≡ Ok (typed.IfElse k y n, t)
unfolding followed judged give
either_done at v first second y n k t h i j =
    ap (λ r. onward (judged_from r t) (λ e. give (typed.IfElse e first second))) h ∙ ap (λ x. Ok (typed.IfElse k x second, t)) (sym i) ∙ ap (λ x. Ok (typed.IfElse k y x, t)) (sym j)

else_parts : (at : ℕ) (c : Visit Tables Value) (x y : Visit Tables TypedStmt) (t t1 t2 t3 s : Tables) (v : Value) (a b : TypedStmt) (r : Result TypedStmt Refusal) →
    c t ≡ Ok (v, t1) → x t1 ≡ Ok (a, t2) → y t2 ≡ Ok (b, t3) → Leaves (either_of at v a b t3) r s → Leaves (visit_if_else at c x y t) r s
unfolding followed
else_parts at c x y t t1 t2 t3 s v a b r p q w h =
    leaves_next (c t) (λ (v' : Value). x >>= (λ (a' : TypedStmt). y >>= (λ (b' : TypedStmt). either_of at v' a' b'))) v t1 r s p
    (leaves_next (x t1) (λ (a' : TypedStmt). y >>= (λ (b' : TypedStmt). either_of at v a' b')) a t2 r s q
    (leaves_next (y t2) (λ (b' : TypedStmt). either_of at v a b') b t3 r s w h))

-- an `if` with an `else`, whose second branch is visited in the scope that the first left
pub else_rest : (unit : UnitScope) (f : Enclosing) (loop : Bool) (locals after : LocalScope) (x : Stmt) (at : Span) (e : Expr) (first second : Stmt) (t t1 t2 t3 s : Tables) (v : Value) (a b : TypedStmt) (r : Result TypedStmt Refusal) →
    x ≡ stmt.IfElse at e first second → visit_value unit locals e t ≡ Ok (v, t1) → visit_stmt unit f first loop locals t1 ≡ Ok (a, t2) → after ≡ locals → visit_stmt unit f second loop after t2 ≡ Ok (b, t3) →
    Leaves (either_of at.start v a b t3) r s → Leaves (visit_stmt unit f x loop locals t) r s
else_rest unit f loop locals after x at e first second t t1 t2 t3 s v a b r is p q k w h =
    let parts : Leaves (visit_if_else at.start (visit_value unit locals e) (visit_stmt unit f first loop locals) (visit_stmt unit f second loop locals) t) r s =
    else_parts at.start (visit_value unit locals e) (visit_stmt unit f first loop locals) (visit_stmt unit f second loop locals) t t1 t2 t3 s v a b r p q (subst (λ (l : LocalScope). visit_stmt unit f second loop l t2 ≡ Ok (b, t3)) k w) h in
    subst (λ (z : Stmt). Leaves (visit_stmt unit f z loop locals t) r s) (sym is) (subst (λ (z : Result (TypedStmt × Tables) Fault). Leaves z r s) (sym (visit_stmt-IfElse unit f at e first second loop locals t)) parts)
