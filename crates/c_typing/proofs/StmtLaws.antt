-- What each statement gives, from its parts.
use Rattle.std.proofs.Common.{◌≡◌, Bool, true, [], ◌∷◌, List, Option, sym, ap, ◌∙◌}
use Rattle.c_types.specs.declared.types.Span.{Span}
use Rattle.c_tree.specs.declared.expressions.Name.{Name}
use Rattle.c_tree.specs.declared.expressions.Expr.{Expr}
use Rattle.c_tree.specs.declared.statements.Local.{Local}
use Rattle.c_tree.specs.declared.statements.ForStart.{ForStart}
use Rattle.c_tree.specs.declared.statements.BlockItem.{BlockItem}
use Rattle.c_tree.specs.declared.statements.Stmt.{Stmt}
use Rattle.c_tree.specs.declared.statements.BlockItem.TheOpen.{BlockItem-F, Stmt-F}
use Rattle.c_tree.specs.declared.statements.BlockItem.TheFolds.{fold-BlockItem, fold-Stmt, fold-roll-BlockItem, fold-roll-Stmt}
use Rattle.c_tree.specs.declared.statements.BlockItem.TheVariants as block_item
use Rattle.c_tree.specs.declared.statements.BlockItem.TheVariants.{rolls-Local as rolls-BlockItem-Local, rolls-Stmt as rolls-BlockItem-Stmt}
use Rattle.c_tree.specs.declared.statements.Stmt.TheVariants as stmt
use Rattle.c_tree.specs.declared.statements.Stmt.TheVariants.{rolls-Block as rolls-Stmt-Block, rolls-Empty as rolls-Stmt-Empty, rolls-Effect as rolls-Stmt-Effect, rolls-Break as rolls-Stmt-Break, rolls-Continue as rolls-Stmt-Continue, rolls-If as rolls-Stmt-If, rolls-IfElse as rolls-Stmt-IfElse, rolls-While as rolls-Stmt-While, rolls-Do as rolls-Stmt-Do, rolls-For as rolls-Stmt-For, rolls-Return as rolls-Stmt-Return, rolls-VaStart as rolls-Stmt-VaStart, rolls-VaEnd as rolls-Stmt-VaEnd}
use Rattle.c_program.specs.declared.statements.TypedItem.{TypedItem}
use Rattle.c_program.specs.declared.statements.TypedItem.TheVariants as item
use Rattle.std.proofs.lemmas.Simd.{map-map}
use Rattle.c_program.specs.declared.statements.TypedStmt.TheVariants as typed
use Rattle.c_typing.specs.declared.scopes.UnitScope.{UnitScope}
use Rattle.c_typing.specs.declared.scopes.LocalScope.{LocalScope}
use Rattle.c_typing.specs.declared.tables.Tables.{Tables}
use Rattle.c_typing.specs.declared.tables.Enclosing.{Enclosing}
use Rattle.c_typing.specs.Visits.{◌>>=◌, give, judged, optionally}
use Rattle.c_typing.specs.Scopes.{inside}
use Rattle.c_typing.specs.Statements.{ItemVisit, StmtVisit, visit_block_item_at, visit_stmt_at, visit_block_item, visit_stmt, visit_local, visit_value, visit_effect, ScopeVisit, in_scopes, visit_block, jump, visit_if, visit_if_else, visit_while, visit_do, visit_for, returned, started, ended}

pub visit_block_item-Local : (unit : UnitScope) (f : Enclosing) (d : Local) (loop : Bool) (locals : LocalScope) (t : Tables) → visit_block_item unit f (block_item.Local d) loop locals t ≡ (visit_local unit f d locals) t
unfolding visit_block_item visit_stmt
visit_block_item-Local unit f d loop locals t = ap (λ (v : ItemVisit). v loop locals t) (ap (fold-BlockItem ItemVisit StmtVisit (visit_block_item_at unit f) (visit_stmt_at unit f)) (sym (rolls-BlockItem-Local d)) ∙ fold-roll-BlockItem ItemVisit StmtVisit (visit_block_item_at unit f) (visit_stmt_at unit f) (BlockItem-F.Local d))

pub visit_block_item-Stmt : (unit : UnitScope) (f : Enclosing) (x : Stmt) (loop : Bool) (locals : LocalScope) (t : Tables) → visit_block_item unit f (block_item.Stmt x) loop locals t ≡ (visit_stmt unit f x loop locals >>= (λ y. give (record { part = item.Stmt y ∷ []; locals = locals }))) t
unfolding visit_block_item visit_stmt
visit_block_item-Stmt unit f x loop locals t = ap (λ (v : ItemVisit). v loop locals t) (ap (fold-BlockItem ItemVisit StmtVisit (visit_block_item_at unit f) (visit_stmt_at unit f)) (sym (rolls-BlockItem-Stmt x)) ∙ fold-roll-BlockItem ItemVisit StmtVisit (visit_block_item_at unit f) (visit_stmt_at unit f) (BlockItem-F.Stmt x))

pub visit_stmt-Block : (unit : UnitScope) (f : Enclosing) (s : Span) (xs : List BlockItem) (loop : Bool) (locals : LocalScope) (t : Tables) → visit_stmt unit f (stmt.Block s xs) loop locals t ≡ (visit_block unit f loop xs (inside locals) >>= (λ x. give (typed.Block x.part))) t
unfolding visit_block_item visit_stmt visit_block
visit_stmt-Block unit f s xs loop locals t = ap (λ (v : StmtVisit). v loop locals t) (ap (fold-Stmt ItemVisit StmtVisit (visit_block_item_at unit f) (visit_stmt_at unit f)) (sym (rolls-Stmt-Block s xs)) ∙ fold-roll-Stmt ItemVisit StmtVisit (visit_block_item_at unit f) (visit_stmt_at unit f) (Stmt-F.Block s xs)) ∙ ap (λ (vs : List (ScopeVisit TypedItem)). (in_scopes vs (inside locals) >>= (λ x. give (typed.Block x.part))) t) (map-map (λ (v : ItemVisit). v loop) (visit_block_item unit f) xs)

pub visit_stmt-Empty : (unit : UnitScope) (f : Enclosing) (s : Span) (loop : Bool) (locals : LocalScope) (t : Tables) → visit_stmt unit f (stmt.Empty s) loop locals t ≡ (give typed.Empty) t
unfolding visit_block_item visit_stmt
visit_stmt-Empty unit f s loop locals t = ap (λ (v : StmtVisit). v loop locals t) (ap (fold-Stmt ItemVisit StmtVisit (visit_block_item_at unit f) (visit_stmt_at unit f)) (sym (rolls-Stmt-Empty s)) ∙ fold-roll-Stmt ItemVisit StmtVisit (visit_block_item_at unit f) (visit_stmt_at unit f) (Stmt-F.Empty s))

pub visit_stmt-Effect : (unit : UnitScope) (f : Enclosing) (e : Expr) (loop : Bool) (locals : LocalScope) (t : Tables) → visit_stmt unit f (stmt.Effect e) loop locals t ≡ (visit_effect unit locals e >>= (λ x. give (typed.Effect x))) t
unfolding visit_block_item visit_stmt
visit_stmt-Effect unit f e loop locals t = ap (λ (v : StmtVisit). v loop locals t) (ap (fold-Stmt ItemVisit StmtVisit (visit_block_item_at unit f) (visit_stmt_at unit f)) (sym (rolls-Stmt-Effect e)) ∙ fold-roll-Stmt ItemVisit StmtVisit (visit_block_item_at unit f) (visit_stmt_at unit f) (Stmt-F.Effect e))

pub visit_stmt-Break : (unit : UnitScope) (f : Enclosing) (s : Span) (loop : Bool) (locals : LocalScope) (t : Tables) → visit_stmt unit f (stmt.Break s) loop locals t ≡ (jump s.start typed.Break loop) t
unfolding visit_block_item visit_stmt
visit_stmt-Break unit f s loop locals t = ap (λ (v : StmtVisit). v loop locals t) (ap (fold-Stmt ItemVisit StmtVisit (visit_block_item_at unit f) (visit_stmt_at unit f)) (sym (rolls-Stmt-Break s)) ∙ fold-roll-Stmt ItemVisit StmtVisit (visit_block_item_at unit f) (visit_stmt_at unit f) (Stmt-F.Break s))

pub visit_stmt-Continue : (unit : UnitScope) (f : Enclosing) (s : Span) (loop : Bool) (locals : LocalScope) (t : Tables) → visit_stmt unit f (stmt.Continue s) loop locals t ≡ (jump s.start typed.Continue loop) t
unfolding visit_block_item visit_stmt
visit_stmt-Continue unit f s loop locals t = ap (λ (v : StmtVisit). v loop locals t) (ap (fold-Stmt ItemVisit StmtVisit (visit_block_item_at unit f) (visit_stmt_at unit f)) (sym (rolls-Stmt-Continue s)) ∙ fold-roll-Stmt ItemVisit StmtVisit (visit_block_item_at unit f) (visit_stmt_at unit f) (Stmt-F.Continue s))

pub visit_stmt-If : (unit : UnitScope) (f : Enclosing) (s : Span) (c : Expr) (x : Stmt) (loop : Bool) (locals : LocalScope) (t : Tables) → visit_stmt unit f (stmt.If s c x) loop locals t ≡ (visit_if s.start (visit_value unit locals c) (visit_stmt unit f x loop locals)) t
unfolding visit_block_item visit_stmt
visit_stmt-If unit f s c x loop locals t = ap (λ (v : StmtVisit). v loop locals t) (ap (fold-Stmt ItemVisit StmtVisit (visit_block_item_at unit f) (visit_stmt_at unit f)) (sym (rolls-Stmt-If s c x)) ∙ fold-roll-Stmt ItemVisit StmtVisit (visit_block_item_at unit f) (visit_stmt_at unit f) (Stmt-F.If s c x))

pub visit_stmt-IfElse : (unit : UnitScope) (f : Enclosing) (s : Span) (c : Expr) (x : Stmt) (y : Stmt) (loop : Bool) (locals : LocalScope) (t : Tables) → visit_stmt unit f (stmt.IfElse s c x y) loop locals t ≡ (visit_if_else s.start (visit_value unit locals c) (visit_stmt unit f x loop locals) (visit_stmt unit f y loop locals)) t
unfolding visit_block_item visit_stmt
visit_stmt-IfElse unit f s c x y loop locals t = ap (λ (v : StmtVisit). v loop locals t) (ap (fold-Stmt ItemVisit StmtVisit (visit_block_item_at unit f) (visit_stmt_at unit f)) (sym (rolls-Stmt-IfElse s c x y)) ∙ fold-roll-Stmt ItemVisit StmtVisit (visit_block_item_at unit f) (visit_stmt_at unit f) (Stmt-F.IfElse s c x y))

pub visit_stmt-While : (unit : UnitScope) (f : Enclosing) (s : Span) (c : Expr) (x : Stmt) (loop : Bool) (locals : LocalScope) (t : Tables) → visit_stmt unit f (stmt.While s c x) loop locals t ≡ (visit_while s.start (visit_value unit locals c) (visit_stmt unit f x true locals)) t
unfolding visit_block_item visit_stmt
visit_stmt-While unit f s c x loop locals t = ap (λ (v : StmtVisit). v loop locals t) (ap (fold-Stmt ItemVisit StmtVisit (visit_block_item_at unit f) (visit_stmt_at unit f)) (sym (rolls-Stmt-While s c x)) ∙ fold-roll-Stmt ItemVisit StmtVisit (visit_block_item_at unit f) (visit_stmt_at unit f) (Stmt-F.While s c x))

pub visit_stmt-Do : (unit : UnitScope) (f : Enclosing) (s : Span) (x : Stmt) (c : Expr) (loop : Bool) (locals : LocalScope) (t : Tables) → visit_stmt unit f (stmt.Do s x c) loop locals t ≡ (visit_do s.start (visit_stmt unit f x true locals) (visit_value unit locals c)) t
unfolding visit_block_item visit_stmt
visit_stmt-Do unit f s x c loop locals t = ap (λ (v : StmtVisit). v loop locals t) (ap (fold-Stmt ItemVisit StmtVisit (visit_block_item_at unit f) (visit_stmt_at unit f)) (sym (rolls-Stmt-Do s x c)) ∙ fold-roll-Stmt ItemVisit StmtVisit (visit_block_item_at unit f) (visit_stmt_at unit f) (Stmt-F.Do s x c))

pub visit_stmt-For : (unit : UnitScope) (f : Enclosing) (s : Span) (a : ForStart) (c : Option Expr) (b : Option Expr) (x : Stmt) (loop : Bool) (locals : LocalScope) (t : Tables) → visit_stmt unit f (stmt.For s a c b x) loop locals t ≡ (visit_for unit s.start a c b (visit_stmt unit f x) locals) t
unfolding visit_block_item visit_stmt
visit_stmt-For unit f s a c b x loop locals t = ap (λ (v : StmtVisit). v loop locals t) (ap (fold-Stmt ItemVisit StmtVisit (visit_block_item_at unit f) (visit_stmt_at unit f)) (sym (rolls-Stmt-For s a c b x)) ∙ fold-roll-Stmt ItemVisit StmtVisit (visit_block_item_at unit f) (visit_stmt_at unit f) (Stmt-F.For s a c b x))

pub visit_stmt-Return : (unit : UnitScope) (f : Enclosing) (s : Span) (e : Option Expr) (loop : Bool) (locals : LocalScope) (t : Tables) → visit_stmt unit f (stmt.Return s e) loop locals t ≡ (optionally (visit_value unit locals) e >>= (λ v. judged (returned f s.start v) >>= (λ x. give (typed.Return x)))) t
unfolding visit_block_item visit_stmt
visit_stmt-Return unit f s e loop locals t = ap (λ (v : StmtVisit). v loop locals t) (ap (fold-Stmt ItemVisit StmtVisit (visit_block_item_at unit f) (visit_stmt_at unit f)) (sym (rolls-Stmt-Return s e)) ∙ fold-roll-Stmt ItemVisit StmtVisit (visit_block_item_at unit f) (visit_stmt_at unit f) (Stmt-F.Return s e))

pub visit_stmt-VaStart : (unit : UnitScope) (f : Enclosing) (s : Span) (l : Name) (n : Name) (loop : Bool) (locals : LocalScope) (t : Tables) → visit_stmt unit f (stmt.VaStart s l n) loop locals t ≡ (judged (started unit f locals s.start l n)) t
unfolding visit_block_item visit_stmt
visit_stmt-VaStart unit f s l n loop locals t = ap (λ (v : StmtVisit). v loop locals t) (ap (fold-Stmt ItemVisit StmtVisit (visit_block_item_at unit f) (visit_stmt_at unit f)) (sym (rolls-Stmt-VaStart s l n)) ∙ fold-roll-Stmt ItemVisit StmtVisit (visit_block_item_at unit f) (visit_stmt_at unit f) (Stmt-F.VaStart s l n))

pub visit_stmt-VaEnd : (unit : UnitScope) (f : Enclosing) (s : Span) (l : Name) (loop : Bool) (locals : LocalScope) (t : Tables) → visit_stmt unit f (stmt.VaEnd s l) loop locals t ≡ (judged (ended unit locals s.start l)) t
unfolding visit_block_item visit_stmt
visit_stmt-VaEnd unit f s l loop locals t = ap (λ (v : StmtVisit). v loop locals t) (ap (fold-Stmt ItemVisit StmtVisit (visit_block_item_at unit f) (visit_stmt_at unit f)) (sym (rolls-Stmt-VaEnd s l)) ∙ fold-roll-Stmt ItemVisit StmtVisit (visit_block_item_at unit f) (visit_stmt_at unit f) (Stmt-F.VaEnd s l))

pub ruleset block_item_visits = (visit_block_item-Local, visit_block_item-Stmt)

pub ruleset stmt_visits = (visit_stmt-Block, visit_stmt-Empty, visit_stmt-Effect, visit_stmt-Break, visit_stmt-Continue, visit_stmt-If, visit_stmt-IfElse, visit_stmt-While, visit_stmt-Do, visit_stmt-For, visit_stmt-Return, visit_stmt-VaStart, visit_stmt-VaEnd)
