-- What each form of expression designates, from its parts.
use Rattle.std.proofs.Common.{◌≡◌, true, false, List, sym, ap, ◌∙◌}
use Rattle.std.specs.Prelude.{ℤ}
use Rattle.c_types.specs.declared.types.Span.{Span}
use Rattle.c_types.specs.declared.types.IntTy.{IntTy}
use Rattle.c_types.specs.declared.types.IntTy.TheVariants.{I32}
use Rattle.c_types.specs.declared.types.Ty.TheVariants.{Int}
use Rattle.c_tree.specs.declared.expressions.Name.{Name}
use Rattle.c_tree.specs.declared.expressions.Literal.{Literal}
use Rattle.c_tree.specs.declared.expressions.TypeName.{TypeName}
use Rattle.c_tree.specs.declared.operators.UnaryOp.{UnaryOp}
use Rattle.c_tree.specs.declared.operators.BinaryOp.{BinaryOp}
use Rattle.c_tree.specs.declared.operators.AssignOp.{AssignOp}
use Rattle.c_tree.specs.declared.operators.Selector.{Selector}
use Rattle.c_tree.specs.declared.expressions.Expr.{Expr, fold-Expr, fold-roll-Expr}
use Rattle.c_tree.specs.declared.expressions.Expr.TheOpen.{Expr-F}
use Rattle.c_tree.specs.declared.expressions.Expr.TheVariants as expr
use Rattle.c_tree.specs.declared.expressions.Expr.TheVariants.{rolls-Name as rolls-Expr-Name, rolls-Number as rolls-Expr-Number, rolls-Char as rolls-Expr-Char, rolls-Paren as rolls-Expr-Paren, rolls-VaArg as rolls-Expr-VaArg, rolls-Call as rolls-Expr-Call, rolls-Index as rolls-Expr-Index, rolls-Select as rolls-Expr-Select, rolls-PostIncrement as rolls-Expr-PostIncrement, rolls-PostDecrement as rolls-Expr-PostDecrement, rolls-Unary as rolls-Expr-Unary, rolls-Cast as rolls-Expr-Cast, rolls-SizeOf as rolls-Expr-SizeOf, rolls-Binary as rolls-Expr-Binary, rolls-Conditional as rolls-Expr-Conditional, rolls-Assign as rolls-Expr-Assign}
use Rattle.c_program.specs.declared.expressions.TypedExpr.TheVariants as typed
use Rattle.c_typing.specs.declared.scopes.UnitScope.{UnitScope}
use Rattle.c_typing.specs.declared.scopes.LocalScope.{LocalScope}
use Rattle.c_typing.specs.declared.operands.Operand.{Operand}
use Rattle.c_typing.specs.declared.operands.Value.{Value}
use Rattle.std.proofs.lemmas.Simd.{map-map}
use Rattle.c_typing.specs.declared.tables.Tables.{Tables}
use Rattle.c_typing.specs.Visits.{Visit, ◌>>=◌, give, judged, looked, each_in_order}
use Rattle.c_typing.specs.Expressions.{visit_expr_at, visit_expr, visit_values, value, name_of, number_of, given, next_extra, called, indexed, selected, stepped_after, unary, cast, sized, operated, chosen, assigned}

pub visit_expr-Name : (unit : UnitScope) (locals : LocalScope) (n : Name) (t : Tables) → visit_expr unit locals (expr.Name n) t ≡ (judged (name_of unit locals n)) t
unfolding visit_expr
visit_expr-Name unit locals n t = ap (λ (v : Visit Tables Operand). v t) (ap (fold-Expr (Visit Tables Operand) (visit_expr_at unit locals)) (sym (rolls-Expr-Name n)) ∙ fold-roll-Expr (Visit Tables Operand) (visit_expr_at unit locals) (Expr-F.Name n))

pub visit_expr-Number : (unit : UnitScope) (locals : LocalScope) (n : Literal) (t : Tables) → visit_expr unit locals (expr.Number n) t ≡ (give (number_of n)) t
unfolding visit_expr
visit_expr-Number unit locals n t = ap (λ (v : Visit Tables Operand). v t) (ap (fold-Expr (Visit Tables Operand) (visit_expr_at unit locals)) (sym (rolls-Expr-Number n)) ∙ fold-roll-Expr (Visit Tables Operand) (visit_expr_at unit locals) (Expr-F.Number n))

pub visit_expr-Char : (unit : UnitScope) (locals : LocalScope) (c : ℤ) (s : Span) (t : Tables) → visit_expr unit locals (expr.Char c s) t ≡ (give (given s.start (Int I32) (typed.Char c))) t
unfolding visit_expr
visit_expr-Char unit locals c s t = ap (λ (v : Visit Tables Operand). v t) (ap (fold-Expr (Visit Tables Operand) (visit_expr_at unit locals)) (sym (rolls-Expr-Char c s)) ∙ fold-roll-Expr (Visit Tables Operand) (visit_expr_at unit locals) (Expr-F.Char c s))

pub visit_expr-Paren : (unit : UnitScope) (locals : LocalScope) (s : Span) (e : Expr) (t : Tables) → visit_expr unit locals (expr.Paren s e) t ≡ (visit_expr unit locals e) t
unfolding visit_expr
visit_expr-Paren unit locals s e t = ap (λ (v : Visit Tables Operand). v t) (ap (fold-Expr (Visit Tables Operand) (visit_expr_at unit locals)) (sym (rolls-Expr-Paren s e)) ∙ fold-roll-Expr (Visit Tables Operand) (visit_expr_at unit locals) (Expr-F.Paren s e))

pub visit_expr-VaArg : (unit : UnitScope) (locals : LocalScope) (s : Span) (n : Name) (ty : TypeName) (t : Tables) → visit_expr unit locals (expr.VaArg s n ty) t ≡ (next_extra unit locals s.start n ty) t
unfolding visit_expr
visit_expr-VaArg unit locals s n ty t = ap (λ (v : Visit Tables Operand). v t) (ap (fold-Expr (Visit Tables Operand) (visit_expr_at unit locals)) (sym (rolls-Expr-VaArg s n ty)) ∙ fold-roll-Expr (Visit Tables Operand) (visit_expr_at unit locals) (Expr-F.VaArg s n ty))

pub visit_expr-Call : (unit : UnitScope) (locals : LocalScope) (f : Expr) (s : Span) (args : List Expr) (t : Tables) → visit_expr unit locals (expr.Call f s args) t ≡ (visit_expr unit locals f >>= (λ o. visit_values unit locals args >>= (λ vs. called s.start o vs))) t
unfolding visit_expr visit_values
visit_expr-Call unit locals f s args t = ap (λ (v : Visit Tables Operand). v t) (ap (fold-Expr (Visit Tables Operand) (visit_expr_at unit locals)) (sym (rolls-Expr-Call f s args)) ∙ fold-roll-Expr (Visit Tables Operand) (visit_expr_at unit locals) (Expr-F.Call f s args)) ∙ ap (λ (vs : List (Visit Tables Value)). (visit_expr unit locals f >>= (λ o. each_in_order vs >>= (λ xs. called s.start o xs))) t) (map-map value (visit_expr unit locals) args)

pub visit_expr-Index : (unit : UnitScope) (locals : LocalScope) (a : Expr) (s : Span) (i : Expr) (t : Tables) → visit_expr unit locals (expr.Index a s i) t ≡ (visit_expr unit locals a >>= (λ o. value (visit_expr unit locals i) >>= (λ v. looked (λ t. indexed s.start o v t.types)))) t
unfolding visit_expr
visit_expr-Index unit locals a s i t = ap (λ (v : Visit Tables Operand). v t) (ap (fold-Expr (Visit Tables Operand) (visit_expr_at unit locals)) (sym (rolls-Expr-Index a s i)) ∙ fold-roll-Expr (Visit Tables Operand) (visit_expr_at unit locals) (Expr-F.Index a s i))

pub visit_expr-Select : (unit : UnitScope) (locals : LocalScope) (e : Expr) (k : Selector) (s : Span) (n : Name) (t : Tables) → visit_expr unit locals (expr.Select e k s n) t ≡ (visit_expr unit locals e >>= selected k s.start n.text) t
unfolding visit_expr
visit_expr-Select unit locals e k s n t = ap (λ (v : Visit Tables Operand). v t) (ap (fold-Expr (Visit Tables Operand) (visit_expr_at unit locals)) (sym (rolls-Expr-Select e k s n)) ∙ fold-roll-Expr (Visit Tables Operand) (visit_expr_at unit locals) (Expr-F.Select e k s n))

pub visit_expr-PostIncrement : (unit : UnitScope) (locals : LocalScope) (e : Expr) (s : Span) (t : Tables) → visit_expr unit locals (expr.PostIncrement e s) t ≡ (visit_expr unit locals e >>= (λ o. judged (stepped_after s.start true o))) t
unfolding visit_expr
visit_expr-PostIncrement unit locals e s t = ap (λ (v : Visit Tables Operand). v t) (ap (fold-Expr (Visit Tables Operand) (visit_expr_at unit locals)) (sym (rolls-Expr-PostIncrement e s)) ∙ fold-roll-Expr (Visit Tables Operand) (visit_expr_at unit locals) (Expr-F.PostIncrement e s))

pub visit_expr-PostDecrement : (unit : UnitScope) (locals : LocalScope) (e : Expr) (s : Span) (t : Tables) → visit_expr unit locals (expr.PostDecrement e s) t ≡ (visit_expr unit locals e >>= (λ o. judged (stepped_after s.start false o))) t
unfolding visit_expr
visit_expr-PostDecrement unit locals e s t = ap (λ (v : Visit Tables Operand). v t) (ap (fold-Expr (Visit Tables Operand) (visit_expr_at unit locals)) (sym (rolls-Expr-PostDecrement e s)) ∙ fold-roll-Expr (Visit Tables Operand) (visit_expr_at unit locals) (Expr-F.PostDecrement e s))

pub visit_expr-Unary : (unit : UnitScope) (locals : LocalScope) (op : UnaryOp) (s : Span) (e : Expr) (t : Tables) → visit_expr unit locals (expr.Unary op s e) t ≡ (visit_expr unit locals e >>= unary op s.start) t
unfolding visit_expr
visit_expr-Unary unit locals op s e t = ap (λ (v : Visit Tables Operand). v t) (ap (fold-Expr (Visit Tables Operand) (visit_expr_at unit locals)) (sym (rolls-Expr-Unary op s e)) ∙ fold-roll-Expr (Visit Tables Operand) (visit_expr_at unit locals) (Expr-F.Unary op s e))

pub visit_expr-Cast : (unit : UnitScope) (locals : LocalScope) (s : Span) (i : IntTy) (w : Span) (e : Expr) (t : Tables) → visit_expr unit locals (expr.Cast s i w e) t ≡ (value (visit_expr unit locals e) >>= (λ v. judged (cast s.start i v))) t
unfolding visit_expr
visit_expr-Cast unit locals s i w e t = ap (λ (v : Visit Tables Operand). v t) (ap (fold-Expr (Visit Tables Operand) (visit_expr_at unit locals)) (sym (rolls-Expr-Cast s i w e)) ∙ fold-roll-Expr (Visit Tables Operand) (visit_expr_at unit locals) (Expr-F.Cast s i w e))

pub visit_expr-SizeOf : (unit : UnitScope) (locals : LocalScope) (s : Span) (ty : TypeName) (t : Tables) → visit_expr unit locals (expr.SizeOf s ty) t ≡ (sized unit s.start ty) t
unfolding visit_expr
visit_expr-SizeOf unit locals s ty t = ap (λ (v : Visit Tables Operand). v t) (ap (fold-Expr (Visit Tables Operand) (visit_expr_at unit locals)) (sym (rolls-Expr-SizeOf s ty)) ∙ fold-roll-Expr (Visit Tables Operand) (visit_expr_at unit locals) (Expr-F.SizeOf s ty))

pub visit_expr-Binary : (unit : UnitScope) (locals : LocalScope) (op : BinaryOp) (s : Span) (l : Expr) (r : Expr) (t : Tables) → visit_expr unit locals (expr.Binary op s l r) t ≡ (value (visit_expr unit locals l) >>= (λ a. value (visit_expr unit locals r) >>= (λ b. judged (operated op s.start a b)))) t
unfolding visit_expr
visit_expr-Binary unit locals op s l r t = ap (λ (v : Visit Tables Operand). v t) (ap (fold-Expr (Visit Tables Operand) (visit_expr_at unit locals)) (sym (rolls-Expr-Binary op s l r)) ∙ fold-roll-Expr (Visit Tables Operand) (visit_expr_at unit locals) (Expr-F.Binary op s l r))

pub visit_expr-Conditional : (unit : UnitScope) (locals : LocalScope) (c : Expr) (s : Span) (l : Expr) (r : Expr) (t : Tables) → visit_expr unit locals (expr.Conditional c s l r) t ≡ (value (visit_expr unit locals c) >>= (λ t. value (visit_expr unit locals l) >>= (λ a. value (visit_expr unit locals r) >>= (λ b. judged (chosen s.start t a b))))) t
unfolding visit_expr
visit_expr-Conditional unit locals c s l r t = ap (λ (v : Visit Tables Operand). v t) (ap (fold-Expr (Visit Tables Operand) (visit_expr_at unit locals)) (sym (rolls-Expr-Conditional c s l r)) ∙ fold-roll-Expr (Visit Tables Operand) (visit_expr_at unit locals) (Expr-F.Conditional c s l r))

pub visit_expr-Assign : (unit : UnitScope) (locals : LocalScope) (op : AssignOp) (s : Span) (l : Expr) (r : Expr) (t : Tables) → visit_expr unit locals (expr.Assign op s l r) t ≡ (visit_expr unit locals l >>= (λ o. value (visit_expr unit locals r) >>= (λ v. judged (assigned op s.start o v)))) t
unfolding visit_expr
visit_expr-Assign unit locals op s l r t = ap (λ (v : Visit Tables Operand). v t) (ap (fold-Expr (Visit Tables Operand) (visit_expr_at unit locals)) (sym (rolls-Expr-Assign op s l r)) ∙ fold-roll-Expr (Visit Tables Operand) (visit_expr_at unit locals) (Expr-F.Assign op s l r))

pub ruleset expr_visits = (visit_expr-Name, visit_expr-Number, visit_expr-Char, visit_expr-Paren, visit_expr-VaArg, visit_expr-Call, visit_expr-Index, visit_expr-Select, visit_expr-PostIncrement, visit_expr-PostDecrement, visit_expr-Unary, visit_expr-Cast, visit_expr-SizeOf, visit_expr-Binary, visit_expr-Conditional, visit_expr-Assign)
