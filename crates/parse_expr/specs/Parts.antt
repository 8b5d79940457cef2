-- Expressions that are given up once they are too high. A part is a tree with its height, or what is
-- left of a tree whose height passed the cap: whether it is an effect.
use Rattle.std.specs.Prelude.{◌≡◌, ℕ, ℤ, ◌+◌, max, Bool, true, false, cond, List, [], ◌∷◌, ◌++◌, map, nat_lt, nat_le}
use Rattle.c_types.specs.declared.types.Span.{Span}
use Rattle.c_types.specs.declared.types.IntTy.{IntTy}
use Rattle.c_tree.specs.declared.operators.UnaryOp.{UnaryOp}
use Rattle.c_tree.specs.declared.operators.BinaryOp.{BinaryOp}
use Rattle.c_tree.specs.declared.operators.AssignOp.{AssignOp}
use Rattle.c_tree.specs.declared.operators.Selector.{Selector}
use Rattle.c_tree.specs.declared.expressions.Name.{Name}
use Rattle.c_tree.specs.declared.expressions.Expr.{Expr}
use Rattle.c_tree.specs.declared.expressions.Expr.TheVariants as expr
use Rattle.c_tree.specs.Height.{tallest, expr_height}
use Rattle.parse_expr.specs.declared.parts.Part.{Part}
use Rattle.parse_expr.specs.declared.parts.Part.TheVariants as part
use Rattle.parse_expr.specs.declared.parts.Parts.{Parts}
use Rattle.parse_expr.specs.declared.parts.Parts.TheVariants as parts
use Rattle.parse_expr.specs.ExprGrammar.{is_effect, is_effect_prefix}

abbrev pub part_effect : Part → Bool
part_effect (part.Built e h) = is_effect e
part_effect (part.Deep b) = b

-- a tree that is no higher than n
abbrev pub cap : ℕ → Expr → Part
cap n e = cond (nat_le (expr_height e) n) (part.Built e (expr_height e)) (part.Deep (is_effect e))

abbrev pub cap_all : ℕ → List Expr → Parts
cap_all n es = cond (nat_le (tallest (map expr_height es)) n) (parts.Built es (tallest (map expr_height es))) parts.Deep

-- one node without parts
abbrev pub leaf : Expr → Part
leaf e = part.Built e 1

-- one node over a part; b says whether it is an effect
abbrev pub over : ℕ → Bool → (Expr → Expr) → Part → Part
over n b make (part.Built e h) = cond (nat_lt h n) (part.Built (make e) (h + 1)) (part.Deep b)
over n b make (part.Deep c) = part.Deep b

abbrev pub over_two : ℕ → Bool → (Expr → Expr → Expr) → Part → Part → Part
over_two n b make (part.Built l h) (part.Built r k) = cond (nat_lt h n) (cond (nat_lt k n) (part.Built (make l r) (max h k + 1)) (part.Deep b)) (part.Deep b)
over_two n b make (part.Built l h) (part.Deep c) = part.Deep b
over_two n b make (part.Deep c) r = part.Deep b

abbrev pub over_three : ℕ → Bool → (Expr → Expr → Expr → Expr) → Part → Part → Part → Part
over_three n b make (part.Built c j) (part.Built l h) (part.Built r k) =
    cond (nat_lt j n) (cond (nat_lt h n) (cond (nat_lt k n) (part.Built (make c l r) (max (max j h) k + 1)) (part.Deep b)) (part.Deep b)) (part.Deep b)
over_three n b make (part.Built c j) (part.Built l h) (part.Deep d) = part.Deep b
over_three n b make (part.Built c j) (part.Deep d) r = part.Deep b
over_three n b make (part.Deep d) l r = part.Deep b

abbrev pub over_call : ℕ → Span → Part → Parts → Part
over_call n s (part.Built f h) (parts.Built args k) = cond (nat_lt h n) (cond (nat_lt k n) (part.Built (expr.Call f s args) (max h k + 1)) (part.Deep true)) (part.Deep true)
over_call n s (part.Built f h) parts.Deep = part.Deep true
over_call n s (part.Deep b) args = part.Deep true

abbrev pub no_parts : Parts
no_parts = parts.Built [] 0

abbrev pub more_parts : Parts → Part → Parts
more_parts (parts.Built args h) (part.Built e k) = parts.Built (args ++ e ∷ []) (max h k)
more_parts (parts.Built args h) (part.Deep b) = parts.Deep
more_parts parts.Deep e = parts.Deep

unfoldable pub prefixed : ℕ → UnaryOp → Span → Part → Part
prefixed n op s = over n (is_effect_prefix op) (expr.Unary op s)

unfoldable pub cast : ℕ → Span → IntTy → Span → Part → Part
cast n s i t = over n false (expr.Cast s i t)

unfoldable pub parenthesized : ℕ → Span → Part → Part
parenthesized n s = over n false (expr.Paren s)

unfoldable pub selected : ℕ → Part → Selector → Span → Name → Part
selected n p k s x = over n false (λ e. expr.Select e k s x) p

unfoldable pub incremented : ℕ → Part → Span → Part
incremented n p s = over n true (λ e. expr.PostIncrement e s) p

unfoldable pub decremented : ℕ → Part → Span → Part
decremented n p s = over n true (λ e. expr.PostDecrement e s) p

unfoldable pub indexed : ℕ → Part → Span → Part → Part
indexed n p s q = over_two n false (λ e i. expr.Index e s i) p q

unfoldable pub joined : ℕ → BinaryOp → Span → Part → Part → Part
joined n op s = over_two n false (expr.Binary op s)

unfoldable pub assigned : ℕ → AssignOp → Span → Part → Part → Part
assigned n op s = over_two n true (expr.Assign op s)

unfoldable pub chosen : ℕ → Part → Span → Part → Part → Part
chosen n c s l r = over_three n false (λ x y z. expr.Conditional x s y z) c l r

unfoldable pub called : ℕ → Part → Span → Parts → Part
called n f s args = over_call n s f args

unfoldable pub with_argument : Parts → Part → Parts
with_argument = more_parts
