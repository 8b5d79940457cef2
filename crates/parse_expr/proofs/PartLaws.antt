-- What is done with capped parts is what is done with trees, capped.
use Rattle.std.proofs.Common.{◌≡◌, ℕ, suc, ◌+◌, ◌<◌, ◌≤◌, max, Bool, true, false, cond, List, [], ◌∷◌, ◌++◌, map, nat_lt, nat_le, refl, sym, ap, ◌∙◌, subst, arith}
use Rattle.std.specs.Prelude.{ℤ}
use Rattle.std.proofs.lemmas.Bool.{le-leb, lt-leb, leb-true, leb-false}
use Rattle.c_types.specs.declared.types.Span.{Span}
use Rattle.c_types.specs.declared.types.IntTy.{IntTy}
use Rattle.c_tree.specs.declared.operators.UnaryOp.{UnaryOp}
use Rattle.c_tree.specs.declared.operators.BinaryOp.{BinaryOp}
use Rattle.c_tree.specs.declared.operators.AssignOp.{AssignOp}
use Rattle.c_tree.specs.declared.operators.Selector.{Selector}
use Rattle.c_tree.specs.declared.expressions.Name.{Name}
use Rattle.c_tree.specs.declared.expressions.Literal.{Literal}
use Rattle.c_tree.specs.declared.expressions.TypeName.{TypeName}
use Rattle.c_tree.specs.declared.expressions.Expr.{Expr}
use Rattle.c_tree.specs.declared.expressions.Expr.TheVariants as expr
use Rattle.c_tree.specs.declared.expressions.Expr.TheVariants.{outs-Paren, outs-Call, outs-Index, outs-Select, outs-PostIncrement, outs-PostDecrement, outs-Unary, outs-Cast, outs-Binary, outs-Conditional, outs-Assign}
use Rattle.c_tree.specs.Height.{tallest, expr_height}
use Rattle.c_tree.proofs.HeightLaws.{expr_height-Name, expr_height-Number, expr_height-Char, expr_height-Paren, expr_height-VaArg, expr_height-Call, expr_height-Index, expr_height-Select, expr_height-PostIncrement, expr_height-PostDecrement, expr_height-Unary, expr_height-Cast, expr_height-SizeOf, expr_height-Binary, expr_height-Conditional, expr_height-Assign}
use Rattle.c_tree.proofs.Tallest.{tallest-append}
use Rattle.parse_expr.specs.declared.parts.Part.{Part}
use Rattle.parse_expr.specs.declared.parts.Part.TheVariants as part
use Rattle.parse_expr.specs.declared.parts.Parts.{Parts}
use Rattle.parse_expr.specs.declared.parts.Parts.TheVariants as parts
use Rattle.parse_expr.specs.ExprGrammar.{is_effect, is_effect_at, is_effect_prefix}
use Rattle.parse_expr.specs.Parts.{part_effect, cap, cap_all, leaf, over, over_two, over_three, over_call, no_parts, more_parts, prefixed, cast, parenthesized, selected, incremented, decremented, indexed, joined, assigned, chosen, called, with_argument}

-- ---- which forms are effects

pub effect-Unary : (op : UnaryOp) (s : Span) (e : Expr) → is_effect (expr.Unary op s e) ≡ is_effect_prefix op
unfolding is_effect
effect-Unary op s e = ap is_effect_at (outs-Unary op s e)

pub effect-Cast : (s : Span) (i : IntTy) (t : Span) (e : Expr) → is_effect (expr.Cast s i t e) ≡ false
unfolding is_effect
effect-Cast s i t e = ap is_effect_at (outs-Cast s i t e)

pub effect-Paren : (s : Span) (e : Expr) → is_effect (expr.Paren s e) ≡ false
unfolding is_effect
effect-Paren s e = ap is_effect_at (outs-Paren s e)

pub effect-Select : (e : Expr) (k : Selector) (s : Span) (x : Name) → is_effect (expr.Select e k s x) ≡ false
unfolding is_effect
effect-Select e k s x = ap is_effect_at (outs-Select e k s x)

pub effect-PostIncrement : (e : Expr) (s : Span) → is_effect (expr.PostIncrement e s) ≡ true
unfolding is_effect
effect-PostIncrement e s = ap is_effect_at (outs-PostIncrement e s)

pub effect-PostDecrement : (e : Expr) (s : Span) → is_effect (expr.PostDecrement e s) ≡ true
unfolding is_effect
effect-PostDecrement e s = ap is_effect_at (outs-PostDecrement e s)

pub effect-Index : (e : Expr) (s : Span) (i : Expr) → is_effect (expr.Index e s i) ≡ false
unfolding is_effect
effect-Index e s i = ap is_effect_at (outs-Index e s i)

pub effect-Binary : (op : BinaryOp) (s : Span) (l r : Expr) → is_effect (expr.Binary op s l r) ≡ false
unfolding is_effect
effect-Binary op s l r = ap is_effect_at (outs-Binary op s l r)

pub effect-Assign : (op : AssignOp) (s : Span) (l r : Expr) → is_effect (expr.Assign op s l r) ≡ true
unfolding is_effect
effect-Assign op s l r = ap is_effect_at (outs-Assign op s l r)

pub effect-Conditional : (c : Expr) (s : Span) (l r : Expr) → is_effect (expr.Conditional c s l r) ≡ false
unfolding is_effect
effect-Conditional c s l r = ap is_effect_at (outs-Conditional c s l r)

pub effect-Call : (f : Expr) (s : Span) (args : List Expr) → is_effect (expr.Call f s args) ≡ true
unfolding is_effect
effect-Call f s args = ap is_effect_at (outs-Call f s args)

-- ---- caps

-- a tree of the height k
abbrev capped : ℕ → Bool → Expr → ℕ → Part
capped n b e k = cond (nat_le k n) (part.Built e k) (part.Deep b)

of_cap : (n : ℕ) (b : Bool) (e : Expr) (k : ℕ) → expr_height e ≡ k → is_effect e ≡ b → capped n b e k ≡ cap n e
of_cap n b e k h f = ap (λ x. capped n b e x) (sym h) ∙ ap (λ x. capped n x e (expr_height e)) (sym f)

past : {A : Type 0} (k n : ℕ) (x y : A) → n < k → cond (nat_le k n) x y ≡ y
past k n x y h = ap (λ v. cond v x y) (lt-leb k n h)

within : {A : Type 0} (k n : ℕ) (x y : A) → k ≤ n → cond (nat_le k n) x y ≡ x
within k n x y h = ap (λ v. cond v x y) (le-leb k n h)

-- both below the cap, or a node above them is past it
both : {A : Type 0} (h k n : ℕ) (x d : A) → cond (nat_lt h n) (cond (nat_lt k n) x d) d ≡ cond (nat_le (max h k + 1) n) x d
both h k n x d = go (nat_lt h n) refl (nat_lt k n) refl
  where
    go : (v : Bool) → nat_lt h n ≡ v → (w : Bool) → nat_lt k n ≡ w → cond v (cond w x d) d ≡ cond (nat_le (max h k + 1) n) x d
    go true p true q = sym (within (max h k + 1) n x d (omega (arith, leb-true (suc h) n p, leb-true (suc k) n q)))
    go true p false q = sym (past (max h k + 1) n x d (omega (arith, leb-false (suc k) n q)))
    go false p w q = sym (past (max h k + 1) n x d (omega (arith, leb-false (suc h) n p)))

over-cap : (n : ℕ) (b : Bool) (make : Expr → Expr) (e : Expr) → expr_height (make e) ≡ expr_height e + 1 → is_effect (make e) ≡ b →
    over n b make (cap n e) ≡ cap n (make e)
over-cap n b make e h f = go (nat_le (expr_height e) n) refl ∙ of_cap n b (make e) (expr_height e + 1) h f
  where
    go : (v : Bool) → nat_le (expr_height e) n ≡ v → over n b make (cond v (part.Built e (expr_height e)) (part.Deep (is_effect e))) ≡ capped n b (make e) (expr_height e + 1)
    go true p = let k : suc (expr_height e) ≡ expr_height e + 1 = omega arith in ap (λ x. cond (nat_le x n) (part.Built (make e) (expr_height e + 1)) (part.Deep b)) k
    go false p = sym (past (expr_height e + 1) n (part.Built (make e) (expr_height e + 1)) (part.Deep b) (omega (arith, leb-false (expr_height e) n p)))

over_two-cap : (n : ℕ) (b : Bool) (make : Expr → Expr → Expr) (l r : Expr) → expr_height (make l r) ≡ max (expr_height l) (expr_height r) + 1 → is_effect (make l r) ≡ b →
    over_two n b make (cap n l) (cap n r) ≡ cap n (make l r)
over_two-cap n b make l r h f = go (nat_le (expr_height l) n) refl (nat_le (expr_height r) n) refl ∙ of_cap n b (make l r) (max (expr_height l) (expr_height r) + 1) h f
  where
    go : (v : Bool) → nat_le (expr_height l) n ≡ v → (w : Bool) → nat_le (expr_height r) n ≡ w →
        over_two n b make (cond v (part.Built l (expr_height l)) (part.Deep (is_effect l))) (cond w (part.Built r (expr_height r)) (part.Deep (is_effect r))) ≡ capped n b (make l r) (max (expr_height l) (expr_height r) + 1)
    go true p true q = both (expr_height l) (expr_height r) n (part.Built (make l r) (max (expr_height l) (expr_height r) + 1)) (part.Deep b)
    go true p false q = sym (past (max (expr_height l) (expr_height r) + 1) n (part.Built (make l r) (max (expr_height l) (expr_height r) + 1)) (part.Deep b) (omega (arith, leb-false (expr_height r) n q)))
    go false p w q = sym (past (max (expr_height l) (expr_height r) + 1) n (part.Built (make l r) (max (expr_height l) (expr_height r) + 1)) (part.Deep b) (omega (arith, leb-false (expr_height l) n p)))

-- three below the cap
three : {A : Type 0} (h j k n : ℕ) (x d : A) → cond (nat_lt h n) (cond (nat_lt j n) (cond (nat_lt k n) x d) d) d ≡ cond (nat_le (max (max h j) k + 1) n) x d
three h j k n x d = go (nat_lt h n) refl
  where
    go : (v : Bool) → nat_lt h n ≡ v → cond v (cond (nat_lt j n) (cond (nat_lt k n) x d) d) d ≡ cond (nat_le (max (max h j) k + 1) n) x d
    go true p = both j k n x d ∙ other (nat_le (max j k + 1) n) refl
      where
        other : (w : Bool) → nat_le (max j k + 1) n ≡ w → cond w x d ≡ cond (nat_le (max (max h j) k + 1) n) x d
        other true q = sym (within (max (max h j) k + 1) n x d (omega (arith, leb-true (suc h) n p, leb-true (max j k + 1) n q)))
        other false q = sym (past (max (max h j) k + 1) n x d (omega (arith, leb-false (max j k + 1) n q)))
    go false p = sym (past (max (max h j) k + 1) n x d (omega (arith, leb-false (suc h) n p)))

over_three-cap : (n : ℕ) (b : Bool) (make : Expr → Expr → Expr → Expr) (c l r : Expr) →
    expr_height (make c l r) ≡ max (max (expr_height c) (expr_height l)) (expr_height r) + 1 → is_effect (make c l r) ≡ b →
    over_three n b make (cap n c) (cap n l) (cap n r) ≡ cap n (make c l r)
over_three-cap n b make c l r h f =
    go (nat_le (expr_height c) n) refl (nat_le (expr_height l) n) refl (nat_le (expr_height r) n) refl ∙ of_cap n b (make c l r) (max (max (expr_height c) (expr_height l)) (expr_height r) + 1) h f
  where
    go : (u : Bool) → nat_le (expr_height c) n ≡ u → (v : Bool) → nat_le (expr_height l) n ≡ v → (w : Bool) → nat_le (expr_height r) n ≡ w →
        over_three n b make (cond u (part.Built c (expr_height c)) (part.Deep (is_effect c))) (cond v (part.Built l (expr_height l)) (part.Deep (is_effect l))) (cond w (part.Built r (expr_height r)) (part.Deep (is_effect r)))
        ≡ capped n b (make c l r) (max (max (expr_height c) (expr_height l)) (expr_height r) + 1)
    go true o true p true q = three (expr_height c) (expr_height l) (expr_height r) n (part.Built (make c l r) (max (max (expr_height c) (expr_height l)) (expr_height r) + 1)) (part.Deep b)
    go true o true p false q = sym (past (max (max (expr_height c) (expr_height l)) (expr_height r) + 1) n (part.Built (make c l r) (max (max (expr_height c) (expr_height l)) (expr_height r) + 1)) (part.Deep b) (omega (arith, leb-false (expr_height r) n q)))
    go true o false p w q = sym (past (max (max (expr_height c) (expr_height l)) (expr_height r) + 1) n (part.Built (make c l r) (max (max (expr_height c) (expr_height l)) (expr_height r) + 1)) (part.Deep b) (omega (arith, leb-false (expr_height l) n p)))
    go false o v p w q = sym (past (max (max (expr_height c) (expr_height l)) (expr_height r) + 1) n (part.Built (make c l r) (max (max (expr_height c) (expr_height l)) (expr_height r) + 1)) (part.Deep b) (omega (arith, leb-false (expr_height c) n o)))

-- ---- the operations

pub leaf-cap : (n : ℕ) → 1 ≤ n → (e : Expr) → expr_height e ≡ 1 → leaf e ≡ cap n e
leaf-cap n low e h = sym (ap (λ k. cond (nat_le k n) (part.Built e k) (part.Deep (is_effect e))) h ∙ within 1 n (part.Built e 1) (part.Deep (is_effect e)) low)

pub prefixed-cap : (n : ℕ) (op : UnaryOp) (s : Span) (e : Expr) → prefixed n op s (cap n e) ≡ cap n (expr.Unary op s e)
unfolding prefixed
prefixed-cap n op s e = over-cap n (is_effect_prefix op) (expr.Unary op s) e (expr_height-Unary op s e) (effect-Unary op s e)

pub cast-cap : (n : ℕ) (s : Span) (i : IntTy) (t : Span) (e : Expr) → cast n s i t (cap n e) ≡ cap n (expr.Cast s i t e)
unfolding cast
cast-cap n s i t e = over-cap n false (expr.Cast s i t) e (expr_height-Cast s i t e) (effect-Cast s i t e)

pub parenthesized-cap : (n : ℕ) (s : Span) (e : Expr) → parenthesized n s (cap n e) ≡ cap n (expr.Paren s e)
unfolding parenthesized
parenthesized-cap n s e = over-cap n false (expr.Paren s) e (expr_height-Paren s e) (effect-Paren s e)

pub selected-cap : (n : ℕ) (e : Expr) (k : Selector) (s : Span) (x : Name) → selected n (cap n e) k s x ≡ cap n (expr.Select e k s x)
unfolding selected
selected-cap n e k s x = over-cap n false (λ y. expr.Select y k s x) e (expr_height-Select e k s x) (effect-Select e k s x)

pub incremented-cap : (n : ℕ) (e : Expr) (s : Span) → incremented n (cap n e) s ≡ cap n (expr.PostIncrement e s)
unfolding incremented
incremented-cap n e s = over-cap n true (λ y. expr.PostIncrement y s) e (expr_height-PostIncrement e s) (effect-PostIncrement e s)

pub decremented-cap : (n : ℕ) (e : Expr) (s : Span) → decremented n (cap n e) s ≡ cap n (expr.PostDecrement e s)
unfolding decremented
decremented-cap n e s = over-cap n true (λ y. expr.PostDecrement y s) e (expr_height-PostDecrement e s) (effect-PostDecrement e s)

pub indexed-cap : (n : ℕ) (e : Expr) (s : Span) (i : Expr) → indexed n (cap n e) s (cap n i) ≡ cap n (expr.Index e s i)
unfolding indexed
indexed-cap n e s i = over_two-cap n false (λ x y. expr.Index x s y) e i (expr_height-Index e s i) (effect-Index e s i)

pub joined-cap : (n : ℕ) (op : BinaryOp) (s : Span) (l r : Expr) → joined n op s (cap n l) (cap n r) ≡ cap n (expr.Binary op s l r)
unfolding joined
joined-cap n op s l r = over_two-cap n false (expr.Binary op s) l r (expr_height-Binary op s l r) (effect-Binary op s l r)

pub assigned-cap : (n : ℕ) (op : AssignOp) (s : Span) (l r : Expr) → assigned n op s (cap n l) (cap n r) ≡ cap n (expr.Assign op s l r)
unfolding assigned
assigned-cap n op s l r = over_two-cap n true (expr.Assign op s) l r (expr_height-Assign op s l r) (effect-Assign op s l r)

pub chosen-cap : (n : ℕ) (c : Expr) (s : Span) (l r : Expr) → chosen n (cap n c) s (cap n l) (cap n r) ≡ cap n (expr.Conditional c s l r)
unfolding chosen
chosen-cap n c s l r = over_three-cap n false (λ x y z. expr.Conditional x s y z) c l r (expr_height-Conditional c s l r) (effect-Conditional c s l r)

pub no_parts-cap : (n : ℕ) → no_parts ≡ cap_all n []
no_parts-cap n = sym (within 0 n (parts.Built [] 0) parts.Deep (omega arith))

pub called-cap : (n : ℕ) (f : Expr) (s : Span) (args : List Expr) → called n (cap n f) s (cap_all n args) ≡ cap n (expr.Call f s args)
unfolding called
called-cap n f s args = go (nat_le (expr_height f) n) refl (nat_le (tallest (map expr_height args)) n) refl ∙ of_cap n true (expr.Call f s args) (max (expr_height f) (tallest (map expr_height args)) + 1) (expr_height-Call f s args) (effect-Call f s args)
  where
    go : (v : Bool) → nat_le (expr_height f) n ≡ v → (w : Bool) → nat_le (tallest (map expr_height args)) n ≡ w →
        over_call n s (cond v (part.Built f (expr_height f)) (part.Deep (is_effect f))) (cond w (parts.Built args (tallest (map expr_height args))) parts.Deep) ≡ capped n true (expr.Call f s args) (max (expr_height f) (tallest (map expr_height args)) + 1)
    go true p true q = both (expr_height f) (tallest (map expr_height args)) n (part.Built (expr.Call f s args) (max (expr_height f) (tallest (map expr_height args)) + 1)) (part.Deep true)
    go true p false q = sym (past (max (expr_height f) (tallest (map expr_height args)) + 1) n (part.Built (expr.Call f s args) (max (expr_height f) (tallest (map expr_height args)) + 1)) (part.Deep true) (omega (arith, leb-false (tallest (map expr_height args)) n q)))
    go false p w q = sym (past (max (expr_height f) (tallest (map expr_height args)) + 1) n (part.Built (expr.Call f s args) (max (expr_height f) (tallest (map expr_height args)) + 1)) (part.Deep true) (omega (arith, leb-false (expr_height f) n p)))

pub with_argument-cap : (n : ℕ) (args : List Expr) (e : Expr) → with_argument (cap_all n args) (cap n e) ≡ cap_all n (args ++ e ∷ [])
unfolding with_argument
with_argument-cap n args e =
    go (nat_le (tallest (map expr_height args)) n) refl (nat_le (expr_height e) n) refl
    ∙ ap (λ k. cond (nat_le k n) (parts.Built (args ++ e ∷ []) k) parts.Deep) (sym (tallest-append expr_height args e))
  where
    go : (v : Bool) → nat_le (tallest (map expr_height args)) n ≡ v → (w : Bool) → nat_le (expr_height e) n ≡ w →
        more_parts (cond v (parts.Built args (tallest (map expr_height args))) parts.Deep) (cond w (part.Built e (expr_height e)) (part.Deep (is_effect e)))
        ≡ cond (nat_le (max (tallest (map expr_height args)) (expr_height e)) n) (parts.Built (args ++ e ∷ []) (max (tallest (map expr_height args)) (expr_height e))) parts.Deep
    go true p true q = sym (within (max (tallest (map expr_height args)) (expr_height e)) n (parts.Built (args ++ e ∷ []) (max (tallest (map expr_height args)) (expr_height e))) parts.Deep (omega (arith, leb-true (tallest (map expr_height args)) n p, leb-true (expr_height e) n q)))
    go true p false q = sym (past (max (tallest (map expr_height args)) (expr_height e)) n (parts.Built (args ++ e ∷ []) (max (tallest (map expr_height args)) (expr_height e))) parts.Deep (omega (arith, leb-false (expr_height e) n q)))
    go false p w q = sym (past (max (tallest (map expr_height args)) (expr_height e)) n (parts.Built (args ++ e ∷ []) (max (tallest (map expr_height args)) (expr_height e))) parts.Deep (omega (arith, leb-false (tallest (map expr_height args)) n p)))

-- a capped part says whether its tree is an effect
pub effect-cap : (n : ℕ) (e : Expr) → part_effect (cap n e) ≡ is_effect e
effect-cap n e = go (nat_le (expr_height e) n)
  where
    go : (v : Bool) → part_effect (cond v (part.Built e (expr_height e)) (part.Deep (is_effect e))) ≡ is_effect e
    go true = refl
    go false = refl
