-- Arguments, one more at a time.
use Rattle.std.proofs.Common.{◌≡◌, ℕ, suc, zero, List, [], ◌∷◌, ◌++◌, drop, reverse, length, Option, Some, None, refl, sym, ap, ◌∙◌, add-one, append_assoc, append-nil, length-append}
use Rattle.std.specs.Prelude.{slice_get, option_map, option_and_then}
use Rattle.std.proofs.lemmas.List.{reverse-append, reverse-reverse}
use Rattle.c_types.specs.declared.types.Ty.{Ty}
use Rattle.c_program.specs.declared.expressions.TypedExpr.{TypedExpr}
use Rattle.c_typing.specs.declared.operands.Value.{Value}
use Rattle.c_typing.specs.Expressions.{converted_arguments}
use Rattle.check_expr.specs.Calls.{argument_in, arguments_behind}

-- the last of some items comes first in their reverse
pub reverse_last : {A : Type 0} (xs ys : List A) (x : A) → ys ≡ xs ++ x ∷ [] → reverse ys ≡ x ∷ reverse xs
reverse_last xs ys x e = ap reverse e ∙ reverse-append xs (x ∷ [])

pub reversed_more : {A : Type 0} (front xs ys : List A) (x : A) (whole : List A) → ys ≡ xs ++ x ∷ [] → front ++ reverse ys ≡ whole → (front ++ x ∷ []) ++ reverse xs ≡ whole
reversed_more front xs ys x whole e inv = append_assoc front (x ∷ []) (reverse xs) ∙ ap (λ zs. front ++ zs) (sym (reverse_last xs ys x e)) ∙ inv

-- an argument, and those behind it
with-argument : Option TypedExpr → Option (List TypedExpr) → Option (List TypedExpr)
with-argument e es = option_and_then (λ x. option_map (λ xs. x ∷ xs) es) e

arguments-cons : (params : List Ty) (k : ℕ) (v : Value) (vs : List Value) →
    converted_arguments (drop k params) (v ∷ vs) ≡ with-argument (argument_in (slice_get params k) v) (converted_arguments (drop (suc k) params) vs)
unfolding with-argument
arguments-cons [] zero v vs = refl
arguments-cons [] (suc k) v vs = refl
arguments-cons (ty ∷ tys) zero v vs = refl
arguments-cons (ty ∷ tys) (suc k) v vs = arguments-cons tys k v vs

behind-cons : (front : List TypedExpr) (e : TypedExpr) (r : Option (List TypedExpr)) → arguments_behind front (with-argument (Some e) r) ≡ arguments_behind (front ++ e ∷ []) r
unfolding with-argument
behind-cons front e None = refl
behind-cons front e (Some es) = ap Some (sym (append_assoc front (e ∷ []) es))

abbrev rest : List Ty → ℕ → List Value → Option (List TypedExpr)
rest params k left = converted_arguments (drop k params) (reverse left)

rest-more : (params : List Ty) (k : ℕ) (left left' : List Value) (v : Value) → left ≡ left' ++ v ∷ [] →
    rest params k left ≡ with-argument (argument_in (slice_get params k) v) (rest params (suc k) left')
rest-more params k left left' v e = ap (converted_arguments (drop k params)) (reverse_last left' left v e) ∙ arguments-cons params k v (reverse left')

longer : (front next : List TypedExpr) (e : TypedExpr) → next ≡ front ++ e ∷ [] → length next ≡ suc (length front)
longer front next e n = ap length n ∙ length-append front (e ∷ []) ∙ add-one (length front)

pub arguments_kept : (params : List Ty) (left left' : List Value) (v : Value) (front next : List TypedExpr) (e : TypedExpr) (whole : Option (List TypedExpr)) →
    left ≡ left' ++ v ∷ [] → argument_in (slice_get params (length front)) v ≡ Some e → next ≡ front ++ e ∷ [] →
    arguments_behind front (converted_arguments (drop (length front) params) (reverse left)) ≡ whole →
    arguments_behind next (converted_arguments (drop (length next) params) (reverse left')) ≡ whole
arguments_kept params left left' v front next e whole l a n inv =
    ap (λ xs. arguments_behind xs (rest params (length next) left')) n
    ∙ ap (λ i. arguments_behind (front ++ e ∷ []) (rest params i left')) (longer front next e n)
    ∙ sym (behind-cons front e (rest params (suc (length front)) left'))
    ∙ ap (λ x. arguments_behind front (with-argument x (rest params (suc (length front)) left'))) (sym a)
    ∙ ap (arguments_behind front) (sym (rest-more params (length front) left left' v l)) ∙ inv

pub arguments_none : (params : List Ty) (left left' : List Value) (v : Value) (front : List TypedExpr) (whole : Option (List TypedExpr)) →
    left ≡ left' ++ v ∷ [] → argument_in (slice_get params (length front)) v ≡ None →
    arguments_behind front (converted_arguments (drop (length front) params) (reverse left)) ≡ whole → None ≡ whole
unfolding with-argument
arguments_none params left left' v front whole l a inv =
    sym (ap (arguments_behind front) (rest-more params (length front) left left' v l) ∙ ap (λ x. arguments_behind front (with-argument x (rest params (suc (length front)) left'))) a) ∙ inv

no-arguments : (tys : List Ty) → converted_arguments tys [] ≡ Some []
no-arguments [] = refl
no-arguments (ty ∷ tys) = refl

pub arguments_done : (params : List Ty) (left : List Value) (front : List TypedExpr) (k : ℕ) (whole : Option (List TypedExpr)) →
    left ≡ [] → arguments_behind front (converted_arguments (drop k params) (reverse left)) ≡ whole → Some front ≡ whole
arguments_done params left front k whole l inv =
    ap Some (sym (append-nil front)) ∙ sym (ap (λ xs. arguments_behind front (rest params k xs)) l ∙ ap (arguments_behind front) (no-arguments (drop k params))) ∙ inv

begun : (r : Option (List TypedExpr)) → arguments_behind [] r ≡ r
begun None = refl
begun (Some es) = refl

pub arguments_begun : (params : List Ty) (values left : List Value) → left ≡ reverse values →
    arguments_behind [] (converted_arguments (drop 0 params) (reverse left)) ≡ converted_arguments params values
arguments_begun params values left l =
    begun (rest params 0 left) ∙ ap (λ xs. converted_arguments params (reverse xs)) l ∙ ap (converted_arguments params) (reverse-reverse values)
