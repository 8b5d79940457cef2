-- The active calls as the meaning sees them, the innermost first, and as a vector keeps them.
use Rattle.std.proofs.Common.{◌≡◌, ℕ, zero, suc, ◌+◌, ◌-◌, Bool, true, false, List, [], ◌∷◌, ◌++◌, length, refl, sym, ap, ◌∙◌, arith}
use Rattle.std.specs.Prelude.{max, drop, map, reverse, nat_eq, if◌then◌else◌, get_or, slice_get, slice_set, Option, Some, None}
use Rattle.std.proofs.lemmas.List.{reverse-append, reverse-reverse, length-reverse}
use Rattle.std.proofs.lemmas.Bool.{eqb-true, eqb-false, eq-eqb, ne_eqb}
use Rattle.std.proofs.lemmas.Option.{none-some}
use Rattle.c_program.specs.declared.expressions.Target.{Target}
use Rattle.c_program.specs.declared.program.PathStep.{PathStep}
use Rattle.c_values.specs.declared.value.Value.{Value}
use Rattle.c_values.specs.Objects.{nothing, write_path}
use Rattle.c_meaning.specs.States.{Frame, local_in, with_local, active_in, opened}
use Rattle.c_state.specs.declared.activation.Activation.{Activation}
use Rattle.c_state.specs.Seen.{Unseen, stood, walking, frame_of, frames_of, frames_in, activation_in, local_at, top_rewritten, below_rewritten}

pub frames_none : frames_of [] ≡ []
unfolding frames_of
frames_none = refl

pub frames_push : (xs : List Activation) (a : Activation) → frames_of (xs ++ a ∷ []) ≡ frame_of a ∷ frames_of xs
unfolding frames_of
frames_push xs a = ap (map frame_of) (reverse-append xs (a ∷ []))

mapped_length : (ys : List Activation) → length (map frame_of ys) ≡ length ys
mapped_length [] = refl
mapped_length (y ∷ ys) = ap suc (mapped_length ys)

at_end : (zs : List Activation) (y : Activation) (n : ℕ) → length zs ≡ n → slice_get (zs ++ y ∷ []) n ≡ Some y
at_end [] y zero e = refl
at_end [] y (suc n) e = absurd (omega (arith, e))
at_end (z ∷ zs) y zero e = absurd (omega (arith, e))
at_end (z ∷ zs) y (suc n) e = at_end zs y n (omega (arith, e))

not_end : (zs : List Activation) (y : Activation) (n : ℕ) → (length zs ≡ n → ⊥) → slice_get (zs ++ y ∷ []) n ≡ slice_get zs n
not_end [] y zero e = absurd (e refl)
not_end [] y (suc zero) e = refl
not_end [] y (suc (suc n)) e = refl
not_end (z ∷ zs) y zero e = refl
not_end (z ∷ zs) y (suc n) e = not_end zs y n (λ h. e (ap suc h))

choose_by : (b : Bool) (n l : ℕ) (y : Activation) (zs : List Activation) (rest : Value) → nat_eq (length zs) n ≡ b → rest ≡ local_at (slice_get zs n) l → (if b then get_or y.locals l nothing else rest) ≡ local_at (slice_get (zs ++ y ∷ []) n) l
choose_by true n l y zs rest e h = ap (λ o. local_at o l) (sym (at_end zs y n (eqb-true (length zs) n e)))
choose_by false n l y zs rest e h = h ∙ ap (λ o. local_at o l) (sym (not_end zs y n (eqb-false (length zs) n e)))

reverse_cons : (y : Activation) (ys : List Activation) → reverse (y ∷ ys) ≡ reverse ys ++ y ∷ []
reverse_cons y ys = reverse-append (y ∷ []) ys

found_in : (ys : List Activation) (n l : ℕ) → local_in (map frame_of ys) n l ≡ local_at (slice_get (reverse ys) n) l
found_in [] zero l = refl
found_in [] (suc n) l = refl
found_in (y ∷ ys) n l =
    ap (λ len. if nat_eq len n then get_or y.locals l nothing else local_in (map frame_of ys) n l) (mapped_length ys ∙ sym (length-reverse ys))
    ∙ choose_by (nat_eq (length (reverse ys)) n) n l y (reverse ys) _ refl (found_in ys n l)
    ∙ ap (λ zs. local_at (slice_get zs n) l) (sym (reverse_cons y ys))

pub local_found : (xs : List Activation) (n l : ℕ) → local_in (frames_of xs) n l ≡ local_at (slice_get xs n) l
unfolding frames_of
local_found xs n l = found_in (reverse xs) n l ∙ ap (λ zs. local_at (slice_get zs n) l) (reverse-reverse xs)

-- a vector whose activation at a place has another local
abbrev pub with_local_at : List Activation → ℕ → ℕ → Value → List Activation
with_local_at [] n l v = []
with_local_at (x ∷ xs) zero l v = record x { locals = slice_set x.locals l v } ∷ xs
with_local_at (x ∷ xs) (suc n) l v = x ∷ with_local_at xs n l v

set_end : (zs : List Activation) (y : Activation) (n l : ℕ) (v : Value) → length zs ≡ n → with_local_at (zs ++ y ∷ []) n l v ≡ zs ++ record y { locals = slice_set y.locals l v } ∷ []
set_end [] y zero l v e = refl
set_end [] y (suc n) l v e = absurd (omega (arith, e))
set_end (z ∷ zs) y zero l v e = absurd (omega (arith, e))
set_end (z ∷ zs) y (suc n) l v e = ap (λ t. z ∷ t) (set_end zs y n l v (omega (arith, e)))

set_before : (zs : List Activation) (y : Activation) (n l : ℕ) (v : Value) → (length zs ≡ n → ⊥) → with_local_at (zs ++ y ∷ []) n l v ≡ with_local_at zs n l v ++ y ∷ []
set_before [] y zero l v e = absurd (e refl)
set_before [] y (suc zero) l v e = refl
set_before [] y (suc (suc n)) l v e = refl
set_before (z ∷ zs) y zero l v e = refl
set_before (z ∷ zs) y (suc n) l v e = ap (λ t. z ∷ t) (set_before zs y n l v (λ h. e (ap suc h)))

choose_set : (b : Bool) (n l : ℕ) (v : Value) (y : Activation) (zs : List Activation) (rest : List Frame) → nat_eq (length zs) n ≡ b → rest ≡ map frame_of (reverse (with_local_at zs n l v)) → (if b then frame_of (record y { locals = slice_set y.locals l v }) ∷ map frame_of (reverse zs) else frame_of y ∷ rest) ≡ map frame_of (reverse (with_local_at (zs ++ y ∷ []) n l v))
choose_set true n l v y zs rest e h = sym (ap (λ t. map frame_of (reverse t)) (set_end zs y n l v (eqb-true (length zs) n e)) ∙ ap (map frame_of) (reverse-append zs (record y { locals = slice_set y.locals l v } ∷ [])))
choose_set false n l v y zs rest e h = ap (λ t. frame_of y ∷ t) h ∙ sym (ap (λ t. map frame_of (reverse t)) (set_before zs y n l v (eqb-false (length zs) n e)) ∙ ap (map frame_of) (reverse-append (with_local_at zs n l v) (y ∷ [])))

written_in : (ys : List Activation) (n l : ℕ) (v : Value) → with_local (map frame_of ys) n l v ≡ map frame_of (reverse (with_local_at (reverse ys) n l v))
written_in [] n l v = refl
written_in (y ∷ ys) n l v =
    ap (λ len. if nat_eq len n then frame_of (record y { locals = slice_set y.locals l v }) ∷ map frame_of ys else frame_of y ∷ with_local (map frame_of ys) n l v) (mapped_length ys ∙ sym (length-reverse ys))
    ∙ ap (λ t. if nat_eq (length (reverse ys)) n then frame_of (record y { locals = slice_set y.locals l v }) ∷ map frame_of t else frame_of y ∷ with_local (map frame_of ys) n l v) (sym (reverse-reverse ys))
    ∙ choose_set (nat_eq (length (reverse ys)) n) n l v y (reverse ys) _ refl (written_in ys n l v)
    ∙ ap (λ zs. map frame_of (reverse (with_local_at zs n l v))) (sym (reverse_cons y ys))

pub local_written : (xs : List Activation) (n l : ℕ) (v : Value) → with_local (frames_of xs) n l v ≡ frames_of (with_local_at xs n l v)
unfolding frames_of
local_written xs n l v = written_in (reverse xs) n l v ∙ ap (λ zs. map frame_of (reverse (with_local_at zs n l v))) (reverse-reverse xs)

pub frames_length : (xs : List Activation) → length (frames_of xs) ≡ length xs
unfolding frames_of
frames_length xs = mapped_length (reverse xs) ∙ length-reverse xs

found_by : (b : Bool) (a : Activation) (xs : List Activation) (n l : ℕ) → (if b then get_or a.locals l nothing else local_in (frames_of xs) n l) ≡ local_at (if b then Some a else slice_get xs n) l
found_by true a xs n l = refl
found_by false a xs n l = local_found xs n l

pub local_in_store : (top : Option Activation) (xs : List Activation) (n l : ℕ) → local_in (frames_in top xs) n l ≡ local_at (activation_in top xs n) l
local_in_store None xs n l = refl
local_in_store (Some a) xs n l = ap (λ len. if nat_eq len n then get_or a.locals l nothing else local_in (frames_of xs) n l) (frames_length xs) ∙ found_by (nat_eq (length xs) n) a xs n l

pub written_on_top : (a : Activation) (xs : List Activation) (n l : ℕ) (v : Value) → nat_eq (length xs) n ≡ true → with_local (frames_in (Some a) xs) n l v ≡ frames_in (Some (record a { locals = slice_set a.locals l v })) xs
written_on_top a xs n l v e = ap (λ b. if b then frame_of (record a { locals = slice_set a.locals l v }) ∷ frames_of xs else frame_of a ∷ with_local (frames_of xs) n l v) (ap (λ len. nat_eq len n) (frames_length xs) ∙ e)

pub written_below : (a : Activation) (xs : List Activation) (n l : ℕ) (v : Value) → nat_eq (length xs) n ≡ false → with_local (frames_in (Some a) xs) n l v ≡ frames_in (Some a) (with_local_at xs n l v)
written_below a xs n l v e = ap (λ b. if b then frame_of (record a { locals = slice_set a.locals l v }) ∷ frames_of xs else frame_of a ∷ with_local (frames_of xs) n l v) (ap (λ len. nat_eq len n) (frames_length xs) ∙ e) ∙ ap (λ t. frame_of a ∷ t) (local_written xs n l v)

pub none_left : (vs : List Value) (n : ℕ) → slice_get vs n ≡ None → drop n vs ≡ []
none_left [] zero e = refl
none_left [] (suc n) e = refl
none_left (v ∷ vs) zero e = absurd (none-some v (sym e))
none_left (v ∷ vs) (suc n) e = none_left vs n e

abbrev value_in : Option Value → Value
value_in None = nothing
value_in (Some w) = w

one_on : (n : ℕ) → suc (n + 1) ≡ suc n + 1
one_on n = omega arith

pub one_left : (vs : List Value) (n : ℕ) (v : Value) → slice_get vs n ≡ Some v → drop n vs ≡ v ∷ drop (n + 1) vs
one_left [] n v e = absurd (none-some v e)
one_left (u ∷ vs) zero v e = ap (λ o. value_in o ∷ vs) e
one_left (u ∷ vs) (suc n) v e = one_left vs n v e ∙ ap (λ k. v ∷ drop k (u ∷ vs)) (one_on n)

local_top : (a : Activation) (xs : List Activation) (n l : ℕ) → nat_eq (length xs) n ≡ true → local_in (frames_in (Some a) xs) n l ≡ get_or a.locals l nothing
local_top a xs n l e = local_in_store (Some a) xs n l ∙ ap (λ b. local_at (if b then Some a else slice_get xs n) l) e

local_deep : (a : Activation) (xs : List Activation) (n l : ℕ) → nat_eq (length xs) n ≡ false → local_in (frames_in (Some a) xs) n l ≡ local_at (slice_get xs n) l
local_deep a xs n l e = local_in_store (Some a) xs n l ∙ ap (λ b. local_at (if b then Some a else slice_get xs n) l) e

pub rewrites_top : (top : Option Activation) (xs : List Activation) (n l : ℕ) (path : List PathStep) (v : Value) → n ≡ length xs → frames_in (top_rewritten top l path v) xs ≡ with_local (frames_in top xs) n l (write_path (local_in (frames_in top xs) n l) path v)
rewrites_top None xs n l path v e = refl
rewrites_top (Some a) xs n l path v e = let same = eq-eqb (length xs) n (sym e) in
    sym (ap (λ x. with_local (frames_in (Some a) xs) n l (write_path x path v)) (local_top a xs n l same) ∙ written_on_top a xs n l (write_path (get_or a.locals l nothing) path v) same)

further_in : (o : Option Activation) (x : Activation) (xs : List Activation) (n l : ℕ) (path : List PathStep) (v : Value) → below_rewritten o (x ∷ xs) (suc n) l path v ≡ x ∷ below_rewritten o xs n l path v
further_in None x xs n l path v = refl
further_in (Some a) x xs n l path v = refl

deep_set : (xs : List Activation) (n l : ℕ) (path : List PathStep) (v : Value) → with_local_at xs n l (write_path (local_at (slice_get xs n) l) path v) ≡ below_rewritten (slice_get xs n) xs n l path v
deep_set [] zero l path v = refl
deep_set [] (suc n) l path v = refl
deep_set (x ∷ xs) zero l path v = refl
deep_set (x ∷ xs) (suc n) l path v = ap (λ t. x ∷ t) (deep_set xs n l path v) ∙ sym (further_in (slice_get xs n) x xs n l path v)

pub rewrites_below : (top : Option Activation) (xs : List Activation) (n l : ℕ) (path : List PathStep) (v : Value) → (n ≡ length xs → ⊥) → frames_in top (below_rewritten (slice_get xs n) xs n l path v) ≡ with_local (frames_in top xs) n l (write_path (local_in (frames_in top xs) n l) path v)
rewrites_below None xs n l path v e = refl
rewrites_below (Some a) xs n l path v e = let other = ne_eqb (length xs) n (λ h. e (sym h)) in
    ap (λ t. frames_in (Some a) t) (sym (deep_set xs n l path v))
    ∙ sym (ap (λ x. with_local (frames_in (Some a) xs) n l (write_path x path v)) (local_deep a xs n l other) ∙ written_below a xs n l (write_path (local_at (slice_get xs n) l) path v) other)

pub ruleset rewritings = (rewrites_top, rewrites_below)

stood_same : (g g' : List Value) (fs fs' : List Frame) (t t' p p' : ℕ) (h : Unseen) → g' ≡ g → fs' ≡ fs → t' ≡ t → p' ≡ p → stood g' fs' t' p' h ≡ stood g fs t p h
stood_same g g' fs fs' t t' p p' h a b c d = ap (λ x. stood x fs' t' p' h) a ∙ ap (λ x. stood g x t' p' h) b ∙ ap (λ x. stood g fs x p' h) c ∙ ap (λ x. stood g fs t x h) d

-- a call becomes the innermost
pub opens : (who : Target) (charge : ℕ) (locals extras : List Value) (g g' : List Value) (top top' : Option Activation) (bs bs' : List Activation) (t t' p p' n : ℕ) (h : Unseen) →
    g' ≡ g → top' ≡ Some (record { who = who; locals = locals; extras = extras; begun = None; active = n }) → frames_of bs' ≡ frames_in top bs → t' ≡ t → n ≡ active_in (frames_in top bs) + charge → p' ≡ max p n →
    stood g' (frames_in top' bs') t' p' (walking who h) ≡ opened who charge locals extras (stood g (frames_in top bs) t p h)
opens who charge locals extras g g' top top' bs bs' t t' p p' n h eg et eb en ea ep =
    stood_same g g' (record { who = who; locals = locals; extras = extras; rest = None; active = active_in (frames_in top bs) + charge } ∷ frames_in top bs) (frames_in top' bs') t t' (max p (active_in (frames_in top bs) + charge)) p' (walking who h) eg
    (ap (λ o. frames_in o bs') et ∙ ap (λ fs. record { who = who; locals = locals; extras = extras; rest = None; active = n } ∷ fs) eb ∙ ap (λ k. record { who = who; locals = locals; extras = extras; rest = None; active = k } ∷ frames_in top bs) ea)
    en (ep ∙ ap (max p) ea)
