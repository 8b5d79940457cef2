-- Parts in order, one more at a time: for loops over the parts that push what each gives.
use Rattle.std.proofs.Common.{◌≡◌, ℕ, ◌+◌, suc, ◌<◌, ◌≤◌, List, [], ◌∷◌, ◌++◌, map, drop, length, get_or, Result, Ok, Err, refl, sym, ap, ◌∙◌, add-one, append_assoc, append-nil}
use Rattle.std.proofs.Math.Seq.{drop-cons}
use Rattle.std.proofs.lemmas.List.{drop_all}
use Rattle.c_typing.specs.declared.faults.Fault.{Fault}
use Rattle.c_typing.specs.declared.faults.Refusal.{Refusal}
use Rattle.c_typing.specs.declared.faults.Refusal.TheVariants as refusal
use Rattle.c_typing.specs.declared.scopes.LocalScope.{LocalScope}
use Rattle.c_typing.specs.declared.tables.Tables.{Tables}
use Rattle.c_typing.specs.Visits.{Visit, onward, followed, give, each_in_order, behind, Leaves}
use Rattle.c_typing.specs.Statements.{Scoped, ScopeVisit, in_scopes, scoped_behind}

-- the rest of a list begins with the element at the place
pub rest_is : {A : Type 0} (xs : List A) (i : ℕ) (x : A) → i < length xs → x ≡ get_or xs i x → drop i xs ≡ x ∷ drop (i + 1) xs
rest_is xs i x h e = drop-cons xs i x h ∙ ap (λ y. y ∷ drop (suc i) xs) (sym e) ∙ ap (λ n. x ∷ drop n xs) (sym (add-one i))

behind-cons : {S A : Type 0} (front : List A) (y : A) (r : Result (List A × S) Fault) → behind front (onward r (λ ys. give (y ∷ ys))) ≡ behind (front ++ y ∷ []) r
unfolding give
behind-cons front y (Ok x) = ap (λ ys. Ok (ys, x.1)) (sym (append_assoc front (y ∷ []) x.0))
behind-cons front y (Err e) = refl

behind-each : {S A : Type 0} (front : List A) (v : Visit S A) (vs : List (Visit S A)) (s s' : S) (y : A) → v s ≡ Ok (y, s') →
    behind front (each_in_order (v ∷ vs) s) ≡ behind (front ++ y ∷ []) (each_in_order vs s')
unfolding each_in_order followed give
behind-each front v vs s s' y e =
    ap (λ r. behind front (onward r (λ x. followed (each_in_order vs) (λ xs. give (x ∷ xs))))) e ∙ behind-cons front y (each_in_order vs s')

-- one more part
pub each_more : {S A B : Type 0} (visit : A → Visit S B) (xs : List A) (i : ℕ) (x : A) (front : List B) (s s' : S) (y : B) →
    i < length xs → x ≡ get_or xs i x → visit x s ≡ Ok (y, s') →
    behind front (each_in_order (map visit (drop i xs)) s) ≡ behind (front ++ y ∷ []) (each_in_order (map visit (drop (i + 1) xs)) s')
each_more visit xs i x front s s' y h e v =
    ap (λ ys. behind front (each_in_order (map visit ys) s)) (rest_is xs i x h e)
    ∙ behind-each front (visit x) (map visit (drop (i + 1) xs)) s s' y v

each-failed : {S A : Type 0} (front : List A) (v : Visit S A) (vs : List (Visit S A)) (s : S) (f : Fault) → v s ≡ Err f →
    behind front (each_in_order (v ∷ vs) s) ≡ Err f
unfolding each_in_order followed
each-failed front v vs s f e = ap (λ r. behind front (onward r (λ x. followed (each_in_order vs) (λ xs. give (x ∷ xs))))) e

-- a part has a fault
pub each_failed : {S A B : Type 0} (visit : A → Visit S B) (xs : List A) (i : ℕ) (x : A) (front : List B) (s : S) (f : Fault) →
    i < length xs → x ≡ get_or xs i x → visit x s ≡ Err f → behind front (each_in_order (map visit (drop i xs)) s) ≡ Err f
each_failed visit xs i x front s f h e v =
    ap (λ ys. behind front (each_in_order (map visit ys) s)) (rest_is xs i x h e)
    ∙ each-failed front (visit x) (map visit (drop (i + 1) xs)) s f v

-- no part is left
pub each_done : {S A : Type 0} (front : List A) (s : S) → behind front (each_in_order [] s) ≡ Ok (front, s)
unfolding each_in_order give
each_done front s = ap (λ ys. Ok (ys, s)) (append-nil front)

-- none has been visited
pub each_begun : {S A : Type 0} (r : Result (List A × S) Fault) → behind [] r ≡ r
each_begun (Ok x) = refl
each_begun (Err e) = refl

scoped-cons : {A : Type 0} (front part : List A) (r : Result (Scoped (List A) × Tables) Fault) →
    scoped_behind front (onward r (λ rest. give (record { part = part ++ rest.part; locals = rest.locals }))) ≡ scoped_behind (front ++ part) r
unfolding give
scoped-cons front part (Ok x) = ap (λ ys. Ok (record { part = ys; locals = x.0.locals }, x.1)) (sym (append_assoc front part x.0.part))
scoped-cons front part (Err e) = refl

scoped-each : {A : Type 0} (front : List A) (v : ScopeVisit A) (vs : List (ScopeVisit A)) (locals : LocalScope) (t t' : Tables) (first : Scoped (List A)) → v locals t ≡ Ok (first, t') →
    scoped_behind front (in_scopes (v ∷ vs) locals t) ≡ scoped_behind (front ++ first.part) (in_scopes vs first.locals t')
unfolding in_scopes followed give
scoped-each front v vs locals t t' first e =
    ap (λ r. scoped_behind front (onward r (λ x. followed (in_scopes vs x.locals) (λ rest. give (record { part = x.part ++ rest.part; locals = rest.locals }))))) e
    ∙ scoped-cons front first.part (in_scopes vs first.locals t')

-- one more part, in the scope behind the one before
pub scopes_more : {A B : Type 0} (visit : A → ScopeVisit B) (xs : List A) (i : ℕ) (x : A) (front : List B) (locals : LocalScope) (t t' : Tables) (first : Scoped (List B)) →
    i < length xs → x ≡ get_or xs i x → visit x locals t ≡ Ok (first, t') →
    scoped_behind front (in_scopes (map visit (drop i xs)) locals t) ≡ scoped_behind (front ++ first.part) (in_scopes (map visit (drop (i + 1) xs)) first.locals t')
scopes_more visit xs i x front locals t t' first h e v =
    ap (λ ys. scoped_behind front (in_scopes (map visit ys) locals t)) (rest_is xs i x h e)
    ∙ scoped-each front (visit x) (map visit (drop (i + 1) xs)) locals t t' first v

scoped-failed : {A : Type 0} (front : List A) (v : ScopeVisit A) (vs : List (ScopeVisit A)) (locals : LocalScope) (t : Tables) (f : Fault) → v locals t ≡ Err f →
    scoped_behind front (in_scopes (v ∷ vs) locals t) ≡ Err f
unfolding in_scopes followed
scoped-failed front v vs locals t f e = ap (λ r. scoped_behind front (onward r (λ x. followed (in_scopes vs x.locals) (λ rest. give (record { part = x.part ++ rest.part; locals = rest.locals }))))) e

pub scopes_failed : {A B : Type 0} (visit : A → ScopeVisit B) (xs : List A) (i : ℕ) (x : A) (front : List B) (locals : LocalScope) (t : Tables) (f : Fault) →
    i < length xs → x ≡ get_or xs i x → visit x locals t ≡ Err f → scoped_behind front (in_scopes (map visit (drop i xs)) locals t) ≡ Err f
scopes_failed visit xs i x front locals t f h e v =
    ap (λ ys. scoped_behind front (in_scopes (map visit ys) locals t)) (rest_is xs i x h e)
    ∙ scoped-failed front (visit x) (map visit (drop (i + 1) xs)) locals t f v

pub scopes_done : {A : Type 0} (front : List A) (locals : LocalScope) (t : Tables) → scoped_behind front (in_scopes [] locals t) ≡ Ok (record { part = front; locals = locals }, t)
unfolding in_scopes give
scopes_done front locals t = ap (λ ys. Ok (record { part = ys; locals = locals }, t)) (append-nil front)

pub scopes_begun : {A : Type 0} (r : Result (Scoped (List A) × Tables) Fault) → scoped_behind [] r ≡ r
scopes_begun (Ok x) = refl
scopes_begun (Err e) = refl

-- The same for an invariant: the result of the whole is what is left, behind what was pushed.

pub each_kept : {S A B : Type 0} (visit : A → Visit S B) (xs : List A) (i : ℕ) (x : A) (front next : List B) (s s' : S) (y : B) (whole : Result (List B × S) Fault) →
    i < length xs → x ≡ get_or xs i x → visit x s ≡ Ok (y, s') → next ≡ front ++ y ∷ [] →
    behind front (each_in_order (map visit (drop i xs)) s) ≡ whole → behind next (each_in_order (map visit (drop (i + 1) xs)) s') ≡ whole
each_kept visit xs i x front next s s' y whole h e v p inv =
    ap (λ ys. behind ys (each_in_order (map visit (drop (i + 1) xs)) s')) p ∙ sym (each_more visit xs i x front s s' y h e v) ∙ inv

pub each_refused : {S A B : Type 0} (visit : A → Visit S B) (xs : List A) (i : ℕ) (x : A) (front : List B) (s : S) (f : Fault) (whole : Result (List B × S) Fault) →
    i < length xs → x ≡ get_or xs i x → visit x s ≡ Err f → behind front (each_in_order (map visit (drop i xs)) s) ≡ whole → whole ≡ Err f
each_refused visit xs i x front s f whole h e v inv = sym inv ∙ each_failed visit xs i x front s f h e v

pub each_whole : {S A B : Type 0} (visit : A → Visit S B) (xs : List A) (i : ℕ) (front : List B) (s : S) (whole : Result (List B × S) Fault) →
    length xs ≤ i → behind front (each_in_order (map visit (drop i xs)) s) ≡ whole → whole ≡ Ok (front, s)
each_whole visit xs i front s whole h inv =
    sym inv ∙ ap (λ ys. behind front (each_in_order (map visit ys) s)) (drop_all i xs h) ∙ each_done front s

pub scopes_kept : {A B : Type 0} (visit : A → ScopeVisit B) (xs : List A) (i : ℕ) (x : A) (front next : List B) (locals : LocalScope) (t t' : Tables) (first : Scoped (List B)) (whole : Result (Scoped (List B) × Tables) Fault) →
    i < length xs → x ≡ get_or xs i x → visit x locals t ≡ Ok (first, t') → next ≡ front ++ first.part →
    scoped_behind front (in_scopes (map visit (drop i xs)) locals t) ≡ whole → scoped_behind next (in_scopes (map visit (drop (i + 1) xs)) first.locals t') ≡ whole
scopes_kept visit xs i x front next locals t t' first whole h e v p inv =
    ap (λ ys. scoped_behind ys (in_scopes (map visit (drop (i + 1) xs)) first.locals t')) p ∙ sym (scopes_more visit xs i x front locals t t' first h e v) ∙ inv

pub scopes_refused : {A B : Type 0} (visit : A → ScopeVisit B) (xs : List A) (i : ℕ) (x : A) (front : List B) (locals : LocalScope) (t : Tables) (f : Fault) (whole : Result (Scoped (List B) × Tables) Fault) →
    i < length xs → x ≡ get_or xs i x → visit x locals t ≡ Err f → scoped_behind front (in_scopes (map visit (drop i xs)) locals t) ≡ whole → whole ≡ Err f
scopes_refused visit xs i x front locals t f whole h e v inv = sym inv ∙ scopes_failed visit xs i x front locals t f h e v

pub scopes_whole : {A B : Type 0} (visit : A → ScopeVisit B) (xs : List A) (i : ℕ) (front : List B) (locals : LocalScope) (t : Tables) (whole : Result (Scoped (List B) × Tables) Fault) →
    length xs ≤ i → scoped_behind front (in_scopes (map visit (drop i xs)) locals t) ≡ whole → whole ≡ Ok (record { part = front; locals = locals }, t)
scopes_whole visit xs i front locals t whole h inv =
    sym inv ∙ ap (λ ys. scoped_behind front (in_scopes (map visit ys) locals t)) (drop_all i xs h) ∙ scopes_done front locals t

-- a call for a part refused: so does the whole, whatever state is left
pub each_left : {S A B : Type 0} (visit : A → Visit S B) (xs : List A) (i : ℕ) (x : A) (front : List B) (s s' : S) (e : Refusal) (whole : Result (List B × S) Fault) →
    i < length xs → x ≡ get_or xs i x → Leaves (visit x s) (Err e) s' → behind front (each_in_order (map visit (drop i xs)) s) ≡ whole → Leaves whole (Err e) s'
each_left visit xs i x front s s' (refusal.Fault f) whole h w v inv = each_refused visit xs i x front s f whole h w v inv
each_left visit xs i x front s s' refusal.NoMemory whole h w v inv = tt

pub scopes_left : {A B : Type 0} (visit : A → ScopeVisit B) (xs : List A) (i : ℕ) (x : A) (front : List B) (locals : LocalScope) (t t' : Tables) (e : Refusal) (whole : Result (Scoped (List B) × Tables) Fault) →
    i < length xs → x ≡ get_or xs i x → Leaves (visit x locals t) (Err e) t' → scoped_behind front (in_scopes (map visit (drop i xs)) locals t) ≡ whole → Leaves whole (Err e) t'
scopes_left visit xs i x front locals t t' (refusal.Fault f) whole h w v inv = scopes_refused visit xs i x front locals t f whole h w v inv
scopes_left visit xs i x front locals t t' refusal.NoMemory whole h w v inv = tt
