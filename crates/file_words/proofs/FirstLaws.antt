-- A refusal is the first of the list that holds.
use Rattle.std.proofs.Common.{◌≡◌, ℕ, Bool, true, false, cond, List, [], ◌∷◌, ◌++◌, Result, Ok, Err, Option, Some, None, refl, sym, ap, ◌∙◌}
use Rattle.std.specs.Prelude.{find}
use Rattle.file_words.specs.Firsts.{first_of, NoneHolds, IsFirst}

err_is : {K X : Type 0} (k j : K) → (let r : Result X K = Err k in r) ≡ Err j → k ≡ j
err_is k j e = cc

err_is_ok : {K X : Type 0} (k : K) (x : X) → (let r : Result X K = Ok x in r) ≡ Err k → ⊥
err_is_ok k x e = cc

refused_case : {K X : Type 0} (p : K → Bool) (k : K) (ks : List K) (x : X) (j : K) (b : Bool) → p k ≡ b → cond b (Err k) (first_of p ks x) ≡ Err j → (first_of p ks x ≡ Err j → IsFirst p ks j) → IsFirst p (k ∷ ks) j
refused_case {K} {X} p k ks x j true t e later =
    let same : k ≡ j = err_is {X = X} k j e in
    record { before = []; after = ks; parts = ap (λ (i : K). i ∷ ks) same; holds = ap p (sym same) ∙ t; none = tt }
refused_case {K} p k ks x j false t e later =
    let h = later e in
    record { before = k ∷ h.before; after = h.after; parts = ap (λ (is : List K). k ∷ is) h.parts; holds = h.holds; none = (t, h.none) }

pub first_refused : {K X : Type 0} (p : K → Bool) (ks : List K) (x : X) (j : K) → first_of p ks x ≡ Err j → IsFirst p ks j
first_refused p [] x j e = absurd (err_is_ok j x e)
first_refused p (k ∷ ks) x j e = refused_case p k ks x j (p k) refl e (first_refused p ks x j)

pub first_skips : {K X : Type 0} (p : K → Bool) (ks ls : List K) (x : X) → NoneHolds p ks → first_of p (ks ++ ls) x ≡ first_of p ls x
first_skips p [] ls x h = refl
first_skips p (k ∷ ks) ls x h = rw h.0 (first_skips p ks ls x h.1)

-- the other direction
pub first_refuses : {K X : Type 0} (p : K → Bool) (ks : List K) (x : X) (j : K) → IsFirst p ks j → first_of p ks x ≡ Err j
first_refuses {K} p ks x j h = ap (λ (is : List K). first_of p is x) h.parts ∙ first_skips p h.before (j ∷ h.after) x h.none ∙ rw h.holds refl

accepted_case : {K X : Type 0} (b : Bool) (k : K) (r : Result X K) (y : X) → cond b (Err k) r ≡ Ok y → (b ≡ false) × (r ≡ Ok y)
accepted_case true k r y e = absurd cc
accepted_case false k r y e = (refl, e)

-- what is accepted is the value, and nothing of the list holds
pub first_accepted : {K X : Type 0} (p : K → Bool) (ks : List K) (x y : X) → first_of p ks x ≡ Ok y → NoneHolds p ks × (x ≡ y)
first_accepted p [] x y e = (tt, cc)
first_accepted p (k ∷ ks) x y e =
    let h = accepted_case (p k) k (first_of p ks x) y e in
    let rest = first_accepted p ks x y h.1 in
    ((h.0, rest.0), rest.1)

pub first_accepts : {K X : Type 0} (p : K → Bool) (ks : List K) (x : X) → NoneHolds p ks → first_of p ks x ≡ Ok x
first_accepts p [] x h = refl
first_accepts p (k ∷ ks) x h = rw h.0 (first_accepts p ks x h.1)

-- ---- what a walk over a front of the list finds

find_case : {K X : Type 0} (p : K → Bool) (j : K) (ks ls : List K) (x : X) (k : K) (b : Bool) → cond b (Some j) (find p ks) ≡ Some k → (find p ks ≡ Some k → first_of p (ks ++ ls) x ≡ Err k) → cond b (Err j) (first_of p (ks ++ ls) x) ≡ Err k
find_case {K} p j ks ls x k true e h = let same : j ≡ k = cc in ap (λ (i : K). Err i) same
find_case p j ks ls x k false e h = h e

some_none : {K : Type 0} (k : K) → (let o : Option K = None in o) ≡ Some k → ⊥
some_none k e = cc

pub find_first : {K X : Type 0} (p : K → Bool) (ks ls : List K) (x : X) (k : K) → find p ks ≡ Some k → first_of p (ks ++ ls) x ≡ Err k
find_first p [] ls x k e = absurd (some_none k e)
find_first {K} {X} p (j ∷ ks) ls x k e = find_case {X = X} p j ks ls x k (p j) e (find_first p ks ls x k)

none_case : {K : Type 0} (b : Bool) (j : K) (o : Option K) → cond b (Some j) o ≡ None → (b ≡ false) × (o ≡ None)
none_case true j o e = absurd cc
none_case false j o e = (refl, e)

pub find_none : {K : Type 0} (p : K → Bool) (ks : List K) → find p ks ≡ None → NoneHolds p ks
find_none p [] e = tt
find_none p (j ∷ ks) e = let h = none_case (p j) j (find p ks) e in (h.0, find_none p ks h.1)
