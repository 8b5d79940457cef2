-- Laws of the words over the numbers below n.
use Rattle.std.proofs.Common.{◌≡◌, ◌≢◌, ℕ, zero, suc, ◌+◌, ◌-◌, ◌*◌, ◌<◌, ◌≤◌, Bool, true, false, cond, ◌||◌, ◌&&◌, ltb, leb, List, [], ◌∷◌, ◌++◌, length, get_or, set, Option, Some, None, refl, sym, ap, subst, ◌∙◌, arith, add-one, inl, inr}
use Rattle.std.proofs.lemmas.Bool.{cases_eq, or_parts, or_from, or_left, or_right, le-leb, lt-leb, lt-ltb, le-ltb, cases_lt, and_right}
use Rattle.std.specs.Prelude.{replicate}
use Rattle.std.proofs.lemmas.List.{replicate_more, append-nil, length_push, get_or_push, get_or_append_left, ext_get_or, length-set, get_or-set_same, get_or-set_other}
use Rattle.file_words.specs.Below.{any_below, count_below, or_else, first_below, past_last, table, chosen, gathered}

-- ---- some number below n

pub any_none : (p : ℕ → Bool) → false ≡ any_below p 0
unfolding any_below
any_none p = refl

-- a walk that goes on after it found one
pub any_step : (p : ℕ → Bool) (i : ℕ) (b c : Bool) → b ≡ any_below p i → c ≡ p i → (b || c) ≡ any_below p (i + 1)
unfolding any_below
any_step p i b c e f = rw (add-one, e, f) refl

pub none_below : (p : ℕ → Bool) (n i : ℕ) → any_below p n ≡ false → i < n → p i ≡ false
unfolding any_below
none_below p zero i e lt = absurd (omega arith)
none_below p (suc n) i e lt =
    let h = or_parts (any_below p n) (p n) e in
    elim (cases_eq i n) [
      | inl same ↦ subst (λ (k : ℕ). p k ≡ false) (sym same) h.1
      | inr other ↦ none_below p n i h.0 (omega (arith, other))
    ]

pub any_found : (p : ℕ → Bool) (n i : ℕ) → i < n → p i ≡ true → any_below p n ≡ true
unfolding any_below
any_found p zero i lt e = absurd (omega arith)
any_found p (suc n) i lt e =
    elim (cases_eq i n) [
      | inl same ↦ or_right (any_below p n) (p n) (subst (λ (k : ℕ). p k ≡ true) same e)
      | inr other ↦ or_left (any_below p n) (p n) (any_found p n i (omega (arith, other)) e)
    ]

pub any_never : (p : ℕ → Bool) (n : ℕ) → ((i : ℕ) → i < n → p i ≡ false) → any_below p n ≡ false
unfolding any_below
any_never p zero h = refl
any_never p (suc n) h = or_from (any_below p n) (p n) (any_never p n (λ i lt. h i (omega arith))) (h n (omega arith))

-- two tests that agree below n
pub any_same : (p q : ℕ → Bool) (n : ℕ) → ((i : ℕ) → i < n → p i ≡ q i) → any_below p n ≡ any_below q n
unfolding any_below
any_same p q zero h = refl
any_same p q (suc n) h = rw (any_same p q n (λ i lt. h i (omega arith)), h n (omega arith)) refl

-- ---- the last number that passes

pub last_none : (p : ℕ → Bool) → 0 ≡ past_last p 0
unfolding past_last
last_none p = refl

pub last_yes : (p : ℕ → Bool) (i : ℕ) → p i ≡ true → i + 1 ≡ past_last p (i + 1)
unfolding past_last
last_yes p i t = rw (add-one, t) (omega arith)

pub last_no : (p : ℕ → Bool) (i n : ℕ) → n ≡ past_last p i → p i ≡ false → n ≡ past_last p (i + 1)
unfolding past_last
last_no p i n e f = rw (add-one, f) e

past_le : (p : ℕ → Bool) (n : ℕ) → past_last p n ≤ n
unfolding past_last
past_le p zero = omega arith
past_le p (suc n) = elim (p n) as (λ b. cond b (n + 1) (past_last p n) ≤ suc n) [ true ↦ omega arith | false ↦ omega (arith, past_le p n) ]

or_false : (x y : Bool) → y ≡ false → (x || y) ≡ x
or_false true y f = refl
or_false false y f = f

from_case : (p : ℕ → Bool) (o n : ℕ) (b : Bool) → any_below (λ k. leb o k && p k) n ≡ ltb o (past_last p n) → (any_below (λ k. leb o k && p k) n || (leb o n && b)) ≡ ltb o (cond b (n + 1) (past_last p n))
from_case p o n true e =
    elim (cases_lt n o) [
      | inl lt ↦ or_from (any_below (λ k. leb o k && p k) n) (leb o n && true) (e ∙ le-ltb o (past_last p n) (omega (arith, past_le p n))) (rw (lt-leb o n lt) refl) ∙ sym (le-ltb o (n + 1) (omega arith))
      | inr le ↦ or_right (any_below (λ k. leb o k && p k) n) (leb o n && true) (rw (le-leb o n le) refl) ∙ sym (lt-ltb o (n + 1) (omega arith))
    ]
from_case p o n false e = or_false (any_below (λ k. leb o k && p k) n) (leb o n && false) (and_right (leb o n) false refl) ∙ e

-- some number from o on passes exactly where o is no further than the last
pub from_last : (p : ℕ → Bool) (o n : ℕ) → any_below (λ k. leb o k && p k) n ≡ ltb o (past_last p n)
unfolding any_below past_last
from_last p o zero = sym (le-ltb o 0 (omega arith))
from_last p o (suc n) = from_case p o n (p n) (from_last p o n)

-- ---- tables

pub table_none : {X : Type 0} (f : ℕ → X) → [] ≡ table f 0
unfolding table
table_none f = refl

pub table_more : {X : Type 0} (f : ℕ → X) (i : ℕ) → table f (i + 1) ≡ table f i ++ f i ∷ []
unfolding table
table_more f i = rw add-one refl

pub table_step : {X : Type 0} (f : ℕ → X) (i : ℕ) (xs : List X) (y : X) → xs ≡ table f i → y ≡ f i → xs ++ y ∷ [] ≡ table f (i + 1)
table_step f i xs y e g = rw (e, g) (sym (table_more f i))

pub length_table : {X : Type 0} (f : ℕ → X) (n : ℕ) → length (table f n) ≡ n
unfolding table
length_table f zero = refl
length_table f (suc n) = omega (arith, length_push (table f n) (f n), length_table f n)

pub get_or_table : {X : Type 0} (f : ℕ → X) (n i : ℕ) (d : X) → i < n → get_or (table f n) i d ≡ f i
unfolding table
get_or_table f zero i d lt = absurd (omega arith)
get_or_table f (suc n) i d lt =
    let long : length (table f n) ≡ n = length_table f n in
    elim (cases_eq i n) [
      | inl same ↦ get_or_push (table f n) (f n) d i (omega (arith, long)) ∙ ap f (sym same)
      | inr other ↦ get_or_append_left (table f n) (f n ∷ []) d i (omega (arith, long, other)) ∙ get_or_table f n i d (omega (arith, other))
    ]

pub table_at : {X : Type 0} (f : ℕ → X) (n : ℕ) (xs : List X) (i : ℕ) (d : X) → xs ≡ table f n → i < n → get_or xs i d ≡ f i
table_at f n xs i d e lt = ap (λ ys. get_or ys i d) e ∙ get_or_table f n i d lt

pub table_long : {X : Type 0} (f : ℕ → X) (n : ℕ) (xs : List X) → xs ≡ table f n → length xs ≡ n
table_long f n xs e = ap length e ∙ length_table f n

pub table_is : {X : Type 0} (f : ℕ → X) (n : ℕ) (xs : List X) (d : X) → length xs ≡ n → ((i : ℕ) → i < n → get_or xs i d ≡ f i) → xs ≡ table f n
table_is f n xs d long h = ext_get_or d xs (table f n) (long ∙ sym (length_table f n)) (λ i lt. h i (omega (arith, long)) ∙ sym (get_or_table f n i d (omega (arith, long))))

pub table_same : {X : Type 0} (f g : ℕ → X) (n : ℕ) → ((i : ℕ) → i < n → f i ≡ g i) → table f n ≡ table g n
unfolding table
table_same f g zero h = refl
table_same f g (suc n) h = rw (table_same f g n (λ i lt. h i (omega arith)), h n (omega arith)) refl

-- a write to a table
pub table_set : {X : Type 0} (f g : ℕ → X) (n k : ℕ) (xs : List X) (y : X) → xs ≡ table f n → (k < n → y ≡ g k) → ((i : ℕ) → i < n → i ≢ k → f i ≡ g i) → set xs k y ≡ table g n
table_set f g n k xs y e here other =
    let long : length xs ≡ n = table_long f n xs e in
    table_is g n (set xs k y) y (length-set xs k y ∙ long) (λ i lt. elim (cases_eq i k) [
      | inl same ↦ subst (λ (j : ℕ). get_or (set xs k y) j y ≡ g j) (sym same) (get_or-set_same xs k y y (omega (arith, long, same)) ∙ here (omega (arith, same)))
      | inr ne ↦ get_or-set_other xs k i y y ne ∙ table_at f n xs i y e lt ∙ other i lt ne
    ])

-- ---- the numbers that pass

pub chosen_none : {X : Type 0} (p : ℕ → Bool) (f : ℕ → X) → [] ≡ chosen p f 0
unfolding chosen
chosen_none p f = refl

pub chosen_yes : {X : Type 0} (p : ℕ → Bool) (f : ℕ → X) (i : ℕ) (xs : List X) (y : X) → xs ≡ chosen p f i → p i ≡ true → y ≡ f i → xs ++ y ∷ [] ≡ chosen p f (i + 1)
unfolding chosen
chosen_yes p f i xs y e t g = rw (add-one, t, e, g) refl

pub chosen_no : {X : Type 0} (p : ℕ → Bool) (f : ℕ → X) (i : ℕ) (xs : List X) → xs ≡ chosen p f i → p i ≡ false → xs ≡ chosen p f (i + 1)
unfolding chosen
chosen_no p f i xs e t = rw (add-one, t) (e ∙ sym (append-nil (chosen p f i)))

pub gathered_none : {X : Type 0} (p : ℕ → Bool) (f : ℕ → List X) → [] ≡ gathered p f 0
unfolding gathered
gathered_none p f = refl

pub gathered_yes : {X : Type 0} (p : ℕ → Bool) (f : ℕ → List X) (i : ℕ) (xs ys : List X) → xs ≡ gathered p f i → p i ≡ true → ys ≡ f i → xs ++ ys ≡ gathered p f (i + 1)
unfolding gathered
gathered_yes p f i xs ys e t g = rw (add-one, t, e, g) refl

pub gathered_no : {X : Type 0} (p : ℕ → Bool) (f : ℕ → List X) (i : ℕ) (xs : List X) → xs ≡ gathered p f i → p i ≡ false → xs ≡ gathered p f (i + 1)
unfolding gathered
gathered_no p f i xs e t = rw (add-one, t) (e ∙ sym (append-nil (gathered p f i)))

pub count_none : (p : ℕ → Bool) → 0 ≡ count_below p 0
unfolding count_below
count_none p = refl

pub count_step : (p : ℕ → Bool) (i n : ℕ) (b : Bool) → n ≡ count_below p i → b ≡ p i → n + cond b 1 0 ≡ count_below p (i + 1)
unfolding count_below
count_step p i n b e f = rw (add-one, e, f) refl

pub count_yes : (p : ℕ → Bool) (i n : ℕ) → n ≡ count_below p i → p i ≡ true → n + 1 ≡ count_below p (i + 1)
unfolding count_below
count_yes p i n e t = rw (e, add-one i, t) refl

pub count_no : (p : ℕ → Bool) (i n : ℕ) → n ≡ count_below p i → p i ≡ false → n ≡ count_below p (i + 1)
unfolding count_below
count_no p i n e t = rw (add-one, t) (omega (arith, e))

pub count_le : (p : ℕ → Bool) (n : ℕ) → count_below p n ≤ n
unfolding count_below
count_le p zero = omega arith
count_le p (suc n) = elim (p n) as (λ b. count_below p n + cond b 1 0 ≤ suc n) [ true ↦ omega (arith, count_le p n) | false ↦ omega (arith, count_le p n) ]

-- ---- the first number that passes

pub first_none : (p : ℕ → Bool) → None ≡ first_below p 0
unfolding first_below
first_none p = refl

first_case : (i : ℕ) (o : Option ℕ) → or_else o (cond false (Some i) None) ≡ o
first_case i None = refl
first_case i (Some x) = refl

-- another number that doesn't pass
pub first_kept : (p : ℕ → Bool) (i : ℕ) → p i ≡ false → first_below p i ≡ first_below p (i + 1)
unfolding first_below
first_kept p i e = rw (add-one, e) (sym (first_case i (first_below p i)))

-- one was found before
pub first_stays : (p : ℕ → Bool) (i k : ℕ) → first_below p i ≡ Some k → first_below p i ≡ first_below p (i + 1)
unfolding first_below
first_stays p i k e = rw (add-one, e) refl

-- none was found before
pub first_found : (p : ℕ → Bool) (i : ℕ) → first_below p i ≡ None → p i ≡ true → Some i ≡ first_below p (i + 1)
unfolding first_below
first_found p i e t = rw (add-one, e, t) refl

-- a table of one value
pub table_replicate : {X : Type 0} (n : ℕ) (y : X) → replicate n y ≡ table (λ i. y) n
unfolding table
table_replicate zero y = refl
table_replicate (suc n) y = sym (ap (λ k. replicate k y) (add-one n)) ∙ sym (replicate_more n y) ∙ ap (λ xs. xs ++ y ∷ []) (table_replicate n y)
