-- What the index holds of a name, by its definitions.
use Rattle.std.proofs.Common.{◌≡◌, ◌⊎◌, ℕ, zero, suc, ◌+◌, ◌<◌, ◌≤◌, Bool, true, false, cond, not, ◌&&◌, ◌||◌, ltb, List, [], ◌∷◌, ◌++◌, length, get_or, take, slice_get, Option, Some, None, is_some, position, refl, sym, ap, subst, ◌∙◌, inl, inr, ⊎_elim, arith}
use Rattle.std.specs.Prelude.{find, count_by}
use Rattle.std.specs.List.{position_or_len, list_any}
use Rattle.std.specs.Str.{bytes_eq}
use Rattle.std.specs.HashMap.{HashMap, UpdatesBy, get_by}
use Rattle.std.proofs.lemmas.Bool.{cases_Bool, cases_lt, and_from, and_left, and_right, cond-true, cond-false, lt-ltb, le-ltb, false≢true, and_parts}
use Rattle.std.proofs.lemmas.Bool.Decides.{nat_tests}
use Rattle.std.proofs.lemmas.List.{length_push, take_more, length-take-le}
use Rattle.std.proofs.lemmas.List.Folds.{position_or_len_push, find_at, list_any-append}
use Rattle.std.proofs.lemmas.List.Sums.{sum_by-cons, sum_by_push, prefix_len-le-length}
use Rattle.std.proofs.lemmas.Option.{slice_get_past}
use Rattle.std.proofs.lemmas.Map.Text.{hash_map_updates_str}
use Rattle.std.proofs.lemmas.Slice.Eq.{bytes_eq-Decides}
use Rattle.link_resolve.specs.declared.table.Known.{Known}
use Rattle.link_resolve.specs.Symbols.{Symbol}
use Rattle.link_resolve.specs.Meaning.{is_definition, defines, definition_of}
use Rattle.link_resolve.specs.Refusals.{defines_alone, has_clash}
use Rattle.link_resolve.specs.Index.{known_at, known, known_with, Indexes}
use denote.Ref.{Bor}

-- ---- first positions, over any test

count_none_step : {X : Type 0} (p : X → Bool) (x : X) (xs : List X) → (position_or_len p xs ≡ length xs → count_by p xs ≡ 0) → position_or_len p (x ∷ xs) ≡ length (x ∷ xs) → count_by p (x ∷ xs) ≡ 0
count_none_step p x xs rest h = grind (arith, nat_tests, sum_by-cons)

count_none : {X : Type 0} (p : X → Bool) (xs : List X) → position_or_len p xs ≡ length xs → count_by p xs ≡ 0
count_none p [] h = refl
count_none p (x ∷ xs) h = count_none_step p x xs (count_none p xs) h

count_some_step : {X : Type 0} (p : X → Bool) (x : X) (xs : List X) → (position_or_len p xs < length xs → 0 < count_by p xs) → position_or_len p (x ∷ xs) < length (x ∷ xs) → 0 < count_by p (x ∷ xs)
count_some_step p x xs rest h =
    let e : count_by p (x ∷ xs) ≡ cond (p x) 1 0 + count_by p xs = sum_by-cons (λ y. cond (p y) 1 0) x xs in
    ⊎_elim
    (λ t. let one : count_by p (x ∷ xs) ≡ 1 + count_by p xs = e ∙ ap (λ b. cond b 1 0 + count_by p xs) t in omega (arith, one))
    (λ f.
    let none : count_by p (x ∷ xs) ≡ 0 + count_by p xs = e ∙ ap (λ b. cond b 1 0 + count_by p xs) f in
    let later : 1 + position_or_len p xs < length (x ∷ xs) = subst (λ (b : Bool). cond (not b) (1 + position_or_len p xs) 0 < length (x ∷ xs)) f h in
    let low : position_or_len p xs < length xs = omega (arith, later) in
    omega (arith, none, rest low))
    (cases_Bool (p x))

count_some : {X : Type 0} (p : X → Bool) (xs : List X) → position_or_len p xs < length xs → 0 < count_by p xs
count_some p [] h = absurd (omega arith)
count_some p (x ∷ xs) h = count_some_step p x xs (count_some p xs) h

any_none_step : {X : Type 0} (p q : X → Bool) (x : X) (xs : List X) → (q x ≡ true → p x ≡ true) → (position_or_len p xs ≡ length xs → list_any q xs ≡ false) → position_or_len p (x ∷ xs) ≡ length (x ∷ xs) → list_any q (x ∷ xs) ≡ false
any_none_step p q x xs so rest h = grind (arith, nat_tests)

any_none : {X : Type 0} (p q : X → Bool) (xs : List X) → ((x : X) → q x ≡ true → p x ≡ true) → position_or_len p xs ≡ length xs → list_any q xs ≡ false
any_none p q [] so h = refl
any_none p q (x ∷ xs) so h = any_none_step p q x xs (so x) (any_none p q xs so) h

-- a first position is there, or none
position_cases : {X : Type 0} (p : X → Bool) (xs : List X) → ((position p xs ≡ None) × (position_or_len p xs ≡ length xs)) ⊎ ((position p xs ≡ Some (position_or_len p xs)) × (position_or_len p xs < length xs))
position_cases p xs = ⊎_elim
    (λ lt. inr (cond-true _ _ _ (lt-ltb _ _ lt), lt))
    (λ le. inl (cond-false _ _ _ (le-ltb _ _ le), omega (arith, prefix_len-le-length (λ x. not (p x)) xs)))
    (cases_lt (position_or_len p xs) (length xs))

push_kept : {X : Type 0} (p : X → Bool) (xs : List X) (y : X) → position_or_len p xs < length xs → position p (xs ++ y ∷ []) ≡ Some (position_or_len p xs)
push_kept p xs y h = grind (arith, nat_tests, position_or_len_push, length_push)

push_new : {X : Type 0} (p : X → Bool) (xs : List X) (y : X) → position_or_len p xs ≡ length xs → p y ≡ true → position p (xs ++ y ∷ []) ≡ Some (length xs)
push_new p xs y h t = grind (arith, nat_tests, position_or_len_push, length_push)

push_other : {X : Type 0} (p : X → Bool) (xs : List X) (y : X) → p y ≡ false → position p (xs ++ y ∷ []) ≡ position p xs
push_other p xs y f = grind (arith, nat_tests, position_or_len_push, length_push)

-- ---- what is known of a name

pub known_none : (name : List ℕ) → known [] name ≡ None
unfolding known
known_none name = refl

alone_defines : (name : List ℕ) (s : Symbol) → defines_alone name s ≡ true → defines name s ≡ true
alone_defines name s h = (and_parts (defines name s) (not s.comdat) h).0

not_alone : (name : List ℕ) (s : Symbol) → defines name s ≡ false → defines_alone name s ≡ false
not_alone name s h = ap (λ b. b && not s.comdat) h

-- a symbol that doesn't define it
pub known_other : (ss : List Symbol) (s : Symbol) (name : List ℕ) → defines name s ≡ false → known (ss ++ s ∷ []) name ≡ known ss name
unfolding known
known_other ss s name f =
    let at : position (defines name) (ss ++ s ∷ []) ≡ position (defines name) ss = push_other (defines name) ss s f in
    let many : count_by (defines name) (ss ++ s ∷ []) ≡ count_by (defines name) ss = sum_by_push (λ x. cond (defines name x) 1 0) ss s ∙ ap (λ b. count_by (defines name) ss + cond b 1 0) f ∙ omega arith in
    let alone : list_any (defines_alone name) (ss ++ s ∷ []) ≡ list_any (defines_alone name) ss = list_any-append (defines_alone name) ss (s ∷ []) ∙ ap (λ b. list_any (defines_alone name) ss || (b || false)) (not_alone name s f) ∙ or_none (list_any (defines_alone name) ss) in
    same_known name ss (ss ++ s ∷ []) at many alone
  where
    or_none : (b : Bool) → (b || (false || false)) ≡ b
    or_none true = refl
    or_none false = refl

    same_known : (name : List ℕ) (ss ts : List Symbol) → position (defines name) ts ≡ position (defines name) ss → count_by (defines name) ts ≡ count_by (defines name) ss → list_any (defines_alone name) ts ≡ list_any (defines_alone name) ss → known_at ts name (position (defines name) ts) ≡ known_at ss name (position (defines name) ss)
    same_known name ss ts at many alone = ap (known_at ts name) at ∙ by (position (defines name) ss)
      where
        by : (o : Option ℕ) → known_at ts name o ≡ known_at ss name o
        by None = refl
        by (Some i) = λ j. Some (record { first = i; several = ltb 1 (many j); alone = alone j })

-- one that does
pub known_more : (ss : List Symbol) (s : Symbol) (name : List ℕ) → defines name s ≡ true → known (ss ++ s ∷ []) name ≡ Some (known_with (known ss name) (length ss) s.comdat)
unfolding known
known_more ss s name t =
    let p : Symbol → Bool = defines name in
    let many : count_by (defines name) (ss ++ s ∷ []) ≡ count_by (defines name) ss + 1 = sum_by_push (λ x. cond (defines name x) 1 0) ss s ∙ ap (λ b. count_by (defines name) ss + cond b 1 0) t in
    let alone : list_any (defines_alone name) (ss ++ s ∷ []) ≡ (list_any (defines_alone name) ss || not s.comdat) =
    list_any-append (defines_alone name) ss (s ∷ []) ∙ ap (λ b. list_any (defines_alone name) ss || ((b && not s.comdat) || false)) t ∙ ap (λ b. list_any (defines_alone name) ss || b) (or_none (not s.comdat)) in
    ⊎_elim
    (λ none.
    let at : position (defines name) (ss ++ s ∷ []) ≡ Some (length ss) = push_new (defines name) ss s none.1 t in
    let count : count_by (defines name) (ss ++ s ∷ []) ≡ 1 = many ∙ ap (λ n. n + 1) (count_none (defines name) ss none.1) in
    let others : list_any (defines_alone name) ss ≡ false = any_none (defines name) (defines_alone name) ss (alone_defines name) none.1 in
    let alone' : list_any (defines_alone name) (ss ++ s ∷ []) ≡ not s.comdat = alone ∙ ap (λ b. b || not s.comdat) others in
    ap (known_at (ss ++ s ∷ []) name) at
    ∙ made (length ss) (ltb 1 (count_by (defines name) (ss ++ s ∷ []))) false (list_any (defines_alone name) (ss ++ s ∷ [])) (not s.comdat) (ap (ltb 1) count) alone'
    ∙ ap (λ o. Some (known_with (known_at ss name o) (length ss) s.comdat)) (sym none.0))
    (λ some.
    let i : ℕ = position_or_len (defines name) ss in
    let at : position (defines name) (ss ++ s ∷ []) ≡ Some (position_or_len (defines name) ss) = push_kept (defines name) ss s some.1 in
    let before : 0 < count_by (defines name) ss = count_some (defines name) ss some.1 in
    let several : ltb 1 (count_by (defines name) (ss ++ s ∷ [])) ≡ true = lt-ltb 1 (count_by (defines name) (ss ++ s ∷ [])) (omega (arith, many, before)) in
    ap (known_at (ss ++ s ∷ []) name) at
    ∙ made (position_or_len (defines name) ss) (ltb 1 (count_by (defines name) (ss ++ s ∷ []))) true (list_any (defines_alone name) (ss ++ s ∷ [])) (list_any (defines_alone name) ss || not s.comdat) several alone
    ∙ ap (λ o. Some (known_with (known_at ss name o) (length ss) s.comdat)) (sym some.0))
    (position_cases (defines name) ss)
  where
    or_none : (b : Bool) → (b || false) ≡ b
    or_none true = refl
    or_none false = refl

    made : (i : ℕ) (a b c d : Bool) → a ≡ b → c ≡ d → ◌≡◌ {A = Option Known} (Some (record { first = i; several = a; alone = c })) (Some (record { first = i; several = b; alone = d }))
    made i a b c d e f = λ j. Some (record { first = i; several = e j; alone = f j })

-- ---- look-ups

abbrev both_of : Option Known → Bool
both_of None = false
both_of (Some k) = k.several && k.alone

abbrev first_of : Option Known → ℕ
first_of None = 0
first_of (Some k) = k.first

-- the first definition is at the first position
found : (ss : List Symbol) (name : List ℕ) → definition_of ss name ≡ slice_get ss (position_or_len (defines name) ss)
unfolding definition_of
found ss name = find_at (defines name) ss

pub first_unknown : (ss : List Symbol) (name : List ℕ) → known ss name ≡ None → None ≡ definition_of ss name
unfolding known
first_unknown ss name h = ⊎_elim
    (λ none. sym (found ss name ∙ past ss (position_or_len (defines name) ss) none.1))
    (λ some. let e : known_at ss name (Some (position_or_len (defines name) ss)) ≡ None = ap (known_at ss name) (sym some.0) ∙ h in cc)
    (position_cases (defines name) ss)
  where
    past : (ss : List Symbol) (i : ℕ) → i ≡ length ss → slice_get ss i ≡ None
    past ss i e = slice_get_past ss i (omega arith)

pub first_known : (ss : List Symbol) (name : List ℕ) (k : Known) → known ss name ≡ Some k → slice_get ss k.first ≡ definition_of ss name
unfolding known
first_known ss name k h = ⊎_elim
    (λ none. let e : known_at ss name None ≡ Some k = ap (known_at ss name) (sym none.0) ∙ h in cc)
    (λ some.
    let e : known_at ss name (Some (position_or_len (defines name) ss)) ≡ Some k = ap (known_at ss name) (sym some.0) ∙ h in
    let same : position_or_len (defines name) ss ≡ k.first = ap (λ (o : Option Known). first_of o) e in
    ap (slice_get ss) (sym same) ∙ sym (found ss name))
    (position_cases (defines name) ss)

pub clash_unknown : (ss : List Symbol) (name : List ℕ) → known ss name ≡ None → false ≡ has_clash ss name
unfolding known has_clash
clash_unknown ss name h = ⊎_elim
    (λ none. sym (ap (λ n. ltb 1 n && list_any (defines_alone name) ss) (count_none (defines name) ss none.1)))
    (λ some. let e : known_at ss name (Some (position_or_len (defines name) ss)) ≡ None = ap (known_at ss name) (sym some.0) ∙ h in cc)
    (position_cases (defines name) ss)

pub clash_known : (ss : List Symbol) (name : List ℕ) (k : Known) → known ss name ≡ Some k → has_clash ss name ≡ (k.several && k.alone)
unfolding known has_clash
clash_known ss name k h = ⊎_elim
    (λ none. let e : known_at ss name None ≡ Some k = ap (known_at ss name) (sym none.0) ∙ h in cc)
    (λ some.
    let e : known_at ss name (Some (position_or_len (defines name) ss)) ≡ Some k = ap (known_at ss name) (sym some.0) ∙ h in
    ap (λ (o : Option Known). both_of o) e)
    (position_cases (defines name) ss)

-- ---- one more symbol in the index

same_bytes : (xs ys : List ℕ) → bytes_eq xs ys ≡ true → xs ≡ ys
same_bytes xs ys h = grind (arith, nat_tests, bytes_eq-Decides)

turned : (xs ys : List ℕ) → bytes_eq ys xs ≡ false → bytes_eq xs ys ≡ false
turned xs ys f = ⊎_elim
    (λ t. let same : xs ≡ ys = same_bytes xs ys t in absurd (false≢true (sym f ∙ ap (λ (x : List ℕ). bytes_eq x xs) (sym same) ∙ ap (bytes_eq xs) same ∙ t)))
    (λ h. h)
    (cases_Bool (bytes_eq xs ys))

own : (s : Symbol) (name : List ℕ) → is_definition s ≡ true → bytes_eq s.symbol.name name ≡ true → defines s.symbol.name s ≡ true
unfolding defines
own s name d t = and_from _ _ d (subst (λ (q : List ℕ). bytes_eq s.symbol.name q ≡ true) (sym (same_bytes s.symbol.name name t)) t)

other : (s : Symbol) (name : List ℕ) → bytes_eq s.symbol.name name ≡ false → defines name s ≡ false
unfolding defines
other s name f = and_right (is_definition s) (bytes_eq name s.symbol.name) (turned name s.symbol.name f)

no_definition : (s : Symbol) (name : List ℕ) → is_definition s ≡ false → defines name s ≡ false
unfolding defines
no_definition s name f = and_left (is_definition s) (bytes_eq name s.symbol.name) f

abbrev pub Index : Type 0 → Type 0
Index S = HashMap (Bor (List ℕ)) Known S

pub passed : {S : Type 0} (m : Index S) (ss : List Symbol) (s : Symbol) → Indexes m ss → is_definition s ≡ false → Indexes m (ss ++ s ∷ [])
passed m ss s h f name = h name ∙ sym (known_other ss s name (no_definition s name f))

pub added : {S : Type 0} (m n : Index S) (ss : List Symbol) (s : Symbol) (k : Known) → Indexes m ss → is_definition s ≡ true → k ≡ known_with (known ss s.symbol.name) (length ss) s.comdat
    → UpdatesBy (λ x y. bytes_eq x.now y.now) (λ q. bytes_eq s.symbol.name q.now) m n (Some k) → Indexes n (ss ++ s ∷ [])
added m n ss s k h d is u name =
    let after : get_by (λ q. bytes_eq name q.now) n ≡ cond (bytes_eq s.symbol.name name) (Some k) (get_by (λ q. bytes_eq name q.now) m) = hash_map_updates_str s.symbol.name m n (Some k) u name in
    ⊎_elim
    (λ t. after ∙ cond-true _ _ _ t ∙ subst (λ (q : List ℕ). ◌≡◌ {A = Option Known} (Some k) (known (ss ++ s ∷ []) q)) (same_bytes s.symbol.name name t) (ap Some is ∙ sym (known_more ss s s.symbol.name (own s name d t))))
    (λ f. after ∙ cond-false _ _ _ f ∙ h name ∙ sym (known_other ss s name (other s name f)))
    (cases_Bool (bytes_eq s.symbol.name name))
