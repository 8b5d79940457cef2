-- An index of first places, one row after the other.
use Rattle.std.proofs.Common.{◌≡◌, ◌⊎◌, ℕ, zero, suc, ◌+◌, ◌<◌, Bool, true, false, cond, not, List, [], ◌∷◌, ◌++◌, length, slice_get, slice_set, Option, Some, None, IsSome, position, bytes_eq, refl, sym, ap, subst, ◌∙◌, inl, inr, ⊎_elim, arith}
use Rattle.std.specs.Prelude.{nat_eq, nat_lt, find}
use Rattle.std.specs.List.{position_or_len}
use Rattle.std.specs.Global.{Vec}
use Rattle.std.specs.HashMap.{HashMap, Updates}
use Rattle.std.specs.Map.{lookup, KeepsOthers, IsKeyTest, AreApart}
use Rattle.std.specs.Cmp.Lexicographic.{pointwise, bytes_decides, nat_list_eq_equiv}
use Rattle.std.proofs.lemmas.Bool.{cases_Bool, cases_lt, cond-true, cond-false, lt-ltb, le-ltb, false≢true}
use Rattle.std.proofs.lemmas.Bool.Decides.{nat_tests}
use Rattle.std.proofs.lemmas.List.{length_push}
use Rattle.std.proofs.lemmas.List.Folds.{position_or_len_push, find_at}
use Rattle.std.proofs.lemmas.List.Sums.{prefix_len-le-length}
use Rattle.std.proofs.lemmas.Option.{slice_get_past}
use Rattle.named_rows.specs.Places.{look_up, Places, NoneNamed, AreDistinct, IsIndexed}

-- ---- first positions

-- a first position is there, or none
position_cases : {X : Type 0} (p : X → Bool) (xs : List X) → ((position p xs ≡ None) × (position_or_len p xs ≡ length xs)) ⊎ ((position p xs ≡ Some (position_or_len p xs)) × (position_or_len p xs < length xs))
position_cases p xs = ⊎_elim
    (λ lt. inr (cond-true _ _ _ (lt-ltb _ _ lt), lt))
    (λ le. inl (cond-false _ _ _ (le-ltb _ _ le), omega (arith, prefix_len-le-length (λ x. not (p x)) xs)))
    (cases_lt (position_or_len p xs) (length xs))

push_kept : {X : Type 0} (p : X → Bool) (xs : List X) (y : X) → position_or_len p xs < length xs → position p (xs ++ y ∷ []) ≡ Some (position_or_len p xs)
push_kept p xs y h = grind (arith, nat_tests, position_or_len_push, length_push)

push_new : {X : Type 0} (p : X → Bool) (xs : List X) (y : X) → position_or_len p xs ≡ length xs → p y ≡ true → position p (xs ++ y ∷ []) ≡ Some (length xs)
push_new p xs y h t = grind (arith, nat_tests, position_or_len_push, length_push)

push_other : {X : Type 0} (p : X → Bool) (xs : List X) (y : X) → p y ≡ false → position p (xs ++ y ∷ []) ≡ position p xs
push_other p xs y f = grind (arith, nat_tests, position_or_len_push, length_push)

some_and_none : {C : Type 0} (o : Option ℕ) → o ≡ None → IsSome o → C
some_and_none None e h = absurd (false≢true h)
some_and_none (Some i) e h = let c : ◌≡◌ {A = Option ℕ} (Some i) None = e in cc

-- a first position that is there stays
push_after : {X : Type 0} (p : X → Bool) (xs : List X) (y : X) → IsSome (position p xs) → position p (xs ++ y ∷ []) ≡ position p xs
push_after p xs y h = ⊎_elim
    (λ none. some_and_none (position p xs) none.0 h)
    (λ some. push_kept p xs y some.1 ∙ sym some.0)
    (position_cases p xs)

length_of_none : {X : Type 0} (p : X → Bool) (xs : List X) → position p xs ≡ None → position_or_len p xs ≡ length xs
length_of_none p xs h = ⊎_elim
    (λ none. none.1)
    (λ some. let e : ◌≡◌ {A = Option ℕ} None (Some (position_or_len p xs)) = sym h ∙ some.0 in cc)
    (position_cases p xs)

pub position_at : {X : Type 0} (p : X → Bool) (xs : List X) (i : ℕ) → position p xs ≡ Some i → position_or_len p xs ≡ i
position_at p xs i h = ⊎_elim
    (λ none. let e : ◌≡◌ {A = Option ℕ} None (Some i) = sym none.0 ∙ h in cc)
    (λ some. let e : ◌≡◌ {A = Option ℕ} (Some (position_or_len p xs)) (Some i) = sym some.0 ∙ h in cc)
    (position_cases p xs)

-- the row at a first position
pub found_at : {X : Type 0} (p : X → Bool) (xs : List X) (i : ℕ) → position p xs ≡ Some i → slice_get xs i ≡ find p xs
found_at p xs i h = ⊎_elim
    (λ none. let e : ◌≡◌ {A = Option ℕ} None (Some i) = sym none.0 ∙ h in cc)
    (λ some. let e : ◌≡◌ {A = Option ℕ} (Some (position_or_len p xs)) (Some i) = sym some.0 ∙ h in let same : i ≡ position_or_len p xs = cc in ap (slice_get xs) same ∙ sym (find_at p xs))
    (position_cases p xs)

pub found_none : {X : Type 0} (p : X → Bool) (xs : List X) → position p xs ≡ None → None ≡ find p xs
found_none p xs h = sym (find_at p xs ∙ slice_get_past xs (position_or_len p xs) (omega (arith, length_of_none p xs h)))

-- ---- a row of the same name in the place of another

length_set : {X : Type 0} (xs : List X) (at : ℕ) (y : X) → length (slice_set xs at y) ≡ length xs
length_set [] at y = refl
length_set (x ∷ xs) zero y = refl
length_set (x ∷ xs) (suc at) y = ap suc (length_set xs at y)

first_set : {X : Type 0} (p : X → Bool) (xs : List X) (at : ℕ) (y : X) → ((x : X) → slice_get xs at ≡ Some x → p x ≡ p y) → position_or_len p (slice_set xs at y) ≡ position_or_len p xs
first_set p [] at y same = refl
first_set p (x ∷ xs) zero y same = ap (λ b. cond (not b) (1 + position_or_len p xs) 0) (sym (same x refl))
first_set p (x ∷ xs) (suc at) y same = ap (λ n. cond (not (p x)) (1 + n) 0) (first_set p xs at y same)

position_set : {X : Type 0} (p : X → Bool) (xs : List X) (at : ℕ) (y : X) → ((x : X) → slice_get xs at ≡ Some x → p x ≡ p y) → position p (slice_set xs at y) ≡ position p xs
position_set p xs at y same = λ j. cond (nat_lt (first_set p xs at y same j) (length_set xs at y j)) (Some (first_set p xs at y same j)) None

module _ {A : Type 0} (name : A → List ℕ) where
  none_set : (key : List ℕ) (rows : List A) (at : ℕ) (row : A) → ((x : A) → slice_get rows at ≡ Some x → name x ≡ name row) → NoneNamed name key rows → NoneNamed name key (slice_set rows at row)
  none_set key [] at row same h = tt
  none_set key (x ∷ rows) zero row same h = (subst (λ (n : List ℕ). bytes_eq n key ≡ false) (same x refl) h.0, h.1)
  none_set key (x ∷ rows) (suc at) row same h = (h.0, none_set key rows at row same h.1)

  distinct_set : (rows : List A) (at : ℕ) (row : A) → ((x : A) → slice_get rows at ≡ Some x → name x ≡ name row) → AreDistinct name rows → AreDistinct name (slice_set rows at row)
  distinct_set [] at row same h = tt
  distinct_set (x ∷ rows) zero row same h = (subst (λ (n : List ℕ). NoneNamed name n rows) (same x refl) h.0, h.1)
  distinct_set (x ∷ rows) (suc at) row same h = (none_set (name x) rows at row same h.0, distinct_set rows at row same h.1)

  -- ---- one more row

  none_named : (key : List ℕ) (rows : List A) → position_or_len (λ row. bytes_eq (name row) key) rows ≡ length rows → NoneNamed name key rows
  none_named key [] h = tt
  none_named key (x ∷ rows) h = ⊎_elim
      (λ t. let e : 0 ≡ length (x ∷ rows) = subst (λ (b : Bool). cond (not b) (1 + position_or_len (λ row. bytes_eq (name row) key) rows) 0 ≡ length (x ∷ rows)) t h in absurd (omega (arith, e)))
      (λ f.
      let e : 1 + position_or_len (λ row. bytes_eq (name row) key) rows ≡ length (x ∷ rows) = subst (λ (b : Bool). cond (not b) (1 + position_or_len (λ row. bytes_eq (name row) key) rows) 0 ≡ length (x ∷ rows)) f h in
      (f, none_named key rows (omega (arith, e))))
      (cases_Bool (bytes_eq (name x) key))

  pub none_named_by : (key : List ℕ) (rows : List A) → position (λ row. bytes_eq (name row) key) rows ≡ None → NoneNamed name key rows
  none_named_by key rows h = none_named key rows (length_of_none (λ row. bytes_eq (name row) key) rows h)

  none_push : (key : List ℕ) (rows : List A) (row : A) → NoneNamed name key rows → bytes_eq (name row) key ≡ false → NoneNamed name key (rows ++ row ∷ [])
  none_push key [] row h f = (f, tt)
  none_push key (x ∷ rows) row h f = (h.0, none_push key rows row h.1 f)

  distinct_push : (rows : List A) (row : A) → AreDistinct name rows → NoneNamed name (name row) rows → AreDistinct name (rows ++ row ∷ [])
  distinct_push [] row h n = (tt, tt)
  distinct_push (x ∷ rows) row h n = (none_push (name x) rows row h.0 (nat_list_eq_equiv.symm (name row) (name x) ∙ n.0), distinct_push rows row h.1 n.1)

-- ---- what a change of an index at one key leaves at the others

apart : (bs cs ks : List ℕ) → bytes_eq bs cs ≡ false → bytes_eq bs ks ≡ true → bytes_eq cs ks ≡ false
apart bs cs ks n y = nat_list_eq_equiv.symm cs ks ∙ sym (nat_list_eq_equiv.congr bs ks cs y) ∙ n

other_entries : {K X : Type 0} (eq : K → K → Bool) (test : K → Bool) (old new : List (K × X)) → KeepsOthers eq test old new → (other : K → Bool) → IsKeyTest eq other → AreApart test other → lookup other new ≡ lookup other old
unfolding KeepsOthers
other_entries eq test old new h = h

pub updated : {S : Type 0} (m n : HashMap (Vec ℕ) ℕ S) (key : Vec ℕ) (w : Option ℕ) → Updates (λ x y. pointwise nat_eq x.items y.items) m n key w
    → (cs : List ℕ) → look_up nat_eq n cs ≡ cond (bytes_eq key.items cs) w (look_up nat_eq m cs)
updated m n key w h cs = ⊎_elim
    (λ y. subst (λ (l : List ℕ). look_up nat_eq n l ≡ w) ((bytes_decides key.items cs).0 y) h.1 ∙ sym (cond-true _ _ _ y))
    (λ f. other_entries (λ x y. pointwise nat_eq x.items y.items) (λ k. pointwise nat_eq key.items k.items) m.entries n.entries h.3 (λ k. pointwise nat_eq cs k.items) (λ x y. nat_list_eq_equiv.congr cs x.items y.items) (λ k. apart key.items cs k.items f) ∙ sym (cond-false _ _ _ f))
    (cases_Bool (bytes_eq key.items cs))

-- ---- the index of rows

module _ {A S : Type 0} (name : A → List ℕ) where
  pub places_none : (m : HashMap (Vec ℕ) ℕ S) → m.entries ≡ [] → Places name m []
  places_none m e key = ap (λ (es : List (Vec ℕ × ℕ)). lookup (λ k. pointwise nat_eq key k.items) es) e

  pub places_kept : (m n : HashMap (Vec ℕ) ℕ S) (rows : List A) → n.entries ≡ m.entries → Places name m rows → Places name n rows
  places_kept m n rows e h key = ap (λ (es : List (Vec ℕ × ℕ)). lookup (λ k. pointwise nat_eq key k.items) es) e ∙ h key

  pub places_new : (m n : HashMap (Vec ℕ) ℕ S) (key : Vec ℕ) (rows : List A) (row : A) → Places name m rows → look_up nat_eq m (name row) ≡ None → key.items ≡ name row
      → Updates (λ x y. pointwise nat_eq x.items y.items) m n key (Some (length rows)) → Places name n (rows ++ row ∷ [])
  places_new m n key rows row h none is u k =
      let after : look_up nat_eq n k ≡ cond (bytes_eq (name row) k) (Some (length rows)) (look_up nat_eq m k) =
      updated m n key (Some (length rows)) u k ∙ ap (λ (l : List ℕ). cond (bytes_eq l k) (Some (length rows)) (look_up nat_eq m k)) is in
      ⊎_elim
      (λ t.
      let e : name row ≡ k = (bytes_decides (name row) k).0 t in
      let unknown : position (λ x. bytes_eq (name x) k) rows ≡ None = sym (h k) ∙ ap (look_up nat_eq m) (sym e) ∙ none in
      after ∙ cond-true _ _ _ t ∙ sym (push_new (λ x. bytes_eq (name x) k) rows row (length_of_none (λ x. bytes_eq (name x) k) rows unknown) t))
      (λ f. after ∙ cond-false _ _ _ f ∙ h k ∙ sym (push_other (λ x. bytes_eq (name x) k) rows row f))
      (cases_Bool (bytes_eq (name row) k))

  pub places_again : (m : HashMap (Vec ℕ) ℕ S) (rows : List A) (row : A) → Places name m rows → IsSome (look_up nat_eq m (name row)) → Places name m (rows ++ row ∷ [])
  places_again m rows row h some k = ⊎_elim
      (λ t.
      let e : name row ≡ k = (bytes_decides (name row) k).0 t in
      let known : IsSome (position (λ x. bytes_eq (name x) k) rows) = subst (λ (o : Option ℕ). IsSome o) (ap (look_up nat_eq m) e ∙ h k) some in
      h k ∙ sym (push_after (λ x. bytes_eq (name x) k) rows row known))
      (λ f. h k ∙ sym (push_other (λ x. bytes_eq (name x) k) rows row f))
      (cases_Bool (bytes_eq (name row) k))

  pub places_set : (m : HashMap (Vec ℕ) ℕ S) (rows : List A) (at : ℕ) (row : A) → ((x : A) → slice_get rows at ≡ Some x → name x ≡ name row) → Places name m rows → Places name m (slice_set rows at row)
  places_set m rows at row same h key = h key ∙ sym (position_set (λ x. bytes_eq (name x) key) rows at row (λ x e. ap (λ (n : List ℕ). bytes_eq n key) (same x e)))

  -- ---- and whether names stand once

  pub indexed_none : (m : HashMap (Vec ℕ) ℕ S) → m.entries ≡ [] → IsIndexed name m true []
  indexed_none m e = record { firsts = places_none m e; once = λ _. tt }

  pub indexed_kept : (m n : HashMap (Vec ℕ) ℕ S) (d : Bool) (rows : List A) → n.entries ≡ m.entries → IsIndexed name m d rows → IsIndexed name n d rows
  indexed_kept m n d rows e h = record { firsts = places_kept m n rows e h.firsts; once = h.once }

  pub indexed_new : (l m n : HashMap (Vec ℕ) ℕ S) (key : Vec ℕ) (d : Bool) (rows : List A) (row : A) → IsIndexed name l d rows → m.entries ≡ l.entries → look_up nat_eq l (name row) ≡ None → key.items ≡ name row
      → Updates (λ x y. pointwise nat_eq x.items y.items) m n key (Some (length rows)) → IsIndexed name n d (rows ++ row ∷ [])
  indexed_new l m n key d rows row h e none is u = record {
    firsts = places_new m n key rows row (places_kept l m rows e h.firsts) (ap (λ (es : List (Vec ℕ × ℕ)). lookup (λ k. pointwise nat_eq (name row) k.items) es) e ∙ none) is u;
    once = λ t. distinct_push name rows row (h.once t) (none_named name (name row) rows (length_of_none (λ x. bytes_eq (name x) (name row)) rows (sym (h.firsts (name row)) ∙ none)));
  }

  pub indexed_again : (l m : HashMap (Vec ℕ) ℕ S) (d : Bool) (rows : List A) (row : A) → IsIndexed name l d rows → m.entries ≡ l.entries → IsSome (look_up nat_eq l (name row)) → IsIndexed name m false (rows ++ row ∷ [])
  indexed_again l m d rows row h e some = record {
    firsts = places_kept l m (rows ++ row ∷ []) e (places_again l rows row h.firsts some);
    once = λ t. let f : false ≡ true = t in cc;
  }

  pub indexed_set : (m : HashMap (Vec ℕ) ℕ S) (d : Bool) (rows : List A) (at : ℕ) (row : A) → ((x : A) → slice_get rows at ≡ Some x → name x ≡ name row) → IsIndexed name m d rows → IsIndexed name m d (slice_set rows at row)
  indexed_set m d rows at row same h = record { firsts = places_set m rows at row same h.firsts; once = λ t. distinct_set name rows at row same (h.once t) }
