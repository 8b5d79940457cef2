-- What the place tells at which tables in order pass a place.
use Rattle.std.proofs.Common.{◌≡◌, ℕ, zero, suc, ◌+◌, ◌-◌, ◌<◌, ◌≤◌, true, false, cond, eqb, leb, ltb, List, [], ◌∷◌, length, get_or, Some, None, refl, sym, ap, subst, ◌∙◌, arith}
use Rattle.std.specs.Prelude.{slice_get}
use Rattle.std.proofs.lemmas.Bool.{and_parts, and_left, and_right, leb-true, ltb-true, ltb-false, le-ltb, ne_eqb, cond-true, cond-false}
use Rattle.std.proofs.lemmas.List.Sorted.{IsNonDecreasingBy-from_all_adjacent, IsPartitionedBy-leb, IsPartitionedBy-ltb}
use Rattle.std.specs.List.Sorted.{IsPartitionedBy, IsPartitionPoint}
use Rattle.chpe_types.specs.declared.image.CodeRange.{CodeRange}
use Rattle.chpe_types.specs.declared.image.Redirect.{Redirect}
use Rattle.chpe_types.specs.Looks.{each_follows, all_neighbours, range_end, ends_by, valid_ranges, is_in, kind_in, comes_before, redirect_in}
use Rattle.chpe_types.proofs.Neighbours.{adjacent}

-- ---- ranges

starts_rise : (r s : CodeRange) → ends_by r s ≡ true → r.start ≤ s.start
starts_rise r s h = omega (arith, leb-true (range_end r) s.start h)

pub ranges_parted : (rs : List CodeRange) (a : ℕ) → valid_ranges rs ≡ true → IsPartitionedBy (λ r. leb r.start a) rs
ranges_parted rs a h = IsPartitionedBy-leb (λ r. r.start) rs a (IsNonDecreasingBy-from_all_adjacent (λ r. r.start) rs (adjacent ends_by (λ r s. r.start ≤ s.start) starts_rise rs (and_parts _ _ h).1))

before_start : (r : CodeRange) (a : ℕ) → leb r.start a ≡ false → is_in r a ≡ false
before_start r a h = and_left (leb r.start a) (ltb a (range_end r)) h

past_end : (r : CodeRange) (a : ℕ) → range_end r ≤ a → is_in r a ≡ false
past_end r a h = and_right (leb r.start a) (ltb a (range_end r)) (le-ltb a (range_end r) h)

module _ (a : ℕ) where
  none_started : (rs : List CodeRange) → ((k : ℕ) (d : CodeRange) → k < length rs → leb (get_or rs k d).start a ≡ false) → kind_in rs a ≡ None
  none_started [] h = refl
  none_started (r ∷ rs) h = cond-false (is_in r a) (Some r.kind) (kind_in rs a) (before_start r a (h 0 r (omega arith))) ∙ none_started rs (λ k d lt. h (suc k) d (omega arith))

  last_started : (rs : List CodeRange) (i : ℕ) (d : CodeRange) → all_neighbours ends_by rs ≡ true → i < length rs → ((k : ℕ) (e : CodeRange) → k < i + 1 → leb (get_or rs k e).start a ≡ true) → ((k : ℕ) (e : CodeRange) → i < k → k < length rs → leb (get_or rs k e).start a ≡ false) → kind_in rs a ≡ cond (is_in (get_or rs i d) a) (Some (get_or rs i d).kind) None
  last_started [] i d v lt by past = absurd (omega arith)
  last_started (r ∷ rs) zero d v lt by past = ap (cond (is_in r a) (Some r.kind)) (none_started rs (λ k e l. past (suc k) e (omega arith) (omega arith)))
  last_started (r ∷ []) (suc i) d v lt by past = absurd (omega arith)
  last_started (r ∷ s ∷ rs) (suc i) d v lt by past =
      let parts = and_parts (ends_by r s) (each_follows ends_by s rs) v in
      let over : range_end r ≤ a = omega (arith, leb-true (range_end r) s.start parts.0, leb-true s.start a (by 1 s (omega arith))) in
      cond-false (is_in r a) (Some r.kind) (kind_in (s ∷ rs) a) (past_end r a over)
      ∙ last_started (s ∷ rs) i d parts.1 (omega arith) (λ k e l. by (suc k) e (omega arith)) (λ k e l m. past (suc k) e (omega arith) (omega arith))

module _ (rs : List CodeRange) (a i : ℕ) (v : valid_ranges rs ≡ true) (bound : i ≤ length rs) (point : IsPartitionPoint (λ r. leb r.start a ≡ true) (λ r. leb r.start a ≡ false) rs i) where
  pub kind_none : i ≡ 0 → None ≡ kind_in rs a
  kind_none e = sym (none_started a rs (λ k d lt. point.1 k d (omega arith) lt))

  kind_last : (d : CodeRange) → 0 < i → kind_in rs a ≡ cond (is_in (get_or rs (i - 1) d) a) (Some (get_or rs (i - 1) d).kind) None
  kind_last d some = last_started a rs (i - 1) d (and_parts _ _ v).1 (omega arith) (λ k e lt. point.0 k e (omega arith) (omega arith)) (λ k e lt m. point.1 k e (omega arith) m)

  pub kind_there : (d : CodeRange) → 0 < i → is_in (get_or rs (i - 1) d) a ≡ true → Some (get_or rs (i - 1) d).kind ≡ kind_in rs a
  kind_there d some t = sym (kind_last d some ∙ cond-true _ _ _ t)

  pub kind_not_there : (d : CodeRange) → 0 < i → is_in (get_or rs (i - 1) d) a ≡ false → None ≡ kind_in rs a
  kind_not_there d some f = sym (kind_last d some ∙ cond-false _ _ _ f)

-- ---- a range that has the place

module _ (a : ℕ) where
  rest_ends : (r : CodeRange) (rs : List CodeRange) → each_follows ends_by r rs ≡ true → all_neighbours ends_by rs ≡ true
  rest_ends r [] v = refl
  rest_ends r (s ∷ rs) v = (and_parts (ends_by r s) (each_follows ends_by s rs) v).1

  starts_past : (r : CodeRange) (rs : List CodeRange) (i : ℕ) (t : CodeRange) → each_follows ends_by r rs ≡ true → slice_get rs i ≡ Some t → range_end r ≤ t.start
  starts_past r [] i t v e = absurd cc
  starts_past r (s ∷ rs) zero t v e = let same : s ≡ t = cc in subst (λ (u : CodeRange). range_end r ≤ u.start) same (leb-true (range_end r) s.start (and_parts (ends_by r s) (each_follows ends_by s rs) v).0)
  starts_past r (s ∷ rs) (suc i) t v e =
      let parts = and_parts (ends_by r s) (each_follows ends_by s rs) v in
      omega (arith, leb-true (range_end r) s.start parts.0, starts_past s rs i t parts.1 e)

  has_place : (rs : List CodeRange) (i : ℕ) (t : CodeRange) → all_neighbours ends_by rs ≡ true → slice_get rs i ≡ Some t → is_in t a ≡ true → Some t.kind ≡ kind_in rs a
  has_place [] i t v e h = absurd cc
  has_place (r ∷ rs) zero t v e h = let same : r ≡ t = cc in subst (λ (u : CodeRange). Some u.kind ≡ kind_in (r ∷ rs) a) same (sym (cond-true (is_in r a) (Some r.kind) (kind_in rs a) (subst (λ (u : CodeRange). is_in u a ≡ true) (sym same) h)))
  has_place (r ∷ rs) (suc i) t v e h =
      let start : t.start ≤ a = leb-true t.start a (and_parts (leb t.start a) (ltb a (range_end t)) h).0 in
      let over : range_end r ≤ a = omega (arith, start, starts_past r rs i t v e) in
      has_place rs i t (rest_ends r rs v) e h ∙ sym (cond-false (is_in r a) (Some r.kind) (kind_in rs a) (past_end r a over))

pub kind_got : (rs : List CodeRange) (a i : ℕ) (t : CodeRange) → valid_ranges rs ≡ true → slice_get rs i ≡ Some t → is_in t a ≡ true → Some t.kind ≡ kind_in rs a
kind_got rs a i t v e h = has_place a rs i t (and_parts _ _ v).1 e h

-- ---- redirections

sources_rise : (r s : Redirect) → comes_before r s ≡ true → r.source ≤ s.source
sources_rise r s h = omega (arith, ltb-true r.source s.source h)

pub redirects_parted : (rs : List Redirect) (a : ℕ) → all_neighbours comes_before rs ≡ true → IsPartitionedBy (λ r. ltb r.source a) rs
redirects_parted rs a h = IsPartitionedBy-ltb (λ r. r.source) rs a (IsNonDecreasingBy-from_all_adjacent (λ r. r.source) rs (adjacent comes_before (λ r s. r.source ≤ s.source) sources_rise rs h))

module _ (a : ℕ) where
  none_after : (r : Redirect) (rs : List Redirect) → each_follows comes_before r rs ≡ true → a ≤ r.source → redirect_in rs a ≡ None
  none_after r [] v le = refl
  none_after r (s ∷ rs) v le =
      let parts = and_parts (comes_before r s) (each_follows comes_before s rs) v in
      let over : a < s.source = omega (arith, ltb-true r.source s.source parts.0) in
      cond-false (eqb s.source a) (Some s.destination) (redirect_in rs a) (ne_eqb s.source a (λ e. omega arith)) ∙ none_after s rs parts.1 (omega arith)

  rest_follows : (r : Redirect) (rs : List Redirect) → each_follows comes_before r rs ≡ true → all_neighbours comes_before rs ≡ true
  rest_follows r [] v = refl
  rest_follows r (s ∷ rs) v = (and_parts (comes_before r s) (each_follows comes_before s rs) v).1

  all_before : (rs : List Redirect) → ((k : ℕ) (d : Redirect) → k < length rs → ltb (get_or rs k d).source a ≡ true) → redirect_in rs a ≡ None
  all_before [] h = refl
  all_before (r ∷ rs) h =
      let below : r.source < a = ltb-true r.source a (h 0 r (omega arith)) in
      cond-false (eqb r.source a) (Some r.destination) (redirect_in rs a) (ne_eqb r.source a (λ e. omega arith)) ∙ all_before rs (λ k d lt. h (suc k) d (omega arith))

  first_not_before : (rs : List Redirect) (i : ℕ) (d : Redirect) → all_neighbours comes_before rs ≡ true → i < length rs → ((k : ℕ) (e : Redirect) → k < i → ltb (get_or rs k e).source a ≡ true) → ltb (get_or rs i d).source a ≡ false → redirect_in rs a ≡ cond (eqb (get_or rs i d).source a) (Some (get_or rs i d).destination) None
  first_not_before [] i d v lt by here = absurd (omega arith)
  first_not_before (r ∷ rs) zero d v lt by here = ap (cond (eqb r.source a) (Some r.destination)) (none_after r rs v (ltb-false r.source a here))
  first_not_before (r ∷ rs) (suc i) d v lt by here =
      let below : r.source < a = ltb-true r.source a (by 0 r (omega arith)) in
      cond-false (eqb r.source a) (Some r.destination) (redirect_in rs a) (ne_eqb r.source a (λ e. omega arith))
      ∙ first_not_before rs i d (rest_follows r rs v) (omega arith) (λ k e l. by (suc k) e (omega arith)) here

module _ (rs : List Redirect) (a i : ℕ) (v : all_neighbours comes_before rs ≡ true) (point : IsPartitionPoint (λ r. ltb r.source a ≡ true) (λ r. ltb r.source a ≡ false) rs i) where
  pub redirect_none : i ≡ length rs → None ≡ redirect_in rs a
  redirect_none e = sym (all_before a rs (λ k d lt. point.0 k d (omega arith) (omega arith)))

  redirect_first : (d : Redirect) → i < length rs → redirect_in rs a ≡ cond (eqb (get_or rs i d).source a) (Some (get_or rs i d).destination) None
  redirect_first d lt = first_not_before a rs i d v lt (λ k e l. point.0 k e (omega arith) l) (point.1 i d (omega arith) lt)

  pub redirect_there : (d : Redirect) → i < length rs → eqb (get_or rs i d).source a ≡ true → Some (get_or rs i d).destination ≡ redirect_in rs a
  redirect_there d lt t = sym (redirect_first d lt ∙ cond-true _ _ _ t)

  pub redirect_not_there : (d : Redirect) → i < length rs → eqb (get_or rs i d).source a ≡ false → None ≡ redirect_in rs a
  redirect_not_there d lt f = sym (redirect_first d lt ∙ cond-false _ _ _ f)
