-- The region that has an address, by its place.
use Rattle.std.proofs.Common.{◌≡◌, ℕ, zero, suc, ◌+◌, ◌-◌, ◌<◌, ◌≤◌, true, false, cond, List, [], ◌∷◌, length, get_or, set, Option, Some, None, Err, sym, refl, ap, ◌∙◌, arith, subst, ⊎_elim}
use Rattle.std.proofs.lemmas.Bool.{cond-true, cond-false, cases_lt}
use Rattle.std.proofs.lemmas.List.{get_or_default}
use Rattle.std.proofs.lemmas.Option.{none-some, same_Some}
use Rattle.hx_mem.specs.declared.fault.MemBad.TheVariants.{Unmapped}
use Rattle.hx_mem.specs.declared.memory.GuardRange.{GuardRange}
use Rattle.hx_mem.specs.Segments.{Segment}
use Rattle.hx_mem.specs.Space.{has, read, read_in, put, put_in, end_of, region_of, no_region, loaded, load_bad, IsPlaced, IsBelow, IsLaidOut}
use Rattle.hx_mem.specs.Found.{no_segment, NoneBefore, NoneHas, IsFoundAt, AllStartBy, AllStartPast}
use Rattle.hx_mem.proofs.Writes.{has-true, has_below, has_above}

-- in the order of places
below_at : (r : Segment) (rs : List Segment) (k : ℕ) (d : Segment) → IsBelow r rs → k < length rs → end_of r ≤ (get_or rs k d).start
below_at r [] k d b h = absurd (omega arith)
below_at r (s ∷ rs) zero d b h = b.0
below_at r (s ∷ rs) (suc k) d b h = below_at r rs k d b.1 (omega arith)

pub placed_at : (rs : List Segment) (k : ℕ) (d : Segment) → IsLaidOut rs → k < length rs → IsPlaced (get_or rs k d)
placed_at [] k d w h = absurd (omega arith)
placed_at (r ∷ rs) zero d w h = w.0
placed_at (r ∷ rs) (suc k) d w h = placed_at rs k d w.1.1 (omega arith)

pub in_order : (rs : List Segment) (i j : ℕ) (d : Segment) → IsLaidOut rs → i < j → j < length rs → end_of (get_or rs i d) ≤ (get_or rs j d).start
in_order [] i j d w l h = absurd (omega arith)
in_order (r ∷ rs) i zero d w l h = absurd (omega arith)
in_order (r ∷ rs) zero (suc j) d w l h = below_at r rs j d w.1.0 (omega arith)
in_order (r ∷ rs) (suc i) (suc j) d w l h = in_order rs i j d w.1.1 (omega arith) (omega arith)

-- one step of the halving
pub started_more : (rs : List Segment) (a m : ℕ) (r : Segment) → IsLaidOut rs → m < length rs → r ≡ get_or rs m r → r.start ≤ a → AllStartBy rs a (m + 1)
started_more rs a m r w h e l k lt =
    let at : (get_or rs m no_segment).start ≤ a = subst (λ q. q.start ≤ a) (e ∙ sym (get_or_default rs m no_segment r h)) l in
    ⊎_elim
    (λ below. omega (arith, in_order rs k m no_segment w below h))
    (λ same. let q : m ≡ k = omega arith in subst (λ j. (get_or rs j no_segment).start ≤ a) q at)
    (cases_lt k m)

pub past_more : (rs : List Segment) (a m : ℕ) (r : Segment) → IsLaidOut rs → m < length rs → r ≡ get_or rs m r → a < r.start → AllStartPast rs a m
past_more rs a m r w h e l k le lt =
    let at : a < (get_or rs m no_segment).start = subst (λ q. a < q.start) (e ∙ sym (get_or_default rs m no_segment r h)) l in
    ⊎_elim
    (λ above. omega (arith, in_order rs m k no_segment w above lt))
    (λ same. let q : m ≡ k = omega arith in subst (λ j. a < (get_or rs j no_segment).start) q at)
    (cases_lt m k)

module _ (rs : List Segment) (a i : ℕ) (w : IsLaidOut rs) (by : AllStartBy rs a i) (past : AllStartPast rs a i) (d : Segment) where
  after_point : (k : ℕ) → i ≤ k → k < length rs → has (get_or rs k no_segment) a ≡ false
  after_point k l h = has_below _ a (past k l h)

  before_point : (k : ℕ) → k + 1 < i → i ≤ length rs → has (get_or rs k no_segment) a ≡ false
  before_point k l h = has_above _ a (omega (arith, in_order rs k (i - 1) no_segment w (omega arith) (omega arith), by (i - 1) (omega arith)))

  pub none_at_zero : i ≡ 0 → NoneHas rs a
  none_at_zero e k h = after_point k (omega arith) h

  pub found_before : 0 < i → i ≤ length rs → has (get_or rs (i - 1) d) a ≡ true → IsFoundAt rs a (i - 1)
  found_before some h e =
      (omega arith, λ k l. before_point k (omega arith) h, ap (λ r. has r a) (get_or_default rs (i - 1) no_segment d (omega arith)) ∙ e)

  pub none_there : 0 < i → i ≤ length rs → has (get_or rs (i - 1) d) a ≡ false → NoneHas rs a
  none_there some h e k l = ⊎_elim
      (λ lt. before_point k (omega arith) h)
      (λ ge. ⊎_elim
      (λ lt. let same : k ≡ i - 1 = omega arith in
      ap (λ j. has (get_or rs j no_segment) a) same ∙ ap (λ r. has r a) (get_or_default rs (i - 1) no_segment d (omega arith)) ∙ e)
      (λ gt. after_point k gt l)
      (cases_lt k i))
      (cases_lt (k + 1) i)

rest_none : (r : Segment) (rs : List Segment) (a n : ℕ) → NoneBefore (r ∷ rs) a (suc n) → NoneBefore rs a n
rest_none r rs a n h k l = h (suc k) (omega arith)

-- no region has it
pub region_none : (rs : List Segment) (a : ℕ) → NoneHas rs a → region_of rs a ≡ None
region_none [] a h = refl
region_none (r ∷ rs) a h = cond-false _ _ _ (h 0 (omega arith)) ∙ region_none rs a (rest_none r rs a (length rs) h)

pub put_none : (rs : List Segment) (a : ℕ) (bs : List ℕ) → region_of rs a ≡ None → put rs a bs ≡ rs
put_none [] a bs h = refl
put_none (r ∷ rs) a bs h =
    elim (has r a) as (λ c. cond c (Some r) (region_of rs a) ≡ None → cond c (put_in r a bs ∷ rs) (r ∷ put rs a bs) ≡ r ∷ rs) [
      | true ↦ λ e. absurd (none-some _ (sym e))
      | false ↦ λ e. ap (λ l. r ∷ l) (put_none rs a bs e)
    ] h

-- the region at a place has it
found_region : (rs : List Segment) (a i : ℕ) → IsFoundAt rs a i → region_of rs a ≡ Some (get_or rs i no_segment)
found_region [] a i h = absurd (omega (arith, h.0))
found_region (r ∷ rs) a zero h = cond-true _ _ _ h.2
found_region (r ∷ rs) a (suc i) h = cond-false _ _ _ (h.1 0 (omega arith)) ∙ found_region rs a i (omega (arith, h.0), rest_none r rs a i h.1, h.2)

found_put : (rs : List Segment) (a i : ℕ) (bs : List ℕ) → IsFoundAt rs a i → put rs a bs ≡ set rs i (put_in (get_or rs i no_segment) a bs)
found_put [] a i bs h = absurd (omega (arith, h.0))
found_put (r ∷ rs) a zero bs h = cond-true _ _ _ h.2
found_put (r ∷ rs) a (suc i) bs h = cond-false _ _ _ (h.1 0 (omega arith)) ∙ ap (λ l. r ∷ l) (found_put rs a i bs (omega (arith, h.0), rest_none r rs a i h.1, h.2))

-- what the region that has it decides
pub read_of_region : (rs : List Segment) (a n : ℕ) (r : Segment) → region_of rs a ≡ Some r → read rs a n ≡ read_in r a n
read_of_region [] a n r e = absurd (none-some _ e)
read_of_region (s ∷ rs) a n r e =
    elim (has s a) as (λ c. cond c (Some s) (region_of rs a) ≡ Some r → cond c (read_in s a n) (read rs a n) ≡ read_in r a n) [
      | true ↦ λ q. ap (λ t. read_in t a n) (same_Some _ _ q)
      | false ↦ λ q. read_of_region rs a n r q
    ] e

pub read_of_none : (rs : List Segment) (a n : ℕ) → region_of rs a ≡ None → read rs a n ≡ None
read_of_none [] a n e = refl
read_of_none (s ∷ rs) a n e =
    elim (has s a) as (λ c. cond c (Some s) (region_of rs a) ≡ None → cond c (read_in s a n) (read rs a n) ≡ None) [
      | true ↦ λ q. absurd (none-some _ (sym q))
      | false ↦ λ q. read_of_none rs a n q
    ] e

-- what the code makes of a place that it found, at any default
module _ (rs : List Segment) (a i : ℕ) (h : IsFoundAt rs a i) (d : Segment) where
  same_default : get_or rs i no_segment ≡ get_or rs i d
  same_default = get_or_default rs i no_segment d h.0

  pub region_at_place : region_of rs a ≡ Some (get_or rs i d)
  region_at_place = found_region rs a i h ∙ ap Some same_default

  pub found_in : ((get_or rs i d).start ≤ a) × (a < end_of (get_or rs i d))
  found_in = has-true (get_or rs i d) a (sym (ap (λ r. has r a) same_default) ∙ h.2)

  pub put_at_place : (bs : List ℕ) → put rs a bs ≡ set rs i (put_in (get_or rs i d) a bs)
  put_at_place bs = found_put rs a i bs h ∙ ap (λ r. set rs i (put_in r a bs)) same_default

  pub load_at_place : (g : Option GuardRange) (n : ℕ) → loaded (read rs a n) (load_bad (region_of rs a) g a) ≡ loaded (read_in (get_or rs i d) a n) (Unmapped (end_of (get_or rs i d)))
  load_at_place g n =
      ap (λ o. loaded o (load_bad (region_of rs a) g a)) (read_of_region rs a n (get_or rs i d) region_at_place)
      ∙ ap (λ r. loaded (read_in (get_or rs i d) a n) (load_bad r g a)) region_at_place

-- and where it found none
module _ (rs : List Segment) (a : ℕ) (h : NoneHas rs a) where
  pub load_nowhere : (g : Option GuardRange) (n : ℕ) → loaded (read rs a n) (load_bad (region_of rs a) g a) ≡ Err (no_region g a)
  load_nowhere g n =
      ap (λ o. loaded o (load_bad (region_of rs a) g a)) (read_of_none rs a n (region_none rs a h))
      ∙ ap (λ r. Err (load_bad r g a)) (region_none rs a h)
