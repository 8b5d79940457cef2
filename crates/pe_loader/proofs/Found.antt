-- The region of an address, by its place among the others, and what is written there.
use Rattle.std.proofs.Common.{◌≡◌, ℕ, zero, suc, ◌-◌, ◌≤◌, Bool, true, false, cond, List, [], ◌∷◌, length, get_or, set, Some, None, position, refl, sym, ap, ◌∙◌, arith}
use Rattle.std.proofs.lemmas.Bool.{cond-true, cond-false}
use Rattle.std.proofs.lemmas.Grind.{common_steps}
use Rattle.std.proofs.lemmas.List.{get_or_default}
use Rattle.std.proofs.lemmas.List.Quantifiers.{position-Some}
use Rattle.std.proofs.lemmas.List.Sums.{fails_before_first}
use Rattle.std.proofs.lemmas.Option.{none-some}
use Rattle.std.specs.List.{position_or_len}
use Rattle.hx_mem.specs.Segments.{Segment}
use Rattle.hx_mem.specs.Space.{has, splice, region_of}
use Rattle.hx_mem.specs.Found.{no_segment, NoneBefore, NoneHas, IsFoundAt}
use Rattle.machine_rules.specs.Loads.{overwritten}

abbrev pub having : ℕ → Segment → Bool
having a r = has r a

pub found_by : (rs : List Segment) (a i : ℕ) → position (having a) rs ≡ Some i → IsFoundAt rs a i
found_by rs a i e = let f = position-Some (having a) rs i no_segment e in (f.0, f.2, f.1)

pub none_by : (rs : List Segment) (a : ℕ) → position (having a) rs ≡ None → NoneHas rs a
none_by rs a e k h =
    let past : length rs ≤ position_or_len (having a) rs = grind (arith, common_steps) in
    fails_before_first (having a) rs k no_segment (omega arith)

-- a region with bytes over its own
abbrev pub with_bytes : Segment → ℕ → List ℕ → Segment
with_bytes r a bs = record r { bytes = splice r.bytes (a - r.start) bs }

rest_none : (r : Segment) (rs : List Segment) (a n : ℕ) → NoneBefore (r ∷ rs) a (suc n) → NoneBefore rs a n
rest_none r rs a n h k l = h (suc k) (omega arith)

found_overwritten : (rs : List Segment) (a i : ℕ) (bs : List ℕ) → IsFoundAt rs a i → overwritten rs a bs ≡ set rs i (with_bytes (get_or rs i no_segment) a bs)
found_overwritten [] a i bs h = absurd (omega (arith, h.0))
found_overwritten (r ∷ rs) a zero bs h = cond-true _ _ _ h.2
found_overwritten (r ∷ rs) a (suc i) bs h = cond-false _ _ _ (h.1 0 (omega arith)) ∙ ap (λ l. r ∷ l) (found_overwritten rs a i bs (omega (arith, h.0), rest_none r rs a i h.1, h.2))

pub overwritten_at : (rs : List Segment) (a i : ℕ) (bs : List ℕ) (d : Segment) → IsFoundAt rs a i → overwritten rs a bs ≡ set rs i (with_bytes (get_or rs i d) a bs)
overwritten_at rs a i bs d h = found_overwritten rs a i bs h ∙ ap (λ r. set rs i (with_bytes r a bs)) (get_or_default rs i no_segment d h.0)

pub overwritten_none : (rs : List Segment) (a : ℕ) (bs : List ℕ) → region_of rs a ≡ None → overwritten rs a bs ≡ rs
overwritten_none [] a bs h = refl
overwritten_none (r ∷ rs) a bs h =
    elim (has r a) as (λ c. cond c (Some r) (region_of rs a) ≡ None → cond c (with_bytes r a bs ∷ rs) (r ∷ overwritten rs a bs) ≡ r ∷ rs) [
      | true ↦ λ e. absurd (none-some _ (sym e))
      | false ↦ λ e. ap (λ l. r ∷ l) (overwritten_none rs a bs e)
    ] h
