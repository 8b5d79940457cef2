-- Regions in order, added one by one to a memory.
use Rattle.std.proofs.Common.{◌≡◌, ℕ, ◌+◌, ◌^◌, ◌≤◌, true, false, cond, ltb, List, ◌∷◌, length, None, refl, ap, ◌∙◌, arith}
use Rattle.std.proofs.lemmas.Bool.{and_from, le-leb}
use Rattle.hx_mem.specs.Segments.{Segment}
use Rattle.hx_mem.specs.Space.{Space, end_of, has_room, misses_guard, with_region, after_add}
use Rattle.hx_mem.specs.Refusals.{EndBy}
use Rattle.hx_mem.proofs.Places.{misses_past, EndBy-with_region, EndBy-later, guard-after_add}
use Rattle.machine_rules.specs.Loads.{no_memory}
use Rattle.pe_loader.specs.Loading.{StandFrom}

EndBy-after_add : (m : Space) (r : Segment) → EndBy m.regions r.start → EndBy (after_add m r).regions (end_of r)
EndBy-after_add m r h =
    let later : EndBy m.regions (end_of r) = EndBy-later m.regions r.start (end_of r) (omega arith) h in
    elim (ltb 0 (length r.bytes)) as (λ c. EndBy (cond c (record m { regions = with_region r m.regions }) m).regions (end_of r)) [
      | true ↦ EndBy-with_region r m.regions (end_of r) (omega arith) later
      | false ↦ later
    ]

-- there is room past all regions of a memory without a guard
pub room_past : (m : Space) (a n : ℕ) → m.guard ≡ None → EndBy m.regions a → a + n ≤ 2 ^ 63 → has_room m a n ≡ true
room_past m a n g h l =
    let free : misses_guard m.guard a n ≡ true = ap (λ o. misses_guard o a n) g in
    and_from _ _ (le-leb _ _ l) (and_from _ _ free (misses_past m.regions a n h))

-- what may still be added to a memory: regions in order from where all of it ends
pub record IsReady (m : Space) (rs : List Segment) : Type 0 where
  pub from : ℕ
  pub ends : EndBy m.regions from
  pub low : from ≤ 2 ^ 46
  pub stand : StandFrom from (2 ^ 46) rs
  pub guard : m.guard ≡ None

pub ready_at_first : (rs : List Segment) → StandFrom 0 (2 ^ 46) rs → IsReady no_memory rs
ready_at_first rs h = record { from = 0; ends = tt; low = omega arith; stand = h; guard = refl }

pub room_for : (m : Space) (r : Segment) (rs : List Segment) → IsReady m (r ∷ rs) → has_room m r.start (length r.bytes) ≡ true
room_for m r rs h = room_past m r.start (length r.bytes) h.guard (EndBy-later m.regions h.from r.start h.stand.0 h.ends) (omega (arith, h.stand.1))

pub ready_then : (m : Space) (r : Segment) (rs : List Segment) → IsReady m (r ∷ rs) → IsReady (after_add m r) rs
ready_then m r rs h = record {
  from = end_of r;
  ends = EndBy-after_add m r (EndBy-later m.regions h.from r.start h.stand.0 h.ends);
  low = h.stand.1;
  stand = h.stand.2;
  guard = guard-after_add m r ∙ h.guard;
}
