-- Stack and guard stand above all that was loaded, and apart from each other.
use Rattle.std.proofs.Common.{◌≡◌, ℕ, zero, suc, ◌+◌, ◌-◌, ◌^◌, ◌≤◌, true, false, cond, leb, ltb, List, [], ◌∷◌, length, get_or, None, refl, sym, ap, subst, arith}
use Rattle.std.specs.Prelude.{replicate, ◌==◌}
use Rattle.std.proofs.lemmas.Bool.{and_from, and_parts, le-leb}
use Rattle.std.proofs.lemmas.Bool.Decides.{nat_tests}
use Rattle.std.proofs.lemmas.List.{length-replicate}
use Rattle.hx_mem.specs.Segments.{Segment}
use Rattle.hx_mem.specs.Space.{Space, has_room, has_room_for_guard, misses, shares_none, with_region, after_add}
use Rattle.hx_mem.specs.Refusals.{EndBy}
use Rattle.hx_mem.proofs.Places.{misses_past, EndBy-later}
use Rattle.machine_rules.specs.Loads.{zeros, stack_region, start_value}
use Rattle.machine_rules.specs.Layout.{stack_top, guard_size}
use Rattle.pe_loader.proofs.Mapped.{room_past}

pub length-zeros : (n : ℕ) → length (zeros n) ≡ n
unfolding zeros
length-zeros n = length-replicate n 0

misses-with_region : (r : Segment) (rs : List Segment) (a n : ℕ) → shares_none a n r.start (length r.bytes) ≡ true → misses rs a n ≡ true → misses (with_region r rs) a n ≡ true
misses-with_region r [] a n h e = and_from _ _ h refl
misses-with_region r (s ∷ rs) a n h e =
    let p = and_parts _ _ e in
    elim (leb s.start r.start) as (λ c. misses (cond c (s ∷ with_region r rs) (r ∷ (s ∷ rs))) a n ≡ true) [
      | true ↦ and_from _ _ p.0 (misses-with_region r rs a n h p.1)
      | false ↦ and_from _ _ h e
    ]

misses-after_add : (m : Space) (r : Segment) (a n : ℕ) → shares_none a n r.start (length r.bytes) ≡ true → misses m.regions a n ≡ true → misses (after_add m r).regions a n ≡ true
misses-after_add m r a n h e =
    elim (ltb 0 (length r.bytes)) as (λ c. misses (cond c (record m { regions = with_region r m.regions }) m).regions a n ≡ true) [
      | true ↦ misses-with_region r m.regions a n h e
      | false ↦ e
    ]

below : (a n b k : ℕ) → a + n ≤ b → shares_none a n b k ≡ true
below a n b k h = grind (arith, nat_tests)

pub room_for_stack : (m : Space) (stack n : ℕ) → m.guard ≡ None → EndBy m.regions (2 ^ 46) → stack ≤ 268435456 → n ≡ stack → has_room m (stack_top - stack) n ≡ true
room_for_stack m stack n g low small e = subst (λ k. has_room m (stack_top - stack) k ≡ true) (sym e)
    (room_past m (stack_top - stack) stack g (EndBy-later m.regions (2 ^ 46) (stack_top - stack) (omega arith) low) (omega arith))

pub room_for_guard : (m : Space) (stack : ℕ) → EndBy m.regions (2 ^ 46) → stack ≤ 268435456 → has_room_for_guard (after_add m (stack_region stack)) (stack_top - stack - guard_size) guard_size ≡ true
room_for_guard m stack low small =
    and_from _ _ (le-leb _ _ (omega arith))
    (misses-after_add m (stack_region stack) (stack_top - stack - guard_size) guard_size
    (below (stack_top - stack - guard_size) guard_size (stack_top - stack) (length (zeros stack)) (omega arith))
    (misses_past m.regions (stack_top - stack - guard_size) guard_size (EndBy-later m.regions (2 ^ 46) (stack_top - stack - guard_size) (omega arith) low)))

zeros_at : (k n : ℕ) → ◌≡◌ {A = ℕ} (get_or (replicate k 0) n 0) 0
zeros_at zero n = refl
zeros_at (suc k) zero = refl
zeros_at (suc k) (suc n) = zeros_at k n

-- the values of the registers at the start
pub start_values : (n : ℕ) → ◌≡◌ {A = ℕ} (cond (n == 31) stack_top (get_or (replicate 31 0) n 0)) (start_value n)
start_values n = ap (cond (n == 31) stack_top) (zeros_at 31 n)
