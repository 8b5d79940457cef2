-- Image, stack and guard stand apart.
use Rattle.std.proofs.Common.{◌≡◌, ℕ, ◌+◌, ◌-◌, ◌^◌, ◌<◌, ◌≤◌, Bool, true, false, ◌&&◌, cond, List, [], ◌∷◌, length, refl, sym, ap, subst, ◌∙◌, arith}
use Rattle.std.specs.Prelude.{nat_le, nat_lt, min, max, IsTrue, replicate}
use Rattle.std.proofs.lemmas.Bool.Decides.{nat_tests}
use Rattle.std.proofs.lemmas.List.{length-replicate}
use Rattle.hx_mem.specs.Segments.{Segment}
use Rattle.hx_mem.specs.Space.{Space, has_room, has_room_for_guard, after_add, shares_none}
use Rattle.flat_machine.specs.Layout.{zeros, image_base, stack_top, stack_size, guard_size, image_region, stack_region, no_memory}

pub length-zeros : (n : ℕ) → length (zeros n) ≡ n
unfolding zeros
length-zeros n = length-replicate n 0

-- numbers of addresses, of which the first end before the second begin
apart : (a n b k : ℕ) → b + k ≤ a → shares_none a n b k ≡ true
apart a n b k h = grind (arith, nat_tests)

room_by : (image : List ℕ) (n : ℕ) (some : Bool) → length image < 2 ^ 32 → n ≡ stack_size → has_room (cond some (record { regions = image_region image ∷ []; guard = no_memory.guard }) no_memory) (stack_top - stack_size) n ≡ true
room_by image n true small e = subst (λ k. has_room (record { regions = image_region image ∷ []; guard = no_memory.guard }) (stack_top - stack_size) k ≡ true) (sym e)
    (ap (λ t. t && true) (apart (stack_top - stack_size) stack_size image_base (length image) (omega arith)))
room_by image n false small e = subst (λ k. has_room no_memory (stack_top - stack_size) k ≡ true) (sym e) refl

pub room_for_stack : (m : Space) (image : List ℕ) (n : ℕ) → m ≡ after_add no_memory (image_region image) → length image < 2 ^ 32 → n ≡ stack_size → IsTrue (has_room m (stack_top - stack_size) n)
room_for_stack m image n is small e = subst (λ (s : Space). has_room s (stack_top - stack_size) n ≡ true) (sym is) (room_by image n (nat_lt 0 (length image)) small e)
