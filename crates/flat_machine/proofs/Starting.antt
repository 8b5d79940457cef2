-- The state at the start of a run.
use Rattle.std.proofs.Common.{◌≡◌, ℕ, ◌+◌, ◌-◌, ◌^◌, ◌<◌, ◌≤◌, List, [], ◌∷◌, length, take, drop, Bool, true, false, ◌&&◌, cond, Option, Some, None, Result, Ok, refl, sym, ap, ap₂, subst, ◌∙◌, arith}
use Rattle.std.specs.Prelude.{nat_lt, nat_le}
use Rattle.std.proofs.lemmas.Bool.{lt-ltb, cond-true, cond-false}
use Rattle.std.proofs.lemmas.Bool.Decides.{nat_tests}
use Rattle.hx_mem.specs.Segments.{Segment}
use Rattle.hx_mem.specs.Space.{Space, has, code_of, code_in, store_of, writable, writable_in, after_add, end_of}
use Rattle.hx_mem.specs.declared.fault.MemBad.{MemBad}
use Rattle.hx_mem.proofs.Writes.{has_from, has_above}
use Rattle.hx_mem.proofs.Laws.{store_ok}
use Rattle.flat_machine.specs.Layout.{image_base, stack_top, stack_size, image_region, stack_region, no_memory, guard_range, start_memory, zeros}
use Rattle.flat_machine.proofs.Places.{length-zeros}
use Rattle.flat_machine.proofs.Stepping.{HasCode}

started : (image : List ℕ) → 0 < length image → start_memory image ≡ record { regions = image_region image ∷ (stack_region ∷ []); guard = Some guard_range }
started image some =
    let first : after_add no_memory (image_region image) ≡ record { regions = image_region image ∷ []; guard = None } = cond-true _ _ _ (lt-ltb 0 (length image) some) in
    let size : 0 < length (zeros stack_size) = subst (λ n. 0 < n) (sym (length-zeros stack_size)) (omega arith) in
    ap (λ (m : Space). record (after_add m stack_region) { guard = Some guard_range }) first
    ∙ ap (λ (m : Space). record m { guard = Some guard_range }) (cond-true _ _ _ (lt-ltb 0 (length (zeros stack_size)) size))

abbrev part : List ℕ → ℕ → ℕ → Option (List ℕ)
part image n j = Some (take n (drop j image))

code_there : (image : List ℕ) (rs : List Segment) (k n : ℕ) → k < length image → code_of (image_region image ∷ rs) (image_base + k) n ≡ Some (take n (drop k image))
unfolding code_in
code_there image rs k n h =
    cond-true _ _ _ (has_from (image_region image) (image_base + k) (omega arith) (omega arith))
    ∙ ap (part image n) (let e : image_base + k - image_base ≡ k = omega arith in e)

pub start_code : (image : List ℕ) → 0 < length image → length image < 2 ^ 32 → HasCode image (start_memory image)
start_code image some small = record {
  small = small;
  code = λ k n h. ap (λ (m : Space). code_of m.regions (image_base + k) n) (started image some) ∙ code_there image (stack_region ∷ []) k n h;
}

stack_end : end_of stack_region ≡ stack_top
stack_end = ap (λ n. stack_top - stack_size + n) (length-zeros stack_size)

-- the words that lie in the stack can be written
stack_there : (image : List ℕ) (a : ℕ) → length image < 2 ^ 32 → stack_top - stack_size ≤ a → a + 8 ≤ stack_top → writable (image_region image ∷ (stack_region ∷ [])) a 8 ≡ true
unfolding writable_in
stack_there image a small from to =
    let past : has (image_region image) a ≡ false = has_above (image_region image) a (omega arith) in
    let there : has stack_region a ≡ true = has_from stack_region a from (subst (λ e. a < e) (sym stack_end) (omega arith)) in
    let fits : nat_le (a + 8) (end_of stack_region) ≡ true = subst (λ e. nat_le (a + 8) e ≡ true) (sym stack_end) (grind (arith, nat_tests)) in
    cond-false _ _ _ past ∙ cond-true _ _ _ there ∙ fits

pub start_room : (image : List ℕ) → 0 < length image → length image < 2 ^ 32 → store_of (start_memory image) (stack_top - 40) 8 ≡ Ok tt
start_room image some small = store_ok (start_memory image) (stack_top - 40) 8
    (ap (λ (m : Space). writable m.regions (stack_top - 40) 8) (started image some) ∙ stack_there image (stack_top - 40) small (omega arith) (omega arith))
