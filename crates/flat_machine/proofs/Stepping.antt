-- Steps over code that stands in an image.
use Rattle.std.proofs.Common.{◌≡◌, ℕ, zero, suc, ◌+◌, ◌-◌, ◌*◌, ◌%◌, ◌^◌, ◌<◌, ◌≤◌, List, [], ◌∷◌, ◌++◌, length, take, drop, length-drop, length-append, Bool, true, false, ◌&&◌, cond, Option, Some, None, Result, Ok, Err, refl, sym, ap, ap₂, subst, ◌∙◌, arith}
use Rattle.std.specs.Prelude.{nat_le, nat_lt}
use Rattle.std.specs.Result.{result_ok}
use Rattle.std.proofs.lemmas.Bool.Decides.{nat_tests}
use Rattle.hx_mem.specs.Space.{Space, code_of, fetch_of}
use Rattle.hx_mem.specs.declared.fault.MemBad.{MemBad}
use Rattle.hx_mem.proofs.Fetches.{fetch_of_code}
use Rattle.x64_isa.specs.declared.instruction.XInstr.{XInstr}
use Rattle.x64_isa.specs.declared.instruction.XBad.{XBad}
use Rattle.x64_isa.specs.Spelling.{spell_of, Valid}
use Rattle.x64_isa.specs.declared.instruction.XBad.TheVariants.{Short}
use Rattle.x64_isa.specs.Reading.{decode_of, read_of, byte_then}
use Rattle.x64_isa.proofs.Exact.{decode_of-again, decode_of-fetched, spell_of-size}
use Rattle.x64_exec.specs.Words.{Effect}
use Rattle.x64_exec.specs.Effects.{effect_of}
use Rattle.flat_machine.specs.declared.service.Service.{Service}
use Rattle.flat_machine.specs.Layout.{image_base, services_base, service_at}
use Rattle.flat_machine.specs.declared.ends.StuckWhy.TheVariants.{NoRange}
use Rattle.flat_machine.specs.Steps.{stuck, Guest, After, Act, quiet, moved, executed, read_from, found_at, instruct, act_at, step_of}

-- the image's code stands in a memory, which has it at its base and lets none write it
pub record HasCode (image : List ℕ) (m : Space) : Type 0 where
  pub small : length image < 2 ^ 32
  pub code : (k n : ℕ) → k < length image → code_of m.regions (image_base + k) n ≡ Some (take n (drop k image))

-- below the services there is none
pub no_service : (pc : ℕ) → pc < services_base → service_at pc ≡ None
no_service pc h = grind (arith, nat_tests)

in_range : (k size : ℕ) → k < size → (nat_le image_base (image_base + k) && nat_lt (image_base + k) (image_base + size)) ≡ true
in_range k size h = grind (arith, nat_tests)

none_short : decode_of [] ≡ Err Short
unfolding decode_of read_of byte_then
none_short = refl

some_bytes : (i : XInstr) (xs : List ℕ) → Valid i → spell_of i ≡ xs → 0 < length xs
some_bytes i [] valid e =
    let read : decode_of [] ≡ Ok (i, length (spell_of i)) = sym (ap (λ (xs : List ℕ). decode_of (xs ++ [])) e) ∙ decode_of-again i [] valid in
    let none : decode_of [] ≡ Err Short = none_short in
    absurd cc
some_bytes i (x ∷ xs) valid e = omega arith

spell_some : (i : XInstr) → Valid i → 0 < length (spell_of i)
spell_some i valid = some_bytes i (spell_of i) valid refl

within : (image : List ℕ) (k : ℕ) (i : XInstr) (rest : List ℕ) → Valid i → drop k image ≡ spell_of i ++ rest → k < length image
within image k i rest valid e =
    let some : 0 < length (spell_of i) = spell_some i valid in
    let whole : length (drop k image) ≡ length (spell_of i) + length rest = ap (λ (xs : List ℕ). length xs) e ∙ length-append (spell_of i) rest in
    omega (arith, length-drop k image)

abbrev front_of : List ℕ → Result (List ℕ) MemBad
front_of xs = Ok (take 15 xs)

found : (image : List ℕ) (k : ℕ) (g : Guest) (i : XInstr) (rest : List ℕ) → HasCode image g.mem → g.cpu.pc ≡ image_base + k → drop k image ≡ spell_of i ++ rest → Valid i → found_at g ≡ Some (i, length (spell_of i))
found image k g i rest has at stands valid =
    let fetched : fetch_of g.mem g.cpu.pc 15 ≡ Ok (take 15 (spell_of i ++ rest)) =
    ap (λ a. fetch_of g.mem a 15) at ∙ fetch_of_code g.mem (image_base + k) 15 _ (has.code k 15 (within image k i rest valid stands)) ∙ ap front_of stands in
    ap read_from fetched ∙ ap (λ (r : Result (XInstr × ℕ) XBad). result_ok r) (decode_of-fetched i rest 15 valid (spell_of-size i))

-- the step over an instruction that stands at a place of the image
pub step_at : (image : List ℕ) (k : ℕ) (g : Guest) (i : XInstr) (rest : List ℕ) → HasCode image g.mem → g.cpu.pc ≡ image_base + k → drop k image ≡ spell_of i ++ rest → Valid i
    → step_of (length image) g ≡ quiet (moved (effect_of i (length (spell_of i)) g.cpu g.mem).event (effect_of i (length (spell_of i)) g.cpu g.mem) g)
unfolding step_of
step_at image k g i rest has at stands valid =
    let low : g.cpu.pc < services_base = omega (arith, at, has.small, within image k i rest valid stands) in
    let inside : (nat_le image_base g.cpu.pc && nat_lt g.cpu.pc (image_base + length image)) ≡ true = ap (λ a. nat_le image_base a && nat_lt a (image_base + length image)) at ∙ in_range k (length image) (within image k i rest valid stands) in
    ap (λ (s : Option Service). act_at s (length image) g) (no_service g.cpu.pc low)
    ∙ ap quiet (ap (λ b. cond b (executed (found_at g) g) (stuck NoRange g)) inside ∙ ap (λ (f : Option (XInstr × ℕ)). executed f g) (found image k g i rest has at stands valid))
