-- What the code of services and switches leaves is its definition's.
use Rattle.std.proofs.Common.{◌≡◌, ℕ, ◌%◌, true, false, Result, Ok, Err, sym, ap, ap₂, ◌∙◌, arith}
use Rattle.std.specs.Prelude.{◌==◌}
use Rattle.std.proofs.lemmas.Bool.{cond-true, cond-false, and_from}
use Rattle.std.proofs.lemmas.Bool.Decides.{nat_tests}
use Rattle.hx_mem.specs.Space.{Space, load_of, store_of, after_store}
use Rattle.hx_mem.specs.declared.fault.MemBad.{MemBad}
use Rattle.reg_map.specs.Registers.{Registers, with_number}
use Rattle.x64_exec.specs.Words.{plus, minus}
use Rattle.machine_rules.specs.declared.ends.GuestEnd.{GuestEnd}
use Rattle.machine_rules.specs.declared.ends.GuestEnd.TheVariants.{Stuck}
use Rattle.machine_rules.specs.declared.ends.StuckWhy.TheVariants.{BadSwitch}
use Rattle.machine_rules.specs.declared.places.Side.TheVariants.{X64, Ec}
use Rattle.machine_rules.specs.declared.places.Place.{Place}
use Rattle.machine_rules.specs.State.{Guest, Code, On, place_at, is_across, is_ec, is_x64, is_code}
use Rattle.machine_rules.specs.Steps.{refusal, guest, cleared, thunk_of, to_thunk, back, x64_back, x64_arrived, dispatched, returned}

-- a return as EC code makes it
module _ (code : Code) (g : Guest) (to : ℕ) (place : Place) (e : to ≡ g.cpu.value 30) (p : place ≡ place_at code to) where
  there : place ≡ place_at code (g.cpu.value 30)
  there = p ∙ ap (place_at code) e

  pub ec_barred : is_across Ec place ≡ true → Err (Stuck BadSwitch g.cpu.pc) ≡ back Ec code g
  unfolding back
  ec_barred h = sym (cond-true _ _ _ (ap (is_across Ec) (sym there) ∙ h))

  pub ec_returned : is_across Ec place ≡ false → Ok (record g.cpu { pc = to }) ≡ back Ec code g
  unfolding back
  ec_returned h = ap (λ (a : ℕ). Ok (record g.cpu { pc = a })) e ∙ sym (cond-false _ _ _ (ap (is_across Ec) (sym there) ∙ h))

  -- as its dispatcher does
  pub returned_to : (new : Guest) → is_code place ≡ true → new ≡ guest (cleared (record g.cpu { pc = to })) g.mem → On new ≡ returned code g
  returned_to new h n = ap On (n ∙ ap (λ (a : ℕ). guest (cleared (record g.cpu { pc = a })) g.mem) e) ∙ sym (cond-true _ _ _ (ap is_code (sym there) ∙ h))

-- a return as x64 code makes it
pub x64_refused : (code : Code) (g : Guest) (sp : ℕ) (bad : MemBad) (end : GuestEnd) → sp ≡ g.cpu.value 31 → load_of g.mem sp 8 ≡ Err bad → end ≡ refusal bad g.cpu.pc → Err end ≡ back X64 code g
unfolding back
x64_refused code g sp bad end e l r =
    ap Err r ∙ sym (ap (λ (o : Result ℕ MemBad). x64_back o code g.cpu) (ap (λ (a : ℕ). load_of g.mem a 8) (sym e) ∙ l))

module _ (code : Code) (g : Guest) (sp to : ℕ) (new : Registers) (place : Place) (e : sp ≡ g.cpu.value 31) (l : load_of g.mem sp 8 ≡ Ok to) (n : new ≡ with_number g.cpu 31 (plus sp 8)) (p : place ≡ place_at code to) where
  came : x64_arrived place (record new { pc = to }) g.cpu.pc ≡ back X64 code g
  unfolding back
  came =
      ap (λ (q : Place). x64_arrived q (record new { pc = to }) g.cpu.pc) p
      ∙ ap (λ (s : Registers). x64_arrived (place_at code to) (record s { pc = to }) g.cpu.pc) (n ∙ ap (λ (a : ℕ). with_number g.cpu 31 (plus a 8)) e)
      ∙ sym (ap (λ (o : Result ℕ MemBad). x64_back o code g.cpu) (ap (λ (a : ℕ). load_of g.mem a 8) (sym e) ∙ l))

  pub x64_entered : is_ec place ≡ true → (after : Registers) → after ≡ cleared (record new { pc = to }) → Ok after ≡ back X64 code g
  x64_entered h after a = ap Ok a ∙ sym (cond-true _ _ _ h) ∙ came

  pub x64_barred : is_ec place ≡ false → is_across X64 place ≡ true → Err (Stuck BadSwitch g.cpu.pc) ≡ back X64 code g
  x64_barred h k = sym (cond-false _ _ _ h ∙ cond-true _ _ _ k) ∙ came

  pub x64_returned : is_ec place ≡ false → is_across X64 place ≡ false → Ok (record new { pc = to }) ≡ back X64 code g
  x64_returned h k = sym (cond-false _ _ _ h ∙ cond-false _ _ _ k) ∙ came

-- a dispatched call
pub called : (code : Code) (g : Guest) (sp to v : ℕ) (place : Place) (u : Unit {0}) (mem : Space) (cpu : Registers) (new : Guest)
    → sp ≡ minus (g.cpu.value 31) 8 → store_of g.mem sp 8 ≡ Ok u → to ≡ g.cpu.value 9 → place ≡ place_at code to → is_x64 place ≡ true → v ≡ g.cpu.value 30
    → mem ≡ after_store g.mem sp 8 v → cpu ≡ with_number g.cpu 31 sp → new ≡ guest (cleared (record cpu { pc = to })) mem → On new ≡ dispatched (store_of g.mem (minus (g.cpu.value 31) 8) 8) code g
called code g sp to v place u mem cpu new s ok t p h lr m r n =
    let there : is_x64 (place_at code (g.cpu.value 9)) ≡ true = ap is_x64 (sym (p ∙ ap (place_at code) t)) ∙ h in
    let stored : store_of g.mem (minus (g.cpu.value 31) 8) 8 ≡ Ok u = ap (λ (a : ℕ). store_of g.mem a 8) (sym s) ∙ ok in
    ap On (n ∙ ap₂ (λ (q : Registers) (k : Space). guest (cleared (record q { pc = to })) k) r (m ∙ ap (after_store g.mem sp 8) lr))
    ∙ ap₂ (λ (a b : ℕ). On (guest (cleared (record (with_number g.cpu 31 a) { pc = b })) (after_store g.mem a 8 (g.cpu.value 30)))) s t
    ∙ sym (ap (λ (o : Result (Unit {0}) MemBad). dispatched o code g) stored ∙ cond-true _ _ _ there)

-- an entered function
pub entered_at : (code : Code) (distance address pc : ℕ) (cpu : Registers) (mem : Space) (thunk v : ℕ) (place : Place) (a b c d : Registers) (new : Guest)
    → thunk ≡ thunk_of cpu.pc distance → distance % 4 ≡ 1 → place ≡ place_at code thunk → is_ec place ≡ true → v ≡ cpu.value 31
    → a ≡ with_number cpu 30 address → b ≡ with_number a 31 (plus v 8) → c ≡ with_number b 9 cpu.pc → d ≡ with_number c 4 (plus v 8)
    → new ≡ guest (cleared (record d { pc = thunk })) mem → On new ≡ to_thunk code distance address pc cpu mem
entered_at code distance address pc cpu mem thunk v place a b c d new t one p h at ra rb rc rd n =
    let word : (distance % 4 == 1) ≡ true = grind (arith, nat_tests) in
    let there : is_ec (place_at code (thunk_of cpu.pc distance)) ≡ true = ap is_ec (sym (p ∙ ap (place_at code) t)) ∙ h in
    let all : d ≡ with_number (with_number (with_number (with_number cpu 30 address) 31 (plus v 8)) 9 cpu.pc) 4 (plus v 8) =
    rd ∙ ap (λ (s : Registers). with_number s 4 (plus v 8)) (rc ∙ ap (λ (s : Registers). with_number s 9 cpu.pc) (rb ∙ ap (λ (s : Registers). with_number s 31 (plus v 8)) ra)) in
    ap On (n ∙ ap (λ (s : Registers). guest (cleared (record s { pc = thunk })) mem) all)
    ∙ ap₂ (λ (x k : ℕ). On (guest (cleared (record (with_number (with_number (with_number (with_number cpu 30 address) 31 (plus x 8)) 9 cpu.pc) 4 (plus x 8)) { pc = k })) mem)) at t
    ∙ sym (cond-true _ _ _ (and_from _ _ word there))
