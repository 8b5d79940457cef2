-- A run takes its input from the front.
use Rattle.std.proofs.Common.{◌≡◌, ℕ, zero, suc, ◌+◌, ◌-◌, List, [], ◌∷◌, ◌++◌, length, append_assoc, refl, sym, ap, ◌∙◌, arith, Result, Ok, Err}
use Rattle.std.proofs.lemmas.List.{length-append}
use Rattle.hx_mem.specs.Space.{Space}
use Rattle.reg_map.specs.Registers.{Registers}
use Rattle.machine_rules.specs.declared.ends.GuestEnd.{GuestEnd}
use Rattle.machine_rules.specs.declared.places.Side.{Side}
use Rattle.machine_rules.specs.declared.places.Place.{Place}
use Rattle.machine_rules.specs.declared.places.Place.TheVariants.{AtService, InRange, Nowhere}
use Rattle.machine_rules.specs.declared.places.Service.{Service}
use Rattle.machine_rules.specs.declared.places.Service.TheVariants.{PutByte, GetByte, ExitGuest, TrapGuest, CheckCall, DispatchCall, DispatchReturn}
use Rattle.machine_rules.specs.State.{Guest, Machine, Code, Way, On, Off, After, Goes, Ends, after_way, place_at}
use Rattle.hx_mem.specs.Space.{store_of}
use Rattle.x64_exec.specs.Words.{minus}
use Rattle.machine_rules.specs.Steps.{back, puts, taken, gets, checks, dispatched, returned, serve, instruct, act_at, step_of}
use Rattle.machine_rules.specs.declared.places.Side.TheVariants.{Ec}
use Rattle.machine_rules.specs.Runs.{run_from, machine_of}

-- some bytes are gone from the front
abbrev pub Went : List ℕ → List ℕ → Type 0
Went left rest = (gone : List ℕ) × (left ≡ gone ++ rest)

pub stays : (left : List ℕ) → Went left left
stays left = ([], refl)

then_went : (a b c : List ℕ) → Went a b → Went b c → Went a c
then_went a b c (g, e) (h, f) = (g ++ h, e ∙ ap (λ (xs : List ℕ). g ++ xs) f ∙ sym (append_assoc g h c))

-- how many
pub gone_of : (left rest : List ℕ) → Went left rest → (gone : List ℕ) × (left ≡ gone ++ rest) × (length gone ≡ length left - length rest)
gone_of left rest (gone, e) =
    let l : length left ≡ length gone + length rest = ap length e ∙ length-append gone rest in
    let n : length gone ≡ length left - length rest = omega (arith, l) in
    (gone, e, n)

-- ---- a step

way_went : (way : Way) (input : List ℕ) → Went input (machine_of (after_way way input)).input
way_went (On g) input = stays input
way_went (Off end g) input = stays input

taken_went : (input : List ℕ) (side : Side) (cpu : Registers) (mem : Space) → Went input (machine_of (taken input side cpu mem)).input
taken_went [] side cpu mem = stays []
taken_went (byte ∷ left) side cpu mem = (byte ∷ [], refl)

gets_went : (r : Result Registers GuestEnd) (side : Side) (g : Guest) (input : List ℕ) → Went input (machine_of (gets r side g input)).input
gets_went (Ok cpu) side g input = taken_went input side cpu g.mem
gets_went (Err end) side g input = stays input

puts_went : (r : Result Registers GuestEnd) (g : Guest) (input : List ℕ) → Went input (machine_of (puts r g input).after).input
puts_went (Ok cpu) g input = stays input
puts_went (Err end) g input = stays input

serve_went : (service : Service) (code : Code) (g : Guest) (input : List ℕ) → Went input (machine_of (serve service code g input).after).input
unfolding serve
serve_went (PutByte side) code g input = puts_went (back side code g) g input
serve_went (GetByte side) code g input = gets_went (back side code g) side g input
serve_went (ExitGuest side) code g input = stays input
serve_went (TrapGuest side) code g input = stays input
serve_went CheckCall code g input = way_went (checks (back Ec code g) code g) input
serve_went DispatchCall code g input = way_went (dispatched (store_of g.mem (minus (g.cpu.value 31) 8) 8) code g) input
serve_went DispatchReturn code g input = way_went (returned code g) input

act_went : (place : Place) (code : Code) (g : Guest) (input : List ℕ) → Went input (machine_of (act_at place code g input).after).input
act_went (AtService service) code g input = serve_went service code g input
act_went (InRange side) code g input = way_went (instruct side code g) input
act_went Nowhere code g input = stays input

step_went : (code : Code) (m : Machine) → Went m.input (machine_of (step_of code m).after).input
unfolding step_of
step_went code m = act_went (place_at code m.guest.cpu.pc) code m.guest m.input

-- ---- a run

pub run_went : (code : Code) (n : ℕ) (a : After) → Went (machine_of a).input (machine_of (run_from code n a).after).input
unfolding run_from
run_went code zero a = stays (machine_of a).input
run_went code (suc n) (Goes m) = then_went m.input _ _ (step_went code m) (run_went code n (step_of code m).after)
run_went code (suc n) (Ends end m) = stays m.input
