-- A step of the machine changes no byte outside writable regions: what a row left stays, and the switches and the
-- services write nothing but the return address that a dispatched call pushes.
use Rattle.std.proofs.Common.{if◌then◌else◌, ◌≡◌, ℕ, ◌%◌, ◌==◌, ◌&&◌, true, false, List, [], ◌∷◌, Option, Some, None, Result, Ok, Err, refl, sym, subst}
use Rattle.hx_mem.specs.Space.{Space, load_of, store_of, after_store}
use Rattle.hx_mem.specs.declared.fault.MemBad.{MemBad}
use Rattle.reg_map.specs.Registers.{Registers, with_number}
use Rattle.x64_isa.specs.declared.instruction.XInstr.{XInstr}
use Rattle.x64_exec.specs.declared.event.XEvent.{XEvent}
use Rattle.x64_exec.specs.declared.event.XEvent.TheVariants.{Next as XNext, Branch as XBranch, Goto as XGoto, CallTo as XCallTo, RetTo as XRetTo, Fault as XFaulted}
use Rattle.x64_exec.specs.Words.{Effect, plus, minus}
use Rattle.x64_exec.specs.Effects.{effect_of as x64_effect}
use Rattle.a64_isa.specs.declared.instruction.AInstr.{AInstr}
use Rattle.a64_exec.specs.declared.event.AEvent.{AEvent}
use Rattle.a64_exec.specs.declared.event.AEvent.TheVariants.{Next as ANext, Goto as AGoto, CallTo as ACallTo, RetTo as ARetTo, Fault as AFaulted}
use Rattle.a64_exec.specs.Effects.{Outcome, effect_of as a64_effect}
use Rattle.machine_rules.specs.declared.ends.GuestEnd.{GuestEnd}
use Rattle.machine_rules.specs.declared.ends.GuestEnd.TheVariants.{Stuck}
use Rattle.machine_rules.specs.declared.ends.StuckWhy.TheVariants.{Misaligned, BadSwitch, NoThunk, BadTarget}
use Rattle.machine_rules.specs.declared.places.Side.{Side}
use Rattle.machine_rules.specs.declared.places.Side.TheVariants.{X64, Ec}
use Rattle.machine_rules.specs.declared.places.Service.{Service}
use Rattle.machine_rules.specs.declared.places.Service.TheVariants.{PutByte, GetByte, ExitGuest, TrapGuest, CheckCall, DispatchCall, DispatchReturn}
use Rattle.machine_rules.specs.declared.places.Place.{Place}
use Rattle.machine_rules.specs.declared.places.Place.TheVariants.{AtService, InRange, Nowhere}
use Rattle.machine_rules.specs.State.{Guest, Machine, Code, Way, On, Off, After, after_way, place_at, redirected, is_across, is_ec, is_x64, is_code}
use Rattle.machine_rules.specs.Steps.{guest, stuck, barred, cleared, arrives, thunk_of, entered, to_thunk, with_distance, with_return, enters, jumps, returns, x64_on, ec_on, x64_at, x64_done, ec_at, ec_done, instruct, back, puts, taken, gets, redirects_to, checks, dispatched, returned, serve, act_at, step_of}
use Rattle.machine_rules.specs.Runs.{machine_of}
use Rattle.machine_rules.specs.Laws.{KeepsRights}
use Rattle.machine_rules.proofs.Keeping.{same, store_keeps, x64_keeps}
use Rattle.machine_rules.proofs.KeepingA64.{a64_keeps}

-- the memory of a way on
abbrev memory_of : Way → Space
memory_of (On g) = g.mem
memory_of (Off end g) = g.mem

-- ---- after a row the memory stays

arrives_same : (side : Side) (place : Place) (pc : ℕ) (cpu : Registers) (mem : Space) → memory_of (arrives side place pc cpu mem) ≡ mem
arrives_same side place pc cpu mem =
    elim (is_across side place) as (λ c. memory_of (if c then barred (Stuck BadSwitch pc) pc cpu mem else On (guest cpu mem)) ≡ mem) [
      | true ↦ refl
      | false ↦ refl
    ]

to_thunk_same : (code : Code) (distance address pc : ℕ) (cpu : Registers) (mem : Space) → memory_of (to_thunk code distance address pc cpu mem) ≡ mem
to_thunk_same code distance address pc cpu mem =
    elim ((distance % 4 == 1) && is_ec (place_at code (thunk_of cpu.pc distance))) as (λ c. memory_of (if c then On (guest (entered (thunk_of cpu.pc distance) address cpu) mem) else barred (Stuck NoThunk pc) pc cpu mem) ≡ mem) [
      | true ↦ refl
      | false ↦ refl
    ]

with_distance_same : (r : Result ℕ MemBad) (code : Code) (address pc : ℕ) (cpu : Registers) (mem : Space) → memory_of (with_distance r code address pc cpu mem) ≡ mem
with_distance_same (Ok distance) code address pc cpu mem = to_thunk_same code distance address pc cpu mem
with_distance_same (Err bad) code address pc cpu mem = refl

with_return_same : (r : Result ℕ MemBad) (code : Code) (pc : ℕ) (cpu : Registers) (mem : Space) → memory_of (with_return r code pc cpu mem) ≡ mem
with_return_same (Ok address) code pc cpu mem = with_distance_same (load_of mem (minus cpu.pc 4) 4) code address pc cpu mem
with_return_same (Err bad) code pc cpu mem = refl

enters_same : (code : Code) (pc : ℕ) (cpu : Registers) (mem : Space) → memory_of (enters code pc cpu mem) ≡ mem
enters_same code pc cpu mem =
    elim (plus (cpu.value 31) 8 % 16 == 0) as (λ c. memory_of (if c then with_return (load_of mem (cpu.value 31) 8) code pc cpu mem else barred (Stuck Misaligned pc) pc cpu mem) ≡ mem) [
      | true ↦ with_return_same (load_of mem (cpu.value 31) 8) code pc cpu mem
      | false ↦ refl
    ]

jumps_same : (code : Code) (pc : ℕ) (cpu : Registers) (mem : Space) → memory_of (jumps code pc cpu mem) ≡ mem
jumps_same code pc cpu mem =
    elim (is_ec (place_at code cpu.pc)) as (λ c. memory_of (if c then enters code pc cpu mem else arrives X64 (place_at code cpu.pc) pc cpu mem) ≡ mem) [
      | true ↦ enters_same code pc cpu mem
      | false ↦ arrives_same X64 (place_at code cpu.pc) pc cpu mem
    ]

returns_same : (code : Code) (pc : ℕ) (cpu : Registers) (mem : Space) → memory_of (returns code pc cpu mem) ≡ mem
returns_same code pc cpu mem =
    elim (is_ec (place_at code cpu.pc)) as (λ c. memory_of (if c then On (guest (cleared cpu) mem) else arrives X64 (place_at code cpu.pc) pc cpu mem) ≡ mem) [
      | true ↦ refl
      | false ↦ arrives_same X64 (place_at code cpu.pc) pc cpu mem
    ]

x64_on_same : (e : XEvent) (code : Code) (pc : ℕ) (cpu : Registers) (mem : Space) → memory_of (x64_on e code pc cpu mem) ≡ mem
x64_on_same XNext code pc cpu mem = arrives_same X64 (place_at code cpu.pc) pc cpu mem
x64_on_same (XBranch to) code pc cpu mem = arrives_same X64 (place_at code cpu.pc) pc cpu mem
x64_on_same (XGoto to) code pc cpu mem = jumps_same code pc cpu mem
x64_on_same (XCallTo to) code pc cpu mem = jumps_same code pc cpu mem
x64_on_same (XRetTo to) code pc cpu mem = returns_same code pc cpu mem
x64_on_same (XFaulted fault) code pc cpu mem = refl

ec_on_same : (e : AEvent) (code : Code) (pc : ℕ) (cpu : Registers) (mem : Space) → memory_of (ec_on e code pc cpu mem) ≡ mem
ec_on_same ANext code pc cpu mem = arrives_same Ec (place_at code cpu.pc) pc cpu mem
ec_on_same (AGoto to) code pc cpu mem = arrives_same Ec (place_at code cpu.pc) pc cpu mem
ec_on_same (ACallTo to) code pc cpu mem = arrives_same Ec (place_at code cpu.pc) pc cpu mem
ec_on_same (ARetTo to) code pc cpu mem = arrives_same Ec (place_at code cpu.pc) pc cpu mem
ec_on_same (AFaulted fault) code pc cpu mem = refl

-- ---- instructions

x64_done_keeps : (found : Option (XInstr × ℕ)) (code : Code) (g : Guest) → KeepsRights g.mem (memory_of (x64_done found code g))
x64_done_keeps None code g = same g.mem
x64_done_keeps (Some x) code g =
    let e : Effect = x64_effect x.0 x.1 g.cpu g.mem in
    subst (KeepsRights g.mem) (sym (x64_on_same e.event code g.cpu.pc e.cpu e.mem)) (x64_keeps x.0 x.1 g.cpu g.mem)

ec_done_keeps : (found : Option AInstr) (code : Code) (g : Guest) → KeepsRights g.mem (memory_of (ec_done found code g))
ec_done_keeps None code g = same g.mem
ec_done_keeps (Some i) code g =
    let e : Outcome = a64_effect i g.cpu g.mem in
    subst (KeepsRights g.mem) (sym (ec_on_same e.event code g.cpu.pc e.registers e.memory)) (a64_keeps i g.cpu g.mem)

instruct_keeps : (side : Side) (code : Code) (g : Guest) → KeepsRights g.mem (memory_of (instruct side code g))
unfolding instruct
instruct_keeps X64 code g = x64_done_keeps (x64_at g) code g
instruct_keeps Ec code g =
    elim (g.cpu.pc % 4 == 0) as (λ c. KeepsRights g.mem (memory_of (if c then ec_done (ec_at g) code g else stuck Misaligned g))) [
      | true ↦ ec_done_keeps (ec_at g) code g
      | false ↦ same g.mem
    ]

-- ---- services

abbrev memory_after : After → Space
memory_after a = (machine_of a).guest.mem

way_keeps : (w : Way) (input : List ℕ) (m : Space) → KeepsRights m (memory_of w) → KeepsRights m (memory_after (after_way w input))
way_keeps (On g) input m k = k
way_keeps (Off end g) input m k = k

puts_keep : (r : Result Registers GuestEnd) (g : Guest) (input : List ℕ) → KeepsRights g.mem (memory_after (puts r g input).after)
puts_keep (Ok cpu) g input = same g.mem
puts_keep (Err end) g input = same g.mem

taken_keep : (input : List ℕ) (side : Side) (cpu : Registers) (mem : Space) → KeepsRights mem (memory_after (taken input side cpu mem))
taken_keep [] side cpu mem = same mem
taken_keep (byte ∷ left) side cpu mem = same mem

gets_keep : (r : Result Registers GuestEnd) (side : Side) (g : Guest) (input : List ℕ) → KeepsRights g.mem (memory_after (gets r side g input))
gets_keep (Ok cpu) side g input = taken_keep input side cpu g.mem
gets_keep (Err end) side g input = same g.mem

redirects_keep : (to : Option ℕ) (place : Place) (cpu : Registers) (g : Guest) → KeepsRights g.mem (memory_of (redirects_to to place cpu g))
redirects_keep (Some to) place cpu g = same g.mem
redirects_keep None place cpu g =
    elim (is_x64 place) as (λ c. KeepsRights g.mem (memory_of (if c then On (guest (with_number (with_number cpu 9 (cpu.value 11)) 11 (cpu.value 10)) g.mem) else stuck BadTarget g))) [
      | true ↦ same g.mem
      | false ↦ same g.mem
    ]

checks_keep : (r : Result Registers GuestEnd) (code : Code) (g : Guest) → KeepsRights g.mem (memory_of (checks r code g))
checks_keep (Ok cpu) code g =
    elim (is_ec (place_at code (cpu.value 11))) as (λ c. KeepsRights g.mem (memory_of (if c then On (guest cpu g.mem) else redirects_to (redirected code (cpu.value 11)) (place_at code (cpu.value 11)) cpu g))) [
      | true ↦ same g.mem
      | false ↦ redirects_keep (redirected code (cpu.value 11)) (place_at code (cpu.value 11)) cpu g
    ]
checks_keep (Err end) code g = same g.mem

dispatched_keep : (r : Result (Unit {0}) MemBad) (code : Code) (g : Guest) → KeepsRights g.mem (memory_of (dispatched r code g))
dispatched_keep (Ok u) code g =
    elim (is_x64 (place_at code (g.cpu.value 9))) as (λ c. KeepsRights g.mem (memory_of (if c then On (guest (cleared (record (with_number g.cpu 31 (minus (g.cpu.value 31) 8)) { pc = g.cpu.value 9 })) (after_store g.mem (minus (g.cpu.value 31) 8) 8 (g.cpu.value 30))) else stuck BadTarget g))) [
      | true ↦ store_keeps g.mem (minus (g.cpu.value 31) 8) 8 (g.cpu.value 30)
      | false ↦ same g.mem
    ]
dispatched_keep (Err bad) code g = same g.mem

returned_keep : (code : Code) (g : Guest) → KeepsRights g.mem (memory_of (returned code g))
returned_keep code g =
    elim (is_code (place_at code (g.cpu.value 30))) as (λ c. KeepsRights g.mem (memory_of (if c then On (guest (cleared (record g.cpu { pc = g.cpu.value 30 })) g.mem) else stuck BadTarget g))) [
      | true ↦ same g.mem
      | false ↦ same g.mem
    ]

serve_keeps : (service : Service) (code : Code) (g : Guest) (input : List ℕ) → KeepsRights g.mem (memory_after (serve service code g input).after)
unfolding serve
serve_keeps (PutByte side) code g input = puts_keep (back side code g) g input
serve_keeps (GetByte side) code g input = gets_keep (back side code g) side g input
serve_keeps (ExitGuest side) code g input = same g.mem
serve_keeps (TrapGuest side) code g input = same g.mem
serve_keeps CheckCall code g input = way_keeps (checks (back Ec code g) code g) input g.mem (checks_keep (back Ec code g) code g)
serve_keeps DispatchCall code g input = way_keeps (dispatched (store_of g.mem (minus (g.cpu.value 31) 8) 8) code g) input g.mem (dispatched_keep (store_of g.mem (minus (g.cpu.value 31) 8) 8) code g)
serve_keeps DispatchReturn code g input = way_keeps (returned code g) input g.mem (returned_keep code g)

-- ---- the step

act_keeps : (place : Place) (code : Code) (g : Guest) (input : List ℕ) → KeepsRights g.mem (memory_after (act_at place code g input).after)
act_keeps (AtService service) code g input = serve_keeps service code g input
act_keeps (InRange side) code g input = way_keeps (instruct side code g) input g.mem (instruct_keeps side code g)
act_keeps Nowhere code g input = same g.mem

pub step_keeps : (code : Code) (m : Machine) → KeepsRights m.guest.mem (machine_of (step_of code m).after).guest.mem
unfolding step_of
step_keeps code m = act_keeps (place_at code m.guest.cpu.pc) code m.guest m.input
