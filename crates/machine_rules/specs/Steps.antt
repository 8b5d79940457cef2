-- One step of the machine. Instructions are those of the two tables; the switches between the sides follow
-- Microsoft's pages "Overview of ARM64EC ABI conventions" and "Understanding Arm64EC ABI and assembly code" in
-- outline, and what these leave open is this project's own, as are the services.
use Rattle.std.specs.Prelude.{ℕ, ◌+◌, ◌-◌, ◌%◌, ◌^◌, ◌==◌, ◌&&◌, false, List, [], ◌∷◌, length, if◌then◌else◌, Option, Some, None, Result, Ok, Err}
use Rattle.std.specs.Result.{result_ok}
use Rattle.hx_words.specs.LittleEndian.{number_of}
use Rattle.hx_bits.specs.declared.widths.Width.TheVariants.{W32}
use Rattle.hx_bits.specs.Widths.{sign_extended}
use Rattle.hx_mem.specs.Space.{Space, load_of, store_of, after_store, fetch_of}
use Rattle.hx_mem.specs.declared.fault.MemBad.{MemBad}
use Rattle.hx_mem.specs.declared.fault.MemBad.TheVariants.{Guard, Unmapped as NotMapped, Protected as NoRight}
use Rattle.reg_map.specs.Registers.{Registers, with_number}
use Rattle.reg_map.specs.declared.registers.AFlags.{AFlags}
use Rattle.x64_isa.specs.declared.instruction.XInstr.{XInstr}
use Rattle.x64_isa.specs.Reading.{decode_of as decode_x64}
use Rattle.x64_exec.specs.declared.event.XEvent.{XEvent}
use Rattle.x64_exec.specs.declared.event.XEvent.TheVariants.{Next as XNext, Branch as XBranch, Goto as XGoto, CallTo as XCallTo, RetTo as XRetTo, Fault as XFaulted}
use Rattle.x64_exec.specs.declared.event.XFault.{XFault}
use Rattle.x64_exec.specs.declared.event.XFault.TheVariants.{Memory as XMemory, Divide as XDivide, Halt as XHalt}
use Rattle.x64_exec.specs.Words.{Effect, word, plus, minus, clear}
use Rattle.x64_exec.specs.Effects.{effect_of as x64_effect}
use Rattle.a64_isa.specs.declared.instruction.AInstr.{AInstr}
use Rattle.a64_isa.specs.Reading.{decode_of as decode_a64}
use Rattle.a64_exec.specs.declared.event.AEvent.{AEvent}
use Rattle.a64_exec.specs.declared.event.AEvent.TheVariants.{Next as ANext, Goto as AGoto, CallTo as ACallTo, RetTo as ARetTo, Fault as AFaulted}
use Rattle.a64_exec.specs.declared.event.AFault.{AFault}
use Rattle.a64_exec.specs.declared.event.AFault.TheVariants.{Memory as AMemory, Blocked as ABlocked, Misaligned as AMisaligned, Halt as AHalt}
use Rattle.a64_exec.specs.Effects.{Outcome, effect_of as a64_effect}
use Rattle.machine_rules.specs.declared.ends.GuestEnd.{GuestEnd}
use Rattle.machine_rules.specs.declared.ends.GuestEnd.TheVariants.{Exit, Trap, StackSpent, Stuck}
use Rattle.machine_rules.specs.declared.ends.StuckWhy.{StuckWhy}
use Rattle.machine_rules.specs.declared.ends.StuckWhy.TheVariants.{NoRange, Misaligned, BadInstruction, Blocked, Unmapped, Protected, Divide, Halt, BadSwitch, NoThunk, BadTarget}
use Rattle.machine_rules.specs.declared.places.Side.{Side}
use Rattle.machine_rules.specs.declared.places.Side.TheVariants.{X64, Ec}
use Rattle.machine_rules.specs.declared.places.Service.{Service}
use Rattle.machine_rules.specs.declared.places.Service.TheVariants.{PutByte, GetByte, ExitGuest, TrapGuest, CheckCall, DispatchCall, DispatchReturn}
use Rattle.machine_rules.specs.declared.places.Place.{Place}
use Rattle.machine_rules.specs.declared.places.Place.TheVariants.{AtService, InRange, Nowhere}
use Rattle.machine_rules.specs.State.{Guest, Machine, Code, Way, On, Off, After, Act, after_way, quiet, silent, place_at, redirected, is_across, is_ec, is_x64, is_code}

-- ---- ends

-- how a refused access ends a run, and how a fault of each side does
abbrev pub refusal : MemBad → ℕ → GuestEnd
refusal (Guard a) pc = StackSpent
refusal (NotMapped a) pc = Stuck Unmapped pc
refusal (NoRight a) pc = Stuck Protected pc

abbrev pub x64_end : XFault → ℕ → GuestEnd
x64_end (XMemory bad) pc = refusal bad pc
x64_end XDivide pc = Stuck Divide pc
x64_end XHalt pc = Stuck Halt pc

abbrev pub ec_end : AFault → ℕ → GuestEnd
ec_end (AMemory bad) pc = refusal bad pc
ec_end ABlocked pc = Stuck Blocked pc
ec_end AMisaligned pc = Stuck Misaligned pc
ec_end AHalt pc = Stuck Halt pc

-- a step that is none changes nothing
abbrev pub stuck : StuckWhy → Guest → Way
stuck why g = Off (Stuck why g.cpu.pc) g

abbrev pub guest : Registers → Space → Guest
guest cpu mem = record { cpu = cpu; mem = mem }

-- a row was done, and control can't go on from it: pc stays at its instruction
abbrev pub barred : GuestEnd → ℕ → Registers → Space → Way
barred end pc cpu mem = Off end (guest (record cpu { pc = pc }) mem)

-- a switch leaves no flag set, on either side
abbrev pub no_flags : AFlags
no_flags = record { n = false; z = false; c = false; v = false }

abbrev pub cleared : Registers → Registers
cleared cpu = record cpu { xf = clear; af = no_flags }

-- ---- control that comes to a place from code of a side

-- without a switch: a fall-through, a conditional jump, and every branch of EC code
abbrev pub arrives : Side → Place → ℕ → Registers → Space → Way
arrives side place pc cpu mem =
    if is_across side place then barred (Stuck BadSwitch pc) pc cpu mem else On (guest cpu mem)

-- A call or a jump of x64 code to an EC function (Microsoft, "Understanding Arm64EC ABI and assembly code", entry
-- thunks): x9 is the function, lr the return address, which leaves the stack, and x4 the stack pointer. The four
-- bytes before the function hold the distance from it to its entry thunk, and 1 in their two low bits.
abbrev pub thunk_of : ℕ → ℕ → ℕ
thunk_of target distance = word (target + sign_extended W32 distance + (2 ^ 64 - 1))

abbrev pub entered : ℕ → ℕ → Registers → Registers
entered thunk address cpu =
    let sp : ℕ = plus (cpu.value 31) 8 in
    cleared (record (with_number (with_number (with_number (with_number cpu 30 address) 31 sp) 9 cpu.pc) 4 sp) { pc = thunk })

abbrev pub to_thunk : Code → ℕ → ℕ → ℕ → Registers → Space → Way
to_thunk code distance address pc cpu mem =
    if (distance % 4 == 1) && is_ec (place_at code (thunk_of cpu.pc distance))
    then On (guest (entered (thunk_of cpu.pc distance) address cpu) mem)
    else barred (Stuck NoThunk pc) pc cpu mem

abbrev pub with_distance : Result ℕ MemBad → Code → ℕ → ℕ → Registers → Space → Way
with_distance (Ok distance) code address pc cpu mem = to_thunk code distance address pc cpu mem
with_distance (Err bad) code address pc cpu mem = barred (refusal bad pc) pc cpu mem

abbrev pub with_return : Result ℕ MemBad → Code → ℕ → Registers → Space → Way
with_return (Ok address) code pc cpu mem = with_distance (load_of mem (minus cpu.pc 4) 4) code address pc cpu mem
with_return (Err bad) code pc cpu mem = barred (refusal bad pc) pc cpu mem

abbrev pub enters : Code → ℕ → Registers → Space → Way
enters code pc cpu mem =
    if plus (cpu.value 31) 8 % 16 == 0
    then with_return (load_of mem (cpu.value 31) 8) code pc cpu mem
    else barred (Stuck Misaligned pc) pc cpu mem

abbrev pub jumps : Code → ℕ → Registers → Space → Way
jumps code pc cpu mem =
    if is_ec (place_at code cpu.pc) then enters code pc cpu mem else arrives X64 (place_at code cpu.pc) pc cpu mem

-- a return of x64 code to EC code goes on there (Microsoft, "Understanding Arm64EC ABI and assembly code", exit
-- thunks: an x64 callee returns into the exit thunk)
abbrev pub returns : Code → ℕ → Registers → Space → Way
returns code pc cpu mem =
    if is_ec (place_at code cpu.pc) then On (guest (cleared cpu) mem) else arrives X64 (place_at code cpu.pc) pc cpu mem

-- ---- instructions

-- the way on from an x64 row, whose registers have pc where control goes
abbrev pub x64_on : XEvent → Code → ℕ → Registers → Space → Way
x64_on XNext code pc cpu mem = arrives X64 (place_at code cpu.pc) pc cpu mem
x64_on (XBranch to) code pc cpu mem = arrives X64 (place_at code cpu.pc) pc cpu mem
x64_on (XGoto to) code pc cpu mem = jumps code pc cpu mem
x64_on (XCallTo to) code pc cpu mem = jumps code pc cpu mem
x64_on (XRetTo to) code pc cpu mem = returns code pc cpu mem
x64_on (XFaulted fault) code pc cpu mem = Off (x64_end fault pc) (guest cpu mem)

-- the same from an A64 row
abbrev pub ec_on : AEvent → Code → ℕ → Registers → Space → Way
ec_on ANext code pc cpu mem = arrives Ec (place_at code cpu.pc) pc cpu mem
ec_on (AGoto to) code pc cpu mem = arrives Ec (place_at code cpu.pc) pc cpu mem
ec_on (ACallTo to) code pc cpu mem = arrives Ec (place_at code cpu.pc) pc cpu mem
ec_on (ARetTo to) code pc cpu mem = arrives Ec (place_at code cpu.pc) pc cpu mem
ec_on (AFaulted fault) code pc cpu mem = Off (ec_end fault pc) (guest cpu mem)

-- the x64 instruction at pc and how many bytes it has; at most 15 are read (Intel SDM, Vol. 2, 2.3.11)
abbrev pub x64_read : Result (List ℕ) MemBad → Option (XInstr × ℕ)
x64_read (Ok bytes) = result_ok (decode_x64 bytes)
x64_read (Err bad) = None

abbrev pub x64_at : Guest → Option (XInstr × ℕ)
x64_at g = x64_read (fetch_of g.mem g.cpu.pc 15)

abbrev pub x64_done : Option (XInstr × ℕ) → Code → Guest → Way
x64_done (Some x) code g = let e : Effect = x64_effect x.0 x.1 g.cpu g.mem in x64_on e.event code g.cpu.pc e.cpu e.mem
x64_done None code g = stuck BadInstruction g

-- the A64 instruction at pc: a word of four bytes (Arm ARM, C1.1)
abbrev pub ec_read : Result (List ℕ) MemBad → Option AInstr
ec_read (Ok bytes) = if length bytes == 4 then decode_a64 (number_of bytes) else None
ec_read (Err bad) = None

abbrev pub ec_at : Guest → Option AInstr
ec_at g = ec_read (fetch_of g.mem g.cpu.pc 4)

abbrev pub ec_done : Option AInstr → Code → Guest → Way
ec_done (Some i) code g = let e : Outcome = a64_effect i g.cpu g.mem in ec_on e.event code g.cpu.pc e.registers e.memory
ec_done None code g = stuck BadInstruction g

unfoldable pub instruct : Side → Code → Guest → Way
instruct X64 code g = x64_done (x64_at g) code g
instruct Ec code g = if g.cpu.pc % 4 == 0 then ec_done (ec_at g) code g else stuck Misaligned g

-- ---- services

-- A service returns as code of its side does: by the address that the stack holds, or by lr. The registers after
-- the return, or the end that it would bring.
abbrev pub x64_arrived : Place → Registers → ℕ → Result Registers GuestEnd
x64_arrived place cpu pc =
    if is_ec place then Ok (cleared cpu) else if is_across X64 place then Err (Stuck BadSwitch pc) else Ok cpu

abbrev pub x64_back : Result ℕ MemBad → Code → Registers → Result Registers GuestEnd
x64_back (Ok to) code cpu = x64_arrived (place_at code to) (record (with_number cpu 31 (plus (cpu.value 31) 8)) { pc = to }) cpu.pc
x64_back (Err bad) code cpu = Err (refusal bad cpu.pc)

abbrev pub ec_back : Code → Registers → Result Registers GuestEnd
ec_back code cpu =
    if is_across Ec (place_at code (cpu.value 30)) then Err (Stuck BadSwitch cpu.pc) else Ok (record cpu { pc = cpu.value 30 })

unfoldable pub back : Side → Code → Guest → Result Registers GuestEnd
back X64 code g = x64_back (load_of g.mem (g.cpu.value 31) 8) code g.cpu
back Ec code g = ec_back code g.cpu

-- the argument of a service stands in rcx, which is x0
abbrev pub argument : Guest → ℕ
argument g = g.cpu.value 0 % 256

-- put_byte: no register but those of the return changes
abbrev pub puts : Result Registers GuestEnd → Guest → List ℕ → Act
puts (Ok cpu) g input = record { put = argument g ∷ []; after = after_way (On (guest cpu g.mem)) input }
puts (Err end) g input = quiet (Off end g) input

-- get_byte: the byte, or -1 as 64 bits where no input is left, in rax (x8), or in x0 for EC code
abbrev pub result_register : Side → ℕ
result_register X64 = 8
result_register Ec = 0

abbrev pub given : ℕ → Side → Registers → Space → Way
given v side cpu mem = On (guest (with_number cpu (result_register side) v) mem)

abbrev pub taken : List ℕ → Side → Registers → Space → After
taken [] side cpu mem = after_way (given (2 ^ 64 - 1) side cpu mem) []
taken (byte ∷ left) side cpu mem = after_way (given byte side cpu mem) left

abbrev pub gets : Result Registers GuestEnd → Side → Guest → List ℕ → After
gets (Ok cpu) side g input = taken input side cpu g.mem
gets (Err end) side g input = after_way (Off end g) input

-- The checker of indirect calls (Microsoft, "Overview of ARM64EC ABI conventions", call checkers): x11 is the
-- target. EC code is called as it is, and an x64 address that stands for an EC function by this function. Any other
-- x64 code is called through the exit thunk in x10, which gets the target in x9.
abbrev pub redirects_to : Option ℕ → Place → Registers → Guest → Way
redirects_to (Some to) place cpu g = On (guest (with_number cpu 11 to) g.mem)
redirects_to None place cpu g =
    if is_x64 place then On (guest (with_number (with_number cpu 9 (cpu.value 11)) 11 (cpu.value 10)) g.mem)
    else stuck BadTarget g

abbrev pub checks : Result Registers GuestEnd → Code → Guest → Way
checks (Ok cpu) code g =
    if is_ec (place_at code (cpu.value 11)) then On (guest cpu g.mem)
    else redirects_to (redirected code (cpu.value 11)) (place_at code (cpu.value 11)) cpu g
checks (Err end) code g = Off end g

-- the dispatcher of calls to x64 code: lr goes to the stack, as a call would put it, and control to x9
abbrev pub dispatched : Result (Unit {0}) MemBad → Code → Guest → Way
dispatched (Ok u) code g =
    let sp : ℕ = minus (g.cpu.value 31) 8 in
    if is_x64 (place_at code (g.cpu.value 9))
    then On (guest (cleared (record (with_number g.cpu 31 sp) { pc = g.cpu.value 9 })) (after_store g.mem sp 8 (g.cpu.value 30)))
    else stuck BadTarget g
dispatched (Err bad) code g = Off (refusal bad g.cpu.pc) g

-- the dispatcher of returns from entry thunks: control goes to lr, on either side
abbrev pub returned : Code → Guest → Way
returned code g =
    if is_code (place_at code (g.cpu.value 30)) then On (guest (cleared (record g.cpu { pc = g.cpu.value 30 })) g.mem)
    else stuck BadTarget g

unfoldable pub serve : Service → Code → Guest → List ℕ → Act
serve (PutByte side) code g input = puts (back side code g) g input
serve (GetByte side) code g input = silent (gets (back side code g) side g input)
serve (ExitGuest side) code g input = quiet (Off (Exit (argument g)) g) input
serve (TrapGuest side) code g input = quiet (Off (Trap (argument g)) g) input
serve CheckCall code g input = quiet (checks (back Ec code g) code g) input
serve DispatchCall code g input = quiet (dispatched (store_of g.mem (minus (g.cpu.value 31) 8) 8) code g) input
serve DispatchReturn code g input = quiet (returned code g) input

-- ---- the step

abbrev pub act_at : Place → Code → Guest → List ℕ → Act
act_at (AtService service) code g input = serve service code g input
act_at (InRange side) code g input = quiet (instruct side code g) input
act_at Nowhere code g input = quiet (stuck NoRange g) input

unfoldable pub step_of : Code → Machine → Act
step_of code m = act_at (place_at code m.guest.cpu.pc) code m.guest m.input
