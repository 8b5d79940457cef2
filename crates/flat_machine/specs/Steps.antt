-- One step of the flat machine.
use Rattle.std.specs.Prelude.{ℕ, ◌+◌, ◌-◌, ◌%◌, ◌^◌, List, [], ◌∷◌, ◌&&◌, nat_lt, nat_le, if◌then◌else◌, Option, Some, None, Result, Ok, Err}
use Rattle.std.specs.Result.{result_ok}
use Rattle.hx_mem.specs.Space.{Space, load_of, fetch_of}
use Rattle.hx_mem.specs.declared.fault.MemBad.{MemBad}
use Rattle.hx_mem.specs.declared.fault.MemBad.TheVariants.{Guard, Unmapped as NotMapped, Protected as NoRight}
use Rattle.reg_map.specs.declared.registers.X64Reg.TheVariants.{Rax, Rcx, Rsp}
use Rattle.reg_map.specs.Registers.{Registers, x64_value, with_x64}
use Rattle.x64_isa.specs.declared.instruction.XInstr.{XInstr}
use Rattle.x64_isa.specs.declared.instruction.XBad.{XBad}
use Rattle.x64_isa.specs.Reading.{decode_of}
use Rattle.x64_exec.specs.declared.event.XEvent.{XEvent}
use Rattle.x64_exec.specs.declared.event.XEvent.TheVariants.{Next, Branch, Goto, CallTo, RetTo, Fault}
use Rattle.x64_exec.specs.declared.event.XFault.{XFault}
use Rattle.x64_exec.specs.declared.event.XFault.TheVariants.{Memory, Divide as DivideFault, Halt as HaltFault}
use Rattle.x64_exec.specs.Words.{Effect, word}
use Rattle.x64_exec.specs.Effects.{effect_of}
use Rattle.flat_machine.specs.declared.ends.RunEnd.{RunEnd}
use Rattle.flat_machine.specs.declared.ends.RunEnd.TheVariants.{Exit, Trap, StackSpent, Stuck}
use Rattle.flat_machine.specs.declared.ends.StuckWhy.{StuckWhy}
use Rattle.flat_machine.specs.declared.ends.StuckWhy.TheVariants.{NoRange, BadInstruction, Unmapped, Protected, Divide, Halt}
use Rattle.flat_machine.specs.declared.service.Service.{Service}
use Rattle.flat_machine.specs.declared.service.Service.TheVariants.{PutByte, GetByte, ExitGuest, TrapGuest}
use Rattle.flat_machine.specs.Layout.{image_base, service_at}

-- the registers with pc and flags, and the memory
pub record Guest : Type 0 where
  pub cpu : Registers
  pub mem : Space

-- what a step comes to: a state, or an end
pub data After : Type 0 where
  Goes : Guest → After
  Ends : RunEnd → After

-- a step: the bytes that it puts, and what it comes to
pub record Act : Type 0 where
  pub put : List ℕ
  pub after : After

abbrev pub quiet : After → Act
quiet after = record { put = []; after = after }

-- how a refused access ends a run, and how a fault does
abbrev pub refusal : MemBad → ℕ → RunEnd
refusal (Guard a) pc = StackSpent
refusal (NotMapped a) pc = Stuck Unmapped pc
refusal (NoRight a) pc = Stuck Protected pc

abbrev pub fault_end : XFault → ℕ → RunEnd
fault_end (Memory bad) pc = refusal bad pc
fault_end DivideFault pc = Stuck Divide pc
fault_end HaltFault pc = Stuck Halt pc

abbrev pub stuck : StuckWhy → Guest → After
stuck why g = Ends (Stuck why g.cpu.pc)

-- a service gives control back as a return does: by the address that the stack holds
abbrev pub returned : Result ℕ MemBad → List ℕ → Registers → Guest → Act
returned (Ok target) put cpu g = record {
  put = put;
  after = Goes (record { cpu = record (with_x64 cpu Rsp (word (x64_value cpu Rsp + 8))) { pc = target }; mem = g.mem });
}
returned (Err bad) put cpu g = quiet (Ends (refusal bad g.cpu.pc))

abbrev pub returns : List ℕ → Registers → Guest → Act
returns put cpu g = returned (load_of g.mem (x64_value g.cpu Rsp) 8) put cpu g

-- the services; the flat machine has no input, so a byte asked for is never there
abbrev pub serve : Service → Guest → Act
serve PutByte g = returns (x64_value g.cpu Rcx % 256 ∷ []) g.cpu g
serve GetByte g = returns [] (with_x64 g.cpu Rax (2 ^ 64 - 1)) g
serve ExitGuest g = quiet (Ends (Exit (x64_value g.cpu Rcx % 256)))
serve TrapGuest g = quiet (Ends (Trap (x64_value g.cpu Rcx % 256)))

-- an instruction's effect as a step
abbrev pub moved : XEvent → Effect → Guest → After
moved Next e g = Goes (record { cpu = e.cpu; mem = e.mem })
moved (Branch to) e g = Goes (record { cpu = e.cpu; mem = e.mem })
moved (Goto to) e g = Goes (record { cpu = e.cpu; mem = e.mem })
moved (CallTo to) e g = Goes (record { cpu = e.cpu; mem = e.mem })
moved (RetTo to) e g = Goes (record { cpu = e.cpu; mem = e.mem })
moved (Fault fault) e g = Ends (fault_end fault g.cpu.pc)

-- the instruction at pc and how many bytes it has; at most 15 bytes are read (SDM, Vol. 2, 2.3.11)
abbrev pub read_from : Result (List ℕ) MemBad → Option (XInstr × ℕ)
read_from (Ok bytes) = result_ok (decode_of bytes)
read_from (Err bad) = None

abbrev pub found_at : Guest → Option (XInstr × ℕ)
found_at g = read_from (fetch_of g.mem g.cpu.pc 15)

abbrev pub executed : Option (XInstr × ℕ) → Guest → After
executed (Some x) g = let e : Effect = effect_of x.0 x.1 g.cpu g.mem in moved e.event e g
executed None g = stuck BadInstruction g

-- an instruction, where pc is in the image, which has so many bytes
abbrev pub instruct : ℕ → Guest → After
instruct size g =
    if nat_le image_base g.cpu.pc && nat_lt g.cpu.pc (image_base + size)
    then executed (found_at g) g else stuck NoRange g

abbrev pub act_at : Option Service → ℕ → Guest → Act
act_at (Some service) size g = serve service g
act_at None size g = quiet (instruct size g)

-- one step in an image of so many bytes
unfoldable pub step_of : ℕ → Guest → Act
step_of size g = act_at (service_at g.cpu.pc) size g
