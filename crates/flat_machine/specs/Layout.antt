-- Where things stand in the flat machine.
use Rattle.std.specs.Prelude.{ℕ, ◌+◌, ◌-◌, ◌*◌, ◌^◌, ◌==◌, List, [], ◌∷◌, length, replicate, true, false, if◌then◌else◌, Option, Some, None}
use Rattle.hx_mem.specs.Space.{Space, after_add}
use Rattle.hx_mem.specs.Segments.{Segment}
use Rattle.hx_mem.specs.declared.memory.GuardRange.{GuardRange}
use Rattle.flat_machine.specs.declared.service.Service.{Service}
use Rattle.flat_machine.specs.declared.service.Service.TheVariants.{PutByte, GetByte, ExitGuest, TrapGuest}
use Rattle.reg_map.specs.Registers.{Registers, registers_of}
use Rattle.reg_map.specs.declared.registers.Cpu.{Cpu}
use Rattle.reg_map.specs.declared.registers.XFlags.{XFlags}
use Rattle.reg_map.specs.declared.registers.AFlags.{AFlags}

-- the address of the image's first byte
abbrev pub image_base : ℕ
image_base = 0x140000000

-- the stack ends here, and is so long; below it lies the guard
abbrev pub stack_top : ℕ
stack_top = 0x7FFE00000000

abbrev pub stack_size : ℕ
stack_size = 1048576

abbrev pub guard_size : ℕ
guard_size = 16777216

-- the services that x64 code calls stand from here on, each at its address
abbrev pub services_base : ℕ
services_base = 0x7FFF00000000

abbrev pub service_at : ℕ → Option Service
service_at pc =
    if pc == services_base + 48 then Some PutByte else
    if pc == services_base + 64 then Some GetByte else
    if pc == services_base + 80 then Some ExitGuest else
    if pc == services_base + 96 then Some TrapGuest else None

-- bytes of value 0
unfoldable pub zeros : ℕ → List ℕ
zeros n = replicate n 0

-- the image, read and executed, and the stack, read and written
abbrev pub image_region : List ℕ → Segment
image_region image = record { start = image_base; bytes = image; write = false; exec = true }

abbrev pub stack_region : Segment
stack_region = record { start = stack_top - stack_size; bytes = zeros stack_size; write = true; exec = false }

abbrev pub no_memory : Space
no_memory = record { regions = []; guard = None }

abbrev pub guard_range : GuardRange
guard_range = record { start = stack_top - stack_size - guard_size; length = guard_size }

abbrev pub start_memory : List ℕ → Space
start_memory image = record (after_add (after_add no_memory (image_region image)) stack_region) { guard = Some guard_range }

-- at the start the stack pointer is the stack's top, pc is the image's first byte, and all else is zero
abbrev pub start_registers : Registers
start_registers = registers_of (record {
  x = replicate 31 0;
  sp = stack_top;
  pc = image_base;
  xf = record { cf = false; zf = false; sf = false; of = false };
  af = record { n = false; z = false; c = false; v = false };
})
