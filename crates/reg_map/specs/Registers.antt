-- The processor state as definitions see it.
use Rattle.std.specs.Prelude.{ℕ, ◌==◌, if◌then◌else◌, slice_index}
use Rattle.reg_map.specs.declared.registers.Cpu.{Cpu}
use Rattle.reg_map.specs.declared.registers.XFlags.{XFlags}
use Rattle.reg_map.specs.declared.registers.AFlags.{AFlags}
use Rattle.reg_map.specs.declared.registers.X64Reg.{X64Reg}
use Rattle.reg_map.specs.Table.{arm_number}

-- the values of the registers by number, 31 being the stack pointer, the place and both flag sets
pub record Registers : Type 0 where
  pub value : ℕ → ℕ
  pub pc : ℕ
  pub xf : XFlags
  pub af : AFlags

-- the value of a register by number
abbrev pub value_of : Cpu → ℕ → ℕ
value_of c n = if n == 31 then c.sp else slice_index c.x n

abbrev pub registers_of : Cpu → Registers
registers_of c = record { value = value_of c; pc = c.pc; xf = c.xf; af = c.af }

-- the values with that of one register replaced
abbrev pub with_value : (ℕ → ℕ) → ℕ → ℕ → ℕ → ℕ
with_value f n v m = if m == n then v else f m

abbrev pub with_number : Registers → ℕ → ℕ → Registers
with_number s n v = record s { value = with_value s.value n v }

-- the value of an x64 register, and the state with it replaced
abbrev pub x64_value : Registers → X64Reg → ℕ
x64_value s r = s.value (arm_number r)

abbrev pub with_x64 : Registers → X64Reg → ℕ → Registers
with_x64 s r v = with_number s (arm_number r) v
