-- The instructions that read registers and give one a value, or set flags alone (Intel SDM, Vol. 2).
use Rattle.std.specs.Prelude.{ℕ, Bool, true, false, ◌≢◌}
use Rattle.reg_map.specs.declared.registers.X64Reg.TheVariants.{Rdx}
use Rattle.reg_map.specs.Table.{arm_number}
use Rattle.x64_isa.specs.declared.instruction.XInstr.{XInstr}
use Rattle.x64_isa.specs.declared.instruction.XInstr.TheVariants.{MovReg, MovLoad, Mov32Reg, Mov32Load, MovStore, Mov32Store, Mov16Store, Mov8Store, Movzx8Reg, Movzx8Load, Movzx16Reg, Movzx16Load, Movsx8Reg, Movsx8Load, Movsx16Reg, Movsx16Load, Movsx32Reg, Movsx32Load, MovImm64, Lea, AddReg, OrReg, AndReg, SubReg, XorReg, CmpReg, AddImm, OrImm, AndImm, SubImm, XorImm, CmpImm, TestReg, ImulReg, NotReg, NegReg, DivReg, IdivReg, Cqo, ShlCl, ShrCl, SarCl, ShlImm, ShrImm, SarImm, Setcc, Jcc, JmpRel, CallRel, CallReg, CallMem, JmpReg, JmpMem, Push, Pop, Ret, Int3, Ud2}

-- an instruction of registers alone, which gives a value to none or to one that isn't number k
abbrev pub LeavesRegister : XInstr → ℕ → Type 0
LeavesRegister (MovReg r q) k = k ≢ arm_number r
LeavesRegister (MovLoad r m) k = ⊥
LeavesRegister (Mov32Reg r q) k = k ≢ arm_number r
LeavesRegister (Mov32Load r m) k = ⊥
LeavesRegister (MovStore m r) k = ⊥
LeavesRegister (Mov32Store m r) k = ⊥
LeavesRegister (Mov16Store m r) k = ⊥
LeavesRegister (Mov8Store m r) k = ⊥
LeavesRegister (Movzx8Reg r q) k = k ≢ arm_number r
LeavesRegister (Movzx8Load r m) k = ⊥
LeavesRegister (Movzx16Reg r q) k = k ≢ arm_number r
LeavesRegister (Movzx16Load r m) k = ⊥
LeavesRegister (Movsx8Reg r q) k = k ≢ arm_number r
LeavesRegister (Movsx8Load r m) k = ⊥
LeavesRegister (Movsx16Reg r q) k = k ≢ arm_number r
LeavesRegister (Movsx16Load r m) k = ⊥
LeavesRegister (Movsx32Reg r q) k = k ≢ arm_number r
LeavesRegister (Movsx32Load r m) k = ⊥
LeavesRegister (MovImm64 r imm) k = k ≢ arm_number r
LeavesRegister (Lea r m) k = k ≢ arm_number r
LeavesRegister (AddReg q r) k = k ≢ arm_number q
LeavesRegister (OrReg q r) k = k ≢ arm_number q
LeavesRegister (AndReg q r) k = k ≢ arm_number q
LeavesRegister (SubReg q r) k = k ≢ arm_number q
LeavesRegister (XorReg q r) k = k ≢ arm_number q
LeavesRegister (CmpReg q r) k = Unit {0}
LeavesRegister (AddImm q imm) k = k ≢ arm_number q
LeavesRegister (OrImm q imm) k = k ≢ arm_number q
LeavesRegister (AndImm q imm) k = k ≢ arm_number q
LeavesRegister (SubImm q imm) k = k ≢ arm_number q
LeavesRegister (XorImm q imm) k = k ≢ arm_number q
LeavesRegister (CmpImm q imm) k = Unit {0}
LeavesRegister (TestReg q r) k = Unit {0}
LeavesRegister (ImulReg r q) k = k ≢ arm_number r
LeavesRegister (NotReg q) k = k ≢ arm_number q
LeavesRegister (NegReg q) k = k ≢ arm_number q
LeavesRegister (DivReg q) k = ⊥
LeavesRegister (IdivReg q) k = ⊥
LeavesRegister Cqo k = k ≢ arm_number Rdx
LeavesRegister (ShlCl q) k = k ≢ arm_number q
LeavesRegister (ShrCl q) k = k ≢ arm_number q
LeavesRegister (SarCl q) k = k ≢ arm_number q
LeavesRegister (ShlImm q imm) k = k ≢ arm_number q
LeavesRegister (ShrImm q imm) k = k ≢ arm_number q
LeavesRegister (SarImm q imm) k = k ≢ arm_number q
LeavesRegister (Setcc c q) k = k ≢ arm_number q
LeavesRegister (Jcc c rel) k = ⊥
LeavesRegister (JmpRel rel) k = ⊥
LeavesRegister (CallRel rel) k = ⊥
LeavesRegister (CallReg q) k = ⊥
LeavesRegister (CallMem m) k = ⊥
LeavesRegister (JmpReg q) k = ⊥
LeavesRegister (JmpMem m) k = ⊥
LeavesRegister (Push r) k = ⊥
LeavesRegister (Pop r) k = ⊥
LeavesRegister Ret k = ⊥
LeavesRegister Int3 k = ⊥
LeavesRegister Ud2 k = ⊥

-- it sets the flags, where its count of shifts isn't 0
abbrev pub sets_flags : XInstr → Bool
sets_flags (MovReg r q) = false
sets_flags (MovLoad r m) = false
sets_flags (Mov32Reg r q) = false
sets_flags (Mov32Load r m) = false
sets_flags (MovStore m r) = false
sets_flags (Mov32Store m r) = false
sets_flags (Mov16Store m r) = false
sets_flags (Mov8Store m r) = false
sets_flags (Movzx8Reg r q) = false
sets_flags (Movzx8Load r m) = false
sets_flags (Movzx16Reg r q) = false
sets_flags (Movzx16Load r m) = false
sets_flags (Movsx8Reg r q) = false
sets_flags (Movsx8Load r m) = false
sets_flags (Movsx16Reg r q) = false
sets_flags (Movsx16Load r m) = false
sets_flags (Movsx32Reg r q) = false
sets_flags (Movsx32Load r m) = false
sets_flags (MovImm64 r imm) = false
sets_flags (Lea r m) = false
sets_flags (AddReg q r) = true
sets_flags (OrReg q r) = true
sets_flags (AndReg q r) = true
sets_flags (SubReg q r) = true
sets_flags (XorReg q r) = true
sets_flags (CmpReg q r) = true
sets_flags (AddImm q imm) = true
sets_flags (OrImm q imm) = true
sets_flags (AndImm q imm) = true
sets_flags (SubImm q imm) = true
sets_flags (XorImm q imm) = true
sets_flags (CmpImm q imm) = true
sets_flags (TestReg q r) = true
sets_flags (ImulReg r q) = true
sets_flags (NotReg q) = false
sets_flags (NegReg q) = true
sets_flags (DivReg q) = false
sets_flags (IdivReg q) = false
sets_flags Cqo = false
sets_flags (ShlCl q) = true
sets_flags (ShrCl q) = true
sets_flags (SarCl q) = true
sets_flags (ShlImm q imm) = true
sets_flags (ShrImm q imm) = true
sets_flags (SarImm q imm) = true
sets_flags (Setcc c q) = false
sets_flags (Jcc c rel) = false
sets_flags (JmpRel rel) = false
sets_flags (CallRel rel) = false
sets_flags (CallReg q) = false
sets_flags (CallMem m) = false
sets_flags (JmpReg q) = false
sets_flags (JmpMem m) = false
sets_flags (Push r) = false
sets_flags (Pop r) = false
sets_flags Ret = false
sets_flags Int3 = false
sets_flags Ud2 = false
