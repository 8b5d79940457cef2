-- What an instruction of registers alone leaves, form by form.
use Rattle.std.proofs.Common.{◌≡◌, ◌≢◌, ℕ, ◌%◌, false, arith, refl}
use Rattle.std.proofs.lemmas.Bool.Decides.{nat_tests}
use Rattle.reg_map.specs.declared.registers.X64Reg.{X64Reg}
use Rattle.reg_map.specs.declared.registers.X64Reg.TheVariants.{Rcx, Rdx}
use Rattle.reg_map.specs.Table.{arm_number}
use Rattle.reg_map.specs.Registers.{Registers, x64_value, with_x64}
use Rattle.hx_mem.specs.Space.{Space}
use Rattle.x64_isa.specs.declared.instruction.XInstr.{XInstr}
use Rattle.x64_isa.specs.declared.instruction.XInstr.TheVariants.{MovReg, MovLoad, Mov32Reg, Mov32Load, MovStore, Mov32Store, Mov16Store, Mov8Store, Movzx8Reg, Movzx8Load, Movzx16Reg, Movzx16Load, Movsx8Reg, Movsx8Load, Movsx16Reg, Movsx16Load, Movsx32Reg, Movsx32Load, MovImm64, Lea, AddReg, OrReg, AndReg, SubReg, XorReg, CmpReg, AddImm, OrImm, AndImm, SubImm, XorImm, CmpImm, TestReg, ImulReg, NotReg, NegReg, DivReg, IdivReg, Cqo, ShlCl, ShrCl, SarCl, ShlImm, ShrImm, SarImm, Setcc, Jcc, JmpRel, CallRel, CallReg, CallMem, JmpReg, JmpMem, Push, Pop, Ret, Int3, Ud2}
use Rattle.x64_exec.specs.declared.event.XEvent.TheVariants.{Next}
use Rattle.x64_exec.specs.declared.values.Shift.{Shift}
use Rattle.x64_exec.specs.declared.values.Shift.TheVariants.{Left, Right, RightSigned}
use Rattle.x64_exec.specs.Words.{next_pc, shifted_registers}
use Rattle.x64_exec.specs.Effects.{effect_of}
use Rattle.x64_laws.specs.RegisterForms.{LeavesRegister, sets_flags}

given-other : (s : Registers) (r : X64Reg) (v k : ℕ) → k ≢ arm_number r → (with_x64 s r v).value k ≡ s.value k
given-other s r v k other = grind (arith, nat_tests)

shifted-other : (w : Shift) (q : X64Reg) (n : ℕ) (s : Registers) (k : ℕ) → k ≢ arm_number q → (shifted_registers w q n s).value k ≡ s.value k
shifted-other w q n s k other = grind (arith, nat_tests)

shifted-af : (w : Shift) (q : X64Reg) (n : ℕ) (s : Registers) → (shifted_registers w q n s).af ≡ s.af
shifted-af w q n s = grind (arith, nat_tests)

shifted-pc : (w : Shift) (q : X64Reg) (n : ℕ) (s : Registers) → (shifted_registers w q n s).pc ≡ s.pc
shifted-pc w q n s = grind (arith, nat_tests)

pub form-registers : (i : XInstr) (len : ℕ) (s : Registers) (mem : Space) (k : ℕ) → LeavesRegister i k → (effect_of i len s mem).cpu.value k ≡ s.value k
unfolding effect_of
form-registers (MovReg r q) len s mem k h = given-other s r _ k h
form-registers (MovLoad r m) len s mem k h = elim h [ ]
form-registers (Mov32Reg r q) len s mem k h = given-other s r _ k h
form-registers (Mov32Load r m) len s mem k h = elim h [ ]
form-registers (MovStore m r) len s mem k h = elim h [ ]
form-registers (Mov32Store m r) len s mem k h = elim h [ ]
form-registers (Mov16Store m r) len s mem k h = elim h [ ]
form-registers (Mov8Store m r) len s mem k h = elim h [ ]
form-registers (Movzx8Reg r q) len s mem k h = given-other s r _ k h
form-registers (Movzx8Load r m) len s mem k h = elim h [ ]
form-registers (Movzx16Reg r q) len s mem k h = given-other s r _ k h
form-registers (Movzx16Load r m) len s mem k h = elim h [ ]
form-registers (Movsx8Reg r q) len s mem k h = given-other s r _ k h
form-registers (Movsx8Load r m) len s mem k h = elim h [ ]
form-registers (Movsx16Reg r q) len s mem k h = given-other s r _ k h
form-registers (Movsx16Load r m) len s mem k h = elim h [ ]
form-registers (Movsx32Reg r q) len s mem k h = given-other s r _ k h
form-registers (Movsx32Load r m) len s mem k h = elim h [ ]
form-registers (MovImm64 r imm) len s mem k h = given-other s r _ k h
form-registers (Lea r m) len s mem k h = given-other s r _ k h
form-registers (AddReg q r) len s mem k h = given-other s q _ k h
form-registers (OrReg q r) len s mem k h = given-other s q _ k h
form-registers (AndReg q r) len s mem k h = given-other s q _ k h
form-registers (SubReg q r) len s mem k h = given-other s q _ k h
form-registers (XorReg q r) len s mem k h = given-other s q _ k h
form-registers (CmpReg q r) len s mem k h = refl
form-registers (AddImm q imm) len s mem k h = given-other s q _ k h
form-registers (OrImm q imm) len s mem k h = given-other s q _ k h
form-registers (AndImm q imm) len s mem k h = given-other s q _ k h
form-registers (SubImm q imm) len s mem k h = given-other s q _ k h
form-registers (XorImm q imm) len s mem k h = given-other s q _ k h
form-registers (CmpImm q imm) len s mem k h = refl
form-registers (TestReg q r) len s mem k h = refl
form-registers (ImulReg r q) len s mem k h = given-other s r _ k h
form-registers (NotReg q) len s mem k h = given-other s q _ k h
form-registers (NegReg q) len s mem k h = given-other s q _ k h
form-registers (DivReg q) len s mem k h = elim h [ ]
form-registers (IdivReg q) len s mem k h = elim h [ ]
form-registers Cqo len s mem k h = given-other s Rdx _ k h
form-registers (ShlCl q) len s mem k h = shifted-other Left q (x64_value s Rcx % 64) s k h
form-registers (ShrCl q) len s mem k h = shifted-other Right q (x64_value s Rcx % 64) s k h
form-registers (SarCl q) len s mem k h = shifted-other RightSigned q (x64_value s Rcx % 64) s k h
form-registers (ShlImm q imm) len s mem k h = shifted-other Left q imm s k h
form-registers (ShrImm q imm) len s mem k h = shifted-other Right q imm s k h
form-registers (SarImm q imm) len s mem k h = shifted-other RightSigned q imm s k h
form-registers (Setcc c q) len s mem k h = given-other s q _ k h
form-registers (Jcc c rel) len s mem k h = elim h [ ]
form-registers (JmpRel rel) len s mem k h = elim h [ ]
form-registers (CallRel rel) len s mem k h = elim h [ ]
form-registers (CallReg q) len s mem k h = elim h [ ]
form-registers (CallMem m) len s mem k h = elim h [ ]
form-registers (JmpReg q) len s mem k h = elim h [ ]
form-registers (JmpMem m) len s mem k h = elim h [ ]
form-registers (Push r) len s mem k h = elim h [ ]
form-registers (Pop r) len s mem k h = elim h [ ]
form-registers Ret len s mem k h = elim h [ ]
form-registers Int3 len s mem k h = elim h [ ]
form-registers Ud2 len s mem k h = elim h [ ]

pub form-memory : (i : XInstr) (len : ℕ) (s : Registers) (mem : Space) (k : ℕ) → LeavesRegister i k → (effect_of i len s mem).mem ≡ mem
unfolding effect_of
form-memory (MovReg r q) len s mem k h = refl
form-memory (MovLoad r m) len s mem k h = elim h [ ]
form-memory (Mov32Reg r q) len s mem k h = refl
form-memory (Mov32Load r m) len s mem k h = elim h [ ]
form-memory (MovStore m r) len s mem k h = elim h [ ]
form-memory (Mov32Store m r) len s mem k h = elim h [ ]
form-memory (Mov16Store m r) len s mem k h = elim h [ ]
form-memory (Mov8Store m r) len s mem k h = elim h [ ]
form-memory (Movzx8Reg r q) len s mem k h = refl
form-memory (Movzx8Load r m) len s mem k h = elim h [ ]
form-memory (Movzx16Reg r q) len s mem k h = refl
form-memory (Movzx16Load r m) len s mem k h = elim h [ ]
form-memory (Movsx8Reg r q) len s mem k h = refl
form-memory (Movsx8Load r m) len s mem k h = elim h [ ]
form-memory (Movsx16Reg r q) len s mem k h = refl
form-memory (Movsx16Load r m) len s mem k h = elim h [ ]
form-memory (Movsx32Reg r q) len s mem k h = refl
form-memory (Movsx32Load r m) len s mem k h = elim h [ ]
form-memory (MovImm64 r imm) len s mem k h = refl
form-memory (Lea r m) len s mem k h = refl
form-memory (AddReg q r) len s mem k h = refl
form-memory (OrReg q r) len s mem k h = refl
form-memory (AndReg q r) len s mem k h = refl
form-memory (SubReg q r) len s mem k h = refl
form-memory (XorReg q r) len s mem k h = refl
form-memory (CmpReg q r) len s mem k h = refl
form-memory (AddImm q imm) len s mem k h = refl
form-memory (OrImm q imm) len s mem k h = refl
form-memory (AndImm q imm) len s mem k h = refl
form-memory (SubImm q imm) len s mem k h = refl
form-memory (XorImm q imm) len s mem k h = refl
form-memory (CmpImm q imm) len s mem k h = refl
form-memory (TestReg q r) len s mem k h = refl
form-memory (ImulReg r q) len s mem k h = refl
form-memory (NotReg q) len s mem k h = refl
form-memory (NegReg q) len s mem k h = refl
form-memory (DivReg q) len s mem k h = elim h [ ]
form-memory (IdivReg q) len s mem k h = elim h [ ]
form-memory Cqo len s mem k h = refl
form-memory (ShlCl q) len s mem k h = refl
form-memory (ShrCl q) len s mem k h = refl
form-memory (SarCl q) len s mem k h = refl
form-memory (ShlImm q imm) len s mem k h = refl
form-memory (ShrImm q imm) len s mem k h = refl
form-memory (SarImm q imm) len s mem k h = refl
form-memory (Setcc c q) len s mem k h = refl
form-memory (Jcc c rel) len s mem k h = elim h [ ]
form-memory (JmpRel rel) len s mem k h = elim h [ ]
form-memory (CallRel rel) len s mem k h = elim h [ ]
form-memory (CallReg q) len s mem k h = elim h [ ]
form-memory (CallMem m) len s mem k h = elim h [ ]
form-memory (JmpReg q) len s mem k h = elim h [ ]
form-memory (JmpMem m) len s mem k h = elim h [ ]
form-memory (Push r) len s mem k h = elim h [ ]
form-memory (Pop r) len s mem k h = elim h [ ]
form-memory Ret len s mem k h = elim h [ ]
form-memory Int3 len s mem k h = elim h [ ]
form-memory Ud2 len s mem k h = elim h [ ]

pub form-flags : (i : XInstr) (len : ℕ) (s : Registers) (mem : Space) (k : ℕ) → LeavesRegister i k → sets_flags i ≡ false → (effect_of i len s mem).cpu.xf ≡ s.xf
unfolding effect_of
form-flags (MovReg r q) len s mem k h e = refl
form-flags (MovLoad r m) len s mem k h e = elim h [ ]
form-flags (Mov32Reg r q) len s mem k h e = refl
form-flags (Mov32Load r m) len s mem k h e = elim h [ ]
form-flags (MovStore m r) len s mem k h e = elim h [ ]
form-flags (Mov32Store m r) len s mem k h e = elim h [ ]
form-flags (Mov16Store m r) len s mem k h e = elim h [ ]
form-flags (Mov8Store m r) len s mem k h e = elim h [ ]
form-flags (Movzx8Reg r q) len s mem k h e = refl
form-flags (Movzx8Load r m) len s mem k h e = elim h [ ]
form-flags (Movzx16Reg r q) len s mem k h e = refl
form-flags (Movzx16Load r m) len s mem k h e = elim h [ ]
form-flags (Movsx8Reg r q) len s mem k h e = refl
form-flags (Movsx8Load r m) len s mem k h e = elim h [ ]
form-flags (Movsx16Reg r q) len s mem k h e = refl
form-flags (Movsx16Load r m) len s mem k h e = elim h [ ]
form-flags (Movsx32Reg r q) len s mem k h e = refl
form-flags (Movsx32Load r m) len s mem k h e = elim h [ ]
form-flags (MovImm64 r imm) len s mem k h e = refl
form-flags (Lea r m) len s mem k h e = refl
form-flags (AddReg q r) len s mem k h e = grind (arith, nat_tests)
form-flags (OrReg q r) len s mem k h e = grind (arith, nat_tests)
form-flags (AndReg q r) len s mem k h e = grind (arith, nat_tests)
form-flags (SubReg q r) len s mem k h e = grind (arith, nat_tests)
form-flags (XorReg q r) len s mem k h e = grind (arith, nat_tests)
form-flags (CmpReg q r) len s mem k h e = grind (arith, nat_tests)
form-flags (AddImm q imm) len s mem k h e = grind (arith, nat_tests)
form-flags (OrImm q imm) len s mem k h e = grind (arith, nat_tests)
form-flags (AndImm q imm) len s mem k h e = grind (arith, nat_tests)
form-flags (SubImm q imm) len s mem k h e = grind (arith, nat_tests)
form-flags (XorImm q imm) len s mem k h e = grind (arith, nat_tests)
form-flags (CmpImm q imm) len s mem k h e = grind (arith, nat_tests)
form-flags (TestReg q r) len s mem k h e = grind (arith, nat_tests)
form-flags (ImulReg r q) len s mem k h e = grind (arith, nat_tests)
form-flags (NotReg q) len s mem k h e = refl
form-flags (NegReg q) len s mem k h e = grind (arith, nat_tests)
form-flags (DivReg q) len s mem k h e = elim h [ ]
form-flags (IdivReg q) len s mem k h e = elim h [ ]
form-flags Cqo len s mem k h e = refl
form-flags (ShlCl q) len s mem k h e = grind (arith, nat_tests)
form-flags (ShrCl q) len s mem k h e = grind (arith, nat_tests)
form-flags (SarCl q) len s mem k h e = grind (arith, nat_tests)
form-flags (ShlImm q imm) len s mem k h e = grind (arith, nat_tests)
form-flags (ShrImm q imm) len s mem k h e = grind (arith, nat_tests)
form-flags (SarImm q imm) len s mem k h e = grind (arith, nat_tests)
form-flags (Setcc c q) len s mem k h e = refl
form-flags (Jcc c rel) len s mem k h e = elim h [ ]
form-flags (JmpRel rel) len s mem k h e = elim h [ ]
form-flags (CallRel rel) len s mem k h e = elim h [ ]
form-flags (CallReg q) len s mem k h e = elim h [ ]
form-flags (CallMem m) len s mem k h e = elim h [ ]
form-flags (JmpReg q) len s mem k h e = elim h [ ]
form-flags (JmpMem m) len s mem k h e = elim h [ ]
form-flags (Push r) len s mem k h e = elim h [ ]
form-flags (Pop r) len s mem k h e = elim h [ ]
form-flags Ret len s mem k h e = elim h [ ]
form-flags Int3 len s mem k h e = elim h [ ]
form-flags Ud2 len s mem k h e = elim h [ ]

pub form-other_flags : (i : XInstr) (len : ℕ) (s : Registers) (mem : Space) (k : ℕ) → LeavesRegister i k → (effect_of i len s mem).cpu.af ≡ s.af
unfolding effect_of
form-other_flags (MovReg r q) len s mem k h = refl
form-other_flags (MovLoad r m) len s mem k h = elim h [ ]
form-other_flags (Mov32Reg r q) len s mem k h = refl
form-other_flags (Mov32Load r m) len s mem k h = elim h [ ]
form-other_flags (MovStore m r) len s mem k h = elim h [ ]
form-other_flags (Mov32Store m r) len s mem k h = elim h [ ]
form-other_flags (Mov16Store m r) len s mem k h = elim h [ ]
form-other_flags (Mov8Store m r) len s mem k h = elim h [ ]
form-other_flags (Movzx8Reg r q) len s mem k h = refl
form-other_flags (Movzx8Load r m) len s mem k h = elim h [ ]
form-other_flags (Movzx16Reg r q) len s mem k h = refl
form-other_flags (Movzx16Load r m) len s mem k h = elim h [ ]
form-other_flags (Movsx8Reg r q) len s mem k h = refl
form-other_flags (Movsx8Load r m) len s mem k h = elim h [ ]
form-other_flags (Movsx16Reg r q) len s mem k h = refl
form-other_flags (Movsx16Load r m) len s mem k h = elim h [ ]
form-other_flags (Movsx32Reg r q) len s mem k h = refl
form-other_flags (Movsx32Load r m) len s mem k h = elim h [ ]
form-other_flags (MovImm64 r imm) len s mem k h = refl
form-other_flags (Lea r m) len s mem k h = refl
form-other_flags (AddReg q r) len s mem k h = refl
form-other_flags (OrReg q r) len s mem k h = refl
form-other_flags (AndReg q r) len s mem k h = refl
form-other_flags (SubReg q r) len s mem k h = refl
form-other_flags (XorReg q r) len s mem k h = refl
form-other_flags (CmpReg q r) len s mem k h = refl
form-other_flags (AddImm q imm) len s mem k h = refl
form-other_flags (OrImm q imm) len s mem k h = refl
form-other_flags (AndImm q imm) len s mem k h = refl
form-other_flags (SubImm q imm) len s mem k h = refl
form-other_flags (XorImm q imm) len s mem k h = refl
form-other_flags (CmpImm q imm) len s mem k h = refl
form-other_flags (TestReg q r) len s mem k h = refl
form-other_flags (ImulReg r q) len s mem k h = refl
form-other_flags (NotReg q) len s mem k h = refl
form-other_flags (NegReg q) len s mem k h = refl
form-other_flags (DivReg q) len s mem k h = elim h [ ]
form-other_flags (IdivReg q) len s mem k h = elim h [ ]
form-other_flags Cqo len s mem k h = refl
form-other_flags (ShlCl q) len s mem k h = shifted-af Left q (x64_value s Rcx % 64) s
form-other_flags (ShrCl q) len s mem k h = shifted-af Right q (x64_value s Rcx % 64) s
form-other_flags (SarCl q) len s mem k h = shifted-af RightSigned q (x64_value s Rcx % 64) s
form-other_flags (ShlImm q imm) len s mem k h = shifted-af Left q imm s
form-other_flags (ShrImm q imm) len s mem k h = shifted-af Right q imm s
form-other_flags (SarImm q imm) len s mem k h = shifted-af RightSigned q imm s
form-other_flags (Setcc c q) len s mem k h = refl
form-other_flags (Jcc c rel) len s mem k h = elim h [ ]
form-other_flags (JmpRel rel) len s mem k h = elim h [ ]
form-other_flags (CallRel rel) len s mem k h = elim h [ ]
form-other_flags (CallReg q) len s mem k h = elim h [ ]
form-other_flags (CallMem m) len s mem k h = elim h [ ]
form-other_flags (JmpReg q) len s mem k h = elim h [ ]
form-other_flags (JmpMem m) len s mem k h = elim h [ ]
form-other_flags (Push r) len s mem k h = elim h [ ]
form-other_flags (Pop r) len s mem k h = elim h [ ]
form-other_flags Ret len s mem k h = elim h [ ]
form-other_flags Int3 len s mem k h = elim h [ ]
form-other_flags Ud2 len s mem k h = elim h [ ]

pub form-goes_on : (i : XInstr) (len : ℕ) (s : Registers) (mem : Space) (k : ℕ) → LeavesRegister i k → (effect_of i len s mem).cpu.pc ≡ next_pc len s
unfolding effect_of
form-goes_on (MovReg r q) len s mem k h = refl
form-goes_on (MovLoad r m) len s mem k h = elim h [ ]
form-goes_on (Mov32Reg r q) len s mem k h = refl
form-goes_on (Mov32Load r m) len s mem k h = elim h [ ]
form-goes_on (MovStore m r) len s mem k h = elim h [ ]
form-goes_on (Mov32Store m r) len s mem k h = elim h [ ]
form-goes_on (Mov16Store m r) len s mem k h = elim h [ ]
form-goes_on (Mov8Store m r) len s mem k h = elim h [ ]
form-goes_on (Movzx8Reg r q) len s mem k h = refl
form-goes_on (Movzx8Load r m) len s mem k h = elim h [ ]
form-goes_on (Movzx16Reg r q) len s mem k h = refl
form-goes_on (Movzx16Load r m) len s mem k h = elim h [ ]
form-goes_on (Movsx8Reg r q) len s mem k h = refl
form-goes_on (Movsx8Load r m) len s mem k h = elim h [ ]
form-goes_on (Movsx16Reg r q) len s mem k h = refl
form-goes_on (Movsx16Load r m) len s mem k h = elim h [ ]
form-goes_on (Movsx32Reg r q) len s mem k h = refl
form-goes_on (Movsx32Load r m) len s mem k h = elim h [ ]
form-goes_on (MovImm64 r imm) len s mem k h = refl
form-goes_on (Lea r m) len s mem k h = refl
form-goes_on (AddReg q r) len s mem k h = refl
form-goes_on (OrReg q r) len s mem k h = refl
form-goes_on (AndReg q r) len s mem k h = refl
form-goes_on (SubReg q r) len s mem k h = refl
form-goes_on (XorReg q r) len s mem k h = refl
form-goes_on (CmpReg q r) len s mem k h = refl
form-goes_on (AddImm q imm) len s mem k h = refl
form-goes_on (OrImm q imm) len s mem k h = refl
form-goes_on (AndImm q imm) len s mem k h = refl
form-goes_on (SubImm q imm) len s mem k h = refl
form-goes_on (XorImm q imm) len s mem k h = refl
form-goes_on (CmpImm q imm) len s mem k h = refl
form-goes_on (TestReg q r) len s mem k h = refl
form-goes_on (ImulReg r q) len s mem k h = refl
form-goes_on (NotReg q) len s mem k h = refl
form-goes_on (NegReg q) len s mem k h = refl
form-goes_on (DivReg q) len s mem k h = elim h [ ]
form-goes_on (IdivReg q) len s mem k h = elim h [ ]
form-goes_on Cqo len s mem k h = refl
form-goes_on (ShlCl q) len s mem k h = grind (arith, nat_tests, shifted-pc)
form-goes_on (ShrCl q) len s mem k h = grind (arith, nat_tests, shifted-pc)
form-goes_on (SarCl q) len s mem k h = grind (arith, nat_tests, shifted-pc)
form-goes_on (ShlImm q imm) len s mem k h = grind (arith, nat_tests, shifted-pc)
form-goes_on (ShrImm q imm) len s mem k h = grind (arith, nat_tests, shifted-pc)
form-goes_on (SarImm q imm) len s mem k h = grind (arith, nat_tests, shifted-pc)
form-goes_on (Setcc c q) len s mem k h = refl
form-goes_on (Jcc c rel) len s mem k h = elim h [ ]
form-goes_on (JmpRel rel) len s mem k h = elim h [ ]
form-goes_on (CallRel rel) len s mem k h = elim h [ ]
form-goes_on (CallReg q) len s mem k h = elim h [ ]
form-goes_on (CallMem m) len s mem k h = elim h [ ]
form-goes_on (JmpReg q) len s mem k h = elim h [ ]
form-goes_on (JmpMem m) len s mem k h = elim h [ ]
form-goes_on (Push r) len s mem k h = elim h [ ]
form-goes_on (Pop r) len s mem k h = elim h [ ]
form-goes_on Ret len s mem k h = elim h [ ]
form-goes_on Int3 len s mem k h = elim h [ ]
form-goes_on Ud2 len s mem k h = elim h [ ]

pub form-event : (i : XInstr) (len : ℕ) (s : Registers) (mem : Space) (k : ℕ) → LeavesRegister i k → (effect_of i len s mem).event ≡ Next
unfolding effect_of
form-event (MovReg r q) len s mem k h = refl
form-event (MovLoad r m) len s mem k h = elim h [ ]
form-event (Mov32Reg r q) len s mem k h = refl
form-event (Mov32Load r m) len s mem k h = elim h [ ]
form-event (MovStore m r) len s mem k h = elim h [ ]
form-event (Mov32Store m r) len s mem k h = elim h [ ]
form-event (Mov16Store m r) len s mem k h = elim h [ ]
form-event (Mov8Store m r) len s mem k h = elim h [ ]
form-event (Movzx8Reg r q) len s mem k h = refl
form-event (Movzx8Load r m) len s mem k h = elim h [ ]
form-event (Movzx16Reg r q) len s mem k h = refl
form-event (Movzx16Load r m) len s mem k h = elim h [ ]
form-event (Movsx8Reg r q) len s mem k h = refl
form-event (Movsx8Load r m) len s mem k h = elim h [ ]
form-event (Movsx16Reg r q) len s mem k h = refl
form-event (Movsx16Load r m) len s mem k h = elim h [ ]
form-event (Movsx32Reg r q) len s mem k h = refl
form-event (Movsx32Load r m) len s mem k h = elim h [ ]
form-event (MovImm64 r imm) len s mem k h = refl
form-event (Lea r m) len s mem k h = refl
form-event (AddReg q r) len s mem k h = refl
form-event (OrReg q r) len s mem k h = refl
form-event (AndReg q r) len s mem k h = refl
form-event (SubReg q r) len s mem k h = refl
form-event (XorReg q r) len s mem k h = refl
form-event (CmpReg q r) len s mem k h = refl
form-event (AddImm q imm) len s mem k h = refl
form-event (OrImm q imm) len s mem k h = refl
form-event (AndImm q imm) len s mem k h = refl
form-event (SubImm q imm) len s mem k h = refl
form-event (XorImm q imm) len s mem k h = refl
form-event (CmpImm q imm) len s mem k h = refl
form-event (TestReg q r) len s mem k h = refl
form-event (ImulReg r q) len s mem k h = refl
form-event (NotReg q) len s mem k h = refl
form-event (NegReg q) len s mem k h = refl
form-event (DivReg q) len s mem k h = elim h [ ]
form-event (IdivReg q) len s mem k h = elim h [ ]
form-event Cqo len s mem k h = refl
form-event (ShlCl q) len s mem k h = refl
form-event (ShrCl q) len s mem k h = refl
form-event (SarCl q) len s mem k h = refl
form-event (ShlImm q imm) len s mem k h = refl
form-event (ShrImm q imm) len s mem k h = refl
form-event (SarImm q imm) len s mem k h = refl
form-event (Setcc c q) len s mem k h = refl
form-event (Jcc c rel) len s mem k h = elim h [ ]
form-event (JmpRel rel) len s mem k h = elim h [ ]
form-event (CallRel rel) len s mem k h = elim h [ ]
form-event (CallReg q) len s mem k h = elim h [ ]
form-event (CallMem m) len s mem k h = elim h [ ]
form-event (JmpReg q) len s mem k h = elim h [ ]
form-event (JmpMem m) len s mem k h = elim h [ ]
form-event (Push r) len s mem k h = elim h [ ]
form-event (Pop r) len s mem k h = elim h [ ]
form-event Ret len s mem k h = elim h [ ]
form-event Int3 len s mem k h = elim h [ ]
form-event Ud2 len s mem k h = elim h [ ]
