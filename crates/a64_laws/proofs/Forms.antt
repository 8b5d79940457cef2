-- What an instruction of registers alone leaves, form by form.
use Rattle.std.proofs.Common.{◌≡◌, ◌≢◌, ℕ, Bool, true, false, arith, refl}
use Rattle.std.proofs.lemmas.Bool.Decides.{nat_tests}
use Rattle.reg_map.specs.declared.registers.A64Reg.{A64Reg}
use Rattle.reg_map.specs.Registers.{Registers}
use Rattle.hx_mem.specs.Space.{Space}
use Rattle.a64_isa.specs.declared.instruction.AInstr.{AInstr}
use Rattle.a64_isa.specs.declared.instruction.AInstr.TheVariants.{AddImmediate, SubImmediate, AddsImmediate, SubsImmediate, AddRegister, SubRegister, AddsRegister, SubsRegister, AndRegister, OrrRegister, EorRegister, OrnRegister, Udiv, Sdiv, Lslv, Lsrv, Asrv, Madd, Msub, Movz, Movk, Movn, Adr, Adrp, Csinc, Ubfm, Sbfm, LdrX, StrX, LdrW, StrW, Ldrh, Strh, Ldrb, Strb, Ldrsb, Ldrsh, Ldrsw, Stp, Ldp, StpPre, LdpPost, B, Bl, BCond, Cbz, Cbnz, Br, Blr, Ret, Nop, Brk}
use Rattle.a64_exec.specs.declared.event.AEvent.TheVariants.{Next}
use Rattle.a64_exec.specs.Effects.{with_target, with_target_sp, act_of, effect_of, names_blocked, next_pc}
use Rattle.a64_laws.specs.RegisterForms.{LeavesRegister, sets_flags}

target-other : (s : Registers) (d : A64Reg) (v k : ℕ) → k ≢ d.0 → (with_target s d v).value k ≡ s.value k
target-other s d v k other = grind (arith, nat_tests)

target_sp-other : (s : Registers) (d : A64Reg) (v k : ℕ) → k ≢ d.0 → (with_target_sp s d v).value k ≡ s.value k
target_sp-other s d v k other = grind (arith, nat_tests)

target-flags : (s : Registers) (d : A64Reg) (v : ℕ) → (with_target s d v).af ≡ s.af
target-flags s d v = grind (arith, nat_tests)

target-other_flags : (s : Registers) (d : A64Reg) (v : ℕ) → (with_target s d v).xf ≡ s.xf
target-other_flags s d v = grind (arith, nat_tests)

act-registers : (i : AInstr) (s : Registers) (mem : Space) (k : ℕ) → LeavesRegister i k → (act_of i s mem).registers.value k ≡ s.value k
act-registers (AddImmediate d n imm shift12) s mem k h = target_sp-other s d _ k h
act-registers (SubImmediate d n imm shift12) s mem k h = target_sp-other s d _ k h
act-registers (AddsImmediate d n imm shift12) s mem k h = target-other s d _ k h
act-registers (SubsImmediate d n imm shift12) s mem k h = target-other s d _ k h
act-registers (AddRegister d n m) s mem k h = target-other s d _ k h
act-registers (SubRegister d n m) s mem k h = target-other s d _ k h
act-registers (AddsRegister d n m) s mem k h = target-other s d _ k h
act-registers (SubsRegister d n m) s mem k h = target-other s d _ k h
act-registers (AndRegister d n m) s mem k h = target-other s d _ k h
act-registers (OrrRegister d n m) s mem k h = target-other s d _ k h
act-registers (EorRegister d n m) s mem k h = target-other s d _ k h
act-registers (OrnRegister d n m) s mem k h = target-other s d _ k h
act-registers (Udiv d n m) s mem k h = target-other s d _ k h
act-registers (Sdiv d n m) s mem k h = target-other s d _ k h
act-registers (Lslv d n m) s mem k h = target-other s d _ k h
act-registers (Lsrv d n m) s mem k h = target-other s d _ k h
act-registers (Asrv d n m) s mem k h = target-other s d _ k h
act-registers (Madd d n a m) s mem k h = target-other s d _ k h
act-registers (Msub d n a m) s mem k h = target-other s d _ k h
act-registers (Movz d imm hw) s mem k h = target-other s d _ k h
act-registers (Movk d imm hw) s mem k h = target-other s d _ k h
act-registers (Movn d imm hw) s mem k h = target-other s d _ k h
act-registers (Adr d offset) s mem k h = target-other s d _ k h
act-registers (Adrp d offset) s mem k h = target-other s d _ k h
act-registers (Csinc d n condition m) s mem k h = target-other s d _ k h
act-registers (Ubfm d n imms immr) s mem k h = target-other s d _ k h
act-registers (Sbfm d n imms immr) s mem k h = target-other s d _ k h
act-registers (LdrX t n offset) s mem k h = elim h [ ]
act-registers (StrX t n offset) s mem k h = elim h [ ]
act-registers (LdrW t n offset) s mem k h = elim h [ ]
act-registers (StrW t n offset) s mem k h = elim h [ ]
act-registers (Ldrh t n offset) s mem k h = elim h [ ]
act-registers (Strh t n offset) s mem k h = elim h [ ]
act-registers (Ldrb t n offset) s mem k h = elim h [ ]
act-registers (Strb t n offset) s mem k h = elim h [ ]
act-registers (Ldrsb t n offset) s mem k h = elim h [ ]
act-registers (Ldrsh t n offset) s mem k h = elim h [ ]
act-registers (Ldrsw t n offset) s mem k h = elim h [ ]
act-registers (Stp t n t2 offset) s mem k h = elim h [ ]
act-registers (Ldp t n t2 offset) s mem k h = elim h [ ]
act-registers (StpPre t n t2 offset) s mem k h = elim h [ ]
act-registers (LdpPost t n t2 offset) s mem k h = elim h [ ]
act-registers (B offset) s mem k h = elim h [ ]
act-registers (Bl offset) s mem k h = elim h [ ]
act-registers (BCond condition offset) s mem k h = elim h [ ]
act-registers (Cbz t offset) s mem k h = elim h [ ]
act-registers (Cbnz t offset) s mem k h = elim h [ ]
act-registers (Br n) s mem k h = elim h [ ]
act-registers (Blr n) s mem k h = elim h [ ]
act-registers (Ret n) s mem k h = elim h [ ]
act-registers Nop s mem k h = elim h [ ]
act-registers (Brk imm) s mem k h = elim h [ ]

act-memory : (i : AInstr) (s : Registers) (mem : Space) (k : ℕ) → LeavesRegister i k → (act_of i s mem).memory ≡ mem
act-memory (AddImmediate d n imm shift12) s mem k h = refl
act-memory (SubImmediate d n imm shift12) s mem k h = refl
act-memory (AddsImmediate d n imm shift12) s mem k h = refl
act-memory (SubsImmediate d n imm shift12) s mem k h = refl
act-memory (AddRegister d n m) s mem k h = refl
act-memory (SubRegister d n m) s mem k h = refl
act-memory (AddsRegister d n m) s mem k h = refl
act-memory (SubsRegister d n m) s mem k h = refl
act-memory (AndRegister d n m) s mem k h = refl
act-memory (OrrRegister d n m) s mem k h = refl
act-memory (EorRegister d n m) s mem k h = refl
act-memory (OrnRegister d n m) s mem k h = refl
act-memory (Udiv d n m) s mem k h = refl
act-memory (Sdiv d n m) s mem k h = refl
act-memory (Lslv d n m) s mem k h = refl
act-memory (Lsrv d n m) s mem k h = refl
act-memory (Asrv d n m) s mem k h = refl
act-memory (Madd d n a m) s mem k h = refl
act-memory (Msub d n a m) s mem k h = refl
act-memory (Movz d imm hw) s mem k h = refl
act-memory (Movk d imm hw) s mem k h = refl
act-memory (Movn d imm hw) s mem k h = refl
act-memory (Adr d offset) s mem k h = refl
act-memory (Adrp d offset) s mem k h = refl
act-memory (Csinc d n condition m) s mem k h = refl
act-memory (Ubfm d n imms immr) s mem k h = refl
act-memory (Sbfm d n imms immr) s mem k h = refl
act-memory (LdrX t n offset) s mem k h = elim h [ ]
act-memory (StrX t n offset) s mem k h = elim h [ ]
act-memory (LdrW t n offset) s mem k h = elim h [ ]
act-memory (StrW t n offset) s mem k h = elim h [ ]
act-memory (Ldrh t n offset) s mem k h = elim h [ ]
act-memory (Strh t n offset) s mem k h = elim h [ ]
act-memory (Ldrb t n offset) s mem k h = elim h [ ]
act-memory (Strb t n offset) s mem k h = elim h [ ]
act-memory (Ldrsb t n offset) s mem k h = elim h [ ]
act-memory (Ldrsh t n offset) s mem k h = elim h [ ]
act-memory (Ldrsw t n offset) s mem k h = elim h [ ]
act-memory (Stp t n t2 offset) s mem k h = elim h [ ]
act-memory (Ldp t n t2 offset) s mem k h = elim h [ ]
act-memory (StpPre t n t2 offset) s mem k h = elim h [ ]
act-memory (LdpPost t n t2 offset) s mem k h = elim h [ ]
act-memory (B offset) s mem k h = elim h [ ]
act-memory (Bl offset) s mem k h = elim h [ ]
act-memory (BCond condition offset) s mem k h = elim h [ ]
act-memory (Cbz t offset) s mem k h = elim h [ ]
act-memory (Cbnz t offset) s mem k h = elim h [ ]
act-memory (Br n) s mem k h = elim h [ ]
act-memory (Blr n) s mem k h = elim h [ ]
act-memory (Ret n) s mem k h = elim h [ ]
act-memory Nop s mem k h = elim h [ ]
act-memory (Brk imm) s mem k h = elim h [ ]

pub act-flags : (i : AInstr) (s : Registers) (mem : Space) (k : ℕ) → LeavesRegister i k → sets_flags i ≡ false → (act_of i s mem).registers.af ≡ s.af
act-flags (AddImmediate d n imm shift12) s mem k h e = refl
act-flags (SubImmediate d n imm shift12) s mem k h e = refl
act-flags (AddsImmediate d n imm shift12) s mem k h e = grind (arith, nat_tests)
act-flags (SubsImmediate d n imm shift12) s mem k h e = grind (arith, nat_tests)
act-flags (AddRegister d n m) s mem k h e = target-flags s d _
act-flags (SubRegister d n m) s mem k h e = target-flags s d _
act-flags (AddsRegister d n m) s mem k h e = grind (arith, nat_tests)
act-flags (SubsRegister d n m) s mem k h e = grind (arith, nat_tests)
act-flags (AndRegister d n m) s mem k h e = target-flags s d _
act-flags (OrrRegister d n m) s mem k h e = target-flags s d _
act-flags (EorRegister d n m) s mem k h e = target-flags s d _
act-flags (OrnRegister d n m) s mem k h e = target-flags s d _
act-flags (Udiv d n m) s mem k h e = target-flags s d _
act-flags (Sdiv d n m) s mem k h e = target-flags s d _
act-flags (Lslv d n m) s mem k h e = target-flags s d _
act-flags (Lsrv d n m) s mem k h e = target-flags s d _
act-flags (Asrv d n m) s mem k h e = target-flags s d _
act-flags (Madd d n a m) s mem k h e = target-flags s d _
act-flags (Msub d n a m) s mem k h e = target-flags s d _
act-flags (Movz d imm hw) s mem k h e = target-flags s d _
act-flags (Movk d imm hw) s mem k h e = target-flags s d _
act-flags (Movn d imm hw) s mem k h e = target-flags s d _
act-flags (Adr d offset) s mem k h e = target-flags s d _
act-flags (Adrp d offset) s mem k h e = target-flags s d _
act-flags (Csinc d n condition m) s mem k h e = target-flags s d _
act-flags (Ubfm d n imms immr) s mem k h e = target-flags s d _
act-flags (Sbfm d n imms immr) s mem k h e = target-flags s d _
act-flags (LdrX t n offset) s mem k h e = elim h [ ]
act-flags (StrX t n offset) s mem k h e = elim h [ ]
act-flags (LdrW t n offset) s mem k h e = elim h [ ]
act-flags (StrW t n offset) s mem k h e = elim h [ ]
act-flags (Ldrh t n offset) s mem k h e = elim h [ ]
act-flags (Strh t n offset) s mem k h e = elim h [ ]
act-flags (Ldrb t n offset) s mem k h e = elim h [ ]
act-flags (Strb t n offset) s mem k h e = elim h [ ]
act-flags (Ldrsb t n offset) s mem k h e = elim h [ ]
act-flags (Ldrsh t n offset) s mem k h e = elim h [ ]
act-flags (Ldrsw t n offset) s mem k h e = elim h [ ]
act-flags (Stp t n t2 offset) s mem k h e = elim h [ ]
act-flags (Ldp t n t2 offset) s mem k h e = elim h [ ]
act-flags (StpPre t n t2 offset) s mem k h e = elim h [ ]
act-flags (LdpPost t n t2 offset) s mem k h e = elim h [ ]
act-flags (B offset) s mem k h e = elim h [ ]
act-flags (Bl offset) s mem k h e = elim h [ ]
act-flags (BCond condition offset) s mem k h e = elim h [ ]
act-flags (Cbz t offset) s mem k h e = elim h [ ]
act-flags (Cbnz t offset) s mem k h e = elim h [ ]
act-flags (Br n) s mem k h e = elim h [ ]
act-flags (Blr n) s mem k h e = elim h [ ]
act-flags (Ret n) s mem k h e = elim h [ ]
act-flags Nop s mem k h e = elim h [ ]
act-flags (Brk imm) s mem k h e = elim h [ ]

pub act-other_flags : (i : AInstr) (s : Registers) (mem : Space) (k : ℕ) → LeavesRegister i k → (act_of i s mem).registers.xf ≡ s.xf
act-other_flags (AddImmediate d n imm shift12) s mem k h = refl
act-other_flags (SubImmediate d n imm shift12) s mem k h = refl
act-other_flags (AddsImmediate d n imm shift12) s mem k h = target-other_flags s d _
act-other_flags (SubsImmediate d n imm shift12) s mem k h = target-other_flags s d _
act-other_flags (AddRegister d n m) s mem k h = target-other_flags s d _
act-other_flags (SubRegister d n m) s mem k h = target-other_flags s d _
act-other_flags (AddsRegister d n m) s mem k h = target-other_flags s d _
act-other_flags (SubsRegister d n m) s mem k h = target-other_flags s d _
act-other_flags (AndRegister d n m) s mem k h = target-other_flags s d _
act-other_flags (OrrRegister d n m) s mem k h = target-other_flags s d _
act-other_flags (EorRegister d n m) s mem k h = target-other_flags s d _
act-other_flags (OrnRegister d n m) s mem k h = target-other_flags s d _
act-other_flags (Udiv d n m) s mem k h = target-other_flags s d _
act-other_flags (Sdiv d n m) s mem k h = target-other_flags s d _
act-other_flags (Lslv d n m) s mem k h = target-other_flags s d _
act-other_flags (Lsrv d n m) s mem k h = target-other_flags s d _
act-other_flags (Asrv d n m) s mem k h = target-other_flags s d _
act-other_flags (Madd d n a m) s mem k h = target-other_flags s d _
act-other_flags (Msub d n a m) s mem k h = target-other_flags s d _
act-other_flags (Movz d imm hw) s mem k h = target-other_flags s d _
act-other_flags (Movk d imm hw) s mem k h = target-other_flags s d _
act-other_flags (Movn d imm hw) s mem k h = target-other_flags s d _
act-other_flags (Adr d offset) s mem k h = target-other_flags s d _
act-other_flags (Adrp d offset) s mem k h = target-other_flags s d _
act-other_flags (Csinc d n condition m) s mem k h = target-other_flags s d _
act-other_flags (Ubfm d n imms immr) s mem k h = target-other_flags s d _
act-other_flags (Sbfm d n imms immr) s mem k h = target-other_flags s d _
act-other_flags (LdrX t n offset) s mem k h = elim h [ ]
act-other_flags (StrX t n offset) s mem k h = elim h [ ]
act-other_flags (LdrW t n offset) s mem k h = elim h [ ]
act-other_flags (StrW t n offset) s mem k h = elim h [ ]
act-other_flags (Ldrh t n offset) s mem k h = elim h [ ]
act-other_flags (Strh t n offset) s mem k h = elim h [ ]
act-other_flags (Ldrb t n offset) s mem k h = elim h [ ]
act-other_flags (Strb t n offset) s mem k h = elim h [ ]
act-other_flags (Ldrsb t n offset) s mem k h = elim h [ ]
act-other_flags (Ldrsh t n offset) s mem k h = elim h [ ]
act-other_flags (Ldrsw t n offset) s mem k h = elim h [ ]
act-other_flags (Stp t n t2 offset) s mem k h = elim h [ ]
act-other_flags (Ldp t n t2 offset) s mem k h = elim h [ ]
act-other_flags (StpPre t n t2 offset) s mem k h = elim h [ ]
act-other_flags (LdpPost t n t2 offset) s mem k h = elim h [ ]
act-other_flags (B offset) s mem k h = elim h [ ]
act-other_flags (Bl offset) s mem k h = elim h [ ]
act-other_flags (BCond condition offset) s mem k h = elim h [ ]
act-other_flags (Cbz t offset) s mem k h = elim h [ ]
act-other_flags (Cbnz t offset) s mem k h = elim h [ ]
act-other_flags (Br n) s mem k h = elim h [ ]
act-other_flags (Blr n) s mem k h = elim h [ ]
act-other_flags (Ret n) s mem k h = elim h [ ]
act-other_flags Nop s mem k h = elim h [ ]
act-other_flags (Brk imm) s mem k h = elim h [ ]

pub act-goes_on : (i : AInstr) (s : Registers) (mem : Space) (k : ℕ) → LeavesRegister i k → (act_of i s mem).registers.pc ≡ next_pc s
act-goes_on (AddImmediate d n imm shift12) s mem k h = grind (arith, nat_tests)
act-goes_on (SubImmediate d n imm shift12) s mem k h = grind (arith, nat_tests)
act-goes_on (AddsImmediate d n imm shift12) s mem k h = grind (arith, nat_tests)
act-goes_on (SubsImmediate d n imm shift12) s mem k h = grind (arith, nat_tests)
act-goes_on (AddRegister d n m) s mem k h = grind (arith, nat_tests)
act-goes_on (SubRegister d n m) s mem k h = grind (arith, nat_tests)
act-goes_on (AddsRegister d n m) s mem k h = grind (arith, nat_tests)
act-goes_on (SubsRegister d n m) s mem k h = grind (arith, nat_tests)
act-goes_on (AndRegister d n m) s mem k h = grind (arith, nat_tests)
act-goes_on (OrrRegister d n m) s mem k h = grind (arith, nat_tests)
act-goes_on (EorRegister d n m) s mem k h = grind (arith, nat_tests)
act-goes_on (OrnRegister d n m) s mem k h = grind (arith, nat_tests)
act-goes_on (Udiv d n m) s mem k h = grind (arith, nat_tests)
act-goes_on (Sdiv d n m) s mem k h = grind (arith, nat_tests)
act-goes_on (Lslv d n m) s mem k h = grind (arith, nat_tests)
act-goes_on (Lsrv d n m) s mem k h = grind (arith, nat_tests)
act-goes_on (Asrv d n m) s mem k h = grind (arith, nat_tests)
act-goes_on (Madd d n a m) s mem k h = grind (arith, nat_tests)
act-goes_on (Msub d n a m) s mem k h = grind (arith, nat_tests)
act-goes_on (Movz d imm hw) s mem k h = grind (arith, nat_tests)
act-goes_on (Movk d imm hw) s mem k h = grind (arith, nat_tests)
act-goes_on (Movn d imm hw) s mem k h = grind (arith, nat_tests)
act-goes_on (Adr d offset) s mem k h = grind (arith, nat_tests)
act-goes_on (Adrp d offset) s mem k h = grind (arith, nat_tests)
act-goes_on (Csinc d n condition m) s mem k h = grind (arith, nat_tests)
act-goes_on (Ubfm d n imms immr) s mem k h = grind (arith, nat_tests)
act-goes_on (Sbfm d n imms immr) s mem k h = grind (arith, nat_tests)
act-goes_on (LdrX t n offset) s mem k h = elim h [ ]
act-goes_on (StrX t n offset) s mem k h = elim h [ ]
act-goes_on (LdrW t n offset) s mem k h = elim h [ ]
act-goes_on (StrW t n offset) s mem k h = elim h [ ]
act-goes_on (Ldrh t n offset) s mem k h = elim h [ ]
act-goes_on (Strh t n offset) s mem k h = elim h [ ]
act-goes_on (Ldrb t n offset) s mem k h = elim h [ ]
act-goes_on (Strb t n offset) s mem k h = elim h [ ]
act-goes_on (Ldrsb t n offset) s mem k h = elim h [ ]
act-goes_on (Ldrsh t n offset) s mem k h = elim h [ ]
act-goes_on (Ldrsw t n offset) s mem k h = elim h [ ]
act-goes_on (Stp t n t2 offset) s mem k h = elim h [ ]
act-goes_on (Ldp t n t2 offset) s mem k h = elim h [ ]
act-goes_on (StpPre t n t2 offset) s mem k h = elim h [ ]
act-goes_on (LdpPost t n t2 offset) s mem k h = elim h [ ]
act-goes_on (B offset) s mem k h = elim h [ ]
act-goes_on (Bl offset) s mem k h = elim h [ ]
act-goes_on (BCond condition offset) s mem k h = elim h [ ]
act-goes_on (Cbz t offset) s mem k h = elim h [ ]
act-goes_on (Cbnz t offset) s mem k h = elim h [ ]
act-goes_on (Br n) s mem k h = elim h [ ]
act-goes_on (Blr n) s mem k h = elim h [ ]
act-goes_on (Ret n) s mem k h = elim h [ ]
act-goes_on Nop s mem k h = elim h [ ]
act-goes_on (Brk imm) s mem k h = elim h [ ]

pub act-event : (i : AInstr) (s : Registers) (mem : Space) (k : ℕ) → LeavesRegister i k → (act_of i s mem).event ≡ Next
act-event (AddImmediate d n imm shift12) s mem k h = refl
act-event (SubImmediate d n imm shift12) s mem k h = refl
act-event (AddsImmediate d n imm shift12) s mem k h = refl
act-event (SubsImmediate d n imm shift12) s mem k h = refl
act-event (AddRegister d n m) s mem k h = refl
act-event (SubRegister d n m) s mem k h = refl
act-event (AddsRegister d n m) s mem k h = refl
act-event (SubsRegister d n m) s mem k h = refl
act-event (AndRegister d n m) s mem k h = refl
act-event (OrrRegister d n m) s mem k h = refl
act-event (EorRegister d n m) s mem k h = refl
act-event (OrnRegister d n m) s mem k h = refl
act-event (Udiv d n m) s mem k h = refl
act-event (Sdiv d n m) s mem k h = refl
act-event (Lslv d n m) s mem k h = refl
act-event (Lsrv d n m) s mem k h = refl
act-event (Asrv d n m) s mem k h = refl
act-event (Madd d n a m) s mem k h = refl
act-event (Msub d n a m) s mem k h = refl
act-event (Movz d imm hw) s mem k h = refl
act-event (Movk d imm hw) s mem k h = refl
act-event (Movn d imm hw) s mem k h = refl
act-event (Adr d offset) s mem k h = refl
act-event (Adrp d offset) s mem k h = refl
act-event (Csinc d n condition m) s mem k h = refl
act-event (Ubfm d n imms immr) s mem k h = refl
act-event (Sbfm d n imms immr) s mem k h = refl
act-event (LdrX t n offset) s mem k h = elim h [ ]
act-event (StrX t n offset) s mem k h = elim h [ ]
act-event (LdrW t n offset) s mem k h = elim h [ ]
act-event (StrW t n offset) s mem k h = elim h [ ]
act-event (Ldrh t n offset) s mem k h = elim h [ ]
act-event (Strh t n offset) s mem k h = elim h [ ]
act-event (Ldrb t n offset) s mem k h = elim h [ ]
act-event (Strb t n offset) s mem k h = elim h [ ]
act-event (Ldrsb t n offset) s mem k h = elim h [ ]
act-event (Ldrsh t n offset) s mem k h = elim h [ ]
act-event (Ldrsw t n offset) s mem k h = elim h [ ]
act-event (Stp t n t2 offset) s mem k h = elim h [ ]
act-event (Ldp t n t2 offset) s mem k h = elim h [ ]
act-event (StpPre t n t2 offset) s mem k h = elim h [ ]
act-event (LdpPost t n t2 offset) s mem k h = elim h [ ]
act-event (B offset) s mem k h = elim h [ ]
act-event (Bl offset) s mem k h = elim h [ ]
act-event (BCond condition offset) s mem k h = elim h [ ]
act-event (Cbz t offset) s mem k h = elim h [ ]
act-event (Cbnz t offset) s mem k h = elim h [ ]
act-event (Br n) s mem k h = elim h [ ]
act-event (Blr n) s mem k h = elim h [ ]
act-event (Ret n) s mem k h = elim h [ ]
act-event Nop s mem k h = elim h [ ]
act-event (Brk imm) s mem k h = elim h [ ]

-- an instruction that is refused leaves everything
effect-registers_at : (i : AInstr) (s : Registers) (mem : Space) (k : ℕ) (b : Bool) → names_blocked i ≡ b → LeavesRegister i k → (effect_of i s mem).registers.value k ≡ s.value k
effect-registers_at i s mem k true e h = rw e refl
effect-registers_at i s mem k false e h = rw e (act-registers i s mem k h)

pub effect-registers : (i : AInstr) (s : Registers) (mem : Space) (k : ℕ) → LeavesRegister i k → (effect_of i s mem).registers.value k ≡ s.value k
effect-registers i s mem k h = effect-registers_at i s mem k (names_blocked i) refl h

effect-memory_at : (i : AInstr) (s : Registers) (mem : Space) (k : ℕ) (b : Bool) → names_blocked i ≡ b → LeavesRegister i k → (effect_of i s mem).memory ≡ mem
effect-memory_at i s mem k true e h = rw e refl
effect-memory_at i s mem k false e h = rw e (act-memory i s mem k h)

pub effect-memory : (i : AInstr) (s : Registers) (mem : Space) (k : ℕ) → LeavesRegister i k → (effect_of i s mem).memory ≡ mem
effect-memory i s mem k h = effect-memory_at i s mem k (names_blocked i) refl h
