-- An A64 instruction changes no byte outside writable regions.
use Rattle.std.proofs.Common.{if◌then◌else◌, ℕ, ◌+◌, true, false, Result, Ok, Err}
use Rattle.hx_bits.specs.declared.widths.Width.TheVariants.{W8, W16, W32}
use Rattle.hx_bits.specs.Widths.{sign_extended}
use Rattle.hx_mem.specs.Space.{Space, after_store}
use Rattle.reg_map.specs.Registers.{Registers}
use Rattle.reg_map.specs.declared.registers.A64Reg.{A64Reg}
use Rattle.a64_isa.specs.declared.instruction.AInstr.{AInstr}
use Rattle.a64_isa.specs.declared.instruction.AInstr.TheVariants.{AddImmediate, SubImmediate, AddsImmediate, SubsImmediate, AddRegister, SubRegister, AddsRegister, SubsRegister, AndRegister, OrrRegister, EorRegister, OrnRegister, Udiv, Sdiv, Lslv, Lsrv, Asrv, Madd, Msub, Movz, Movk, Movn, Adr, Adrp, LdrX, StrX, LdrW, StrW, Ldrh, Strh, Ldrb, Strb, Ldrsb, Ldrsh, Ldrsw, Stp, Ldp, StpPre, LdpPost, B, Bl, BCond, Cbz, Cbnz, Br, Blr, Ret, Csinc, Ubfm, Sbfm, Nop, Brk}
use Rattle.a64_exec.specs.declared.event.AFault.{AFault}
use Rattle.a64_exec.specs.declared.event.AFault.TheVariants.{Blocked}
use Rattle.a64_exec.specs.Values.{wrapped, moved}
use Rattle.a64_exec.specs.Effects.{Outcome, source, source_sp, with_target_sp, with_words, next, gives, fails, on_access, place_of, load_at, loads, store_at, stores, load_pair_at, store_pair_at, after_pair, stores_pair, act_of, effect_of, names_blocked}
use Rattle.machine_rules.specs.Laws.{KeepsRights}
use Rattle.machine_rules.proofs.Keeping.{same, then_keeps, store_keeps}

on_access_keep : {X : Type 0} (s : Registers) (m : Space) (r : Result X AFault) (done : X → Outcome) → ((x : X) → KeepsRights m (done x).memory) → KeepsRights m (on_access s m r done).memory
on_access_keep s m (Ok v) done keeps = keeps v
on_access_keep s m (Err fault) done keeps = same m

loads_keep : (s : Registers) (m : Space) (t n : A64Reg) (offset bytes : ℕ) (extended : ℕ → ℕ) → KeepsRights m (loads s m t n offset bytes extended).memory
loads_keep s m t n offset bytes extended = on_access_keep s m (load_at s m n (place_of s n offset bytes) bytes) (λ v. gives s m t (extended v)) (λ v. same m)

stores_keep : (s : Registers) (m : Space) (t n : A64Reg) (offset bytes : ℕ) → KeepsRights m (stores s m t n offset bytes).memory
stores_keep s m t n offset bytes = on_access_keep s m (store_at s m n (place_of s n offset bytes) bytes) (λ u. next s (after_store m (place_of s n offset bytes) bytes (source s t))) (λ u. store_keeps m (place_of s n offset bytes) bytes (source s t))

pair_keeps : (m : Space) (place a b : ℕ) → KeepsRights m (after_pair m place a b)
pair_keeps m place a b = then_keeps m (after_store m place 8 a) (after_pair m place a b) (store_keeps m place 8 a) (store_keeps (after_store m place 8 a) (wrapped (place + 8)) 8 b)

stores_pair_keep : (s : Registers) (m : Space) (t n t2 : A64Reg) (place : ℕ) (after : Registers) → KeepsRights m (stores_pair s m t n t2 place after).memory
stores_pair_keep s m t n t2 place after = on_access_keep s m (store_pair_at s m n place) (λ u. next after (after_pair m place (source s t) (source s t2))) (λ u. pair_keeps m place (source s t) (source s t2))

act_keeps : (i : AInstr) (s : Registers) (mem : Space) → KeepsRights mem (act_of i s mem).memory
act_keeps (AddImmediate d n imm shift12) s mem = same mem
act_keeps (SubImmediate d n imm shift12) s mem = same mem
act_keeps (AddsImmediate d n imm shift12) s mem = same mem
act_keeps (SubsImmediate d n imm shift12) s mem = same mem
act_keeps (AddRegister d n m) s mem = same mem
act_keeps (SubRegister d n m) s mem = same mem
act_keeps (AddsRegister d n m) s mem = same mem
act_keeps (SubsRegister d n m) s mem = same mem
act_keeps (AndRegister d n m) s mem = same mem
act_keeps (OrrRegister d n m) s mem = same mem
act_keeps (EorRegister d n m) s mem = same mem
act_keeps (OrnRegister d n m) s mem = same mem
act_keeps (Udiv d n m) s mem = same mem
act_keeps (Sdiv d n m) s mem = same mem
act_keeps (Lslv d n m) s mem = same mem
act_keeps (Lsrv d n m) s mem = same mem
act_keeps (Asrv d n m) s mem = same mem
act_keeps (Madd d n a m) s mem = same mem
act_keeps (Msub d n a m) s mem = same mem
act_keeps (Movz d imm hw) s mem = same mem
act_keeps (Movk d imm hw) s mem = same mem
act_keeps (Movn d imm hw) s mem = same mem
act_keeps (Adr d offset) s mem = same mem
act_keeps (Adrp d offset) s mem = same mem
act_keeps (LdrX t n offset) s mem = loads_keep s mem t n offset 8 (λ v. v)
act_keeps (StrX t n offset) s mem = stores_keep s mem t n offset 8
act_keeps (LdrW t n offset) s mem = loads_keep s mem t n offset 4 (λ v. v)
act_keeps (StrW t n offset) s mem = stores_keep s mem t n offset 4
act_keeps (Ldrh t n offset) s mem = loads_keep s mem t n offset 2 (λ v. v)
act_keeps (Strh t n offset) s mem = stores_keep s mem t n offset 2
act_keeps (Ldrb t n offset) s mem = loads_keep s mem t n offset 1 (λ v. v)
act_keeps (Strb t n offset) s mem = stores_keep s mem t n offset 1
act_keeps (Ldrsb t n offset) s mem = loads_keep s mem t n offset 1 (sign_extended W8)
act_keeps (Ldrsh t n offset) s mem = loads_keep s mem t n offset 2 (sign_extended W16)
act_keeps (Ldrsw t n offset) s mem = loads_keep s mem t n offset 4 (sign_extended W32)
act_keeps (Stp t n t2 offset) s mem = stores_pair_keep s mem t n t2 (moved (source_sp s n) offset 8) s
act_keeps (Ldp t n t2 offset) s mem = on_access_keep s mem (load_pair_at s mem n (moved (source_sp s n) offset 8)) (λ p. next (with_words s t t2 p) mem) (λ p. same mem)
act_keeps (StpPre t n t2 offset) s mem = stores_pair_keep s mem t n t2 (moved (source_sp s n) offset 8) (with_target_sp s n (moved (source_sp s n) offset 8))
act_keeps (LdpPost t n t2 offset) s mem = on_access_keep s mem (load_pair_at s mem n (source_sp s n)) (λ p. next (with_target_sp (with_words s t t2 p) n (moved (source_sp s n) offset 8)) mem) (λ p. same mem)
act_keeps (B offset) s mem = same mem
act_keeps (Bl offset) s mem = same mem
act_keeps (BCond condition offset) s mem = same mem
act_keeps (Cbz t offset) s mem = same mem
act_keeps (Cbnz t offset) s mem = same mem
act_keeps (Br n) s mem = same mem
act_keeps (Blr n) s mem = same mem
act_keeps (Ret n) s mem = same mem
act_keeps (Csinc d n condition m) s mem = same mem
act_keeps (Ubfm d n imms immr) s mem = same mem
act_keeps (Sbfm d n imms immr) s mem = same mem
act_keeps Nop s mem = same mem
act_keeps (Brk imm) s mem = same mem

pub a64_keeps : (i : AInstr) (s : Registers) (m : Space) → KeepsRights m (effect_of i s m).memory
a64_keeps i s m =
    elim (names_blocked i) as (λ c. KeepsRights m (if c then fails s m Blocked else act_of i s m).memory) [
      | true ↦ same m
      | false ↦ act_keeps i s m
    ]
