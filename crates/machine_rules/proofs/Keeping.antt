-- A step changes no byte outside writable regions.
use Rattle.std.proofs.Common.{if◌then◌else◌, ◌≡◌, ℕ, true, false, List, [], ◌∷◌, Result, Ok, Err, refl, ap, ◌∙◌}
use Rattle.hx_bits.specs.declared.widths.Width.TheVariants.{W8, W16, W32}
use Rattle.hx_bits.specs.Widths.{sign_extended}
use Rattle.hx_words.specs.LittleEndian.{bytes_of}
use Rattle.hx_mem.specs.Segments.{Segment}
use Rattle.hx_mem.specs.Space.{Space, has, put, put_in, load_of, store_of, after_store}
use Rattle.hx_mem.specs.declared.fault.MemBad.{MemBad}
use Rattle.hx_mem.proofs.Writes.{length-bytes_after}
use Rattle.hx_mem.proofs.Stored.{refused_right}
use Rattle.reg_map.specs.Registers.{Registers, x64_value}
use Rattle.reg_map.specs.declared.registers.X64Reg.{X64Reg}
use Rattle.x64_isa.specs.declared.instruction.XInstr.{XInstr}
use Rattle.x64_isa.specs.declared.instruction.XInstr.TheVariants.{MovReg, MovLoad, Mov32Reg, Mov32Load, MovStore, Mov32Store, Mov16Store, Mov8Store, Movzx8Reg, Movzx8Load, Movzx16Reg, Movzx16Load, Movsx8Reg, Movsx8Load, Movsx16Reg, Movsx16Load, Movsx32Reg, Movsx32Load, MovImm64, Lea, AddReg, OrReg, AndReg, SubReg, XorReg, CmpReg, AddImm, OrImm, AndImm, SubImm, XorImm, CmpImm, TestReg, ImulReg, NotReg, NegReg, DivReg, IdivReg, Cqo, ShlCl, ShrCl, SarCl, ShlImm, ShrImm, SarImm, Setcc, Jcc, JmpRel, CallRel, CallReg, CallMem, JmpReg, JmpMem, Push, Pop, Ret, Int3, Ud2}
use Rattle.x64_exec.specs.Words.{Effect, place_of, target_of, loads, stores, stored, on_load, pushes, pops, calls, calls_at, goes_at, goes_to, returns, minus}
use Rattle.x64_exec.specs.Effects.{effect_of}
use Rattle.machine_rules.specs.Laws.{IsSameButWritten, AreSameButWritten, KeepsRights}

same_region : (r : Segment) → IsSameButWritten r r
same_region r = record { start = refl; size = refl; write = refl; exec = refl; bytes = λ w. refl }

same_regions : (rs : List Segment) → AreSameButWritten rs rs
same_regions [] = tt
same_regions (r ∷ rs) = (same_region r, same_regions rs)

pub same : (m : Space) → KeepsRights m m
same m = record { regions = same_regions m.regions; guard = refl }

then_region : (r s t : Segment) → IsSameButWritten r s → IsSameButWritten s t → IsSameButWritten r t
then_region r s t p q = record {
  start = q.start ∙ p.start;
  size = q.size ∙ p.size;
  write = q.write ∙ p.write;
  exec = q.exec ∙ p.exec;
  bytes = λ w. q.bytes (p.write ∙ w) ∙ p.bytes w;
}

then_regions : (rs ss ts : List Segment) → AreSameButWritten rs ss → AreSameButWritten ss ts → AreSameButWritten rs ts
then_regions [] [] [] p q = tt
then_regions [] [] (t ∷ ts) p q = absurd q
then_regions [] (s ∷ ss) ts p q = absurd p
then_regions (r ∷ rs) [] ts p q = absurd p
then_regions (r ∷ rs) (s ∷ ss) [] p q = absurd q
then_regions (r ∷ rs) (s ∷ ss) (t ∷ ts) p q = (then_region r s t p.0 q.0, then_regions rs ss ts p.1 q.1)

pub then_keeps : (m n o : Space) → KeepsRights m n → KeepsRights n o → KeepsRights m o
then_keeps m n o p q = record { regions = then_regions m.regions n.regions o.regions p.regions q.regions; guard = q.guard ∙ p.guard }

put_region : (r : Segment) (a : ℕ) (bs : List ℕ) → has r a ≡ true → IsSameButWritten r (put_in r a bs)
put_region r a bs h = record {
  start = refl;
  size = length-bytes_after r a bs h;
  write = refl;
  exec = refl;
  bytes = λ w. ap (λ (s : Segment). s.bytes) (refused_right r a bs w);
}

put_regions : (rs : List Segment) (a : ℕ) (bs : List ℕ) → AreSameButWritten rs (put rs a bs)
put_regions [] a bs = tt
put_regions (r ∷ rs) a bs =
    elim (has r a) as (λ c. has r a ≡ c → AreSameButWritten (r ∷ rs) (if c then put_in r a bs ∷ rs else r ∷ put rs a bs)) [
      | true ↦ λ h. (put_region r a bs h, same_regions rs)
      | false ↦ λ h. (same_region r, put_regions rs a bs)
    ] refl

pub store_keeps : (m : Space) (a n v : ℕ) → KeepsRights m (after_store m a n v)
store_keeps m a n v = record { regions = put_regions m.regions a (bytes_of n v); guard = refl }

-- ---- x64 rows

on_load_keep : (r : Result ℕ MemBad) (cpu : Registers) (mem : Space) (done : ℕ → Effect) → ((v : ℕ) → KeepsRights mem (done v).mem) → KeepsRights mem (on_load r cpu mem done).mem
on_load_keep (Ok v) cpu mem done keeps = keeps v
on_load_keep (Err bad) cpu mem done keeps = same mem

stored_keep : (r : Result (Unit {0}) MemBad) (cpu : Registers) (mem : Space) (after : Effect) → KeepsRights mem after.mem → KeepsRights mem (stored r cpu mem after).mem
stored_keep (Ok u) cpu mem after keeps = keeps
stored_keep (Err bad) cpu mem after keeps = same mem

loads_keep : (r : X64Reg) (place bytes : ℕ) (extended : ℕ → ℕ) (len : ℕ) (cpu : Registers) (mem : Space) → KeepsRights mem (loads r place bytes extended len cpu mem).mem
loads_keep r place bytes extended len cpu mem = on_load_keep (load_of mem place bytes) cpu mem _ (λ v. same mem)

stores_keep : (place bytes v len : ℕ) (cpu : Registers) (mem : Space) → KeepsRights mem (stores place bytes v len cpu mem).mem
stores_keep place bytes v len cpu mem = stored_keep (store_of mem place bytes) cpu mem _ (store_keeps mem place bytes v)

pushes_keep : (v len : ℕ) (cpu : Registers) (mem : Space) → KeepsRights mem (pushes v len cpu mem).mem
pushes_keep v len cpu mem = stored_keep (store_of mem (minus (cpu.value 31) 8) 8) cpu mem _ (store_keeps mem (minus (cpu.value 31) 8) 8 v)

pops_keep : (r : X64Reg) (len : ℕ) (cpu : Registers) (mem : Space) → KeepsRights mem (pops r len cpu mem).mem
pops_keep r len cpu mem = on_load_keep (load_of mem (cpu.value 31) 8) cpu mem _ (λ v. same mem)

calls_keep : (target len : ℕ) (cpu : Registers) (mem : Space) → KeepsRights mem (calls target len cpu mem).mem
calls_keep target len cpu mem = stored_keep (store_of mem (minus (cpu.value 31) 8) 8) cpu mem _ (store_keeps mem (minus (cpu.value 31) 8) 8 _)

calls_at_keep : (place len : ℕ) (cpu : Registers) (mem : Space) → KeepsRights mem (calls_at place len cpu mem).mem
calls_at_keep place len cpu mem = on_load_keep (load_of mem place 8) cpu mem (λ target. calls target len cpu mem) (λ target. calls_keep target len cpu mem)

goes_at_keep : (place : ℕ) (cpu : Registers) (mem : Space) → KeepsRights mem (goes_at place cpu mem).mem
goes_at_keep place cpu mem = on_load_keep (load_of mem place 8) cpu mem (λ target. goes_to target cpu mem) (λ target. same mem)

returns_keep : (cpu : Registers) (mem : Space) → KeepsRights mem (returns cpu mem).mem
returns_keep cpu mem = on_load_keep (load_of mem (cpu.value 31) 8) cpu mem _ (λ v. same mem)

pub x64_keeps : (i : XInstr) (len : ℕ) (cpu : Registers) (mem : Space) → KeepsRights mem (effect_of i len cpu mem).mem
unfolding effect_of
x64_keeps (MovReg r q) len cpu mem = same mem
x64_keeps (MovLoad r m) len cpu mem = loads_keep r (place_of m len cpu) 8 (λ v. v) len cpu mem
x64_keeps (Mov32Reg r q) len cpu mem = same mem
x64_keeps (Mov32Load r m) len cpu mem = loads_keep r (place_of m len cpu) 4 (λ v. v) len cpu mem
x64_keeps (MovStore m r) len cpu mem = stores_keep (place_of m len cpu) 8 (x64_value cpu r) len cpu mem
x64_keeps (Mov32Store m r) len cpu mem = stores_keep (place_of m len cpu) 4 (x64_value cpu r) len cpu mem
x64_keeps (Mov16Store m r) len cpu mem = stores_keep (place_of m len cpu) 2 (x64_value cpu r) len cpu mem
x64_keeps (Mov8Store m r) len cpu mem = stores_keep (place_of m len cpu) 1 (x64_value cpu r) len cpu mem
x64_keeps (Movzx8Reg r q) len cpu mem = same mem
x64_keeps (Movzx8Load r m) len cpu mem = loads_keep r (place_of m len cpu) 1 (λ v. v) len cpu mem
x64_keeps (Movzx16Reg r q) len cpu mem = same mem
x64_keeps (Movzx16Load r m) len cpu mem = loads_keep r (place_of m len cpu) 2 (λ v. v) len cpu mem
x64_keeps (Movsx8Reg r q) len cpu mem = same mem
x64_keeps (Movsx8Load r m) len cpu mem = loads_keep r (place_of m len cpu) 1 (sign_extended W8) len cpu mem
x64_keeps (Movsx16Reg r q) len cpu mem = same mem
x64_keeps (Movsx16Load r m) len cpu mem = loads_keep r (place_of m len cpu) 2 (sign_extended W16) len cpu mem
x64_keeps (Movsx32Reg r q) len cpu mem = same mem
x64_keeps (Movsx32Load r m) len cpu mem = loads_keep r (place_of m len cpu) 4 (sign_extended W32) len cpu mem
x64_keeps (MovImm64 r imm) len cpu mem = same mem
x64_keeps (Lea r m) len cpu mem = same mem
x64_keeps (AddReg q r) len cpu mem = same mem
x64_keeps (OrReg q r) len cpu mem = same mem
x64_keeps (AndReg q r) len cpu mem = same mem
x64_keeps (SubReg q r) len cpu mem = same mem
x64_keeps (XorReg q r) len cpu mem = same mem
x64_keeps (CmpReg q r) len cpu mem = same mem
x64_keeps (AddImm q imm) len cpu mem = same mem
x64_keeps (OrImm q imm) len cpu mem = same mem
x64_keeps (AndImm q imm) len cpu mem = same mem
x64_keeps (SubImm q imm) len cpu mem = same mem
x64_keeps (XorImm q imm) len cpu mem = same mem
x64_keeps (CmpImm q imm) len cpu mem = same mem
x64_keeps (TestReg q r) len cpu mem = same mem
x64_keeps (ImulReg r q) len cpu mem = same mem
x64_keeps (NotReg q) len cpu mem = same mem
x64_keeps (NegReg q) len cpu mem = same mem
x64_keeps (DivReg q) len cpu mem = same mem
x64_keeps (IdivReg q) len cpu mem = same mem
x64_keeps Cqo len cpu mem = same mem
x64_keeps (ShlCl q) len cpu mem = same mem
x64_keeps (ShrCl q) len cpu mem = same mem
x64_keeps (SarCl q) len cpu mem = same mem
x64_keeps (ShlImm q imm) len cpu mem = same mem
x64_keeps (ShrImm q imm) len cpu mem = same mem
x64_keeps (SarImm q imm) len cpu mem = same mem
x64_keeps (Setcc c q) len cpu mem = same mem
x64_keeps (Jcc c rel) len cpu mem = same mem
x64_keeps (JmpRel rel) len cpu mem = same mem
x64_keeps (CallRel rel) len cpu mem = calls_keep (target_of rel len cpu) len cpu mem
x64_keeps (CallReg q) len cpu mem = calls_keep (x64_value cpu q) len cpu mem
x64_keeps (CallMem m) len cpu mem = calls_at_keep (place_of m len cpu) len cpu mem
x64_keeps (JmpReg q) len cpu mem = same mem
x64_keeps (JmpMem m) len cpu mem = goes_at_keep (place_of m len cpu) cpu mem
x64_keeps (Push r) len cpu mem = pushes_keep (x64_value cpu r) len cpu mem
x64_keeps (Pop r) len cpu mem = pops_keep r len cpu mem
x64_keeps Ret len cpu mem = returns_keep cpu mem
x64_keeps Int3 len cpu mem = same mem
x64_keeps Ud2 len cpu mem = same mem
