-- The table of effects, one row a form (Intel SDM, Vol. 2, the page of each instruction). Values that this project
-- fixes itself, where the manual leaves flags undefined, are marked (own).
use Rattle.std.specs.Prelude.{ℕ, ◌%◌, bit_and, bit_or, bit_xor}
use Rattle.hx_words.specs.TwosComplement.{bits_of}
use Rattle.hx_bits.specs.declared.widths.Width.TheVariants.{W8, W16, W32}
use Rattle.hx_bits.specs.Widths.{truncated, sign_extended}
use Rattle.hx_mem.specs.Space.{Space}
use Rattle.reg_map.specs.declared.registers.X64Reg.TheVariants.{Rax, Rcx, Rdx}
use Rattle.reg_map.specs.Registers.{Registers, x64_value}
use Rattle.x64_isa.specs.declared.instruction.XInstr.{XInstr}
use Rattle.x64_isa.specs.declared.instruction.XInstr.TheVariants.{MovReg, MovLoad, Mov32Reg, Mov32Load, MovStore, Mov32Store, Mov16Store, Mov8Store, Movzx8Reg, Movzx8Load, Movzx16Reg, Movzx16Load, Movsx8Reg, Movsx8Load, Movsx16Reg, Movsx16Load, Movsx32Reg, Movsx32Load, MovImm64, Lea, AddReg, OrReg, AndReg, SubReg, XorReg, CmpReg, AddImm, OrImm, AndImm, SubImm, XorImm, CmpImm, TestReg, ImulReg, NotReg, NegReg, DivReg, IdivReg, Cqo, ShlCl, ShrCl, SarCl, ShlImm, ShrImm, SarImm, Setcc, Jcc, JmpRel, CallRel, CallReg, CallMem, JmpReg, JmpMem, Push, Pop, Ret, Int3, Ud2}
use Rattle.x64_exec.specs.declared.event.XFault.TheVariants.{Halt}
use Rattle.x64_exec.specs.declared.values.Shift.TheVariants.{Left, Right, RightSigned}
use Rattle.x64_exec.specs.Words.{Effect, complement, signs, flags_of_minus, flags_of_bits, added, subtracted, bitwise, multiplied, divided, signed_divided, holds, with_truth, place_of, target_of, goes_to, faults, branches, gives, gives_flagged, gives_flags, shifts, divides, loads, stores, pushes, pops, calls, calls_at, goes_at, returns}

-- an instruction of len bytes
unfoldable pub effect_of : XInstr → ℕ → Registers → Space → Effect
-- MOV: no flag changes; a register that gets 32 bits has zeros above them
effect_of (MovReg r q) len cpu mem = gives r (x64_value cpu q) len cpu mem
effect_of (MovLoad r m) len cpu mem = loads r (place_of m len cpu) 8 (λ v. v) len cpu mem
effect_of (Mov32Reg r q) len cpu mem = gives r (truncated W32 (x64_value cpu q)) len cpu mem
effect_of (Mov32Load r m) len cpu mem = loads r (place_of m len cpu) 4 (λ v. v) len cpu mem
effect_of (MovStore m r) len cpu mem = stores (place_of m len cpu) 8 (x64_value cpu r) len cpu mem
effect_of (Mov32Store m r) len cpu mem = stores (place_of m len cpu) 4 (x64_value cpu r) len cpu mem
effect_of (Mov16Store m r) len cpu mem = stores (place_of m len cpu) 2 (x64_value cpu r) len cpu mem
effect_of (Mov8Store m r) len cpu mem = stores (place_of m len cpu) 1 (x64_value cpu r) len cpu mem
-- MOVZX
effect_of (Movzx8Reg r q) len cpu mem = gives r (truncated W8 (x64_value cpu q)) len cpu mem
effect_of (Movzx8Load r m) len cpu mem = loads r (place_of m len cpu) 1 (λ v. v) len cpu mem
effect_of (Movzx16Reg r q) len cpu mem = gives r (truncated W16 (x64_value cpu q)) len cpu mem
effect_of (Movzx16Load r m) len cpu mem = loads r (place_of m len cpu) 2 (λ v. v) len cpu mem
-- MOVSX and MOVSXD
effect_of (Movsx8Reg r q) len cpu mem = gives r (sign_extended W8 (x64_value cpu q)) len cpu mem
effect_of (Movsx8Load r m) len cpu mem = loads r (place_of m len cpu) 1 (sign_extended W8) len cpu mem
effect_of (Movsx16Reg r q) len cpu mem = gives r (sign_extended W16 (x64_value cpu q)) len cpu mem
effect_of (Movsx16Load r m) len cpu mem = loads r (place_of m len cpu) 2 (sign_extended W16) len cpu mem
effect_of (Movsx32Reg r q) len cpu mem = gives r (sign_extended W32 (x64_value cpu q)) len cpu mem
effect_of (Movsx32Load r m) len cpu mem = loads r (place_of m len cpu) 4 (sign_extended W32) len cpu mem
-- MOV r, imm64
effect_of (MovImm64 r imm) len cpu mem = gives r imm len cpu mem
-- LEA: the address, and no load
effect_of (Lea r m) len cpu mem = gives r (place_of m len cpu) len cpu mem
-- ADD, OR, AND, SUB, XOR
effect_of (AddReg q r) len cpu mem = gives_flagged q (added (x64_value cpu q) (x64_value cpu r)) len cpu mem
effect_of (OrReg q r) len cpu mem = gives_flagged q (bitwise (bit_or (x64_value cpu q) (x64_value cpu r))) len cpu mem
effect_of (AndReg q r) len cpu mem = gives_flagged q (bitwise (bit_and (x64_value cpu q) (x64_value cpu r))) len cpu mem
effect_of (SubReg q r) len cpu mem = gives_flagged q (subtracted (x64_value cpu q) (x64_value cpu r)) len cpu mem
effect_of (XorReg q r) len cpu mem = gives_flagged q (bitwise (bit_xor (x64_value cpu q) (x64_value cpu r))) len cpu mem
-- CMP: the flags of a difference that is dropped
effect_of (CmpReg q r) len cpu mem = gives_flags (flags_of_minus (x64_value cpu q) (x64_value cpu r)) len cpu mem
-- the same with an immediate, which is sign-extended to 64 bits
effect_of (AddImm q imm) len cpu mem = gives_flagged q (added (x64_value cpu q) (bits_of 64 imm)) len cpu mem
effect_of (OrImm q imm) len cpu mem = gives_flagged q (bitwise (bit_or (x64_value cpu q) (bits_of 64 imm))) len cpu mem
effect_of (AndImm q imm) len cpu mem = gives_flagged q (bitwise (bit_and (x64_value cpu q) (bits_of 64 imm))) len cpu mem
effect_of (SubImm q imm) len cpu mem = gives_flagged q (subtracted (x64_value cpu q) (bits_of 64 imm)) len cpu mem
effect_of (XorImm q imm) len cpu mem = gives_flagged q (bitwise (bit_xor (x64_value cpu q) (bits_of 64 imm))) len cpu mem
effect_of (CmpImm q imm) len cpu mem = gives_flags (flags_of_minus (x64_value cpu q) (bits_of 64 imm)) len cpu mem
-- TEST: the flags of an AND that is dropped
effect_of (TestReg q r) len cpu mem = gives_flags (flags_of_bits (bit_and (x64_value cpu q) (x64_value cpu r))) len cpu mem
-- IMUL: the low 64 bits of the product; ZF and SF are 0 (own)
effect_of (ImulReg r q) len cpu mem = gives_flagged r (multiplied (x64_value cpu r) (x64_value cpu q)) len cpu mem
-- NOT: no flag changes
effect_of (NotReg q) len cpu mem = gives q (complement (x64_value cpu q)) len cpu mem
-- NEG: as a difference from 0, so CF says that the operand was not 0
effect_of (NegReg q) len cpu mem = gives_flagged q (subtracted 0 (x64_value cpu q)) len cpu mem
-- DIV and IDIV of rdx:rax; all four flags are 0 (own)
effect_of (DivReg q) len cpu mem = divides (divided (x64_value cpu Rdx) (x64_value cpu Rax) (x64_value cpu q)) len cpu mem
effect_of (IdivReg q) len cpu mem = divides (signed_divided (x64_value cpu Rdx) (x64_value cpu Rax) (x64_value cpu q)) len cpu mem
-- CQO: rdx is filled with the sign of rax
effect_of Cqo len cpu mem = gives Rdx (signs (x64_value cpu Rax)) len cpu mem
-- SHL, SHR and SAR by the low 6 bits of CL, or by a number below 64; OF of a shift by more than 1 is 0 (own)
effect_of (ShlCl q) len cpu mem = shifts Left q (x64_value cpu Rcx % 64) len cpu mem
effect_of (ShrCl q) len cpu mem = shifts Right q (x64_value cpu Rcx % 64) len cpu mem
effect_of (SarCl q) len cpu mem = shifts RightSigned q (x64_value cpu Rcx % 64) len cpu mem
effect_of (ShlImm q imm) len cpu mem = shifts Left q imm len cpu mem
effect_of (ShrImm q imm) len cpu mem = shifts Right q imm len cpu mem
effect_of (SarImm q imm) len cpu mem = shifts RightSigned q imm len cpu mem
-- SETcc: the low byte alone
effect_of (Setcc c q) len cpu mem = gives q (with_truth (x64_value cpu q) (holds c cpu.xf)) len cpu mem
-- Jcc
effect_of (Jcc c rel) len cpu mem = branches (holds c cpu.xf) (target_of rel len cpu) len cpu mem
-- JMP and CALL, rel32
effect_of (JmpRel rel) len cpu mem = goes_to (target_of rel len cpu) cpu mem
effect_of (CallRel rel) len cpu mem = calls (target_of rel len cpu) len cpu mem
-- CALL and JMP by a register or a word in memory: the target is read before the push
effect_of (CallReg q) len cpu mem = calls (x64_value cpu q) len cpu mem
effect_of (CallMem m) len cpu mem = calls_at (place_of m len cpu) len cpu mem
effect_of (JmpReg q) len cpu mem = goes_to (x64_value cpu q) cpu mem
effect_of (JmpMem m) len cpu mem = goes_at (place_of m len cpu) cpu mem
-- PUSH, POP and RET
effect_of (Push r) len cpu mem = pushes (x64_value cpu r) len cpu mem
effect_of (Pop r) len cpu mem = pops r len cpu mem
effect_of Ret len cpu mem = returns cpu mem
-- INT3 and UD2
effect_of Int3 len cpu mem = faults Halt cpu mem
effect_of Ud2 len cpu mem = faults Halt cpu mem
