-- The table: the one spelling of each instruction (Intel SDM, Vol. 2, chapters 3 and 4).
use Rattle.std.specs.Prelude.{◌≡◌, ◌≢◌, ℕ, ℤ, ◌+◌, ◌/◌, ◌%◌, ◌^◌, ◌<◌, List, [], ◌∷◌, ◌++◌, length, take, ◌==◌, if◌then◌else◌}
use Rattle.hx_words.specs.LittleEndian.{bytes_of}
use Rattle.hx_words.specs.TwosComplement.{IsSigned}
use Rattle.reg_map.specs.declared.registers.X64Reg.{X64Reg}
use Rattle.x64_isa.specs.declared.instruction.XInstr.{XInstr}
use Rattle.x64_isa.specs.declared.instruction.XInstr.TheVariants.{MovReg, MovLoad, Mov32Reg, Mov32Load, MovStore, Mov32Store, Mov16Store, Mov8Store, Movzx8Reg, Movzx8Load, Movzx16Reg, Movzx16Load, Movsx8Reg, Movsx8Load, Movsx16Reg, Movsx16Load, Movsx32Reg, Movsx32Load, MovImm64, Lea, AddReg, OrReg, AndReg, SubReg, XorReg, CmpReg, AddImm, OrImm, AndImm, SubImm, XorImm, CmpImm, TestReg, ImulReg, NotReg, NegReg, DivReg, IdivReg, Cqo, ShlCl, ShrCl, SarCl, ShlImm, ShrImm, SarImm, Setcc, Jcc, JmpRel, CallRel, CallReg, CallMem, JmpReg, JmpMem, Push, Pop, Ret, Int3, Ud2}
use Rattle.x64_isa.specs.declared.instruction.Operand.{Operand}
use Rattle.x64_isa.specs.declared.instruction.Operand.TheVariants.{Register, Memory}
use Rattle.x64_isa.specs.Fields.{number_of_register, number_of_condition, low, high, rex, imm8, imm32, imm64, fits8, operand_high, operand_bytes, IsPlace}

-- an opcode, a field reg of four bits, whose high one stands in REX, and an operand:
-- with REX.W, with REX where it is needed, and with REX that is always there (W = 0)
unfoldable pub wide : List ℕ → ℕ → Operand → List ℕ
wide opcode n o = rex 1 (n / 8) (operand_high o) ∷ (opcode ++ operand_bytes (n % 8) o)

-- REX where a high bit is 1
unfoldable pub rex_if_needed : ℕ → ℕ → List ℕ
rex_if_needed r b = if r + b == 0 then [] else rex 0 r b ∷ []

unfoldable pub narrow : List ℕ → ℕ → Operand → List ℕ
narrow opcode n o = rex_if_needed (n / 8) (operand_high o) ++ (opcode ++ operand_bytes (n % 8) o)

unfoldable pub always : List ℕ → ℕ → Operand → List ℕ
always opcode n o = rex 0 (n / 8) (operand_high o) ∷ (opcode ++ operand_bytes (n % 8) o)

-- an operation /n on a register and an immediate: 83 with 8 bits where it fits, else 81 with 32
unfoldable pub arith_imm : ℕ → X64Reg → ℤ → List ℕ
arith_imm n q imm = if fits8 imm
    then wide (0x83 ∷ []) n (Register q) ++ imm8 imm
    else wide (0x81 ∷ []) n (Register q) ++ imm32 imm

-- the bytes of an instruction
unfoldable pub spell_of : XInstr → List ℕ
-- MOV, REX.W 8B /r
spell_of (MovReg r q) = wide (0x8B ∷ []) (number_of_register r) (Register q)
spell_of (MovLoad r m) = wide (0x8B ∷ []) (number_of_register r) (Memory m)
-- MOV, 8B /r
spell_of (Mov32Reg r q) = narrow (0x8B ∷ []) (number_of_register r) (Register q)
spell_of (Mov32Load r m) = narrow (0x8B ∷ []) (number_of_register r) (Memory m)
-- MOV, REX.W 89 /r; 89 /r; 66 89 /r; REX 88 /r
spell_of (MovStore m r) = wide (0x89 ∷ []) (number_of_register r) (Memory m)
spell_of (Mov32Store m r) = narrow (0x89 ∷ []) (number_of_register r) (Memory m)
spell_of (Mov16Store m r) = 0x66 ∷ narrow (0x89 ∷ []) (number_of_register r) (Memory m)
spell_of (Mov8Store m r) = always (0x88 ∷ []) (number_of_register r) (Memory m)
-- MOVZX, REX.W 0F B6 /r and REX.W 0F B7 /r
spell_of (Movzx8Reg r q) = wide (0x0F ∷ (0xB6 ∷ [])) (number_of_register r) (Register q)
spell_of (Movzx8Load r m) = wide (0x0F ∷ (0xB6 ∷ [])) (number_of_register r) (Memory m)
spell_of (Movzx16Reg r q) = wide (0x0F ∷ (0xB7 ∷ [])) (number_of_register r) (Register q)
spell_of (Movzx16Load r m) = wide (0x0F ∷ (0xB7 ∷ [])) (number_of_register r) (Memory m)
-- MOVSX, REX.W 0F BE /r and REX.W 0F BF /r; MOVSXD, REX.W 63 /r
spell_of (Movsx8Reg r q) = wide (0x0F ∷ (0xBE ∷ [])) (number_of_register r) (Register q)
spell_of (Movsx8Load r m) = wide (0x0F ∷ (0xBE ∷ [])) (number_of_register r) (Memory m)
spell_of (Movsx16Reg r q) = wide (0x0F ∷ (0xBF ∷ [])) (number_of_register r) (Register q)
spell_of (Movsx16Load r m) = wide (0x0F ∷ (0xBF ∷ [])) (number_of_register r) (Memory m)
spell_of (Movsx32Reg r q) = wide (0x63 ∷ []) (number_of_register r) (Register q)
spell_of (Movsx32Load r m) = wide (0x63 ∷ []) (number_of_register r) (Memory m)
-- MOV, REX.W B8+rd io
spell_of (MovImm64 r imm) = rex 1 0 (high r) ∷ ((0xB8 + low r) ∷ imm64 imm)
-- LEA, REX.W 8D /r
spell_of (Lea r m) = wide (0x8D ∷ []) (number_of_register r) (Memory m)
-- ADD, OR, AND, SUB, XOR, CMP, REX.W 01 /r to REX.W 39 /r
spell_of (AddReg q r) = wide (0x01 ∷ []) (number_of_register r) (Register q)
spell_of (OrReg q r) = wide (0x09 ∷ []) (number_of_register r) (Register q)
spell_of (AndReg q r) = wide (0x21 ∷ []) (number_of_register r) (Register q)
spell_of (SubReg q r) = wide (0x29 ∷ []) (number_of_register r) (Register q)
spell_of (XorReg q r) = wide (0x31 ∷ []) (number_of_register r) (Register q)
spell_of (CmpReg q r) = wide (0x39 ∷ []) (number_of_register r) (Register q)
-- the same with an immediate, REX.W 83 /n ib and REX.W 81 /n id
spell_of (AddImm q imm) = arith_imm 0 q imm
spell_of (OrImm q imm) = arith_imm 1 q imm
spell_of (AndImm q imm) = arith_imm 4 q imm
spell_of (SubImm q imm) = arith_imm 5 q imm
spell_of (XorImm q imm) = arith_imm 6 q imm
spell_of (CmpImm q imm) = arith_imm 7 q imm
-- TEST, REX.W 85 /r
spell_of (TestReg q r) = wide (0x85 ∷ []) (number_of_register r) (Register q)
-- IMUL, REX.W 0F AF /r
spell_of (ImulReg r q) = wide (0x0F ∷ (0xAF ∷ [])) (number_of_register r) (Register q)
-- NOT, NEG, DIV, IDIV, REX.W F7 /2, /3, /6, /7
spell_of (NotReg q) = wide (0xF7 ∷ []) 2 (Register q)
spell_of (NegReg q) = wide (0xF7 ∷ []) 3 (Register q)
spell_of (DivReg q) = wide (0xF7 ∷ []) 6 (Register q)
spell_of (IdivReg q) = wide (0xF7 ∷ []) 7 (Register q)
-- CQO, REX.W 99
spell_of Cqo = rex 1 0 0 ∷ (0x99 ∷ [])
-- SHL, SHR, SAR by CL, REX.W D3 /4, /5, /7
spell_of (ShlCl q) = wide (0xD3 ∷ []) 4 (Register q)
spell_of (ShrCl q) = wide (0xD3 ∷ []) 5 (Register q)
spell_of (SarCl q) = wide (0xD3 ∷ []) 7 (Register q)
-- the same by an immediate, REX.W C1 /n ib
spell_of (ShlImm q imm) = wide (0xC1 ∷ []) 4 (Register q) ++ bytes_of 1 imm
spell_of (ShrImm q imm) = wide (0xC1 ∷ []) 5 (Register q) ++ bytes_of 1 imm
spell_of (SarImm q imm) = wide (0xC1 ∷ []) 7 (Register q) ++ bytes_of 1 imm
-- SETcc, REX 0F 90+c
spell_of (Setcc c q) = always (0x0F ∷ ((0x90 + number_of_condition c) ∷ [])) 0 (Register q)
-- Jcc, 0F 80+c cd
spell_of (Jcc c rel) = 0x0F ∷ ((0x80 + number_of_condition c) ∷ imm32 rel)
-- JMP, E9 cd
spell_of (JmpRel rel) = 0xE9 ∷ imm32 rel
-- CALL, E8 cd
spell_of (CallRel rel) = 0xE8 ∷ imm32 rel
-- CALL, FF /2
spell_of (CallReg q) = narrow (0xFF ∷ []) 2 (Register q)
spell_of (CallMem m) = narrow (0xFF ∷ []) 2 (Memory m)
-- JMP, FF /4
spell_of (JmpReg q) = narrow (0xFF ∷ []) 4 (Register q)
spell_of (JmpMem m) = narrow (0xFF ∷ []) 4 (Memory m)
-- PUSH, 50+rd
spell_of (Push r) = rex_if_needed 0 (high r) ++ ((0x50 + low r) ∷ [])
-- POP, 58+rd
spell_of (Pop r) = rex_if_needed 0 (high r) ++ ((0x58 + low r) ∷ [])
-- RET, C3
spell_of Ret = 0xC3 ∷ []
-- INT3, CC
spell_of Int3 = 0xCC ∷ []
-- UD2, 0F 0B
spell_of Ud2 = 0x0F ∷ (0x0B ∷ [])

-- the operands are in their ranges
unfoldable pub Valid : XInstr → Type 0
Valid (MovReg r q) = Unit {0}
Valid (MovLoad r m) = IsPlace m
Valid (Mov32Reg r q) = Unit {0}
Valid (Mov32Load r m) = IsPlace m
Valid (MovStore m r) = IsPlace m
Valid (Mov32Store m r) = IsPlace m
Valid (Mov16Store m r) = IsPlace m
Valid (Mov8Store m r) = IsPlace m
Valid (Movzx8Reg r q) = Unit {0}
Valid (Movzx8Load r m) = IsPlace m
Valid (Movzx16Reg r q) = Unit {0}
Valid (Movzx16Load r m) = IsPlace m
Valid (Movsx8Reg r q) = Unit {0}
Valid (Movsx8Load r m) = IsPlace m
Valid (Movsx16Reg r q) = Unit {0}
Valid (Movsx16Load r m) = IsPlace m
Valid (Movsx32Reg r q) = Unit {0}
Valid (Movsx32Load r m) = IsPlace m
Valid (MovImm64 r imm) = imm < 2 ^ 64
Valid (Lea r m) = IsPlace m
Valid (AddReg q r) = Unit {0}
Valid (OrReg q r) = Unit {0}
Valid (AndReg q r) = Unit {0}
Valid (SubReg q r) = Unit {0}
Valid (XorReg q r) = Unit {0}
Valid (CmpReg q r) = Unit {0}
Valid (AddImm q imm) = IsSigned 32 imm
Valid (OrImm q imm) = IsSigned 32 imm
Valid (AndImm q imm) = IsSigned 32 imm
Valid (SubImm q imm) = IsSigned 32 imm
Valid (XorImm q imm) = IsSigned 32 imm
Valid (CmpImm q imm) = IsSigned 32 imm
Valid (TestReg q r) = Unit {0}
Valid (ImulReg r q) = Unit {0}
Valid (NotReg q) = Unit {0}
Valid (NegReg q) = Unit {0}
Valid (DivReg q) = Unit {0}
Valid (IdivReg q) = Unit {0}
Valid Cqo = Unit {0}
Valid (ShlCl q) = Unit {0}
Valid (ShrCl q) = Unit {0}
Valid (SarCl q) = Unit {0}
Valid (ShlImm q imm) = imm < 64
Valid (ShrImm q imm) = imm < 64
Valid (SarImm q imm) = imm < 64
Valid (Setcc c q) = Unit {0}
Valid (Jcc c rel) = IsSigned 32 rel
Valid (JmpRel rel) = IsSigned 32 rel
Valid (CallRel rel) = IsSigned 32 rel
Valid (CallReg q) = Unit {0}
Valid (CallMem m) = IsPlace m
Valid (JmpReg q) = Unit {0}
Valid (JmpMem m) = IsPlace m
Valid (Push r) = Unit {0}
Valid (Pop r) = Unit {0}
Valid Ret = Unit {0}
Valid Int3 = Unit {0}
Valid Ud2 = Unit {0}

-- some instruction begins with these bytes, and goes on
pub record IsFront (bytes : List ℕ) : Type 0 where
  pub instruction : XInstr
  pub rest : List ℕ
  pub valid : Valid instruction
  pub more : rest ≢ []
  pub spelled : spell_of instruction ≡ bytes ++ rest

-- the bytes begin with this instruction, whose spelling is the first n of them
pub record Begins (bytes : List ℕ) (instruction : XInstr) (n : ℕ) : Type 0 where
  pub valid : Valid instruction
  pub spelled : take n bytes ≡ spell_of instruction
  pub size : length (spell_of instruction) ≡ n
