-- The instructions that Arm64EC code is made of here, and their words (Arm ARM, C6.2, each by its page).
--
-- A register is named by its number. Number 31 is the stack pointer as d and n of ADD and SUB (immediate),
-- as n of ADDS and SUBS (immediate) and as the base n of each load and store; everywhere else it is the
-- zero register. All operations but LdrW and StrW, which have 32 bits, and the loads and stores of bytes
-- and half words are those of 64 bits.
use Rattle.std.specs.Prelude.{ℕ, ℤ, ◌+◌, ◌*◌, ◌/◌, ◌%◌, ◌^◌, ◌<◌, Bool, true, false, ◌&&◌, ◌||◌, not, ◌==◌, IsTrue}
use Rattle.hx_words.specs.TwosComplement.{bits_of, IsSigned}
use Rattle.reg_map.specs.declared.registers.A64Reg.{A64Reg}
use Rattle.a64_isa.specs.declared.instruction.Condition.{Condition}
use Rattle.a64_isa.specs.declared.instruction.AInstr.{AInstr}
use Rattle.a64_isa.specs.declared.instruction.AInstr.TheVariants.{AddImmediate, SubImmediate, AddsImmediate, SubsImmediate, AddRegister, SubRegister, AddsRegister, SubsRegister, AndRegister, OrrRegister, EorRegister, OrnRegister, Udiv, Sdiv, Lslv, Lsrv, Asrv, Madd, Msub, Movz, Movk, Movn, Adr, Adrp, LdrX, StrX, LdrW, StrW, Ldrh, Strh, Ldrb, Strb, Ldrsb, Ldrsh, Ldrsw, Stp, Ldp, StpPre, LdpPost, B, Bl, BCond, Cbz, Cbnz, Br, Blr, Ret, Csinc, Ubfm, Sbfm, Nop, Brk}
use Rattle.a64_isa.specs.Conditions.{condition_number}

abbrev pub bit_of : Bool → ℕ
bit_of true = 1
bit_of false = 0

-- The words by where their operands stand: the base word of the form, and each operand at its lowest bit.

-- Add/subtract (immediate)
abbrev pub add_immediate_word : ℕ → A64Reg → A64Reg → ℕ → Bool → ℕ
add_immediate_word base d n imm shift12 = base + d.0 + n.0 * 2 ^ 5 + imm * 2 ^ 10 + bit_of shift12 * 2 ^ 22

-- Add/subtract and logical (shifted register, shift by 0), data-processing (2 source)
abbrev pub three_registers_word : ℕ → A64Reg → A64Reg → A64Reg → ℕ
three_registers_word base d n m = base + d.0 + n.0 * 2 ^ 5 + m.0 * 2 ^ 16

-- Data-processing (3 source)
abbrev pub three_sources_word : ℕ → A64Reg → A64Reg → A64Reg → A64Reg → ℕ
three_sources_word base d n a m = base + d.0 + n.0 * 2 ^ 5 + a.0 * 2 ^ 10 + m.0 * 2 ^ 16

-- Move wide (immediate)
abbrev pub move_wide_word : ℕ → A64Reg → ℕ → ℕ → ℕ
move_wide_word base d imm hw = base + d.0 + imm * 2 ^ 5 + hw * 2 ^ 21

-- PC-rel. addressing: the low 2 bits of the offset stand at bit 29, the high 19 at bit 5
abbrev pub pc_relative_word : ℕ → A64Reg → ℤ → ℕ
pc_relative_word base d offset = base + d.0 + bits_of 21 offset / 2 ^ 2 * 2 ^ 5 + bits_of 21 offset % 2 ^ 2 * 2 ^ 29

-- Load/store register (unsigned immediate)
abbrev pub one_register_word : ℕ → A64Reg → A64Reg → ℕ → ℕ
one_register_word base t n offset = base + t.0 + n.0 * 2 ^ 5 + offset * 2 ^ 10

-- Load/store register pair (offset, pre-indexed, post-indexed)
abbrev pub register_pair_word : ℕ → A64Reg → A64Reg → A64Reg → ℤ → ℕ
register_pair_word base t n t2 offset = base + t.0 + n.0 * 2 ^ 5 + t2.0 * 2 ^ 10 + bits_of 7 offset * 2 ^ 15

-- Unconditional branch (immediate)
abbrev pub branch_word : ℕ → ℤ → ℕ
branch_word base offset = base + bits_of 26 offset

-- Conditional branch (immediate)
abbrev pub branch_if_word : ℕ → Condition → ℤ → ℕ
branch_if_word base condition offset = base + condition_number condition + bits_of 19 offset * 2 ^ 5

-- Compare and branch (immediate)
abbrev pub compare_branch_word : ℕ → A64Reg → ℤ → ℕ
compare_branch_word base t offset = base + t.0 + bits_of 19 offset * 2 ^ 5

-- Unconditional branch (register)
abbrev pub branch_register_word : ℕ → A64Reg → ℕ
branch_register_word base n = base + n.0 * 2 ^ 5

-- Conditional select
abbrev pub select_word : ℕ → A64Reg → A64Reg → Condition → A64Reg → ℕ
select_word base d n condition m = base + d.0 + n.0 * 2 ^ 5 + condition_number condition * 2 ^ 12 + m.0 * 2 ^ 16

-- Bitfield
abbrev pub bitfield_word : ℕ → A64Reg → A64Reg → ℕ → ℕ → ℕ
bitfield_word base d n imms immr = base + d.0 + n.0 * 2 ^ 5 + imms * 2 ^ 10 + immr * 2 ^ 16

-- Exception generation
abbrev pub exception_word : ℕ → ℕ → ℕ
exception_word base imm = base + imm * 2 ^ 5

-- the word of an instruction: the form's base word with its operands put in
abbrev pub encode_of : AInstr → ℕ
-- ADD (immediate)
encode_of (AddImmediate d n imm shift12) = add_immediate_word 0x91000000 d n imm shift12
-- SUB (immediate)
encode_of (SubImmediate d n imm shift12) = add_immediate_word 0xD1000000 d n imm shift12
-- ADDS (immediate)
encode_of (AddsImmediate d n imm shift12) = add_immediate_word 0xB1000000 d n imm shift12
-- SUBS (immediate)
encode_of (SubsImmediate d n imm shift12) = add_immediate_word 0xF1000000 d n imm shift12
-- ADD (shifted register)
encode_of (AddRegister d n m) = three_registers_word 0x8B000000 d n m
-- SUB (shifted register)
encode_of (SubRegister d n m) = three_registers_word 0xCB000000 d n m
-- ADDS (shifted register)
encode_of (AddsRegister d n m) = three_registers_word 0xAB000000 d n m
-- SUBS (shifted register)
encode_of (SubsRegister d n m) = three_registers_word 0xEB000000 d n m
-- AND (shifted register)
encode_of (AndRegister d n m) = three_registers_word 0x8A000000 d n m
-- ORR (shifted register)
encode_of (OrrRegister d n m) = three_registers_word 0xAA000000 d n m
-- EOR (shifted register)
encode_of (EorRegister d n m) = three_registers_word 0xCA000000 d n m
-- ORN (shifted register)
encode_of (OrnRegister d n m) = three_registers_word 0xAA200000 d n m
-- UDIV
encode_of (Udiv d n m) = three_registers_word 0x9AC00800 d n m
-- SDIV
encode_of (Sdiv d n m) = three_registers_word 0x9AC00C00 d n m
-- LSLV
encode_of (Lslv d n m) = three_registers_word 0x9AC02000 d n m
-- LSRV
encode_of (Lsrv d n m) = three_registers_word 0x9AC02400 d n m
-- ASRV
encode_of (Asrv d n m) = three_registers_word 0x9AC02800 d n m
-- MADD
encode_of (Madd d n a m) = three_sources_word 0x9B000000 d n a m
-- MSUB
encode_of (Msub d n a m) = three_sources_word 0x9B008000 d n a m
-- MOVZ
encode_of (Movz d imm hw) = move_wide_word 0xD2800000 d imm hw
-- MOVK
encode_of (Movk d imm hw) = move_wide_word 0xF2800000 d imm hw
-- MOVN
encode_of (Movn d imm hw) = move_wide_word 0x92800000 d imm hw
-- ADR
encode_of (Adr d offset) = pc_relative_word 0x10000000 d offset
-- ADRP
encode_of (Adrp d offset) = pc_relative_word 0x90000000 d offset
-- LDR (immediate)
encode_of (LdrX t n offset) = one_register_word 0xF9400000 t n offset
-- STR (immediate)
encode_of (StrX t n offset) = one_register_word 0xF9000000 t n offset
-- LDR (immediate)
encode_of (LdrW t n offset) = one_register_word 0xB9400000 t n offset
-- STR (immediate)
encode_of (StrW t n offset) = one_register_word 0xB9000000 t n offset
-- LDRH (immediate)
encode_of (Ldrh t n offset) = one_register_word 0x79400000 t n offset
-- STRH (immediate)
encode_of (Strh t n offset) = one_register_word 0x79000000 t n offset
-- LDRB (immediate)
encode_of (Ldrb t n offset) = one_register_word 0x39400000 t n offset
-- STRB (immediate)
encode_of (Strb t n offset) = one_register_word 0x39000000 t n offset
-- LDRSB (immediate)
encode_of (Ldrsb t n offset) = one_register_word 0x39800000 t n offset
-- LDRSH (immediate)
encode_of (Ldrsh t n offset) = one_register_word 0x79800000 t n offset
-- LDRSW (immediate)
encode_of (Ldrsw t n offset) = one_register_word 0xB9800000 t n offset
-- STP
encode_of (Stp t n t2 offset) = register_pair_word 0xA9000000 t n t2 offset
-- LDP
encode_of (Ldp t n t2 offset) = register_pair_word 0xA9400000 t n t2 offset
-- STP
encode_of (StpPre t n t2 offset) = register_pair_word 0xA9800000 t n t2 offset
-- LDP
encode_of (LdpPost t n t2 offset) = register_pair_word 0xA8C00000 t n t2 offset
-- B
encode_of (B offset) = branch_word 0x14000000 offset
-- BL
encode_of (Bl offset) = branch_word 0x94000000 offset
-- B.cond
encode_of (BCond condition offset) = branch_if_word 0x54000000 condition offset
-- CBZ
encode_of (Cbz t offset) = compare_branch_word 0xB4000000 t offset
-- CBNZ
encode_of (Cbnz t offset) = compare_branch_word 0xB5000000 t offset
-- BR
encode_of (Br n) = branch_register_word 0xD61F0000 n
-- BLR
encode_of (Blr n) = branch_register_word 0xD63F0000 n
-- RET
encode_of (Ret n) = branch_register_word 0xD65F0000 n
-- CSINC
encode_of (Csinc d n condition m) = select_word 0x9A800400 d n condition m
-- UBFM
encode_of (Ubfm d n imms immr) = bitfield_word 0xD3400000 d n imms immr
-- SBFM
encode_of (Sbfm d n imms immr) = bitfield_word 0x93400000 d n imms immr
-- NOP
encode_of Nop = 0xD503201F
-- BRK
encode_of (Brk imm) = exception_word 0xD4200000 imm

-- each operand fits its bits
abbrev pub In_add_immediate : A64Reg → A64Reg → ℕ → Bool → Type 0
In_add_immediate d n imm shift12 = (d.0 < 2 ^ 5) × (n.0 < 2 ^ 5) × (imm < 2 ^ 12)

abbrev pub In_three_registers : A64Reg → A64Reg → A64Reg → Type 0
In_three_registers d n m = (d.0 < 2 ^ 5) × (n.0 < 2 ^ 5) × (m.0 < 2 ^ 5)

abbrev pub In_three_sources : A64Reg → A64Reg → A64Reg → A64Reg → Type 0
In_three_sources d n a m = (d.0 < 2 ^ 5) × (n.0 < 2 ^ 5) × (a.0 < 2 ^ 5) × (m.0 < 2 ^ 5)

abbrev pub In_move_wide : A64Reg → ℕ → ℕ → Type 0
In_move_wide d imm hw = (d.0 < 2 ^ 5) × (imm < 2 ^ 16) × (hw < 2 ^ 2)

abbrev pub In_pc_relative : A64Reg → ℤ → Type 0
In_pc_relative d offset = (d.0 < 2 ^ 5) × IsSigned 21 offset

abbrev pub In_one_register : A64Reg → A64Reg → ℕ → Type 0
In_one_register t n offset = (t.0 < 2 ^ 5) × (n.0 < 2 ^ 5) × (offset < 2 ^ 12)

abbrev pub In_register_pair : A64Reg → A64Reg → A64Reg → ℤ → Type 0
In_register_pair t n t2 offset = (t.0 < 2 ^ 5) × (n.0 < 2 ^ 5) × (t2.0 < 2 ^ 5) × IsSigned 7 offset

abbrev pub In_branch : ℤ → Type 0
In_branch offset = IsSigned 26 offset

abbrev pub In_branch_if : Condition → ℤ → Type 0
In_branch_if condition offset = IsSigned 19 offset

abbrev pub In_compare_branch : A64Reg → ℤ → Type 0
In_compare_branch t offset = (t.0 < 2 ^ 5) × IsSigned 19 offset

abbrev pub In_branch_register : A64Reg → Type 0
In_branch_register n = (n.0 < 2 ^ 5)

abbrev pub In_select : A64Reg → A64Reg → Condition → A64Reg → Type 0
In_select d n condition m = (d.0 < 2 ^ 5) × (n.0 < 2 ^ 5) × (m.0 < 2 ^ 5)

abbrev pub In_bitfield : A64Reg → A64Reg → ℕ → ℕ → Type 0
In_bitfield d n imms immr = (d.0 < 2 ^ 5) × (n.0 < 2 ^ 5) × (imms < 2 ^ 6) × (immr < 2 ^ 6)

abbrev pub In_exception : ℕ → Type 0
In_exception imm = (imm < 2 ^ 16)

abbrev pub InRange : AInstr → Type 0
InRange (AddImmediate d n imm shift12) = In_add_immediate d n imm shift12
InRange (SubImmediate d n imm shift12) = In_add_immediate d n imm shift12
InRange (AddsImmediate d n imm shift12) = In_add_immediate d n imm shift12
InRange (SubsImmediate d n imm shift12) = In_add_immediate d n imm shift12
InRange (AddRegister d n m) = In_three_registers d n m
InRange (SubRegister d n m) = In_three_registers d n m
InRange (AddsRegister d n m) = In_three_registers d n m
InRange (SubsRegister d n m) = In_three_registers d n m
InRange (AndRegister d n m) = In_three_registers d n m
InRange (OrrRegister d n m) = In_three_registers d n m
InRange (EorRegister d n m) = In_three_registers d n m
InRange (OrnRegister d n m) = In_three_registers d n m
InRange (Udiv d n m) = In_three_registers d n m
InRange (Sdiv d n m) = In_three_registers d n m
InRange (Lslv d n m) = In_three_registers d n m
InRange (Lsrv d n m) = In_three_registers d n m
InRange (Asrv d n m) = In_three_registers d n m
InRange (Madd d n a m) = In_three_sources d n a m
InRange (Msub d n a m) = In_three_sources d n a m
InRange (Movz d imm hw) = In_move_wide d imm hw
InRange (Movk d imm hw) = In_move_wide d imm hw
InRange (Movn d imm hw) = In_move_wide d imm hw
InRange (Adr d offset) = In_pc_relative d offset
InRange (Adrp d offset) = In_pc_relative d offset
InRange (LdrX t n offset) = In_one_register t n offset
InRange (StrX t n offset) = In_one_register t n offset
InRange (LdrW t n offset) = In_one_register t n offset
InRange (StrW t n offset) = In_one_register t n offset
InRange (Ldrh t n offset) = In_one_register t n offset
InRange (Strh t n offset) = In_one_register t n offset
InRange (Ldrb t n offset) = In_one_register t n offset
InRange (Strb t n offset) = In_one_register t n offset
InRange (Ldrsb t n offset) = In_one_register t n offset
InRange (Ldrsh t n offset) = In_one_register t n offset
InRange (Ldrsw t n offset) = In_one_register t n offset
InRange (Stp t n t2 offset) = In_register_pair t n t2 offset
InRange (Ldp t n t2 offset) = In_register_pair t n t2 offset
InRange (StpPre t n t2 offset) = In_register_pair t n t2 offset
InRange (LdpPost t n t2 offset) = In_register_pair t n t2 offset
InRange (B offset) = In_branch offset
InRange (Bl offset) = In_branch offset
InRange (BCond condition offset) = In_branch_if condition offset
InRange (Cbz t offset) = In_compare_branch t offset
InRange (Cbnz t offset) = In_compare_branch t offset
InRange (Br n) = In_branch_register n
InRange (Blr n) = In_branch_register n
InRange (Ret n) = In_branch_register n
InRange (Csinc d n condition m) = In_select d n condition m
InRange (Ubfm d n imms immr) = In_bitfield d n imms immr
InRange (Sbfm d n imms immr) = In_bitfield d n imms immr
InRange Nop = Unit {0}
InRange (Brk imm) = In_exception imm

-- writeback leaves the base defined: it is sp, or none of the two registers
abbrev pub base_apart : A64Reg → A64Reg → A64Reg → Bool
base_apart n t t2 = (n.0 == 31) || (not (n.0 == t.0) && not (n.0 == t2.0))

-- What the table leaves out: LDP of one register twice, writeback to a base that is one of the registers
-- (both CONSTRAINED UNPREDICTABLE: Arm ARM, K1.2), and a branch to the zero register.
abbrev pub is_allowed : AInstr → Bool
is_allowed (Ldp t n t2 offset) = not (t.0 == t2.0)
is_allowed (StpPre t n t2 offset) = base_apart n t t2
is_allowed (LdpPost t n t2 offset) = not (t.0 == t2.0) && base_apart n t t2
is_allowed (Br n) = not (n.0 == 31)
is_allowed (Blr n) = not (n.0 == 31)
is_allowed (Ret n) = not (n.0 == 31)
is_allowed _ = true

-- the instructions of the table
pub record Valid (i : AInstr) : Type 0 where
  pub in_range : InRange i
  pub allowed : IsTrue (is_allowed i)
