-- The parts that an instruction's bytes are made of (Intel SDM, Vol. 2, 2.1 and 2.2.1).
use Rattle.std.specs.Prelude.{ℕ, ℤ, pos, negsuc, ◌+◌, ◌*◌, ◌/◌, ◌%◌, List, [], ◌∷◌, ◌++◌, Bool, ◌==◌, ◌||◌, nat_lt, nat_le, if◌then◌else◌}
use Rattle.hx_words.specs.LittleEndian.{bytes_of}
use Rattle.hx_words.specs.TwosComplement.{bits_of, IsSigned}
use Rattle.reg_map.specs.declared.registers.X64Reg.{X64Reg}
use Rattle.reg_map.specs.declared.registers.X64Reg.TheVariants.{Rax, Rcx, Rdx, Rbx, Rsp, Rbp, Rsi, Rdi, R8, R9, R10, R11, R12, R13, R14, R15}
use Rattle.x64_isa.specs.declared.instruction.Condition.{Condition}
use Rattle.x64_isa.specs.declared.instruction.Condition.TheVariants.{Overflow, NotOverflow, Below, AboveOrEqual, Equals, NotEquals, BelowOrEqual, Above, Sign, NotSign, LessThan, GreaterOrEqual, LessOrEqual, GreaterThan}
use Rattle.x64_isa.specs.declared.instruction.Place.{Place}
use Rattle.x64_isa.specs.declared.instruction.Place.TheVariants.{Base, Rip}
use Rattle.x64_isa.specs.declared.instruction.Operand.{Operand}
use Rattle.x64_isa.specs.declared.instruction.Operand.TheVariants.{Register, Memory}

-- the number of a register (SDM, Vol. 2, table 3-1)
unfoldable pub number_of_register : X64Reg → ℕ
number_of_register Rax = 0
number_of_register Rcx = 1
number_of_register Rdx = 2
number_of_register Rbx = 3
number_of_register Rsp = 4
number_of_register Rbp = 5
number_of_register Rsi = 6
number_of_register Rdi = 7
number_of_register R8 = 8
number_of_register R9 = 9
number_of_register R10 = 10
number_of_register R11 = 11
number_of_register R12 = 12
number_of_register R13 = 13
number_of_register R14 = 14
number_of_register R15 = 15

-- its low three bits, which stand in ModRM or in the opcode, and its high bit, which stands in REX
unfoldable pub low : X64Reg → ℕ
low r = number_of_register r % 8

unfoldable pub high : X64Reg → ℕ
high r = number_of_register r / 8

-- the register of a number below 16
unfoldable pub register_of : ℕ → X64Reg
register_of n =
    if n == 0 then Rax else
    if n == 1 then Rcx else
    if n == 2 then Rdx else
    if n == 3 then Rbx else
    if n == 4 then Rsp else
    if n == 5 then Rbp else
    if n == 6 then Rsi else
    if n == 7 then Rdi else
    if n == 8 then R8 else
    if n == 9 then R9 else
    if n == 10 then R10 else
    if n == 11 then R11 else
    if n == 12 then R12 else
    if n == 13 then R13 else
    if n == 14 then R14 else R15

-- the register of a high bit and three low bits
unfoldable pub register_at : ℕ → ℕ → X64Reg
register_at h l = register_of (8 * h + l)

-- the prefix REX: W, the high bit of reg, and the high bit of rm or of the register in the opcode
unfoldable pub rex : ℕ → ℕ → ℕ → ℕ
rex w r b = 64 + 8 * w + 4 * r + b

-- the byte ModRM: mode, reg, rm
unfoldable pub modrm : ℕ → ℕ → ℕ → ℕ
modrm mode reg rm = 64 * mode + 8 * reg + rm

-- immediates of one, four and eight bytes
abbrev pub imm8 : ℤ → List ℕ
imm8 z = bytes_of 1 (bits_of 8 z)

abbrev pub imm32 : ℤ → List ℕ
imm32 z = bytes_of 4 (bits_of 32 z)

abbrev pub imm64 : ℕ → List ℕ
imm64 n = bytes_of 8 n

-- the number is from -128 to 127
unfoldable pub fits8 : ℤ → Bool
fits8 (pos n) = nat_lt n 128
fits8 (negsuc n) = nat_lt n 128

-- the number of a condition, of four bits (SDM, Vol. 1, table B-1); 10 and 11 are not in the table
unfoldable pub number_of_condition : Condition → ℕ
number_of_condition Overflow = 0
number_of_condition NotOverflow = 1
number_of_condition Below = 2
number_of_condition AboveOrEqual = 3
number_of_condition Equals = 4
number_of_condition NotEquals = 5
number_of_condition BelowOrEqual = 6
number_of_condition Above = 7
number_of_condition Sign = 8
number_of_condition NotSign = 9
number_of_condition LessThan = 12
number_of_condition GreaterOrEqual = 13
number_of_condition LessOrEqual = 14
number_of_condition GreaterThan = 15

unfoldable pub is_condition : ℕ → Bool
is_condition n = nat_lt n 10 || nat_le 12 n

-- the condition of a number below 16 that has one
unfoldable pub condition_of : ℕ → Condition
condition_of n =
    if n == 0 then Overflow else
    if n == 1 then NotOverflow else
    if n == 2 then Below else
    if n == 3 then AboveOrEqual else
    if n == 4 then Equals else
    if n == 5 then NotEquals else
    if n == 6 then BelowOrEqual else
    if n == 7 then Above else
    if n == 8 then Sign else
    if n == 9 then NotSign else
    if n == 12 then LessThan else
    if n == 13 then GreaterOrEqual else
    if n == 14 then LessOrEqual else GreaterThan

-- what names a place in memory: the high bit of its register, the mode, the field rm, and the bytes
-- behind ModRM (SDM, Vol. 2, tables 2-2 and 2-3). RIP has mode 0 and rm 101; a base has a displacement of
-- 8 bits where it fits and else of 32; a base whose low bits are 100 takes the byte SIB 24
unfoldable pub place_high : Place → ℕ
place_high (Base base d) = high base
place_high (Rip d) = 0

unfoldable pub place_mode : Place → ℕ
place_mode (Base base d) = if fits8 d then 1 else 2
place_mode (Rip d) = 0

unfoldable pub place_rm : Place → ℕ
place_rm (Base base d) = low base
place_rm (Rip d) = 5

abbrev pub sib : ℕ → List ℕ
sib l = if l == 4 then 0x24 ∷ [] else []

unfoldable pub place_tail : Place → List ℕ
place_tail (Base base d) = sib (low base) ++ (if fits8 d then imm8 d else imm32 d)
place_tail (Rip d) = imm32 d

unfoldable pub IsPlace : Place → Type 0
IsPlace (Base base d) = IsSigned 32 d
IsPlace (Rip d) = IsSigned 32 d

-- ModRM and what follows it, for a field reg of three bits
unfoldable pub register_bytes : ℕ → X64Reg → List ℕ
register_bytes n q = modrm 3 n (low q) ∷ []

unfoldable pub place_bytes : ℕ → Place → List ℕ
place_bytes n m = modrm (place_mode m) n (place_rm m) ∷ place_tail m

abbrev pub operand_high : Operand → ℕ
operand_high (Register q) = high q
operand_high (Memory m) = place_high m

abbrev pub operand_bytes : ℕ → Operand → List ℕ
operand_bytes n (Register q) = register_bytes n q
operand_bytes n (Memory m) = place_bytes n m

abbrev pub IsOperand : Operand → Type 0
IsOperand (Register q) = Unit {0}
IsOperand (Memory m) = IsPlace m
