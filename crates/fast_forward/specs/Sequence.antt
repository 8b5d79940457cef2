-- The fast-forward sequence: sixteen bytes of x64 code before an Arm64EC function, which x64 code that looks at the
-- function's address finds, and which jump on to the function (Microsoft, "Understanding Arm64EC ABI and assembly
-- code", "Fast-Forward Sequences"). Microsoft's page shows such a sequence and fixes no bytes; these are the
-- project's own choice.
use Rattle.std.specs.Prelude.{◌≡◌, ℕ, ℤ, pos, ◌+◌, ◌-ℤ◌, List, [], ◌∷◌, ◌++◌, take}
use Rattle.hx_words.specs.TwosComplement.{IsSigned}
use Rattle.reg_map.specs.declared.registers.X64Reg.TheVariants.{Rax, Rbx, Rsp, Rbp}
use Rattle.x64_isa.specs.declared.instruction.Place.TheVariants.{Base}
use Rattle.x64_isa.specs.declared.instruction.XInstr.{XInstr}
use Rattle.x64_isa.specs.declared.instruction.XInstr.TheVariants.{MovReg, MovStore, Push, Pop, JmpRel, Int3}
use Rattle.x64_isa.specs.Fields.{imm32}
use Rattle.x64_isa.specs.Spelling.{spell_of, Valid}

-- the bytes before the distance of the jump, and those behind it
abbrev pub front : List ℕ
front = 0x48 ∷ (0x8B ∷ (0xC4 ∷ (0x48 ∷ (0x89 ∷ (0x58 ∷ (0x20 ∷ (0x55 ∷ (0x5D ∷ (0xE9 ∷ [])))))))))

abbrev pub back : List ℕ
back = 0xCC ∷ (0xCC ∷ [])

-- the sequence whose jump goes this far from its end
unfoldable pub sequence_of : ℤ → List ℕ
sequence_of z = front ++ (imm32 z ++ back)

-- the distance of the jump of a sequence that stands at one place, to another: the jump ends after 14 bytes
abbrev pub distance : ℕ → ℕ → ℤ
distance at target = pos target -ℤ pos (at + 14)

-- the first sixteen of the bytes are a sequence whose jump goes this far
unfoldable pub Jumps : List ℕ → ℤ → Type 0
Jumps bytes z = IsSigned 32 z × (take 16 bytes ≡ sequence_of z)

-- what the sequence does: mov rax,rsp; mov [rax+20h],rbx; push rbp; pop rbp; jmp; and nothing is reached behind it
abbrev pub instructions : ℤ → List XInstr
instructions z =
    MovReg Rax Rsp ∷ (MovStore (Base Rax (pos 0x20)) Rbx ∷ (Push Rbp ∷ (Pop Rbp ∷ (JmpRel z ∷ (Int3 ∷ (Int3 ∷ []))))))

-- the bytes of instructions in a row
abbrev pub spelled : List XInstr → List ℕ
spelled [] = []
spelled (i ∷ is) = spell_of i ++ spelled is

-- their operands are in their ranges
abbrev pub AllValid : List XInstr → Type 0
AllValid [] = Unit {0}
AllValid (i ∷ is) = Valid i × AllValid is
