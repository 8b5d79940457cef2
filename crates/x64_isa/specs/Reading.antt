-- Reading an instruction, as a function on lists of bytes. The decoder gives its value; that it is the
-- inverse of the table is proved.
use Rattle.std.specs.Prelude.{◌≡◌, ℕ, zero, suc, ℤ, ◌+◌, ◌-◌, ◌*◌, ◌/◌, ◌%◌, List, [], ◌∷◌, length, Bool, true, false, cond, ◌==◌, ◌&&◌, nat_lt, Result, Ok, Err}
use Rattle.hx_words.specs.TwosComplement.{signed_of}
use Rattle.reg_map.specs.declared.registers.X64Reg.{X64Reg}
use Rattle.x64_isa.specs.declared.instruction.XInstr.{XInstr}
use Rattle.x64_isa.specs.declared.instruction.XInstr.TheVariants.{MovReg, MovLoad, Mov32Reg, Mov32Load, MovStore, Mov32Store, Mov16Store, Mov8Store, Movzx8Reg, Movzx8Load, Movzx16Reg, Movzx16Load, Movsx8Reg, Movsx8Load, Movsx16Reg, Movsx16Load, Movsx32Reg, Movsx32Load, MovImm64, Lea, AddReg, OrReg, AndReg, SubReg, XorReg, CmpReg, AddImm, OrImm, AndImm, SubImm, XorImm, CmpImm, TestReg, ImulReg, NotReg, NegReg, DivReg, IdivReg, Cqo, ShlCl, ShrCl, SarCl, ShlImm, ShrImm, SarImm, Setcc, Jcc, JmpRel, CallRel, CallReg, CallMem, JmpReg, JmpMem, Push, Pop, Ret, Int3, Ud2}
use Rattle.x64_isa.specs.declared.instruction.Place.{Place}
use Rattle.x64_isa.specs.declared.instruction.Place.TheVariants.{Base, Rip}
use Rattle.x64_isa.specs.declared.instruction.Operand.{Operand}
use Rattle.x64_isa.specs.declared.instruction.Operand.TheVariants.{Register, Memory}
use Rattle.x64_isa.specs.declared.instruction.XBad.{XBad}
use Rattle.x64_isa.specs.declared.instruction.XBad.TheVariants.{Short, Unknown}
use Rattle.x64_isa.specs.Fields.{register_at, condition_of, is_condition, fits8}

-- What reading gives: a value and the bytes after it, or why there is none.
abbrev pub Read : Type 0 → Type 0
Read A = List ℕ → Result (A × List ℕ) XBad

unfoldable pub done : {A : Type 0} → A → Read A
done a bytes = Ok (a, bytes)

unfoldable pub unknown : {A : Type 0} → Read A
unknown bytes = Err Unknown

unfoldable pub byte_then : {A : Type 0} → (ℕ → Read A) → Read A
byte_then f [] = Err Short
byte_then f (b ∷ bytes) = f b bytes

unfoldable pub choose : {A : Type 0} → Bool → Read A → Read A → Read A
choose b p q bytes = cond b (p bytes) (q bytes)

-- a value, and what is read behind it
abbrev pub followed : {A B : Type 0} → (A → Read B) → Result (A × List ℕ) XBad → Result (B × List ℕ) XBad
followed f (Ok x) = f x.0 x.1
followed f (Err e) = Err e

unfoldable pub bind : {A B : Type 0} → Read A → (A → Read B) → Read B
bind p f bytes = followed f (p bytes)

-- ---- operands

-- the number that the next bytes make, the lowest first
unfoldable pub number_at : ℕ → Read ℕ
number_at zero = done 0
number_at (suc n) = byte_then (λ b. bind (number_at n) (λ v. done (b + 256 * v)))

-- a signed number in the fewest bytes: one where it fits, else four
unfoldable pub near_at : Read ℤ
near_at = bind (number_at 1) (λ n. done (signed_of 8 n))

unfoldable pub far_at : Read ℤ
far_at = bind (number_at 4) (λ n. choose (fits8 (signed_of 32 n)) unknown (done (signed_of 32 n)))

unfoldable pub imm_at : Bool → Read ℤ
imm_at near = choose near near_at far_at

-- a signed number of four bytes, whatever it is
unfoldable pub imm32_at : Read ℤ
imm32_at = bind (number_at 4) (λ n. done (signed_of 32 n))

-- a count of shifts
unfoldable pub count_at : Read ℕ
count_at = byte_then (λ n. choose (nat_lt n 64) (done n) unknown)

-- a displacement beside a base, behind its byte SIB where there is one
unfoldable pub displacement_at : ℕ → Bool → Read ℤ
displacement_at l near = choose (l == 4) (byte_then (λ s. choose (s == 0x24) (imm_at near) unknown)) (imm_at near)

-- a place, where REX.B is b, the mode is known and rm is l
unfoldable pub place_at : ℕ → ℕ → ℕ → Read Place
place_at b mode l =
    choose (mode == 0) (choose ((l == 5) && (b == 0)) (bind imm32_at (λ d. done (Rip d))) unknown) (
    choose (mode == 1) (bind (displacement_at l true) (λ d. done (Base (register_at b l) d))) (
    choose (mode == 2) (bind (displacement_at l false) (λ d. done (Base (register_at b l) d))) unknown))

unfoldable pub rest_at : ℕ → ℕ → ℕ → Read Operand
rest_at b mode l = choose (mode == 3) (done (Register (register_at b l))) (bind (place_at b mode l) (λ m. done (Memory m)))

-- ModRM with a register, with a place, or with either: the field reg, and what rm names
unfoldable pub register_operand_at : ℕ → Read (ℕ × X64Reg)
register_operand_at b = byte_then (λ m. choose (m / 64 == 3) (done (m / 8 % 8, register_at b (m % 8))) unknown)

unfoldable pub memory_operand_at : ℕ → Read (ℕ × Place)
memory_operand_at b = byte_then (λ m. choose (m / 64 == 3) unknown (bind (place_at b (m / 64) (m % 8)) (λ p. done (m / 8 % 8, p))))

unfoldable pub operand_at : ℕ → Read (ℕ × Operand)
operand_at b = byte_then (λ m. bind (rest_at b (m / 64) (m % 8)) (λ o. done (m / 8 % 8, o)))

-- ---- forms, where REX.R is r and REX.B is b

abbrev pub either : {A : Type 0} → (X64Reg → A) → (Place → A) → Operand → A
either f g (Register q) = f q
either f g (Memory m) = g m

unfoldable pub register_form : ℕ → ℕ → (X64Reg → X64Reg → XInstr) → Read XInstr
register_form r b f = bind (register_operand_at b) (λ x. done (f (register_at r x.0) x.1))

unfoldable pub memory_form : ℕ → ℕ → (X64Reg → Place → XInstr) → Read XInstr
memory_form r b g = bind (memory_operand_at b) (λ x. done (g (register_at r x.0) x.1))

unfoldable pub operand_form : ℕ → ℕ → (X64Reg → X64Reg → XInstr) → (X64Reg → Place → XInstr) → Read XInstr
operand_form r b f g = bind (operand_at b) (λ x. done (either (f (register_at r x.0)) (g (register_at r x.0)) x.1))

unfoldable pub rel_form : (ℤ → XInstr) → Read XInstr
rel_form f = bind imm32_at (λ z. done (f z))

unfoldable pub imm_form : Bool → (ℤ → XInstr) → Read XInstr
imm_form near f = bind (imm_at near) (λ z. done (f z))

unfoldable pub count_form : (ℕ → XInstr) → Read XInstr
count_form f = bind count_at (λ n. done (f n))

-- ---- groups of /n

unfoldable pub imm_group_of : Bool → ℕ → X64Reg → Read XInstr
imm_group_of near n q =
    choose (n == 0) (imm_form near (λ z. AddImm q z)) (
    choose (n == 1) (imm_form near (λ z. OrImm q z)) (
    choose (n == 4) (imm_form near (λ z. AndImm q z)) (
    choose (n == 5) (imm_form near (λ z. SubImm q z)) (
    choose (n == 6) (imm_form near (λ z. XorImm q z)) (
    choose (n == 7) (imm_form near (λ z. CmpImm q z)) unknown)))))

unfoldable pub unary_group_of : ℕ → X64Reg → Read XInstr
unary_group_of n q =
    choose (n == 2) (done (NotReg q)) (
    choose (n == 3) (done (NegReg q)) (
    choose (n == 6) (done (DivReg q)) (
    choose (n == 7) (done (IdivReg q)) unknown)))

unfoldable pub cl_group_of : ℕ → X64Reg → Read XInstr
cl_group_of n q =
    choose (n == 4) (done (ShlCl q)) (
    choose (n == 5) (done (ShrCl q)) (
    choose (n == 7) (done (SarCl q)) unknown))

unfoldable pub count_group_of : ℕ → X64Reg → Read XInstr
count_group_of n q =
    choose (n == 4) (count_form (λ k. ShlImm q k)) (
    choose (n == 5) (count_form (λ k. ShrImm q k)) (
    choose (n == 7) (count_form (λ k. SarImm q k)) unknown))

-- behind FF: the number /n is tested before the place is read
unfoldable pub indirect_of : ℕ → Read XInstr
indirect_of b = byte_then (λ m.
    choose (m / 8 % 8 == 2) (bind (rest_at b (m / 64) (m % 8)) (λ o. done (either (λ q. CallReg q) (λ p. CallMem p) o))) (
    choose (m / 8 % 8 == 4) (bind (rest_at b (m / 64) (m % 8)) (λ o. done (either (λ q. JmpReg q) (λ p. JmpMem p) o))) unknown))

-- ---- opcodes behind REX with W

-- an operation of two registers: the opcode is 8n + 1
unfoldable pub arith_of : ℕ → ℕ → ℕ → Read XInstr
arith_of r b n =
    choose (n == 0) (register_form r b (λ x q. AddReg q x)) (
    choose (n == 1) (register_form r b (λ x q. OrReg q x)) (
    choose (n == 4) (register_form r b (λ x q. AndReg q x)) (
    choose (n == 5) (register_form r b (λ x q. SubReg q x)) (
    choose (n == 6) (register_form r b (λ x q. XorReg q x)) (
    choose (n == 7) (register_form r b (λ x q. CmpReg q x)) unknown)))))

-- behind 0F
unfoldable pub wide_two_of : ℕ → ℕ → Read XInstr
wide_two_of r b = byte_then (λ c.
    choose (c == 0xAF) (register_form r b (λ x q. ImulReg x q)) (
    choose (c == 0xB6) (operand_form r b (λ x q. Movzx8Reg x q) (λ x m. Movzx8Load x m)) (
    choose (c == 0xB7) (operand_form r b (λ x q. Movzx16Reg x q) (λ x m. Movzx16Load x m)) (
    choose (c == 0xBE) (operand_form r b (λ x q. Movsx8Reg x q) (λ x m. Movsx8Load x m)) (
    choose (c == 0xBF) (operand_form r b (λ x q. Movsx16Reg x q) (λ x m. Movsx16Load x m)) unknown)))))

-- where reg holds a number, or nothing: R is 0
unfoldable pub wide_group_of : ℕ → ℕ → Read XInstr
wide_group_of b c =
    choose (c == 0x83) (bind (register_operand_at b) (λ x. imm_group_of true x.0 x.1)) (
    choose (c == 0x81) (bind (register_operand_at b) (λ x. imm_group_of false x.0 x.1)) (
    choose (c == 0xF7) (bind (register_operand_at b) (λ x. unary_group_of x.0 x.1)) (
    choose (c == 0xD3) (bind (register_operand_at b) (λ x. cl_group_of x.0 x.1)) (
    choose (c == 0xC1) (bind (register_operand_at b) (λ x. count_group_of x.0 x.1)) (
    choose (c / 8 == 23) (bind (number_at 8) (λ n. done (MovImm64 (register_at b (c % 8)) n))) (
    choose ((c == 0x99) && (b == 0)) (done Cqo) unknown))))))

unfoldable pub wide_of : ℕ → ℕ → ℕ → Read XInstr
wide_of r b c =
    choose (c == 0x8B) (operand_form r b (λ x q. MovReg x q) (λ x m. MovLoad x m)) (
    choose (c == 0x89) (memory_form r b (λ x m. MovStore m x)) (
    choose (c == 0x8D) (memory_form r b (λ x m. Lea x m)) (
    choose (c == 0x0F) (wide_two_of r b) (
    choose (c == 0x63) (operand_form r b (λ x q. Movsx32Reg x q) (λ x m. Movsx32Load x m)) (
    choose (c == 0x85) (register_form r b (λ x q. TestReg q x)) (
    choose ((c % 8 == 1) && (c / 64 == 0)) (arith_of r b (c / 8)) (
    choose (r == 0) (wide_group_of b c) unknown)))))))

-- ---- opcodes with no W

-- REX only where a high bit is 1
unfoldable pub narrow_of : ℕ → ℕ → ℕ → Read XInstr
narrow_of r b c =
    choose (c == 0x8B) (operand_form r b (λ x q. Mov32Reg x q) (λ x m. Mov32Load x m)) (
    choose (c == 0x89) (memory_form r b (λ x m. Mov32Store m x)) (
    choose ((c == 0xFF) && (r == 0)) (indirect_of b) (
    choose ((c / 8 == 10) && (r == 0)) (done (Push (register_at b (c % 8)))) (
    choose ((c / 8 == 11) && (r == 0)) (done (Pop (register_at b (c % 8)))) unknown))))

-- behind REX 0F
unfoldable pub setcc_of : ℕ → Read XInstr
setcc_of b = byte_then (λ c.
    choose ((c / 16 == 9) && is_condition (c % 16))
    (byte_then (λ m. choose (m / 8 == 24) (done (Setcc (condition_of (c % 16)) (register_at b (m % 8)))) unknown)) unknown)

-- behind REX with no W: forms that always have it, and forms that need it
unfoldable pub prefixed_of : ℕ → ℕ → ℕ → Read XInstr
prefixed_of r b c =
    choose (c == 0x88) (memory_form r b (λ x m. Mov8Store m x)) (
    choose ((c == 0x0F) && (r == 0)) (setcc_of b) (
    choose ((r == 0) && (b == 0)) unknown (narrow_of r b c)))

unfoldable pub rex_of : ℕ → ℕ → ℕ → Read XInstr
rex_of w r b = byte_then (λ c. choose (w == 1) (wide_of r b c) (prefixed_of r b c))

-- behind 66: a store of 16 bits
unfoldable pub word_behind_of : ℕ → ℕ → Read XInstr
word_behind_of r b = byte_then (λ c. choose (c == 0x89) (memory_form r b (λ x m. Mov16Store m x)) unknown)

unfoldable pub word_of : Read XInstr
word_of = byte_then (λ c.
    choose (c == 0x89) (memory_form 0 0 (λ x m. Mov16Store m x)) (
    choose (c == 0x41) (word_behind_of 0 1) (
    choose (c == 0x44) (word_behind_of 1 0) (
    choose (c == 0x45) (word_behind_of 1 1) unknown))))

-- behind 0F with no REX
unfoldable pub two_of : Read XInstr
two_of = byte_then (λ c.
    choose (c == 0x0B) (done Ud2) (
    choose ((c / 16 == 8) && is_condition (c % 16)) (rel_form (λ z. Jcc (condition_of (c % 16)) z)) unknown))

unfoldable pub first_of : ℕ → Read XInstr
first_of c =
    choose (c == 0xC3) (done Ret) (
    choose (c == 0xE8) (rel_form (λ z. CallRel z)) (
    choose (c == 0xE9) (rel_form (λ z. JmpRel z)) (
    choose (c == 0x0F) two_of (
    choose (c == 0xCC) (done Int3) (
    choose (c == 0x66) word_of (
    choose ((c / 16 == 4) && (c / 2 % 2 == 0)) (rex_of (c / 8 % 2) (c / 4 % 2) (c % 2)) (narrow_of 0 0 c)))))))

-- the instruction that the bytes begin with, and the bytes after it
unfoldable pub read_of : Read XInstr
read_of = byte_then first_of

-- the instruction that the bytes begin with, and how many bytes it has
abbrev pub sized : List ℕ → Result (XInstr × List ℕ) XBad → Result (XInstr × ℕ) XBad
sized bytes (Ok x) = Ok (x.0, length bytes - length x.1)
sized bytes (Err e) = Err e

unfoldable pub decode_of : List ℕ → Result (XInstr × ℕ) XBad
decode_of bytes = sized bytes (read_of bytes)

-- what code returned, seen by view, is what reading gives
abbrev pub Gives : {X Y : Type 0} → (Y → X) → Result Y XBad → Result X XBad → Type 0
Gives view (Ok y) read = read ≡ Ok (view y)
Gives view (Err e) read = read ≡ Err e
