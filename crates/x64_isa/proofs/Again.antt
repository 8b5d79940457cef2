-- What is spelled so is read: each form, whatever follows it.
use Rattle.std.proofs.Common.{◌≡◌, ℕ, zero, suc, ℤ, ◌+◌, ◌/◌, ◌%◌, ◌^◌, ◌<◌, Bool, true, false, eqb, List, [], ◌∷◌, ◌++◌, Ok, refl, sym, ap, ◌∙◌, append_assoc, arith, lit<}
use Rattle.std.proofs.lemmas.List.{append-nil}
use Rattle.hx_words.specs.LittleEndian.{bytes_of}
use Rattle.hx_words.specs.TwosComplement.{IsSigned}
use Rattle.reg_map.specs.declared.registers.X64Reg.{X64Reg}
use Rattle.reg_map.specs.declared.registers.X64Reg.TheVariants.{Rax, Rcx, Rdx, Rbx, Rsp, Rbp, Rsi, Rdi, R8, R9, R10, R11, R12, R13, R14, R15}
use Rattle.x64_isa.specs.declared.instruction.XInstr.{XInstr}
use Rattle.x64_isa.specs.declared.instruction.XInstr.TheVariants.{MovReg, MovLoad, Mov32Reg, Mov32Load, MovStore, Mov32Store, Mov16Store, Mov8Store, Movzx8Reg, Movzx8Load, Movzx16Reg, Movzx16Load, Movsx8Reg, Movsx8Load, Movsx16Reg, Movsx16Load, Movsx32Reg, Movsx32Load, MovImm64, Lea, AddReg, OrReg, AndReg, SubReg, XorReg, CmpReg, AddImm, OrImm, AndImm, SubImm, XorImm, CmpImm, TestReg, ImulReg, NotReg, NegReg, DivReg, IdivReg, Cqo, ShlCl, ShrCl, SarCl, ShlImm, ShrImm, SarImm, Setcc, Jcc, JmpRel, CallRel, CallReg, CallMem, JmpReg, JmpMem, Push, Pop, Ret, Int3, Ud2}
use Rattle.x64_isa.specs.declared.instruction.Condition.{Condition}
use Rattle.x64_isa.specs.declared.instruction.Condition.TheVariants.{Overflow, NotOverflow, Below, AboveOrEqual, Equals, NotEquals, BelowOrEqual, Above, Sign, NotSign, LessThan, GreaterOrEqual, LessOrEqual, GreaterThan}
use Rattle.x64_isa.specs.declared.instruction.Place.{Place}
use Rattle.x64_isa.specs.declared.instruction.Operand.{Operand}
use Rattle.x64_isa.specs.declared.instruction.Operand.TheVariants.{Register, Memory}
use Rattle.x64_isa.specs.Fields.{number_of_register, number_of_condition, register_of, register_at, condition_of, is_condition, low, high, rex, modrm, imm8, imm32, imm64, fits8, place_high, IsPlace, register_bytes, place_bytes, operand_high, operand_bytes, IsOperand}
use Rattle.x64_isa.specs.Spelling.{spell_of, Valid, wide, narrow, always, rex_if_needed, arith_imm}
use Rattle.x64_isa.specs.Reading.{Read, done, unknown, byte_then, choose, followed, bind, number_at, imm_at, imm32_at, count_at, rest_at, register_operand_at, memory_operand_at, operand_at, either, register_form, memory_form, operand_form, rel_form, imm_form, count_form, imm_group_of, unary_group_of, cl_group_of, count_group_of, indirect_of, arith_of, wide_two_of, wide_group_of, wide_of, narrow_of, setcc_of, prefixed_of, rex_of, word_behind_of, word_of, two_of, first_of, read_of}
use Rattle.x64_isa.proofs.FieldLaws.{low_lt, high_lt, register_at-bits, modrm_reg, modrm_mode, modrm_rm}
use Rattle.x64_isa.proofs.Readers.{ok, map_again, number_again}
use Rattle.x64_isa.proofs.OperandLaws.{imm_bytes, imm_again, imm32_again, count_again, operand_tail, operand_mode, operand_rm, operand_parts, operand_rm_lt, place_high_lt, rest_again, register_operand_again, memory_operand_again, operand_again}
use Rattle.x64_isa.proofs.FormReaders.{wide_is, narrow_is, always_is, slash_is}

-- ---- forms

register_again : (f : X64Reg → X64Reg → XInstr) (x q : X64Reg) (rest : List ℕ) → register_form (high x) (high q) f (register_bytes (low x) q ++ rest) ≡ Ok (f x q, rest)
unfolding register_form
register_again f x q rest = map_again (register_operand_at (high q)) (λ y. f (register_at (high x) y.0) y.1) (register_bytes (low x) q ++ rest) (low x, q) rest (register_operand_again (low x) q (low_lt x) rest) ∙ ap (λ (r : X64Reg). ok (f r q, rest)) (register_at-bits x)

memory_again : (g : X64Reg → Place → XInstr) (x : X64Reg) (m : Place) → IsPlace m → (rest : List ℕ) → memory_form (high x) (place_high m) g (place_bytes (low x) m ++ rest) ≡ Ok (g x m, rest)
unfolding memory_form
memory_again g x m v rest = map_again (memory_operand_at (place_high m)) (λ y. g (register_at (high x) y.0) y.1) (place_bytes (low x) m ++ rest) (low x, m) rest (memory_operand_again (low x) m (low_lt x) v rest) ∙ ap (λ (r : X64Reg). ok (g r m, rest)) (register_at-bits x)

either_again : (f : X64Reg → X64Reg → XInstr) (g : X64Reg → Place → XInstr) (x : X64Reg) (o : Operand) → IsOperand o → (rest : List ℕ) → operand_form (high x) (operand_high o) f g (operand_bytes (low x) o ++ rest) ≡ Ok (either (f x) (g x) o, rest)
unfolding operand_form
either_again f g x o v rest = map_again (operand_at (operand_high o)) (λ y. either (f (register_at (high x) y.0)) (g (register_at (high x) y.0)) y.1) (operand_bytes (low x) o ++ rest) (low x, o) rest (operand_again (low x) o (low_lt x) v rest) ∙ ap (λ (r : X64Reg). ok (either (f r) (g r) o, rest)) (register_at-bits x)

-- ---- the first bytes

operand_high_lt : (o : Operand) → operand_high o < 2
operand_high_lt (Register q) = high_lt q
operand_high_lt (Memory m) = place_high_lt m

wide_read : (r b : ℕ) → r < 2 → b < 2 → (c : ℕ) (bytes : List ℕ) → read_of (rex 1 r b ∷ (c ∷ bytes)) ≡ wide_of r b c bytes
unfolding read_of first_of rex_of byte_then choose rex
wide_read zero zero lr lb c bytes = refl
wide_read zero (suc zero) lr lb c bytes = refl
wide_read (suc zero) zero lr lb c bytes = refl
wide_read (suc zero) (suc zero) lr lb c bytes = refl
wide_read (suc (suc r)) b lr lb c bytes = absurd (omega arith)
wide_read zero (suc (suc b)) lr lb c bytes = absurd (omega arith)
wide_read (suc zero) (suc (suc b)) lr lb c bytes = absurd (omega arith)

prefixed_read : (r b : ℕ) → r < 2 → b < 2 → (c : ℕ) (bytes : List ℕ) → read_of (rex 0 r b ∷ (c ∷ bytes)) ≡ prefixed_of r b c bytes
unfolding read_of first_of rex_of byte_then choose rex
prefixed_read zero zero lr lb c bytes = refl
prefixed_read zero (suc zero) lr lb c bytes = refl
prefixed_read (suc zero) zero lr lb c bytes = refl
prefixed_read (suc zero) (suc zero) lr lb c bytes = refl
prefixed_read (suc (suc r)) b lr lb c bytes = absurd (omega arith)
prefixed_read zero (suc (suc b)) lr lb c bytes = absurd (omega arith)
prefixed_read (suc zero) (suc (suc b)) lr lb c bytes = absurd (omega arith)

mov32_read : (r b : ℕ) → r < 2 → b < 2 → (bytes : List ℕ) → read_of (rex_if_needed r b ++ (0x8B ∷ bytes)) ≡ narrow_of r b 0x8B bytes
unfolding read_of first_of rex_of prefixed_of byte_then choose rex rex_if_needed unknown
mov32_read zero zero lr lb bytes = refl
mov32_read zero (suc zero) lr lb bytes = refl
mov32_read (suc zero) zero lr lb bytes = refl
mov32_read (suc zero) (suc zero) lr lb bytes = refl
mov32_read (suc (suc r)) b lr lb bytes = absurd (omega arith)
mov32_read zero (suc (suc b)) lr lb bytes = absurd (omega arith)
mov32_read (suc zero) (suc (suc b)) lr lb bytes = absurd (omega arith)

store32_read : (r b : ℕ) → r < 2 → b < 2 → (bytes : List ℕ) → read_of (rex_if_needed r b ++ (0x89 ∷ bytes)) ≡ narrow_of r b 0x89 bytes
unfolding read_of first_of rex_of prefixed_of byte_then choose rex rex_if_needed unknown
store32_read zero zero lr lb bytes = refl
store32_read zero (suc zero) lr lb bytes = refl
store32_read (suc zero) zero lr lb bytes = refl
store32_read (suc zero) (suc zero) lr lb bytes = refl
store32_read (suc (suc r)) b lr lb bytes = absurd (omega arith)
store32_read zero (suc (suc b)) lr lb bytes = absurd (omega arith)
store32_read (suc zero) (suc (suc b)) lr lb bytes = absurd (omega arith)

store16_read : (r b : ℕ) → r < 2 → b < 2 → (bytes : List ℕ) → read_of (0x66 ∷ (rex_if_needed r b ++ (0x89 ∷ bytes))) ≡ memory_form r b (λ x m. Mov16Store m x) bytes
unfolding read_of first_of word_of word_behind_of byte_then choose rex rex_if_needed
store16_read zero zero lr lb bytes = refl
store16_read zero (suc zero) lr lb bytes = refl
store16_read (suc zero) zero lr lb bytes = refl
store16_read (suc zero) (suc zero) lr lb bytes = refl
store16_read (suc (suc r)) b lr lb bytes = absurd (omega arith)
store16_read zero (suc (suc b)) lr lb bytes = absurd (omega arith)
store16_read (suc zero) (suc (suc b)) lr lb bytes = absurd (omega arith)

indirect_read : (b : ℕ) → b < 2 → (bytes : List ℕ) → read_of (rex_if_needed 0 b ++ (0xFF ∷ bytes)) ≡ indirect_of b bytes
unfolding read_of first_of rex_of prefixed_of narrow_of byte_then choose rex rex_if_needed unknown
indirect_read zero lb bytes = refl
indirect_read (suc zero) lb bytes = refl
indirect_read (suc (suc b)) lb bytes = absurd (omega arith)

-- a form behind REX.W and one opcode byte, or two
wide_again : (c : ℕ) (x : X64Reg) (o : Operand) (i : XInstr) (rest : List ℕ) → wide_of (high x) (operand_high o) c (operand_bytes (low x) o ++ rest) ≡ Ok (i, rest) → read_of (wide (c ∷ []) (number_of_register x) o ++ rest) ≡ Ok (i, rest)
wide_again c x o i rest e =
    ap (λ (l : List ℕ). read_of (l ++ rest)) (wide_is (c ∷ []) x o (high x) (operand_high o) refl refl)
    ∙ wide_read (high x) (operand_high o) (high_lt x) (operand_high_lt o) c (operand_bytes (low x) o ++ rest) ∙ e

wide_two_again : (c : ℕ) (x : X64Reg) (o : Operand) (i : XInstr) (rest : List ℕ) → wide_two_of (high x) (operand_high o) (c ∷ (operand_bytes (low x) o ++ rest)) ≡ Ok (i, rest) → read_of (wide (0x0F ∷ (c ∷ [])) (number_of_register x) o ++ rest) ≡ Ok (i, rest)
unfolding wide_of choose
wide_two_again c x o i rest e =
    ap (λ (l : List ℕ). read_of (l ++ rest)) (wide_is (0x0F ∷ (c ∷ [])) x o (high x) (operand_high o) refl refl)
    ∙ wide_read (high x) (operand_high o) (high_lt x) (operand_high_lt o) 0x0F (c ∷ (operand_bytes (low x) o ++ rest)) ∙ e

-- a number /n in reg, and bytes behind ModRM
slash_again : (c n : ℕ) (q : X64Reg) (tail : List ℕ) (i : XInstr) (rest : List ℕ) → n < 8 → wide_of 0 (high q) c ((register_bytes n q ++ tail) ++ rest) ≡ Ok (i, rest) → read_of ((wide (c ∷ []) n (Register q) ++ tail) ++ rest) ≡ Ok (i, rest)
slash_again c n q tail i rest h e =
    ap (λ (l : List ℕ). read_of ((l ++ tail) ++ rest)) (slash_is (c ∷ []) n (Register q) (high q) h refl)
    ∙ wide_read 0 (high q) (lit< tt) (high_lt q) c ((register_bytes n q ++ tail) ++ rest) ∙ e

group_again : (g : ℕ → X64Reg → Read XInstr) (n : ℕ) (q : X64Reg) (tail rest : List ℕ) (i : XInstr) → n < 8 → g n q (tail ++ rest) ≡ Ok (i, rest) → bind (register_operand_at (high q)) (λ x. g x.0 x.1) ((register_bytes n q ++ tail) ++ rest) ≡ Ok (i, rest)
unfolding bind
group_again g n q tail rest i h e =
    ap (λ (l : List ℕ). followed (λ x. g x.0 x.1) (register_operand_at (high q) l)) (append_assoc (register_bytes n q) tail rest)
    ∙ ap (followed (λ x. g x.0 x.1)) (register_operand_again n q h (tail ++ rest)) ∙ e

-- the same with no bytes behind
no_tail : (c n : ℕ) (q : X64Reg) (i : XInstr) (rest : List ℕ) → read_of ((wide (c ∷ []) n (Register q) ++ []) ++ rest) ≡ Ok (i, rest) → read_of (wide (c ∷ []) n (Register q) ++ rest) ≡ Ok (i, rest)
no_tail c n q i rest e = ap (λ (l : List ℕ). read_of (l ++ rest)) (sym (append-nil (wide (c ∷ []) n (Register q)))) ∙ e

unary_again : (n : ℕ) (q : X64Reg) (i : XInstr) (rest : List ℕ) → n < 8 → unary_group_of n q rest ≡ Ok (i, rest) → read_of (wide (0xF7 ∷ []) n (Register q) ++ rest) ≡ Ok (i, rest)
unfolding wide_of wide_group_of choose
unary_again n q i rest h e = no_tail 0xF7 n q i rest (slash_again 0xF7 n q [] i rest h (group_again (λ k p. unary_group_of k p) n q [] rest i h e))

cl_again : (n : ℕ) (q : X64Reg) (i : XInstr) (rest : List ℕ) → n < 8 → cl_group_of n q rest ≡ Ok (i, rest) → read_of (wide (0xD3 ∷ []) n (Register q) ++ rest) ≡ Ok (i, rest)
unfolding wide_of wide_group_of choose
cl_again n q i rest h e = no_tail 0xD3 n q i rest (slash_again 0xD3 n q [] i rest h (group_again (λ k p. cl_group_of k p) n q [] rest i h e))

shift_again : (n : ℕ) (q : X64Reg) (k : ℕ) (i : XInstr) (rest : List ℕ) → n < 8 → count_group_of n q (bytes_of 1 k ++ rest) ≡ Ok (i, rest) → read_of ((wide (0xC1 ∷ []) n (Register q) ++ bytes_of 1 k) ++ rest) ≡ Ok (i, rest)
unfolding wide_of wide_group_of choose
shift_again n q k i rest h e = slash_again 0xC1 n q (bytes_of 1 k) i rest h (group_again (λ j p. count_group_of j p) n q (bytes_of 1 k) rest i h e)

arith_imm_again : (near : Bool) (n : ℕ) (q : X64Reg) (z : ℤ) (i : XInstr) (rest : List ℕ) → n < 8 → fits8 z ≡ near → imm_group_of near n q (imm_bytes near z ++ rest) ≡ Ok (i, rest) → read_of (arith_imm n q z ++ rest) ≡ Ok (i, rest)
unfolding arith_imm wide_of wide_group_of choose
arith_imm_again true n q z i rest h near e = rw near (slash_again 0x83 n q (imm8 z) i rest h (group_again (λ j p. imm_group_of true j p) n q (imm8 z) rest i h e))
arith_imm_again false n q z i rest h near e = rw near (slash_again 0x81 n q (imm32 z) i rest h (group_again (λ j p. imm_group_of false j p) n q (imm32 z) rest i h e))

imm_again_form : (near : Bool) (f : ℤ → XInstr) (z : ℤ) (rest : List ℕ) → IsSigned 32 z → fits8 z ≡ near → imm_form near f (imm_bytes near z ++ rest) ≡ Ok (f z, rest)
unfolding imm_form
imm_again_form near f z rest v e = map_again (imm_at near) f (imm_bytes near z ++ rest) z rest (imm_again near z (v, e) rest)

count_again_form : (f : ℕ → XInstr) (k : ℕ) (rest : List ℕ) → k < 64 → count_form f (bytes_of 1 k ++ rest) ≡ Ok (f k, rest)
unfolding count_form
count_again_form f k rest v = map_again count_at f (bytes_of 1 k ++ rest) k rest (count_again k v rest)

rel_again : (f : ℤ → XInstr) (z : ℤ) (rest : List ℕ) → IsSigned 32 z → rel_form f (imm32 z ++ rest) ≡ Ok (f z, rest)
unfolding rel_form
rel_again f z rest v = map_again imm32_at f (imm32 z ++ rest) z rest (imm32_again z v rest)

-- FF /n
indirect_again : (n : ℕ) (o : Operand) (i : XInstr) (rest : List ℕ) → n < 8 → indirect_of (operand_high o) (operand_bytes n o ++ rest) ≡ Ok (i, rest) → read_of (narrow (0xFF ∷ []) n o ++ rest) ≡ Ok (i, rest)
unfolding narrow
indirect_again n o i rest h e =
    let hi : n / 8 ≡ 0 = omega arith in
    let lo : n % 8 ≡ n = omega arith in
    rw (hi, lo, append_assoc (rex_if_needed 0 (operand_high o)) (0xFF ∷ operand_bytes n o) rest) (indirect_read (operand_high o) (operand_high_lt o) (operand_bytes n o ++ rest) ∙ e)

rest_form_again : (f : X64Reg → XInstr) (g : Place → XInstr) (o : Operand) → IsOperand o → (rest : List ℕ) → bind (rest_at (operand_high o) (operand_mode o) (operand_rm o)) (λ p. done (either f g p)) (operand_tail o ++ rest) ≡ Ok (either f g o, rest)
rest_form_again f g o v rest = map_again (rest_at (operand_high o) (operand_mode o) (operand_rm o)) (λ p. either f g p) (operand_tail o ++ rest) o rest (rest_again o v rest)

operand_mode_fits : (n : ℕ) (o : Operand) → n < 8 → modrm (operand_mode o) n (operand_rm o) / 64 ≡ operand_mode o
operand_mode_fits n o h = modrm_mode (operand_mode o) n (operand_rm o) h (operand_rm_lt o)

call_again : (o : Operand) → IsOperand o → (rest : List ℕ) → indirect_of (operand_high o) (operand_bytes 2 o ++ rest) ≡ Ok (either (λ q. CallReg q) (λ m. CallMem m) o, rest)
unfolding indirect_of byte_then choose
call_again o v rest =
    let lr = operand_rm_lt o in
    rw (operand_parts 2 o, modrm_reg (operand_mode o) 2 (operand_rm o) (lit< tt) lr, modrm_mode (operand_mode o) 2 (operand_rm o) (lit< tt) lr, modrm_rm (operand_mode o) 2 (operand_rm o) (lit< tt) lr)
    (rest_form_again (λ q. CallReg q) (λ m. CallMem m) o v rest)

jmp_again : (o : Operand) → IsOperand o → (rest : List ℕ) → indirect_of (operand_high o) (operand_bytes 4 o ++ rest) ≡ Ok (either (λ q. JmpReg q) (λ m. JmpMem m) o, rest)
unfolding indirect_of byte_then choose
jmp_again o v rest =
    let lr = operand_rm_lt o in
    rw (operand_parts 4 o, modrm_reg (operand_mode o) 4 (operand_rm o) (lit< tt) lr, modrm_mode (operand_mode o) 4 (operand_rm o) (lit< tt) lr, modrm_rm (operand_mode o) 4 (operand_rm o) (lit< tt) lr)
    (rest_form_again (λ q. JmpReg q) (λ m. JmpMem m) o v rest)

-- a register in the opcode
push_again : (r : X64Reg) (rest : List ℕ) → read_of (spell_of (Push r) ++ rest) ≡ Ok (Push r, rest)
unfolding spell_of read_of first_of rex_of prefixed_of narrow_of byte_then choose done unknown rex rex_if_needed high low number_of_register register_at register_of
push_again Rax rest = refl
push_again Rcx rest = refl
push_again Rdx rest = refl
push_again Rbx rest = refl
push_again Rsp rest = refl
push_again Rbp rest = refl
push_again Rsi rest = refl
push_again Rdi rest = refl
push_again R8 rest = refl
push_again R9 rest = refl
push_again R10 rest = refl
push_again R11 rest = refl
push_again R12 rest = refl
push_again R13 rest = refl
push_again R14 rest = refl
push_again R15 rest = refl

pop_again : (r : X64Reg) (rest : List ℕ) → read_of (spell_of (Pop r) ++ rest) ≡ Ok (Pop r, rest)
unfolding spell_of read_of first_of rex_of prefixed_of narrow_of byte_then choose done unknown rex rex_if_needed high low number_of_register register_at register_of
pop_again Rax rest = refl
pop_again Rcx rest = refl
pop_again Rdx rest = refl
pop_again Rbx rest = refl
pop_again Rsp rest = refl
pop_again Rbp rest = refl
pop_again Rsi rest = refl
pop_again Rdi rest = refl
pop_again R8 rest = refl
pop_again R9 rest = refl
pop_again R10 rest = refl
pop_again R11 rest = refl
pop_again R12 rest = refl
pop_again R13 rest = refl
pop_again R14 rest = refl
pop_again R15 rest = refl

imm64_read : (r : X64Reg) (bytes : List ℕ) → wide_of 0 (high r) (0xB8 + low r) bytes ≡ bind (number_at 8) (λ n. done (MovImm64 r n)) bytes
unfolding wide_of wide_group_of choose high low number_of_register register_at register_of
imm64_read Rax bytes = refl
imm64_read Rcx bytes = refl
imm64_read Rdx bytes = refl
imm64_read Rbx bytes = refl
imm64_read Rsp bytes = refl
imm64_read Rbp bytes = refl
imm64_read Rsi bytes = refl
imm64_read Rdi bytes = refl
imm64_read R8 bytes = refl
imm64_read R9 bytes = refl
imm64_read R10 bytes = refl
imm64_read R11 bytes = refl
imm64_read R12 bytes = refl
imm64_read R13 bytes = refl
imm64_read R14 bytes = refl
imm64_read R15 bytes = refl

imm64_again : (r : X64Reg) (n : ℕ) (rest : List ℕ) → n < 2 ^ 64 → read_of (spell_of (MovImm64 r n) ++ rest) ≡ Ok (MovImm64 r n, rest)
unfolding spell_of
imm64_again r n rest h = wide_read 0 (high r) (lit< tt) (high_lt r) (0xB8 + low r) (imm64 n ++ rest) ∙ imm64_read r (imm64 n ++ rest) ∙ map_again (number_at 8) (λ k. MovImm64 r k) (imm64 n ++ rest) n rest (number_again 8 n rest h)

-- a condition in the opcode
jcc_read : (c : Condition) (bytes : List ℕ) → read_of (0x0F ∷ ((0x80 + number_of_condition c) ∷ bytes)) ≡ rel_form (λ z. Jcc c z) bytes
unfolding read_of first_of two_of byte_then choose number_of_condition condition_of is_condition
jcc_read Overflow bytes = refl
jcc_read NotOverflow bytes = refl
jcc_read Below bytes = refl
jcc_read AboveOrEqual bytes = refl
jcc_read Equals bytes = refl
jcc_read NotEquals bytes = refl
jcc_read BelowOrEqual bytes = refl
jcc_read Above bytes = refl
jcc_read Sign bytes = refl
jcc_read NotSign bytes = refl
jcc_read LessThan bytes = refl
jcc_read GreaterOrEqual bytes = refl
jcc_read LessOrEqual bytes = refl
jcc_read GreaterThan bytes = refl

setcc_read : (b : ℕ) (c : Condition) (m : ℕ) (bytes : List ℕ) → setcc_of b ((0x90 + number_of_condition c) ∷ (m ∷ bytes)) ≡ choose (eqb (m / 8) 24) (done (Setcc c (register_at b (m % 8)))) unknown bytes
unfolding setcc_of byte_then choose number_of_condition condition_of is_condition
setcc_read b Overflow m bytes = refl
setcc_read b NotOverflow m bytes = refl
setcc_read b Below m bytes = refl
setcc_read b AboveOrEqual m bytes = refl
setcc_read b Equals m bytes = refl
setcc_read b NotEquals m bytes = refl
setcc_read b BelowOrEqual m bytes = refl
setcc_read b Above m bytes = refl
setcc_read b Sign m bytes = refl
setcc_read b NotSign m bytes = refl
setcc_read b LessThan m bytes = refl
setcc_read b GreaterOrEqual m bytes = refl
setcc_read b LessOrEqual m bytes = refl
setcc_read b GreaterThan m bytes = refl

setcc_mode : (l : ℕ) → l < 8 → modrm 3 0 l / 8 ≡ 24
unfolding modrm
setcc_mode l h = omega arith

setcc_behind : (b : ℕ) (bytes : List ℕ) → prefixed_of 0 b 0x0F bytes ≡ setcc_of b bytes
unfolding prefixed_of choose
setcc_behind b bytes = refl

setcc_again : (c : Condition) (q : X64Reg) (rest : List ℕ) → read_of (always (0x0F ∷ ((0x90 + number_of_condition c) ∷ [])) 0 (Register q) ++ rest) ≡ Ok (Setcc c q, rest)
unfolding always register_bytes choose done
setcc_again c q rest =
    prefixed_read 0 (high q) (lit< tt) (high_lt q) 0x0F ((0x90 + number_of_condition c) ∷ (modrm 3 0 (low q) ∷ rest))
    ∙ setcc_behind (high q) ((0x90 + number_of_condition c) ∷ (modrm 3 0 (low q) ∷ rest))
    ∙ setcc_read (high q) c (modrm 3 0 (low q)) rest
    ∙ rw (setcc_mode (low q) (low_lt q), modrm_rm 3 0 (low q) (lit< tt) (low_lt q), register_at-bits q) refl

-- other columns of REX
narrow_front : (o : List ℕ) (x : X64Reg) (p : Operand) (rest : List ℕ) → narrow o (number_of_register x) p ++ rest ≡ rex_if_needed (high x) (operand_high p) ++ (o ++ (operand_bytes (low x) p ++ rest))
narrow_front o x p rest = ap (λ (l : List ℕ). l ++ rest) (narrow_is o x p (high x) (operand_high p) refl refl) ∙ append_assoc (rex_if_needed (high x) (operand_high p) ++ o) (operand_bytes (low x) p) rest ∙ append_assoc (rex_if_needed (high x) (operand_high p)) o (operand_bytes (low x) p ++ rest)

mov32_again : (x : X64Reg) (p : Operand) (i : XInstr) (rest : List ℕ) → narrow_of (high x) (operand_high p) 0x8B (operand_bytes (low x) p ++ rest) ≡ Ok (i, rest) → read_of (narrow (0x8B ∷ []) (number_of_register x) p ++ rest) ≡ Ok (i, rest)
mov32_again x p i rest e = ap read_of (narrow_front (0x8B ∷ []) x p rest) ∙ mov32_read (high x) (operand_high p) (high_lt x) (operand_high_lt p) (operand_bytes (low x) p ++ rest) ∙ e

store32_again : (x : X64Reg) (p : Operand) (i : XInstr) (rest : List ℕ) → narrow_of (high x) (operand_high p) 0x89 (operand_bytes (low x) p ++ rest) ≡ Ok (i, rest) → read_of (narrow (0x89 ∷ []) (number_of_register x) p ++ rest) ≡ Ok (i, rest)
store32_again x p i rest e = ap read_of (narrow_front (0x89 ∷ []) x p rest) ∙ store32_read (high x) (operand_high p) (high_lt x) (operand_high_lt p) (operand_bytes (low x) p ++ rest) ∙ e

store16_again : (x : X64Reg) (m : Place) → IsPlace m → (rest : List ℕ) → read_of ((0x66 ∷ narrow (0x89 ∷ []) (number_of_register x) (Memory m)) ++ rest) ≡ Ok (Mov16Store m x, rest)
store16_again x m v rest = ap (λ (l : List ℕ). read_of (0x66 ∷ l)) (narrow_front (0x89 ∷ []) x (Memory m) rest) ∙ store16_read (high x) (place_high m) (high_lt x) (place_high_lt m) (place_bytes (low x) m ++ rest) ∙ memory_again (λ r p. Mov16Store p r) x m v rest

store8_again : (x : X64Reg) (m : Place) → IsPlace m → (rest : List ℕ) → read_of (always (0x88 ∷ []) (number_of_register x) (Memory m) ++ rest) ≡ Ok (Mov8Store m x, rest)
unfolding prefixed_of choose
store8_again x m v rest =
    ap (λ (l : List ℕ). read_of (l ++ rest)) (always_is (0x88 ∷ []) x (Memory m) (high x) (place_high m) refl refl)
    ∙ prefixed_read (high x) (place_high m) (high_lt x) (place_high_lt m) 0x88 (place_bytes (low x) m ++ rest)
    ∙ memory_again (λ r p. Mov8Store p r) x m v rest

cqo_again : (rest : List ℕ) → read_of (rex 1 0 0 ∷ (0x99 ∷ rest)) ≡ Ok (Cqo, rest)
unfolding wide_of wide_group_of choose done
cqo_again rest = wide_read 0 0 (lit< tt) (lit< tt) 0x99 rest

plain_again : (i : XInstr) (c : ℕ) (bytes rest : List ℕ) → first_of c bytes ≡ Ok (i, rest) → read_of (c ∷ bytes) ≡ Ok (i, rest)
unfolding read_of byte_then
plain_again i c bytes rest e = e

-- ---- the whole table

pub read_of-again : (i : XInstr) (rest : List ℕ) → Valid i → read_of (spell_of i ++ rest) ≡ Ok (i, rest)
unfolding spell_of Valid wide_of wide_two_of arith_of narrow_of unary_group_of cl_group_of count_group_of imm_group_of first_of two_of byte_then choose done
read_of-again (MovReg r q) rest v = wide_again 0x8B r (Register q) (MovReg r q) rest (either_again (λ x p. MovReg x p) (λ x p. MovLoad x p) r (Register q) tt rest)
read_of-again (MovLoad r m) rest v = wide_again 0x8B r (Memory m) (MovLoad r m) rest (either_again (λ x p. MovReg x p) (λ x p. MovLoad x p) r (Memory m) v rest)
read_of-again (Mov32Reg r q) rest v = mov32_again r (Register q) (Mov32Reg r q) rest (either_again (λ x p. Mov32Reg x p) (λ x p. Mov32Load x p) r (Register q) tt rest)
read_of-again (Mov32Load r m) rest v = mov32_again r (Memory m) (Mov32Load r m) rest (either_again (λ x p. Mov32Reg x p) (λ x p. Mov32Load x p) r (Memory m) v rest)
read_of-again (MovStore m r) rest v = wide_again 0x89 r (Memory m) (MovStore m r) rest (memory_again (λ x p. MovStore p x) r m v rest)
read_of-again (Mov32Store m r) rest v = store32_again r (Memory m) (Mov32Store m r) rest (memory_again (λ x p. Mov32Store p x) r m v rest)
read_of-again (Mov16Store m r) rest v = store16_again r m v rest
read_of-again (Mov8Store m r) rest v = store8_again r m v rest
read_of-again (Movzx8Reg r q) rest v = wide_two_again 0xB6 r (Register q) (Movzx8Reg r q) rest (either_again (λ x p. Movzx8Reg x p) (λ x p. Movzx8Load x p) r (Register q) tt rest)
read_of-again (Movzx8Load r m) rest v = wide_two_again 0xB6 r (Memory m) (Movzx8Load r m) rest (either_again (λ x p. Movzx8Reg x p) (λ x p. Movzx8Load x p) r (Memory m) v rest)
read_of-again (Movzx16Reg r q) rest v = wide_two_again 0xB7 r (Register q) (Movzx16Reg r q) rest (either_again (λ x p. Movzx16Reg x p) (λ x p. Movzx16Load x p) r (Register q) tt rest)
read_of-again (Movzx16Load r m) rest v = wide_two_again 0xB7 r (Memory m) (Movzx16Load r m) rest (either_again (λ x p. Movzx16Reg x p) (λ x p. Movzx16Load x p) r (Memory m) v rest)
read_of-again (Movsx8Reg r q) rest v = wide_two_again 0xBE r (Register q) (Movsx8Reg r q) rest (either_again (λ x p. Movsx8Reg x p) (λ x p. Movsx8Load x p) r (Register q) tt rest)
read_of-again (Movsx8Load r m) rest v = wide_two_again 0xBE r (Memory m) (Movsx8Load r m) rest (either_again (λ x p. Movsx8Reg x p) (λ x p. Movsx8Load x p) r (Memory m) v rest)
read_of-again (Movsx16Reg r q) rest v = wide_two_again 0xBF r (Register q) (Movsx16Reg r q) rest (either_again (λ x p. Movsx16Reg x p) (λ x p. Movsx16Load x p) r (Register q) tt rest)
read_of-again (Movsx16Load r m) rest v = wide_two_again 0xBF r (Memory m) (Movsx16Load r m) rest (either_again (λ x p. Movsx16Reg x p) (λ x p. Movsx16Load x p) r (Memory m) v rest)
read_of-again (Movsx32Reg r q) rest v = wide_again 0x63 r (Register q) (Movsx32Reg r q) rest (either_again (λ x p. Movsx32Reg x p) (λ x p. Movsx32Load x p) r (Register q) tt rest)
read_of-again (Movsx32Load r m) rest v = wide_again 0x63 r (Memory m) (Movsx32Load r m) rest (either_again (λ x p. Movsx32Reg x p) (λ x p. Movsx32Load x p) r (Memory m) v rest)
read_of-again (MovImm64 r imm) rest v = imm64_again r imm rest v
read_of-again (Lea r m) rest v = wide_again 0x8D r (Memory m) (Lea r m) rest (memory_again (λ x p. Lea x p) r m v rest)
read_of-again (AddReg q r) rest v = wide_again 0x01 r (Register q) (AddReg q r) rest (register_again (λ x p. AddReg p x) r q rest)
read_of-again (OrReg q r) rest v = wide_again 0x09 r (Register q) (OrReg q r) rest (register_again (λ x p. OrReg p x) r q rest)
read_of-again (AndReg q r) rest v = wide_again 0x21 r (Register q) (AndReg q r) rest (register_again (λ x p. AndReg p x) r q rest)
read_of-again (SubReg q r) rest v = wide_again 0x29 r (Register q) (SubReg q r) rest (register_again (λ x p. SubReg p x) r q rest)
read_of-again (XorReg q r) rest v = wide_again 0x31 r (Register q) (XorReg q r) rest (register_again (λ x p. XorReg p x) r q rest)
read_of-again (CmpReg q r) rest v = wide_again 0x39 r (Register q) (CmpReg q r) rest (register_again (λ x p. CmpReg p x) r q rest)
read_of-again (AddImm q imm) rest v = arith_imm_again (fits8 imm) 0 q imm (AddImm q imm) rest (lit< tt) refl (imm_again_form (fits8 imm) (λ z. AddImm q z) imm rest v refl)
read_of-again (OrImm q imm) rest v = arith_imm_again (fits8 imm) 1 q imm (OrImm q imm) rest (lit< tt) refl (imm_again_form (fits8 imm) (λ z. OrImm q z) imm rest v refl)
read_of-again (AndImm q imm) rest v = arith_imm_again (fits8 imm) 4 q imm (AndImm q imm) rest (lit< tt) refl (imm_again_form (fits8 imm) (λ z. AndImm q z) imm rest v refl)
read_of-again (SubImm q imm) rest v = arith_imm_again (fits8 imm) 5 q imm (SubImm q imm) rest (lit< tt) refl (imm_again_form (fits8 imm) (λ z. SubImm q z) imm rest v refl)
read_of-again (XorImm q imm) rest v = arith_imm_again (fits8 imm) 6 q imm (XorImm q imm) rest (lit< tt) refl (imm_again_form (fits8 imm) (λ z. XorImm q z) imm rest v refl)
read_of-again (CmpImm q imm) rest v = arith_imm_again (fits8 imm) 7 q imm (CmpImm q imm) rest (lit< tt) refl (imm_again_form (fits8 imm) (λ z. CmpImm q z) imm rest v refl)
read_of-again (TestReg q r) rest v = wide_again 0x85 r (Register q) (TestReg q r) rest (register_again (λ x p. TestReg p x) r q rest)
read_of-again (ImulReg r q) rest v = wide_two_again 0xAF r (Register q) (ImulReg r q) rest (register_again (λ x p. ImulReg x p) r q rest)
read_of-again (NotReg q) rest v = unary_again 2 q (NotReg q) rest (lit< tt) refl
read_of-again (NegReg q) rest v = unary_again 3 q (NegReg q) rest (lit< tt) refl
read_of-again (DivReg q) rest v = unary_again 6 q (DivReg q) rest (lit< tt) refl
read_of-again (IdivReg q) rest v = unary_again 7 q (IdivReg q) rest (lit< tt) refl
read_of-again Cqo rest v = cqo_again rest
read_of-again (ShlCl q) rest v = cl_again 4 q (ShlCl q) rest (lit< tt) refl
read_of-again (ShrCl q) rest v = cl_again 5 q (ShrCl q) rest (lit< tt) refl
read_of-again (SarCl q) rest v = cl_again 7 q (SarCl q) rest (lit< tt) refl
read_of-again (ShlImm q imm) rest v = shift_again 4 q imm (ShlImm q imm) rest (lit< tt) (count_again_form (λ z. ShlImm q z) imm rest v)
read_of-again (ShrImm q imm) rest v = shift_again 5 q imm (ShrImm q imm) rest (lit< tt) (count_again_form (λ z. ShrImm q z) imm rest v)
read_of-again (SarImm q imm) rest v = shift_again 7 q imm (SarImm q imm) rest (lit< tt) (count_again_form (λ z. SarImm q z) imm rest v)
read_of-again (Setcc c q) rest v = setcc_again c q rest
read_of-again (Jcc c rel) rest v = jcc_read c (imm32 rel ++ rest) ∙ rel_again (λ z. Jcc c z) rel rest v
read_of-again (JmpRel rel) rest v = plain_again (JmpRel rel) 0xE9 (imm32 rel ++ rest) rest (rel_again (λ z. JmpRel z) rel rest v)
read_of-again (CallRel rel) rest v = plain_again (CallRel rel) 0xE8 (imm32 rel ++ rest) rest (rel_again (λ z. CallRel z) rel rest v)
read_of-again (CallReg q) rest v = indirect_again 2 (Register q) (CallReg q) rest (lit< tt) (call_again (Register q) tt rest)
read_of-again (CallMem m) rest v = indirect_again 2 (Memory m) (CallMem m) rest (lit< tt) (call_again (Memory m) v rest)
read_of-again (JmpReg q) rest v = indirect_again 4 (Register q) (JmpReg q) rest (lit< tt) (jmp_again (Register q) tt rest)
read_of-again (JmpMem m) rest v = indirect_again 4 (Memory m) (JmpMem m) rest (lit< tt) (jmp_again (Memory m) v rest)
read_of-again (Push r) rest v = push_again r rest
read_of-again (Pop r) rest v = pop_again r rest
read_of-again Ret rest v = plain_again Ret 0xC3 rest rest refl
read_of-again Int3 rest v = plain_again Int3 0xCC rest rest refl
read_of-again Ud2 rest v = plain_again Ud2 0x0F (0x0B ∷ rest) rest refl
