-- What is read is spelled so: the readers of forms.
use Rattle.std.proofs.Common.{◌≡◌, ℕ, zero, suc, ℤ, ◌+◌, ◌*◌, ◌/◌, ◌%◌, ◌<◌, Bool, true, false, cond, eqb, ◌&&◌, List, [], ◌∷◌, ◌++◌, Err, refl, sym, ap, ap₂, subst, ◌∙◌, append_assoc, arith, lit<}
use Rattle.std.proofs.lemmas.Bool.{eqb-true, ne_eqb, and_parts}
use Rattle.hx_words.specs.LittleEndian.{bytes_of, AreBytes}
use Rattle.hx_words.specs.TwosComplement.{IsSigned}
use Rattle.reg_map.specs.declared.registers.X64Reg.{X64Reg}
use Rattle.x64_isa.specs.declared.instruction.XBad.TheVariants.{Short, Unknown}
use Rattle.x64_isa.specs.declared.instruction.XInstr.{XInstr}
use Rattle.x64_isa.specs.declared.instruction.XInstr.TheVariants.{MovReg, MovLoad, Mov32Reg, Mov32Load, MovStore, Mov32Store, Mov16Store, Mov8Store, Movzx8Reg, Movzx8Load, Movzx16Reg, Movzx16Load, Movsx8Reg, Movsx8Load, Movsx16Reg, Movsx16Load, Movsx32Reg, Movsx32Load, MovImm64, Lea, AddReg, OrReg, AndReg, SubReg, XorReg, CmpReg, AddImm, OrImm, AndImm, SubImm, XorImm, CmpImm, TestReg, ImulReg, NotReg, NegReg, DivReg, IdivReg, Cqo, ShlCl, ShrCl, SarCl, ShlImm, ShrImm, SarImm, Setcc, Jcc, JmpRel, CallRel, CallReg, CallMem, JmpReg, JmpMem, Push, Pop, Ret, Int3, Ud2}
use Rattle.x64_isa.specs.declared.instruction.Place.{Place}
use Rattle.x64_isa.specs.declared.instruction.Operand.{Operand}
use Rattle.x64_isa.specs.declared.instruction.Operand.TheVariants.{Register, Memory}
use Rattle.x64_isa.specs.Fields.{number_of_register, register_at, condition_of, is_condition, low, high, rex, modrm, imm8, imm32, fits8, place_high, IsPlace, register_bytes, place_bytes, operand_high, operand_bytes, IsOperand}
use Rattle.x64_isa.specs.Spelling.{spell_of, Valid, wide, narrow, always, rex_if_needed, arith_imm}
use Rattle.x64_isa.specs.Reading.{Read, done, unknown, byte_then, choose, bind, number_at, imm_at, imm32_at, count_at, rest_at, register_operand_at, memory_operand_at, operand_at, either, register_form, memory_form, operand_form, rel_form, imm_form, count_form, imm_group_of, unary_group_of, cl_group_of, count_group_of, indirect_of, arith_of, wide_two_of, wide_group_of, wide_of, narrow_of, setcc_of, prefixed_of, rex_of, word_behind_of, word_of, two_of, first_of, read_of}
use Rattle.x64_isa.proofs.FieldLaws.{low-register_at, high-register_at, rex_parts, number-condition_of}
use Rattle.x64_isa.proofs.Readers.{ok, short, Live, Live-done, Live-byte, Live-first, Live-second, Live-map, Good, Good-done, Good-unknown, Good-choose, Good-at, Good-byte, Good-bind, Good-map, Joined, Below, number_good}
use Rattle.x64_isa.proofs.OperandLaws.{IsImm, imm_bytes, imm_good, imm_live, imm32_good, IsCount, count_good, count_live, IsRest, operand_tail, operand_is, rest_good, rest_live, IsRegisterOperand, register_spelled, register_operand_good, register_operand_live, register_operand_reads, IsMemoryOperand, memory_spelled, memory_operand_good, memory_operand_live, IsAnyOperand, any_spelled, operand_good, operand_live}

-- a reader of instructions whose spellings begin with the front
abbrev pub Reads : List ℕ → Read XInstr → Type 0
Reads front p = Good Valid spell_of front p

none : (front : List ℕ) → Reads front unknown
none front = Good-unknown Valid spell_of front

one : (front : List ℕ) (i : XInstr) → Valid i → spell_of i ≡ front → Reads front (done i)
one front i v e = Good-done Valid spell_of front i v e

test : (front : List ℕ) (b : Bool) (p q : Read XInstr) → (b ≡ true → Reads front p) → (b ≡ false → Reads front q) → Reads front (choose b p q)
test front b p q s t = Good-choose Valid spell_of front b p q s t

arm : (F : ℕ → List ℕ) (n k : ℕ) (p q : Read XInstr) → Reads (F k) p → Reads (F n) q → Reads (F n) (choose (eqb n k) p q)
arm F n k p q s t = Good-at Valid spell_of F n k p q s t

next : (front : List ℕ) (f : ℕ → Read XInstr) → Live (byte_then f) → ((b : ℕ) → b < 256 → Reads (front ++ (b ∷ [])) (f b)) → Reads front (byte_then f)
next front f l h = Good-byte Valid spell_of front f l h

-- ---- forms

pub register_form_live : (r b : ℕ) (f : X64Reg → X64Reg → XInstr) → Live (register_form r b f)
unfolding register_form
register_form_live r b f = Live-map (register_operand_at b) (λ x. f (register_at r x.0) x.1) (register_operand_live b)

memory_form_live : (r b : ℕ) (g : X64Reg → Place → XInstr) → Live (memory_form r b g)
unfolding memory_form
memory_form_live r b g = Live-map (memory_operand_at b) (λ x. g (register_at r x.0) x.1) (memory_operand_live b)

operand_form_live : (r b : ℕ) (f : X64Reg → X64Reg → XInstr) (g : X64Reg → Place → XInstr) → Live (operand_form r b f g)
unfolding operand_form
operand_form_live r b f g = Live-map (operand_at b) (λ x. either (f (register_at r x.0)) (g (register_at r x.0)) x.1) (operand_live b)

register_form_reads : (front : List ℕ) (r b : ℕ) (f : X64Reg → X64Reg → XInstr) → r < 2 → b < 2 → ((x q : X64Reg) → high x ≡ r → high q ≡ b → Valid (f x q) × (spell_of (f x q) ≡ front ++ register_bytes (low x) q)) → Reads front (register_form r b f)
unfolding register_form
register_form_reads front r b f lr lb h = Good-map (IsRegisterOperand b) register_spelled Valid spell_of front (register_operand_at b) (λ x. f (register_at r x.0) x.1) (register_operand_good b lb) (λ x v.
    let k = h (register_at r x.0) x.1 (high-register_at r x.0 lr v.0) v.1 in
    (k.0, k.1 ∙ ap (λ (n : ℕ). front ++ register_bytes n x.1) (low-register_at r x.0 lr v.0)))

memory_form_reads : (front : List ℕ) (r b : ℕ) (g : X64Reg → Place → XInstr) → r < 2 → b < 2 → ((x : X64Reg) (m : Place) → IsPlace m → high x ≡ r → place_high m ≡ b → Valid (g x m) × (spell_of (g x m) ≡ front ++ place_bytes (low x) m)) → Reads front (memory_form r b g)
unfolding memory_form
memory_form_reads front r b g lr lb h = Good-map (IsMemoryOperand b) memory_spelled Valid spell_of front (memory_operand_at b) (λ x. g (register_at r x.0) x.1) (memory_operand_good b lb) (λ x v.
    let k = h (register_at r x.0) x.1 v.1.0 (high-register_at r x.0 lr v.0) v.1.1 in
    (k.0, k.1 ∙ ap (λ (n : ℕ). front ++ place_bytes n x.1) (low-register_at r x.0 lr v.0)))

operand_form_reads : (front : List ℕ) (r b : ℕ) (f : X64Reg → X64Reg → XInstr) (g : X64Reg → Place → XInstr) → r < 2 → b < 2 → ((x : X64Reg) (o : Operand) → IsOperand o → high x ≡ r → operand_high o ≡ b → Valid (either (f x) (g x) o) × (spell_of (either (f x) (g x) o) ≡ front ++ operand_bytes (low x) o)) → Reads front (operand_form r b f g)
unfolding operand_form
operand_form_reads front r b f g lr lb h = Good-map (IsAnyOperand b) any_spelled Valid spell_of front (operand_at b) (λ x. either (f (register_at r x.0)) (g (register_at r x.0)) x.1) (operand_good b lb) (λ x v.
    let k = h (register_at r x.0) x.1 v.1.0 (high-register_at r x.0 lr v.0) v.1.1 in
    (k.0, k.1 ∙ ap (λ (n : ℕ). front ++ operand_bytes n x.1) (low-register_at r x.0 lr v.0)))

-- ---- opcodes with a register in reg, in each of the columns of REX

abbrev wide_head : ℕ → ℕ → List ℕ → List ℕ
wide_head r b o = rex 1 r b ∷ o

abbrev narrow_head : ℕ → ℕ → List ℕ → List ℕ
narrow_head r b o = rex_if_needed r b ++ o

abbrev always_head : ℕ → ℕ → List ℕ → List ℕ
always_head r b o = rex 0 r b ∷ o

abbrev word_head : ℕ → ℕ → List ℕ → List ℕ
word_head r b o = 0x66 ∷ (rex_if_needed r b ++ o)

abbrev pub word : List ℕ → ℕ → Operand → List ℕ
word o n p = 0x66 ∷ narrow o n p

pub wide_is : (o : List ℕ) (x : X64Reg) (p : Operand) (r b : ℕ) → high x ≡ r → operand_high p ≡ b → wide o (number_of_register x) p ≡ wide_head r b o ++ operand_bytes (low x) p
unfolding wide high low
wide_is o x p r b er eb = ap₂ (λ h k. rex 1 h k ∷ (o ++ operand_bytes (number_of_register x % 8) p)) er eb

pub narrow_is : (o : List ℕ) (x : X64Reg) (p : Operand) (r b : ℕ) → high x ≡ r → operand_high p ≡ b → narrow o (number_of_register x) p ≡ narrow_head r b o ++ operand_bytes (low x) p
unfolding narrow high low
narrow_is o x p r b er eb = ap₂ (λ h k. rex_if_needed h k ++ (o ++ operand_bytes (number_of_register x % 8) p)) er eb ∙ sym (append_assoc (rex_if_needed r b) o (operand_bytes (number_of_register x % 8) p))

pub always_is : (o : List ℕ) (x : X64Reg) (p : Operand) (r b : ℕ) → high x ≡ r → operand_high p ≡ b → always o (number_of_register x) p ≡ always_head r b o ++ operand_bytes (low x) p
unfolding always high low
always_is o x p r b er eb = ap₂ (λ h k. rex 0 h k ∷ (o ++ operand_bytes (number_of_register x % 8) p)) er eb

pub word_is : (o : List ℕ) (x : X64Reg) (p : Operand) (r b : ℕ) → high x ≡ r → operand_high p ≡ b → word o (number_of_register x) p ≡ word_head r b o ++ operand_bytes (low x) p
word_is o x p r b er eb = ap (λ (l : List ℕ). 0x66 ∷ l) (narrow_is o x p r b er eb)

module _ (K : List ℕ → ℕ → Operand → List ℕ) (head : ℕ → ℕ → List ℕ → List ℕ) (is : (o : List ℕ) (x : X64Reg) (p : Operand) (r b : ℕ) → high x ≡ r → operand_high p ≡ b → K o (number_of_register x) p ≡ head r b o ++ operand_bytes (low x) p) where
  of_register : (o : List ℕ) (r b : ℕ) → r < 2 → b < 2 → (f : X64Reg → X64Reg → XInstr) → ((x q : X64Reg) → Valid (f x q)) → ((x q : X64Reg) → spell_of (f x q) ≡ K o (number_of_register x) (Register q)) → Reads (head r b o) (register_form r b f)
  of_register o r b lr lb f v s = register_form_reads (head r b o) r b f lr lb (λ x q er eb. (v x q, s x q ∙ is o x (Register q) r b er eb))

  of_memory : (o : List ℕ) (r b : ℕ) → r < 2 → b < 2 → (g : X64Reg → Place → XInstr) → ((x : X64Reg) (m : Place) → IsPlace m → Valid (g x m)) → ((x : X64Reg) (m : Place) → spell_of (g x m) ≡ K o (number_of_register x) (Memory m)) → Reads (head r b o) (memory_form r b g)
  of_memory o r b lr lb g v s = memory_form_reads (head r b o) r b g lr lb (λ x m p er eb. (v x m p, s x m ∙ is o x (Memory m) r b er eb))

  of_operand : (o : List ℕ) (r b : ℕ) → r < 2 → b < 2 → (f : X64Reg → X64Reg → XInstr) (g : X64Reg → Place → XInstr) → ((x : X64Reg) (p : Operand) → IsOperand p → Valid (either (f x) (g x) p)) → ((x : X64Reg) (p : Operand) → spell_of (either (f x) (g x) p) ≡ K o (number_of_register x) p) → Reads (head r b o) (operand_form r b f g)
  of_operand o r b lr lb f g v s = operand_form_reads (head r b o) r b f g lr lb (λ x p i er eb. (v x p i, s x p ∙ is o x p r b er eb))

-- the pairs of a register and a place in rm

mov_valid : (x : X64Reg) (p : Operand) → IsOperand p → Valid (either (λ q. MovReg x q) (λ m. MovLoad x m) p)
unfolding Valid
mov_valid x (Register q) v = tt
mov_valid x (Memory m) v = v

mov_spelled : (x : X64Reg) (p : Operand) → spell_of (either (λ q. MovReg x q) (λ m. MovLoad x m) p) ≡ wide (0x8B ∷ []) (number_of_register x) p
unfolding spell_of
mov_spelled x (Register q) = refl
mov_spelled x (Memory m) = refl

mov32_valid : (x : X64Reg) (p : Operand) → IsOperand p → Valid (either (λ q. Mov32Reg x q) (λ m. Mov32Load x m) p)
unfolding Valid
mov32_valid x (Register q) v = tt
mov32_valid x (Memory m) v = v

mov32_spelled : (x : X64Reg) (p : Operand) → spell_of (either (λ q. Mov32Reg x q) (λ m. Mov32Load x m) p) ≡ narrow (0x8B ∷ []) (number_of_register x) p
unfolding spell_of
mov32_spelled x (Register q) = refl
mov32_spelled x (Memory m) = refl

movzx8_valid : (x : X64Reg) (p : Operand) → IsOperand p → Valid (either (λ q. Movzx8Reg x q) (λ m. Movzx8Load x m) p)
unfolding Valid
movzx8_valid x (Register q) v = tt
movzx8_valid x (Memory m) v = v

movzx8_spelled : (x : X64Reg) (p : Operand) → spell_of (either (λ q. Movzx8Reg x q) (λ m. Movzx8Load x m) p) ≡ wide (0x0F ∷ (0xB6 ∷ [])) (number_of_register x) p
unfolding spell_of
movzx8_spelled x (Register q) = refl
movzx8_spelled x (Memory m) = refl

movzx16_valid : (x : X64Reg) (p : Operand) → IsOperand p → Valid (either (λ q. Movzx16Reg x q) (λ m. Movzx16Load x m) p)
unfolding Valid
movzx16_valid x (Register q) v = tt
movzx16_valid x (Memory m) v = v

movzx16_spelled : (x : X64Reg) (p : Operand) → spell_of (either (λ q. Movzx16Reg x q) (λ m. Movzx16Load x m) p) ≡ wide (0x0F ∷ (0xB7 ∷ [])) (number_of_register x) p
unfolding spell_of
movzx16_spelled x (Register q) = refl
movzx16_spelled x (Memory m) = refl

movsx8_valid : (x : X64Reg) (p : Operand) → IsOperand p → Valid (either (λ q. Movsx8Reg x q) (λ m. Movsx8Load x m) p)
unfolding Valid
movsx8_valid x (Register q) v = tt
movsx8_valid x (Memory m) v = v

movsx8_spelled : (x : X64Reg) (p : Operand) → spell_of (either (λ q. Movsx8Reg x q) (λ m. Movsx8Load x m) p) ≡ wide (0x0F ∷ (0xBE ∷ [])) (number_of_register x) p
unfolding spell_of
movsx8_spelled x (Register q) = refl
movsx8_spelled x (Memory m) = refl

movsx16_valid : (x : X64Reg) (p : Operand) → IsOperand p → Valid (either (λ q. Movsx16Reg x q) (λ m. Movsx16Load x m) p)
unfolding Valid
movsx16_valid x (Register q) v = tt
movsx16_valid x (Memory m) v = v

movsx16_spelled : (x : X64Reg) (p : Operand) → spell_of (either (λ q. Movsx16Reg x q) (λ m. Movsx16Load x m) p) ≡ wide (0x0F ∷ (0xBF ∷ [])) (number_of_register x) p
unfolding spell_of
movsx16_spelled x (Register q) = refl
movsx16_spelled x (Memory m) = refl

movsx32_valid : (x : X64Reg) (p : Operand) → IsOperand p → Valid (either (λ q. Movsx32Reg x q) (λ m. Movsx32Load x m) p)
unfolding Valid
movsx32_valid x (Register q) v = tt
movsx32_valid x (Memory m) v = v

movsx32_spelled : (x : X64Reg) (p : Operand) → spell_of (either (λ q. Movsx32Reg x q) (λ m. Movsx32Load x m) p) ≡ wide (0x63 ∷ []) (number_of_register x) p
unfolding spell_of
movsx32_spelled x (Register q) = refl
movsx32_spelled x (Memory m) = refl

-- ---- groups of /n

-- a number /n in reg
pub slash_is : (o : List ℕ) (n : ℕ) (p : Operand) (b : ℕ) → n < 8 → operand_high p ≡ b → wide o n p ≡ (rex 1 0 b ∷ o) ++ operand_bytes n p
unfolding wide
slash_is o n p b h eb =
    let hi : n / 8 ≡ 0 = omega arith in
    let lo : n % 8 ≡ n = omega arith in
    rw (hi, lo, eb) refl

never_short : (t : Bool) (x : (ℕ × X64Reg) × List ℕ) → cond t (ok x) (Err Unknown) ≡ short → ⊥
never_short true x e = cc
never_short false x e = cc

group_joins : (b n : ℕ) → n < 8 → (f : ℕ × X64Reg → Read XInstr) → Live (f (n, register_at b 0)) → (bytes : List ℕ) → AreBytes bytes → register_operand_at b bytes ≡ Err Short → Joined (register_operand_at b) f bytes
unfolding register_operand_at byte_then choose done unknown
group_joins b n h f l [] fits e = record { more = (192 + 8 * n) ∷ []; value = (n, register_at b 0); are_bytes = (omega arith, tt); reads = register_operand_reads b n h; live = l }
group_joins b n h f l (m ∷ bytes) fits e = absurd (never_short (eqb (m / 64) 3) ((m / 8 % 8, register_at b (m % 8)), bytes) e)

group_reads : (front : List ℕ) (b : ℕ) → b < 2 → (g : ℕ → X64Reg → Read XInstr) (n : ℕ) → n < 8 → Live (g n (register_at b 0)) → ((k : ℕ) (q : X64Reg) → k < 8 → high q ≡ b → Reads (front ++ register_bytes k q) (g k q)) → Reads front (bind (register_operand_at b) (λ x. g x.0 x.1))
group_reads front b lb g n h l r = Good-bind (IsRegisterOperand b) register_spelled Valid spell_of front (register_operand_at b) (λ x. g x.0 x.1) (register_operand_good b lb) (λ x v. r x.0 x.1 v.0 v.1) (group_joins b n h (λ x. g x.0 x.1) l)

-- the bytes up to ModRM
abbrev group_head : ℕ → ℕ → X64Reg → ℕ → List ℕ
group_head b c q n = rex 1 0 b ∷ (c ∷ register_bytes n q)

unary_reads : (b : ℕ) (q : X64Reg) → high q ≡ b → (n : ℕ) → Reads (group_head b 0xF7 q n) (unary_group_of n q)
unfolding unary_group_of spell_of Valid
unary_reads b q e n =
    arm (group_head b 0xF7 q) n 2 _ _ (one _ (NotReg q) tt (slash_is (0xF7 ∷ []) 2 (Register q) b (lit< tt) e)) (
    arm (group_head b 0xF7 q) n 3 _ _ (one _ (NegReg q) tt (slash_is (0xF7 ∷ []) 3 (Register q) b (lit< tt) e)) (
    arm (group_head b 0xF7 q) n 6 _ _ (one _ (DivReg q) tt (slash_is (0xF7 ∷ []) 6 (Register q) b (lit< tt) e)) (
    arm (group_head b 0xF7 q) n 7 _ _ (one _ (IdivReg q) tt (slash_is (0xF7 ∷ []) 7 (Register q) b (lit< tt) e)) (
    none _))))

cl_reads : (b : ℕ) (q : X64Reg) → high q ≡ b → (n : ℕ) → Reads (group_head b 0xD3 q n) (cl_group_of n q)
unfolding cl_group_of spell_of Valid
cl_reads b q e n =
    arm (group_head b 0xD3 q) n 4 _ _ (one _ (ShlCl q) tt (slash_is (0xD3 ∷ []) 4 (Register q) b (lit< tt) e)) (
    arm (group_head b 0xD3 q) n 5 _ _ (one _ (ShrCl q) tt (slash_is (0xD3 ∷ []) 5 (Register q) b (lit< tt) e)) (
    arm (group_head b 0xD3 q) n 7 _ _ (one _ (SarCl q) tt (slash_is (0xD3 ∷ []) 7 (Register q) b (lit< tt) e)) (
    none _)))

count_form_reads : (front : List ℕ) (f : ℕ → XInstr) → ((k : ℕ) → k < 64 → Valid (f k)) → ((k : ℕ) → spell_of (f k) ≡ front ++ bytes_of 1 k) → Reads front (count_form f)
unfolding count_form
count_form_reads front f v s = Good-map IsCount (bytes_of 1) Valid spell_of front count_at f count_good (λ k h. (v k h, s k))

count_reads : (b : ℕ) (q : X64Reg) → high q ≡ b → (n : ℕ) → Reads (group_head b 0xC1 q n) (count_group_of n q)
unfolding count_group_of spell_of Valid
count_reads b q e n =
    arm (group_head b 0xC1 q) n 4 _ _ (count_form_reads _ (λ k. ShlImm q k) (λ k h. h) (λ k. ap (λ (l : List ℕ). l ++ bytes_of 1 k) (slash_is (0xC1 ∷ []) 4 (Register q) b (lit< tt) e))) (
    arm (group_head b 0xC1 q) n 5 _ _ (count_form_reads _ (λ k. ShrImm q k) (λ k h. h) (λ k. ap (λ (l : List ℕ). l ++ bytes_of 1 k) (slash_is (0xC1 ∷ []) 5 (Register q) b (lit< tt) e))) (
    arm (group_head b 0xC1 q) n 7 _ _ (count_form_reads _ (λ k. SarImm q k) (λ k h. h) (λ k. ap (λ (l : List ℕ). l ++ bytes_of 1 k) (slash_is (0xC1 ∷ []) 7 (Register q) b (lit< tt) e))) (
    none _)))

abbrev imm_opcode : Bool → ℕ
imm_opcode near = cond near 0x83 0x81

pub arith_is : (near : Bool) (b n : ℕ) (q : X64Reg) (z : ℤ) → n < 8 → high q ≡ b → fits8 z ≡ near → arith_imm n q z ≡ group_head b (imm_opcode near) q n ++ imm_bytes near z
unfolding arith_imm
arith_is true b n q z h e near = rw near (ap (λ (l : List ℕ). l ++ imm8 z) (slash_is (0x83 ∷ []) n (Register q) b h e))
arith_is false b n q z h e far = rw far (ap (λ (l : List ℕ). l ++ imm32 z) (slash_is (0x81 ∷ []) n (Register q) b h e))

imm_form_reads : (near : Bool) (b n : ℕ) (q : X64Reg) (f : ℤ → XInstr) → n < 8 → high q ≡ b → ((z : ℤ) → IsSigned 32 z → Valid (f z)) → ((z : ℤ) → spell_of (f z) ≡ arith_imm n q z) → Reads (group_head b (imm_opcode near) q n) (imm_form near f)
unfolding imm_form
imm_form_reads near b n q f h e v s = Good-map (IsImm near) (imm_bytes near) Valid spell_of (group_head b (imm_opcode near) q n) (imm_at near) f (imm_good near) (λ z i. (v z i.0, s z ∙ arith_is near b n q z h e i.1))

imm_group_reads : (near : Bool) (b : ℕ) (q : X64Reg) → high q ≡ b → (n : ℕ) → Reads (group_head b (imm_opcode near) q n) (imm_group_of near n q)
unfolding imm_group_of spell_of Valid
imm_group_reads near b q e n =
    arm (group_head b (imm_opcode near) q) n 0 _ _ (imm_form_reads near b 0 q (λ z. AddImm q z) (lit< tt) e (λ z v. v) (λ z. refl)) (
    arm (group_head b (imm_opcode near) q) n 1 _ _ (imm_form_reads near b 1 q (λ z. OrImm q z) (lit< tt) e (λ z v. v) (λ z. refl)) (
    arm (group_head b (imm_opcode near) q) n 4 _ _ (imm_form_reads near b 4 q (λ z. AndImm q z) (lit< tt) e (λ z v. v) (λ z. refl)) (
    arm (group_head b (imm_opcode near) q) n 5 _ _ (imm_form_reads near b 5 q (λ z. SubImm q z) (lit< tt) e (λ z v. v) (λ z. refl)) (
    arm (group_head b (imm_opcode near) q) n 6 _ _ (imm_form_reads near b 6 q (λ z. XorImm q z) (lit< tt) e (λ z v. v) (λ z. refl)) (
    arm (group_head b (imm_opcode near) q) n 7 _ _ (imm_form_reads near b 7 q (λ z. CmpImm q z) (lit< tt) e (λ z v. v) (λ z. refl)) (
    none _))))))

imm_group_live : (near : Bool) (q : X64Reg) → Live (imm_group_of near 0 q)
unfolding imm_group_of imm_form
imm_group_live near q = Live-first _ _ _ refl (Live-map (imm_at near) (λ z. AddImm q z) (imm_live near))

unary_live : (q : X64Reg) → Live (unary_group_of 2 q)
unfolding unary_group_of
unary_live q = Live-first _ _ _ refl (Live-done _)

cl_live : (q : X64Reg) → Live (cl_group_of 4 q)
unfolding cl_group_of
cl_live q = Live-first _ _ _ refl (Live-done _)

count_group_live : (q : X64Reg) → Live (count_group_of 4 q)
unfolding count_group_of count_form
count_group_live q = Live-first _ _ _ refl (Live-map count_at (λ k. ShlImm q k) count_live)

-- ---- behind FF

either_valid : (f : X64Reg → XInstr) (g : Place → XInstr) → ((q : X64Reg) → Valid (f q)) → ((m : Place) → IsPlace m → Valid (g m)) → (o : Operand) → IsOperand o → Valid (either f g o)
either_valid f g v w (Register q) i = v q
either_valid f g v w (Memory m) i = w m i

either_spelled : (n : ℕ) (f : X64Reg → XInstr) (g : Place → XInstr) → ((q : X64Reg) → spell_of (f q) ≡ narrow (0xFF ∷ []) n (Register q)) → ((m : Place) → spell_of (g m) ≡ narrow (0xFF ∷ []) n (Memory m)) → (o : Operand) → spell_of (either f g o) ≡ narrow (0xFF ∷ []) n o
either_spelled n f g v w (Register q) = v q
either_spelled n f g v w (Memory m) = w m

indirect_is : (n b m : ℕ) (o : Operand) → n < 8 → m / 8 % 8 ≡ n → operand_high o ≡ b → operand_bytes (m / 8 % 8) o ≡ m ∷ operand_tail o → narrow (0xFF ∷ []) n o ≡ ((rex_if_needed 0 b ++ (0xFF ∷ [])) ++ (m ∷ [])) ++ operand_tail o
unfolding narrow
indirect_is n b m o h e eb s =
    let hi : n / 8 ≡ 0 = omega arith in
    let lo : n % 8 ≡ m / 8 % 8 = omega arith in
    rw (hi, lo, eb, s) (simp append_assoc)

indirect_form : (n b m : ℕ) → b < 2 → n < 8 → m / 8 % 8 ≡ n → (f : X64Reg → XInstr) (g : Place → XInstr) → ((q : X64Reg) → Valid (f q)) → ((p : Place) → IsPlace p → Valid (g p)) → ((q : X64Reg) → spell_of (f q) ≡ narrow (0xFF ∷ []) n (Register q)) → ((p : Place) → spell_of (g p) ≡ narrow (0xFF ∷ []) n (Memory p)) → Reads ((rex_if_needed 0 b ++ (0xFF ∷ [])) ++ (m ∷ [])) (bind (rest_at b (m / 64) (m % 8)) (λ o. done (either f g o)))
indirect_form n b m lb h e f g vf vg sf sg =
    let ll : m % 8 < 8 = omega arith in
    Good-map (IsRest b (m / 64) (m % 8)) operand_tail Valid spell_of ((rex_if_needed 0 b ++ (0xFF ∷ [])) ++ (m ∷ [])) (rest_at b (m / 64) (m % 8)) (λ o. either f g o) (rest_good b (m / 64) (m % 8) lb ll) (λ o v.
    (either_valid f g vf vg o v.0, either_spelled n f g sf sg o ∙ indirect_is n b m o h e v.1.0 (operand_is m o v.1.1.0 v.1.1.1)))

indirect_live : (b : ℕ) → Live (indirect_of b)
unfolding indirect_of
indirect_live b = Live-byte _ 208 (lit< tt) (Live-first _ _ _ refl (Live-map (rest_at b 3 0) (λ o. either (λ q. CallReg q) (λ p. CallMem p) o) (rest_live b)))

indirect_reads : (b : ℕ) → b < 2 → Reads (rex_if_needed 0 b ++ (0xFF ∷ [])) (indirect_of b)
unfolding indirect_of spell_of Valid
indirect_reads b lb = next (rex_if_needed 0 b ++ (0xFF ∷ [])) _ (indirect_live b) (λ m lm.
    test _ (eqb (m / 8 % 8) 2) _ _ (λ t. indirect_form 2 b m lb (lit< tt) (eqb-true (m / 8 % 8) 2 t) (λ q. CallReg q) (λ p. CallMem p) (λ q. tt) (λ p v. v) (λ q. refl) (λ p. refl)) (λ _.
    test _ (eqb (m / 8 % 8) 4) _ _ (λ t. indirect_form 4 b m lb (lit< tt) (eqb-true (m / 8 % 8) 4 t) (λ q. JmpReg q) (λ p. JmpMem p) (λ q. tt) (λ p v. v) (λ q. refl) (λ p. refl)) (λ _. none _)))

-- ---- opcodes behind REX.W

arith_reads : (r b : ℕ) → r < 2 → b < 2 → (n : ℕ) → Reads (rex 1 r b ∷ ((8 * n + 1) ∷ [])) (arith_of r b n)
unfolding arith_of spell_of Valid
arith_reads r b lr lb n =
    arm (λ k. rex 1 r b ∷ ((8 * k + 1) ∷ [])) n 0 _ _ (of_register wide wide_head wide_is (0x01 ∷ []) r b lr lb (λ x q. AddReg q x) (λ x q. tt) (λ x q. refl)) (
    arm (λ k. rex 1 r b ∷ ((8 * k + 1) ∷ [])) n 1 _ _ (of_register wide wide_head wide_is (0x09 ∷ []) r b lr lb (λ x q. OrReg q x) (λ x q. tt) (λ x q. refl)) (
    arm (λ k. rex 1 r b ∷ ((8 * k + 1) ∷ [])) n 4 _ _ (of_register wide wide_head wide_is (0x21 ∷ []) r b lr lb (λ x q. AndReg q x) (λ x q. tt) (λ x q. refl)) (
    arm (λ k. rex 1 r b ∷ ((8 * k + 1) ∷ [])) n 5 _ _ (of_register wide wide_head wide_is (0x29 ∷ []) r b lr lb (λ x q. SubReg q x) (λ x q. tt) (λ x q. refl)) (
    arm (λ k. rex 1 r b ∷ ((8 * k + 1) ∷ [])) n 6 _ _ (of_register wide wide_head wide_is (0x31 ∷ []) r b lr lb (λ x q. XorReg q x) (λ x q. tt) (λ x q. refl)) (
    arm (λ k. rex 1 r b ∷ ((8 * k + 1) ∷ [])) n 7 _ _ (of_register wide wide_head wide_is (0x39 ∷ []) r b lr lb (λ x q. CmpReg q x) (λ x q. tt) (λ x q. refl)) (
    none _))))))

wide_two_live : (r b : ℕ) → Live (wide_two_of r b)
unfolding wide_two_of
wide_two_live r b = Live-byte _ 0xAF (lit< tt) (Live-first _ _ _ refl (register_form_live r b _))

wide_two_reads : (r b : ℕ) → r < 2 → b < 2 → Reads (rex 1 r b ∷ (0x0F ∷ [])) (wide_two_of r b)
unfolding wide_two_of spell_of Valid
wide_two_reads r b lr lb = next (rex 1 r b ∷ (0x0F ∷ [])) _ (wide_two_live r b) (λ c lc.
    arm (λ k. rex 1 r b ∷ (0x0F ∷ (k ∷ []))) c 0xAF _ _ (of_register wide wide_head wide_is (0x0F ∷ (0xAF ∷ [])) r b lr lb (λ x q. ImulReg x q) (λ x q. tt) (λ x q. refl)) (
    arm (λ k. rex 1 r b ∷ (0x0F ∷ (k ∷ []))) c 0xB6 _ _ (of_operand wide wide_head wide_is (0x0F ∷ (0xB6 ∷ [])) r b lr lb (λ x q. Movzx8Reg x q) (λ x m. Movzx8Load x m) movzx8_valid movzx8_spelled) (
    arm (λ k. rex 1 r b ∷ (0x0F ∷ (k ∷ []))) c 0xB7 _ _ (of_operand wide wide_head wide_is (0x0F ∷ (0xB7 ∷ [])) r b lr lb (λ x q. Movzx16Reg x q) (λ x m. Movzx16Load x m) movzx16_valid movzx16_spelled) (
    arm (λ k. rex 1 r b ∷ (0x0F ∷ (k ∷ []))) c 0xBE _ _ (of_operand wide wide_head wide_is (0x0F ∷ (0xBE ∷ [])) r b lr lb (λ x q. Movsx8Reg x q) (λ x m. Movsx8Load x m) movsx8_valid movsx8_spelled) (
    arm (λ k. rex 1 r b ∷ (0x0F ∷ (k ∷ []))) c 0xBF _ _ (of_operand wide wide_head wide_is (0x0F ∷ (0xBF ∷ [])) r b lr lb (λ x q. Movsx16Reg x q) (λ x m. Movsx16Load x m) movsx16_valid movsx16_spelled) (
    none _))))))

imm64_is : (b c n : ℕ) → b < 2 → c / 8 ≡ 23 → spell_of (MovImm64 (register_at b (c % 8)) n) ≡ (rex 1 0 b ∷ (c ∷ [])) ++ bytes_of 8 n
unfolding spell_of
imm64_is b c n lb h =
    let ll : c % 8 < 8 = omega arith in
    let e : 0xB8 + c % 8 ≡ c = omega arith in
    rw (high-register_at b (c % 8) lb ll, low-register_at b (c % 8) lb ll, e) refl

cqo_is : (b c : ℕ) → c ≡ 0x99 → b ≡ 0 → spell_of Cqo ≡ rex 1 0 b ∷ (c ∷ [])
unfolding spell_of
cqo_is b c e z = rw (e, z) refl

wide_group_reads : (b : ℕ) → b < 2 → (c : ℕ) → Reads (rex 1 0 b ∷ (c ∷ [])) (wide_group_of b c)
unfolding wide_group_of Valid
wide_group_reads b lb c =
    arm (λ k. rex 1 0 b ∷ (k ∷ [])) c 0x83 _ _ (group_reads (rex 1 0 b ∷ (0x83 ∷ [])) b lb (λ n q. imm_group_of true n q) 0 (lit< tt) (imm_group_live true _) (λ n q ln e. imm_group_reads true b q e n)) (
    arm (λ k. rex 1 0 b ∷ (k ∷ [])) c 0x81 _ _ (group_reads (rex 1 0 b ∷ (0x81 ∷ [])) b lb (λ n q. imm_group_of false n q) 0 (lit< tt) (imm_group_live false _) (λ n q ln e. imm_group_reads false b q e n)) (
    arm (λ k. rex 1 0 b ∷ (k ∷ [])) c 0xF7 _ _ (group_reads (rex 1 0 b ∷ (0xF7 ∷ [])) b lb (λ n q. unary_group_of n q) 2 (lit< tt) (unary_live _) (λ n q ln e. unary_reads b q e n)) (
    arm (λ k. rex 1 0 b ∷ (k ∷ [])) c 0xD3 _ _ (group_reads (rex 1 0 b ∷ (0xD3 ∷ [])) b lb (λ n q. cl_group_of n q) 4 (lit< tt) (cl_live _) (λ n q ln e. cl_reads b q e n)) (
    arm (λ k. rex 1 0 b ∷ (k ∷ [])) c 0xC1 _ _ (group_reads (rex 1 0 b ∷ (0xC1 ∷ [])) b lb (λ n q. count_group_of n q) 4 (lit< tt) (count_group_live _) (λ n q ln e. count_reads b q e n)) (
    test _ (eqb (c / 8) 23) _ _ (λ t. Good-map (Below 8) (bytes_of 8) Valid spell_of (rex 1 0 b ∷ (c ∷ [])) (number_at 8) (λ n. MovImm64 (register_at b (c % 8)) n) (number_good 8) (λ n h. (omega arith, imm64_is b c n lb (eqb-true (c / 8) 23 t)))) (λ _.
    test _ _ _ _ (λ t. let h = and_parts (eqb c 0x99) (eqb b 0) t in one _ Cqo tt (cqo_is b c (eqb-true c 0x99 h.0) (eqb-true b 0 h.1))) (λ _. none _)))))))

arith_front : (r b c : ℕ) → c % 8 ≡ 1 → rex 1 r b ∷ ((8 * (c / 8) + 1) ∷ []) ≡ rex 1 r b ∷ (c ∷ [])
arith_front r b c h = let e : 8 * (c / 8) + 1 ≡ c = omega arith in ap (λ (k : ℕ). rex 1 r b ∷ (k ∷ [])) e

wide_reads : (r b : ℕ) → r < 2 → b < 2 → (c : ℕ) → Reads (rex 1 r b ∷ (c ∷ [])) (wide_of r b c)
unfolding wide_of spell_of Valid
wide_reads r b lr lb c =
    arm (λ k. rex 1 r b ∷ (k ∷ [])) c 0x8B _ _ (of_operand wide wide_head wide_is (0x8B ∷ []) r b lr lb (λ x q. MovReg x q) (λ x m. MovLoad x m) mov_valid mov_spelled) (
    arm (λ k. rex 1 r b ∷ (k ∷ [])) c 0x89 _ _ (of_memory wide wide_head wide_is (0x89 ∷ []) r b lr lb (λ x m. MovStore m x) (λ x m v. v) (λ x m. refl)) (
    arm (λ k. rex 1 r b ∷ (k ∷ [])) c 0x8D _ _ (of_memory wide wide_head wide_is (0x8D ∷ []) r b lr lb (λ x m. Lea x m) (λ x m v. v) (λ x m. refl)) (
    arm (λ k. rex 1 r b ∷ (k ∷ [])) c 0x0F _ _ (wide_two_reads r b lr lb) (
    arm (λ k. rex 1 r b ∷ (k ∷ [])) c 0x63 _ _ (of_operand wide wide_head wide_is (0x63 ∷ []) r b lr lb (λ x q. Movsx32Reg x q) (λ x m. Movsx32Load x m) movsx32_valid movsx32_spelled) (
    arm (λ k. rex 1 r b ∷ (k ∷ [])) c 0x85 _ _ (of_register wide wide_head wide_is (0x85 ∷ []) r b lr lb (λ x q. TestReg q x) (λ x q. tt) (λ x q. refl)) (
    test _ _ _ _ (λ t. subst (λ (l : List ℕ). Reads l (arith_of r b (c / 8))) (arith_front r b c (eqb-true (c % 8) 1 (and_parts (eqb (c % 8) 1) (eqb (c / 64) 0) t).0)) (arith_reads r b lr lb (c / 8))) (λ _.
    test _ (eqb r 0) _ _ (λ t. subst (λ (k : ℕ). Reads (rex 1 k b ∷ (c ∷ [])) (wide_group_of b c)) (sym (eqb-true r 0 t)) (wide_group_reads b lb c)) (λ _. none _))))))))

-- ---- opcodes with no W

push_is : (b c : ℕ) → b < 2 → c / 8 ≡ 10 → spell_of (Push (register_at b (c % 8))) ≡ rex_if_needed 0 b ++ (c ∷ [])
unfolding spell_of
push_is b c lb h =
    let ll : c % 8 < 8 = omega arith in
    let e : 0x50 + c % 8 ≡ c = omega arith in
    rw (high-register_at b (c % 8) lb ll, low-register_at b (c % 8) lb ll, e) refl

pop_is : (b c : ℕ) → b < 2 → c / 8 ≡ 11 → spell_of (Pop (register_at b (c % 8))) ≡ rex_if_needed 0 b ++ (c ∷ [])
unfolding spell_of
pop_is b c lb h =
    let ll : c % 8 < 8 = omega arith in
    let e : 0x58 + c % 8 ≡ c = omega arith in
    rw (high-register_at b (c % 8) lb ll, low-register_at b (c % 8) lb ll, e) refl

-- where R is 0
no_r : (r b : ℕ) (l : List ℕ) (p : Read XInstr) → eqb r 0 ≡ true → Reads (rex_if_needed 0 b ++ l) p → Reads (rex_if_needed r b ++ l) p
no_r r b l p e h = subst (λ (k : ℕ). Reads (rex_if_needed k b ++ l) p) (sym (eqb-true r 0 e)) h

at_byte : (r b c k : ℕ) (p : Read XInstr) → eqb c k ≡ true → Reads (rex_if_needed r b ++ (k ∷ [])) p → Reads (rex_if_needed r b ++ (c ∷ [])) p
at_byte r b c k p e h = subst (λ (x : ℕ). Reads (rex_if_needed r b ++ (x ∷ [])) p) (sym (eqb-true c k e)) h

narrow_reads : (r b : ℕ) → r < 2 → b < 2 → (c : ℕ) → Reads (rex_if_needed r b ++ (c ∷ [])) (narrow_of r b c)
unfolding narrow_of spell_of Valid
narrow_reads r b lr lb c =
    arm (λ k. rex_if_needed r b ++ (k ∷ [])) c 0x8B _ _ (of_operand narrow narrow_head narrow_is (0x8B ∷ []) r b lr lb (λ x q. Mov32Reg x q) (λ x m. Mov32Load x m) mov32_valid mov32_spelled) (
    arm (λ k. rex_if_needed r b ++ (k ∷ [])) c 0x89 _ _ (of_memory narrow narrow_head narrow_is (0x89 ∷ []) r b lr lb (λ x m. Mov32Store m x) (λ x m v. v) (λ x m. refl)) (
    test _ _ _ _ (λ t. let h = and_parts (eqb c 0xFF) (eqb r 0) t in at_byte r b c 0xFF _ h.0 (no_r r b _ _ h.1 (indirect_reads b lb))) (λ _.
    test _ _ _ _ (λ t. let h = and_parts (eqb (c / 8) 10) (eqb r 0) t in no_r r b _ _ h.1 (one _ (Push (register_at b (c % 8))) tt (push_is b c lb (eqb-true (c / 8) 10 h.0)))) (λ _.
    test _ _ _ _ (λ t. let h = and_parts (eqb (c / 8) 11) (eqb r 0) t in no_r r b _ _ h.1 (one _ (Pop (register_at b (c % 8))) tt (pop_is b c lb (eqb-true (c / 8) 11 h.0)))) (λ _. none _)))))

setcc_is : (b c m : ℕ) → b < 2 → c / 16 ≡ 9 → is_condition (c % 16) ≡ true → m / 8 ≡ 24 → spell_of (Setcc (condition_of (c % 16)) (register_at b (m % 8))) ≡ rex 0 0 b ∷ (0x0F ∷ (c ∷ (m ∷ [])))
unfolding spell_of always register_bytes modrm
setcc_is b c m lb h i k =
    let ll : m % 8 < 8 = omega arith in
    let lc : c % 16 < 16 = omega arith in
    let e : 0x90 + c % 16 ≡ c = omega arith in
    let g : 192 + m % 8 ≡ m = omega arith in
    rw (high-register_at b (m % 8) lb ll, low-register_at b (m % 8) lb ll, number-condition_of (c % 16) lc i, e, g) refl

setcc_inner_live : (b c : ℕ) → Live (byte_then (λ m. choose (eqb (m / 8) 24) (done (Setcc (condition_of (c % 16)) (register_at b (m % 8)))) unknown))
setcc_inner_live b c = Live-byte _ 192 (lit< tt) (Live-first _ _ _ refl (Live-done _))

setcc_live : (b : ℕ) → Live (setcc_of b)
unfolding setcc_of is_condition
setcc_live b = Live-byte _ 0x90 (lit< tt) (Live-first _ _ _ refl (setcc_inner_live b 0x90))

setcc_reads : (b : ℕ) → b < 2 → Reads (rex 0 0 b ∷ (0x0F ∷ [])) (setcc_of b)
unfolding setcc_of Valid
setcc_reads b lb = next (rex 0 0 b ∷ (0x0F ∷ [])) _ (setcc_live b) (λ c lc.
    test _ _ _ _ (λ t. let h = and_parts (eqb (c / 16) 9) (is_condition (c % 16)) t in
    next _ _ (setcc_inner_live b c) (λ m lm.
    test _ (eqb (m / 8) 24) _ _ (λ u. one _ (Setcc (condition_of (c % 16)) (register_at b (m % 8))) tt (setcc_is b c m lb (eqb-true (c / 16) 9 h.0) h.1 (eqb-true (m / 8) 24 u))) (λ _. none _)))
    (λ _. none _))

not_zero : (k : ℕ) → 0 < k → eqb k 0 ≡ false
not_zero k h = ne_eqb k 0 (λ e. omega arith)

needed : (r b : ℕ) → (eqb r 0 && eqb b 0) ≡ false → (l : List ℕ) → rex_if_needed r b ++ l ≡ rex 0 r b ∷ l
unfolding rex_if_needed
needed zero zero e l = absurd cc
needed zero (suc b) e l = rw (not_zero (0 + suc b) (omega arith)) refl
needed (suc r) b e l = rw (not_zero (suc r + b) (omega arith)) refl

setcc_front : (r b c : ℕ) → eqb c 0x0F ≡ true → eqb r 0 ≡ true → rex 0 0 b ∷ (0x0F ∷ []) ≡ rex 0 r b ∷ (c ∷ [])
setcc_front r b c e z = ap₂ (λ k x. rex 0 k b ∷ (x ∷ [])) (sym (eqb-true r 0 z)) (sym (eqb-true c 0x0F e))

prefixed_reads : (r b : ℕ) → r < 2 → b < 2 → (c : ℕ) → Reads (rex 0 r b ∷ (c ∷ [])) (prefixed_of r b c)
unfolding prefixed_of spell_of Valid
prefixed_reads r b lr lb c =
    arm (λ k. rex 0 r b ∷ (k ∷ [])) c 0x88 _ _ (of_memory always always_head always_is (0x88 ∷ []) r b lr lb (λ x m. Mov8Store m x) (λ x m v. v) (λ x m. refl)) (
    test _ _ _ _ (λ t. let h = and_parts (eqb c 0x0F) (eqb r 0) t in subst (λ (l : List ℕ). Reads l (setcc_of b)) (setcc_front r b c h.0 h.1) (setcc_reads b lb)) (λ _.
    test _ _ _ _ (λ _. none _) (λ t. subst (λ (l : List ℕ). Reads l (narrow_of r b c)) (needed r b t (c ∷ [])) (narrow_reads r b lr lb c))))

-- ---- from the first byte on

rex_live : (w r b : ℕ) → w < 2 → Live (rex_of w r b)
unfolding rex_of prefixed_of wide_of
rex_live zero r b h = Live-byte _ 0x88 (lit< tt) (Live-second _ _ _ refl (Live-first _ _ _ refl (memory_form_live r b _)))
rex_live (suc zero) r b h = Live-byte _ 0x8B (lit< tt) (Live-first _ _ _ refl (Live-first _ _ _ refl (operand_form_live r b _ _)))
rex_live (suc (suc w)) r b h = absurd (omega arith)

rex_reads : (w r b : ℕ) → w < 2 → r < 2 → b < 2 → Reads (rex w r b ∷ []) (rex_of w r b)
unfolding rex_of
rex_reads zero r b lw lr lb = next _ _ (rex_live 0 r b (lit< tt)) (λ c lc. test _ false _ _ (λ e. absurd cc) (λ _. prefixed_reads r b lr lb c))
rex_reads (suc zero) r b lw lr lb = next _ _ (rex_live 1 r b (lit< tt)) (λ c lc. test _ true _ _ (λ _. wide_reads r b lr lb c) (λ e. absurd cc))
rex_reads (suc (suc w)) r b lw lr lb = absurd (omega arith)

behind_live : (r b : ℕ) → Live (word_behind_of r b)
unfolding word_behind_of
behind_live r b = Live-byte _ 0x89 (lit< tt) (Live-first _ _ _ refl (memory_form_live r b _))

behind_reads : (r b : ℕ) → r < 2 → b < 2 → Reads (0x66 ∷ rex_if_needed r b) (word_behind_of r b)
unfolding word_behind_of spell_of Valid
behind_reads r b lr lb = next _ _ (behind_live r b) (λ c lc.
    arm (λ k. (0x66 ∷ rex_if_needed r b) ++ (k ∷ [])) c 0x89 _ _ (of_memory word word_head word_is (0x89 ∷ []) r b lr lb (λ x m. Mov16Store m x) (λ x m v. v) (λ x m. refl)) (none _))

word_live : Live word_of
unfolding word_of
word_live = Live-byte _ 0x89 (lit< tt) (Live-first _ _ _ refl (memory_form_live 0 0 _))

word_reads : Reads (0x66 ∷ []) word_of
unfolding word_of spell_of Valid rex_if_needed rex
word_reads = next (0x66 ∷ []) _ word_live (λ c lc.
    arm (λ k. 0x66 ∷ (k ∷ [])) c 0x89 _ _ (of_memory word word_head word_is (0x89 ∷ []) 0 0 (lit< tt) (lit< tt) (λ x m. Mov16Store m x) (λ x m v. v) (λ x m. refl)) (
    arm (λ k. 0x66 ∷ (k ∷ [])) c 0x41 _ _ (behind_reads 0 1 (lit< tt) (lit< tt)) (
    arm (λ k. 0x66 ∷ (k ∷ [])) c 0x44 _ _ (behind_reads 1 0 (lit< tt) (lit< tt)) (
    arm (λ k. 0x66 ∷ (k ∷ [])) c 0x45 _ _ (behind_reads 1 1 (lit< tt) (lit< tt)) (none _)))))

rel_form_reads : (front : List ℕ) (f : ℤ → XInstr) → ((z : ℤ) → IsSigned 32 z → Valid (f z)) → ((z : ℤ) → spell_of (f z) ≡ front ++ imm32 z) → Reads front (rel_form f)
unfolding rel_form
rel_form_reads front f v s = Good-map (IsSigned 32) imm32 Valid spell_of front imm32_at f imm32_good (λ z h. (v z h, s z))

jcc_is : (c : ℕ) (z : ℤ) → c / 16 ≡ 8 → is_condition (c % 16) ≡ true → spell_of (Jcc (condition_of (c % 16)) z) ≡ (0x0F ∷ (c ∷ [])) ++ imm32 z
unfolding spell_of
jcc_is c z h i =
    let lc : c % 16 < 16 = omega arith in
    let e : 0x80 + c % 16 ≡ c = omega arith in
    rw (number-condition_of (c % 16) lc i, e) refl

two_live : Live two_of
unfolding two_of
two_live = Live-byte _ 0x0B (lit< tt) (Live-first _ _ _ refl (Live-done _))

two_reads : Reads (0x0F ∷ []) two_of
unfolding two_of spell_of Valid
two_reads = next (0x0F ∷ []) _ two_live (λ c lc.
    arm (λ k. 0x0F ∷ (k ∷ [])) c 0x0B _ _ (one _ Ud2 tt refl) (
    test _ _ _ _ (λ t. let h = and_parts (eqb (c / 16) 8) (is_condition (c % 16)) t in
    rel_form_reads (0x0F ∷ (c ∷ [])) (λ z. Jcc (condition_of (c % 16)) z) (λ z v. v) (λ z. jcc_is c z (eqb-true (c / 16) 8 h.0) h.1)) (λ _. none _)))

rex_first : (c : ℕ) → c / 16 ≡ 4 → c / 2 % 2 ≡ 0 → Reads (c ∷ []) (rex_of (c / 8 % 2) (c / 4 % 2) (c % 2))
rex_first c h e =
    let lw : c / 8 % 2 < 2 = omega arith in
    let lr : c / 4 % 2 < 2 = omega arith in
    let lb : c % 2 < 2 = omega arith in
    subst (λ (k : ℕ). Reads (k ∷ []) (rex_of (c / 8 % 2) (c / 4 % 2) (c % 2))) (rex_parts c h e) (rex_reads (c / 8 % 2) (c / 4 % 2) (c % 2) lw lr lb)

no_rex : (c : ℕ) → Reads (c ∷ []) (narrow_of 0 0 c)
unfolding rex_if_needed
no_rex c = narrow_reads 0 0 (lit< tt) (lit< tt) c

first_reads : (c : ℕ) → Reads (c ∷ []) (first_of c)
unfolding first_of spell_of Valid
first_reads c =
    arm (λ k. k ∷ []) c 0xC3 _ _ (one _ Ret tt refl) (
    arm (λ k. k ∷ []) c 0xE8 _ _ (rel_form_reads (0xE8 ∷ []) (λ z. CallRel z) (λ z v. v) (λ z. refl)) (
    arm (λ k. k ∷ []) c 0xE9 _ _ (rel_form_reads (0xE9 ∷ []) (λ z. JmpRel z) (λ z v. v) (λ z. refl)) (
    arm (λ k. k ∷ []) c 0x0F _ _ two_reads (
    arm (λ k. k ∷ []) c 0xCC _ _ (one _ Int3 tt refl) (
    arm (λ k. k ∷ []) c 0x66 _ _ word_reads (
    test _ _ _ _ (λ t. let h = and_parts (eqb (c / 16) 4) (eqb (c / 2 % 2) 0) t in rex_first c (eqb-true (c / 16) 4 h.0) (eqb-true (c / 2 % 2) 0 h.1)) (λ _. no_rex c)))))))

read_live : Live read_of
unfolding read_of first_of
read_live = Live-byte _ 0xC3 (lit< tt) (Live-first _ _ _ refl (Live-done _))

pub read_of-good : Reads [] read_of
unfolding read_of
read_of-good = next [] _ read_live (λ c lc. first_reads c)
