-- The two-way law, of reading as a whole.
use Rattle.std.proofs.Common.{◌/◌, ◌%◌, cond, eqb, lit≤, Bool, true, false, ℤ, ◌≡◌, ◌≢◌, ◌↔◌, ℕ, zero, suc, ◌+◌, ◌-◌, ◌≤◌, List, [], ◌∷◌, ◌++◌, length, take, drop, Result, Ok, Err, refl, sym, ap, subst, ◌∙◌, arith, length-append}
use Rattle.std.proofs.lemmas.List.{append-nil, take-append-drop}
use Rattle.hx_words.specs.LittleEndian.{bytes_of, AreBytes}
use Rattle.hx_words.specs.TwosComplement.{bits_of}
use Rattle.hx_words.proofs.LittleEndianLaws.{AreBytes-append, length-bytes_of}
use Rattle.reg_map.specs.declared.registers.X64Reg.{X64Reg}
use Rattle.x64_isa.specs.declared.instruction.XInstr.{XInstr}
use Rattle.x64_isa.specs.declared.instruction.XInstr.TheVariants.{MovReg, MovLoad, Mov32Reg, Mov32Load, MovStore, Mov32Store, Mov16Store, Mov8Store, Movzx8Reg, Movzx8Load, Movzx16Reg, Movzx16Load, Movsx8Reg, Movsx8Load, Movsx16Reg, Movsx16Load, Movsx32Reg, Movsx32Load, MovImm64, Lea, AddReg, OrReg, AndReg, SubReg, XorReg, CmpReg, AddImm, OrImm, AndImm, SubImm, XorImm, CmpImm, TestReg, ImulReg, NotReg, NegReg, DivReg, IdivReg, Cqo, ShlCl, ShrCl, SarCl, ShlImm, ShrImm, SarImm, Setcc, Jcc, JmpRel, CallRel, CallReg, CallMem, JmpReg, JmpMem, Push, Pop, Ret, Int3, Ud2}
use Rattle.x64_isa.specs.declared.instruction.Place.{Place}
use Rattle.x64_isa.specs.declared.instruction.Place.TheVariants.{Base, Rip}
use Rattle.x64_isa.specs.declared.instruction.Operand.{Operand}
use Rattle.x64_isa.specs.declared.instruction.Operand.TheVariants.{Register, Memory}
use Rattle.x64_isa.specs.declared.instruction.XBad.{XBad}
use Rattle.x64_isa.specs.declared.instruction.XBad.TheVariants.{Short, Unknown}
use Rattle.x64_isa.specs.Spelling.{spell_of, Valid, IsFront, Begins, wide, narrow, always, rex_if_needed, arith_imm}
use Rattle.x64_isa.specs.Fields.{number_of_register, number_of_condition, low, high, rex, imm8, imm32, fits8, sib, place_tail, register_bytes, place_bytes, operand_high, operand_bytes}
use Rattle.x64_isa.specs.Reading.{read_of, decode_of, sized}
use Rattle.x64_isa.proofs.Readers.{ok, ok_is, added}
use Rattle.x64_isa.proofs.FormReaders.{read_of-good}
use Rattle.x64_isa.proofs.Again.{read_of-again}

pub read_of-found : (bytes : List ℕ) → AreBytes bytes → (i : XInstr) (rest : List ℕ) → read_of bytes ≡ Ok (i, rest) → Valid i × (bytes ≡ spell_of i ++ rest)
read_of-found bytes fits i rest e = read_of-good.found bytes fits i rest e

pub read_of-only : (bytes : List ℕ) (i : XInstr) (rest : List ℕ) → Valid i → bytes ≡ spell_of i ++ rest → read_of bytes ≡ Ok (i, rest)
read_of-only bytes i rest v e = ap read_of e ∙ read_of-again i rest v

not_nil : (a b : List ℕ) → a ++ b ≡ [] → b ≡ []
not_nil [] b e = e
not_nil (x ∷ a) b e = absurd cc

rest_nil : (i j : XInstr) (a b : List ℕ) (o : Result (XInstr × List ℕ) XBad) → o ≡ Ok (j, a ++ b) → o ≡ Ok (i, []) → b ≡ []
rest_nil i j a b o e g = not_nil a b (ap (λ (x : XInstr × List ℕ). x.1) (ok_is (j, a ++ b) (i, []) (sym e ∙ g)))

is_short : (o whole : Result (XInstr × List ℕ) XBad) (more : List ℕ) (i : XInstr) → (o ≢ Err Short → whole ≡ added o more) → whole ≡ Ok (i, []) → more ≢ [] → o ≡ Err Short
is_short (Ok x) whole more i k e ne = absurd (ne (rest_nil i x.0 x.1 more whole (k (λ h. cc)) e))
is_short (Err Short) whole more i k e ne = refl
is_short (Err Unknown) whole more i k e ne = let g : whole ≡ Err Unknown = k (λ h. cc) in absurd cc

-- reading is short exactly where some instruction begins with the bytes and goes on
pub read_of-short : (bytes : List ℕ) → AreBytes bytes → (read_of bytes ≡ Err Short) ↔ IsFront bytes
read_of-short bytes fits = (
  λ e.
      let c = read_of-good.goes_on bytes fits e in
      let h = read_of-found (bytes ++ c.more) (AreBytes-append bytes c.more fits c.are_bytes) c.value [] c.reads in
      record {
        instruction = c.value;
        rest = c.more;
        valid = h.0;
        more = λ nil.
            let same : read_of bytes ≡ Ok (c.value, []) = ap read_of (sym (append-nil bytes)) ∙ ap (λ (m : List ℕ). read_of (bytes ++ m)) (sym nil) ∙ c.reads in
            cc;
        spelled = sym (append-nil (spell_of c.value)) ∙ sym h.1;
      },
  λ f.
      let whole : read_of (bytes ++ f.rest) ≡ Ok (f.instruction, []) = read_of-only (bytes ++ f.rest) f.instruction [] f.valid (sym f.spelled ∙ sym (append-nil (spell_of f.instruction))) in
      is_short (read_of bytes) (read_of (bytes ++ f.rest)) f.rest f.instruction (λ n. read_of-good.keeps bytes f.rest fits n) whole f.more,
)

-- ---- with the number of bytes

len_rest : (a b : List ℕ) → length (a ++ b) - length b ≡ length a
len_rest a b = omega (arith, length-append a b)

take_whole : (a b : List ℕ) → take (length a) (a ++ b) ≡ a
take_whole [] b = refl
take_whole (x ∷ a) b = ap (λ (l : List ℕ). x ∷ l) (take_whole a b)

abbrev done_at : XInstr → ℕ → Result (XInstr × ℕ) XBad
done_at i n = Ok (i, n)

at_is : (x y : XInstr × ℕ) → done_at x.0 x.1 ≡ done_at y.0 y.1 → x ≡ y
at_is x y e = cc

abbrev no_more : Result (XInstr × ℕ) XBad
no_more = Err Short

abbrev no_more_bytes : Result (XInstr × List ℕ) XBad
no_more_bytes = Err Short

abbrev nothing : Result (XInstr × ℕ) XBad
nothing = Err Unknown

take_past : (a b : List ℕ) (k : ℕ) → length a ≤ k → take k (a ++ b) ≡ a ++ take (k - length a) b
take_past [] b k h = let e : k ≡ k - 0 = omega arith in ap (λ (n : ℕ). take n b) e
take_past (x ∷ a) b zero h = absurd (omega arith)
take_past (x ∷ a) b (suc k) h =
    let e : k - length a ≡ suc k - suc (length a) = omega arith in
    ap (λ (l : List ℕ). x ∷ l) (take_past a b k (omega arith) ∙ ap (λ (n : ℕ). a ++ take n b) e)

-- the spelling of an instruction, whatever follows it, is decoded as that instruction
pub decode_of-again : (i : XInstr) (rest : List ℕ) → Valid i → decode_of (spell_of i ++ rest) ≡ Ok (i, length (spell_of i))
unfolding decode_of
decode_of-again i rest v = ap (sized (spell_of i ++ rest)) (read_of-again i rest v) ∙ ap (λ (n : ℕ). done_at i n) (len_rest (spell_of i) rest)

-- the bytes after the instruction are among the bytes
pub read_of-fits : (bytes : List ℕ) → AreBytes bytes → (i : XInstr) (rest : List ℕ) → read_of bytes ≡ Ok (i, rest) → length rest ≤ length bytes
read_of-fits bytes fits i rest e = omega (arith, length-append (spell_of i) rest, ap length (read_of-found bytes fits i rest e).1)

-- what a machine fetches, which may be cut behind the instruction
pub decode_of-fetched : (i : XInstr) (rest : List ℕ) (k : ℕ) → Valid i → length (spell_of i) ≤ k → decode_of (take k (spell_of i ++ rest)) ≡ Ok (i, length (spell_of i))
decode_of-fetched i rest k v h = ap decode_of (take_past (spell_of i) rest k h) ∙ decode_of-again i (take (k - length (spell_of i)) rest) v

-- what is decoded is spelled so
found_at : (bytes : List ℕ) → AreBytes bytes → (i : XInstr) (n : ℕ) (o : Result (XInstr × List ℕ) XBad) → o ≡ read_of bytes → sized bytes o ≡ Ok (i, n) → Begins bytes i n
found_at bytes fits i n (Ok x) e g =
    let h = read_of-found bytes fits x.0 x.1 (sym e) in
    let P : XInstr × ℕ → Type 0 = λ y. Begins bytes y.0 y.1 in
    let size : length bytes - length x.1 ≡ length (spell_of x.0) = ap (λ (l : List ℕ). length l - length x.1) h.1 ∙ len_rest (spell_of x.0) x.1 in
    subst P (at_is (x.0, length bytes - length x.1) (i, n) g) (record {
      valid = h.0;
      spelled = ap (λ (k : ℕ). take k bytes) size ∙ ap (λ (l : List ℕ). take (length (spell_of x.0)) l) h.1 ∙ take_whole (spell_of x.0) x.1;
      size = sym size;
    })
found_at bytes fits i n (Err u) e g = absurd cc

pub decode_of-found : (bytes : List ℕ) → AreBytes bytes → (i : XInstr) (n : ℕ) → decode_of bytes ≡ Ok (i, n) → Begins bytes i n
unfolding decode_of
decode_of-found bytes fits i n e = found_at bytes fits i n (read_of bytes) refl e

pub decode_of-only : (bytes : List ℕ) (i : XInstr) (n : ℕ) → Begins bytes i n → decode_of bytes ≡ Ok (i, n)
decode_of-only bytes i n b =
    let e : bytes ≡ spell_of i ++ drop n bytes = sym (take-append-drop n bytes) ∙ ap (λ (l : List ℕ). l ++ drop n bytes) b.spelled in
    ap decode_of e ∙ decode_of-again i (drop n bytes) b.valid ∙ ap (λ (k : ℕ). done_at i k) b.size

sized_short : (bytes : List ℕ) (o : Result (XInstr × List ℕ) XBad) → (sized bytes o ≡ no_more) ↔ (o ≡ no_more_bytes)
sized_short bytes (Ok x) = (λ e. absurd cc, λ e. absurd cc)
sized_short bytes (Err Short) = (λ e. refl, λ e. refl)
sized_short bytes (Err Unknown) = (λ e. absurd cc, λ e. absurd cc)

pub decode_of-short : (bytes : List ℕ) → AreBytes bytes → (decode_of bytes ≡ Err Short) ↔ IsFront bytes
unfolding decode_of
decode_of-short bytes fits = (
  λ e. (read_of-short bytes fits).0 ((sized_short bytes (read_of bytes)).0 e),
  λ f. (sized_short bytes (read_of bytes)).1 ((read_of-short bytes fits).1 f),
)

is_unknown : (o : Result (XInstr × ℕ) XBad) → (o ≡ no_more → ⊥) → ((i : XInstr) (n : ℕ) → o ≡ Ok (i, n) → ⊥) → o ≡ nothing
is_unknown (Ok x) s r = absurd (r x.0 x.1 refl)
is_unknown (Err Short) s r = absurd (s refl)
is_unknown (Err Unknown) s r = refl

pub decode_of-unknown : (bytes : List ℕ) → AreBytes bytes → (decode_of bytes ≡ Err Unknown) ↔ ((¬ IsFront bytes) × ((i : XInstr) (n : ℕ) → ¬ Begins bytes i n))
decode_of-unknown bytes fits = (
  λ e. (
    λ f. let g : no_more ≡ nothing = sym ((decode_of-short bytes fits).1 f) ∙ e in cc,
    λ i n b. let g : done_at i n ≡ nothing = sym (decode_of-only bytes i n b) ∙ e in cc,
  ),
  λ h. is_unknown (decode_of bytes) (λ e. h.0 ((decode_of-short bytes fits).0 e)) (λ i n e. h.1 i n (decode_of-found bytes fits i n e)),
)

-- the same of what code returned
pub decoded-read : (o : Result (XInstr × ℕ) XBad) (bytes : List ℕ) → AreBytes bytes → o ≡ decode_of bytes → (i : XInstr) (n : ℕ) → (o ≡ Ok (i, n)) ↔ Begins bytes i n
decoded-read o bytes fits e i n = (λ g. decode_of-found bytes fits i n (sym e ∙ g), λ b. e ∙ decode_of-only bytes i n b)

pub decoded-short : (o : Result (XInstr × ℕ) XBad) (bytes : List ℕ) → AreBytes bytes → o ≡ decode_of bytes → (o ≡ Err Short) ↔ IsFront bytes
decoded-short o bytes fits e = (λ g. (decode_of-short bytes fits).0 (sym e ∙ g), λ f. e ∙ (decode_of-short bytes fits).1 f)

pub decoded-unknown : (o : Result (XInstr × ℕ) XBad) (bytes : List ℕ) → AreBytes bytes → o ≡ decode_of bytes → (o ≡ Err Unknown) ↔ ((¬ IsFront bytes) × ((i : XInstr) (n : ℕ) → ¬ Begins bytes i n))
decoded-unknown o bytes fits e = (λ g. (decode_of-unknown bytes fits).0 (sym e ∙ g), λ h. e ∙ (decode_of-unknown bytes fits).1 h)

-- no spelling begins another
pub spell_of-apart : (i j : XInstr) (rest : List ℕ) → Valid i → Valid j → spell_of i ≡ spell_of j ++ rest → (i ≡ j) × (rest ≡ [])
spell_of-apart i j rest v w e =
    let a : ok (i, []) ≡ ok (j, rest) = sym (read_of-again i [] v) ∙ ap read_of (append-nil (spell_of i) ∙ e) ∙ read_of-again j rest w in
    let b : (i, []) ≡ (j, rest) = ok_is (i, []) (j, rest) a in
    (ap (λ (x : XInstr × List ℕ). x.0) b, sym (ap (λ (x : XInstr × List ℕ). x.1) b))

-- ---- sizes

imm8_size : (z : ℤ) → length (imm8 z) ≤ 4
imm8_size z = omega (arith, length-bytes_of 1 (bits_of 8 z))

imm32_size : (z : ℤ) → length (imm32 z) ≤ 4
imm32_size z = omega (arith, length-bytes_of 4 (bits_of 32 z))

sib_size : (t : Bool) → length {A = ℕ} (cond t (0x24 ∷ []) []) ≤ 1
sib_size true = omega arith
sib_size false = omega arith

disp_size : (t : Bool) (z : ℤ) → length (cond t (imm8 z) (imm32 z)) ≤ 4
disp_size true z = imm8_size z
disp_size false z = imm32_size z

place_size : (n : ℕ) (m : Place) → length (place_bytes n m) ≤ 6
unfolding place_bytes place_tail
place_size n (Base base d) = omega (arith, length-append (sib (low base)) (cond (fits8 d) (imm8 d) (imm32 d)), sib_size (eqb (low base) 4), disp_size (fits8 d) d)
place_size n (Rip d) = omega (arith, imm32_size d)

operand_size : (n : ℕ) (o : Operand) → length (operand_bytes n o) ≤ 6
unfolding register_bytes
operand_size n (Register q) = omega arith
operand_size n (Memory m) = place_size n m

rex_size : (t : Bool) (x : ℕ) → length {A = ℕ} (cond t [] (x ∷ [])) ≤ 1
rex_size true x = omega arith
rex_size false x = omega arith

wide_size : (o : List ℕ) (n : ℕ) (p : Operand) → length o ≤ 2 → length (wide o n p) ≤ 9
unfolding wide
wide_size o n p h = omega (arith, length-append o (operand_bytes (n % 8) p), operand_size (n % 8) p)

always_size : (o : List ℕ) (n : ℕ) (p : Operand) → length o ≤ 2 → length (always o n p) ≤ 9
unfolding always
always_size o n p h = omega (arith, length-append o (operand_bytes (n % 8) p), operand_size (n % 8) p)

needed_size : (r b : ℕ) → length (rex_if_needed r b) ≤ 1
unfolding rex_if_needed
needed_size r b = rex_size (eqb (r + b) 0) (rex 0 r b)

narrow_size : (o : List ℕ) (n : ℕ) (p : Operand) → length o ≤ 2 → length (narrow o n p) ≤ 9
unfolding narrow
narrow_size o n p h = omega (arith, length-append (rex_if_needed (n / 8) (operand_high p)) (o ++ operand_bytes (n % 8) p), length-append o (operand_bytes (n % 8) p), operand_size (n % 8) p, needed_size (n / 8) (operand_high p))

either_size : (t : Bool) (a b : List ℕ) → length a ≤ 15 → length b ≤ 15 → length (cond t a b) ≤ 15
either_size true a b h g = h
either_size false a b h g = g

arith_size : (n : ℕ) (q : X64Reg) (z : ℤ) → length (arith_imm n q z) ≤ 15
unfolding arith_imm
arith_size n q z = either_size (fits8 z) (wide (0x83 ∷ []) n (Register q) ++ imm8 z) (wide (0x81 ∷ []) n (Register q) ++ imm32 z)
    (omega (arith, length-append (wide (0x83 ∷ []) n (Register q)) (imm8 z), wide_size (0x83 ∷ []) n (Register q) (lit≤ tt), imm8_size z))
    (omega (arith, length-append (wide (0x81 ∷ []) n (Register q)) (imm32 z), wide_size (0x81 ∷ []) n (Register q) (lit≤ tt), imm32_size z))

pub spell_of-size : (i : XInstr) → length (spell_of i) ≤ 15
unfolding spell_of
spell_of-size (MovReg r q) = omega (arith, wide_size (0x8B ∷ []) (number_of_register r) (Register q) (lit≤ tt))
spell_of-size (MovLoad r m) = omega (arith, wide_size (0x8B ∷ []) (number_of_register r) (Memory m) (lit≤ tt))
spell_of-size (Mov32Reg r q) = omega (arith, narrow_size (0x8B ∷ []) (number_of_register r) (Register q) (lit≤ tt))
spell_of-size (Mov32Load r m) = omega (arith, narrow_size (0x8B ∷ []) (number_of_register r) (Memory m) (lit≤ tt))
spell_of-size (MovStore m r) = omega (arith, wide_size (0x89 ∷ []) (number_of_register r) (Memory m) (lit≤ tt))
spell_of-size (Mov32Store m r) = omega (arith, narrow_size (0x89 ∷ []) (number_of_register r) (Memory m) (lit≤ tt))
spell_of-size (Mov16Store m r) = omega (arith, narrow_size (0x89 ∷ []) (number_of_register r) (Memory m) (lit≤ tt))
spell_of-size (Mov8Store m r) = omega (arith, always_size (0x88 ∷ []) (number_of_register r) (Memory m) (lit≤ tt))
spell_of-size (Movzx8Reg r q) = omega (arith, wide_size (0x0F ∷ (0xB6 ∷ [])) (number_of_register r) (Register q) (lit≤ tt))
spell_of-size (Movzx8Load r m) = omega (arith, wide_size (0x0F ∷ (0xB6 ∷ [])) (number_of_register r) (Memory m) (lit≤ tt))
spell_of-size (Movzx16Reg r q) = omega (arith, wide_size (0x0F ∷ (0xB7 ∷ [])) (number_of_register r) (Register q) (lit≤ tt))
spell_of-size (Movzx16Load r m) = omega (arith, wide_size (0x0F ∷ (0xB7 ∷ [])) (number_of_register r) (Memory m) (lit≤ tt))
spell_of-size (Movsx8Reg r q) = omega (arith, wide_size (0x0F ∷ (0xBE ∷ [])) (number_of_register r) (Register q) (lit≤ tt))
spell_of-size (Movsx8Load r m) = omega (arith, wide_size (0x0F ∷ (0xBE ∷ [])) (number_of_register r) (Memory m) (lit≤ tt))
spell_of-size (Movsx16Reg r q) = omega (arith, wide_size (0x0F ∷ (0xBF ∷ [])) (number_of_register r) (Register q) (lit≤ tt))
spell_of-size (Movsx16Load r m) = omega (arith, wide_size (0x0F ∷ (0xBF ∷ [])) (number_of_register r) (Memory m) (lit≤ tt))
spell_of-size (Movsx32Reg r q) = omega (arith, wide_size (0x63 ∷ []) (number_of_register r) (Register q) (lit≤ tt))
spell_of-size (Movsx32Load r m) = omega (arith, wide_size (0x63 ∷ []) (number_of_register r) (Memory m) (lit≤ tt))
spell_of-size (MovImm64 r imm) = omega (arith, length-bytes_of 8 imm)
spell_of-size (Lea r m) = omega (arith, wide_size (0x8D ∷ []) (number_of_register r) (Memory m) (lit≤ tt))
spell_of-size (AddReg q r) = omega (arith, wide_size (0x01 ∷ []) (number_of_register r) (Register q) (lit≤ tt))
spell_of-size (OrReg q r) = omega (arith, wide_size (0x09 ∷ []) (number_of_register r) (Register q) (lit≤ tt))
spell_of-size (AndReg q r) = omega (arith, wide_size (0x21 ∷ []) (number_of_register r) (Register q) (lit≤ tt))
spell_of-size (SubReg q r) = omega (arith, wide_size (0x29 ∷ []) (number_of_register r) (Register q) (lit≤ tt))
spell_of-size (XorReg q r) = omega (arith, wide_size (0x31 ∷ []) (number_of_register r) (Register q) (lit≤ tt))
spell_of-size (CmpReg q r) = omega (arith, wide_size (0x39 ∷ []) (number_of_register r) (Register q) (lit≤ tt))
spell_of-size (AddImm q imm) = arith_size 0 q imm
spell_of-size (OrImm q imm) = arith_size 1 q imm
spell_of-size (AndImm q imm) = arith_size 4 q imm
spell_of-size (SubImm q imm) = arith_size 5 q imm
spell_of-size (XorImm q imm) = arith_size 6 q imm
spell_of-size (CmpImm q imm) = arith_size 7 q imm
spell_of-size (TestReg q r) = omega (arith, wide_size (0x85 ∷ []) (number_of_register r) (Register q) (lit≤ tt))
spell_of-size (ImulReg r q) = omega (arith, wide_size (0x0F ∷ (0xAF ∷ [])) (number_of_register r) (Register q) (lit≤ tt))
spell_of-size (NotReg q) = omega (arith, wide_size (0xF7 ∷ []) 2 (Register q) (lit≤ tt))
spell_of-size (NegReg q) = omega (arith, wide_size (0xF7 ∷ []) 3 (Register q) (lit≤ tt))
spell_of-size (DivReg q) = omega (arith, wide_size (0xF7 ∷ []) 6 (Register q) (lit≤ tt))
spell_of-size (IdivReg q) = omega (arith, wide_size (0xF7 ∷ []) 7 (Register q) (lit≤ tt))
spell_of-size Cqo = omega arith
spell_of-size (ShlCl q) = omega (arith, wide_size (0xD3 ∷ []) 4 (Register q) (lit≤ tt))
spell_of-size (ShrCl q) = omega (arith, wide_size (0xD3 ∷ []) 5 (Register q) (lit≤ tt))
spell_of-size (SarCl q) = omega (arith, wide_size (0xD3 ∷ []) 7 (Register q) (lit≤ tt))
spell_of-size (ShlImm q imm) = omega (arith, length-append (wide (0xC1 ∷ []) 4 (Register q)) (bytes_of 1 imm), wide_size (0xC1 ∷ []) 4 (Register q) (lit≤ tt), length-bytes_of 1 imm)
spell_of-size (ShrImm q imm) = omega (arith, length-append (wide (0xC1 ∷ []) 5 (Register q)) (bytes_of 1 imm), wide_size (0xC1 ∷ []) 5 (Register q) (lit≤ tt), length-bytes_of 1 imm)
spell_of-size (SarImm q imm) = omega (arith, length-append (wide (0xC1 ∷ []) 7 (Register q)) (bytes_of 1 imm), wide_size (0xC1 ∷ []) 7 (Register q) (lit≤ tt), length-bytes_of 1 imm)
spell_of-size (Setcc c q) = omega (arith, always_size (0x0F ∷ ((0x90 + number_of_condition c) ∷ [])) 0 (Register q) (lit≤ tt))
spell_of-size (Jcc c rel) = omega (arith, imm32_size rel)
spell_of-size (JmpRel rel) = omega (arith, imm32_size rel)
spell_of-size (CallRel rel) = omega (arith, imm32_size rel)
spell_of-size (CallReg q) = omega (arith, narrow_size (0xFF ∷ []) 2 (Register q) (lit≤ tt))
spell_of-size (CallMem m) = omega (arith, narrow_size (0xFF ∷ []) 2 (Memory m) (lit≤ tt))
spell_of-size (JmpReg q) = omega (arith, narrow_size (0xFF ∷ []) 4 (Register q) (lit≤ tt))
spell_of-size (JmpMem m) = omega (arith, narrow_size (0xFF ∷ []) 4 (Memory m) (lit≤ tt))
spell_of-size (Push r) = omega (arith, length-append (rex_if_needed 0 (high r)) ((0x50 + low r) ∷ []), needed_size 0 (high r))
spell_of-size (Pop r) = omega (arith, length-append (rex_if_needed 0 (high r)) ((0x58 + low r) ∷ []), needed_size 0 (high r))
spell_of-size Ret = omega arith
spell_of-size Int3 = omega arith
spell_of-size Ud2 = omega arith
