-- The readers of operands, and what is spelled by them.
use Rattle.std.proofs.Common.{◌≡◌, ℕ, ℤ, ◌+◌, ◌*◌, ◌/◌, ◌%◌, ◌^◌, ◌<◌, ◌≤◌, Bool, true, false, cond, eqb, List, [], ◌∷◌, ◌++◌, Ok, refl, sym, ap, ap₂, ◌∙◌, arith, lit<}
use Rattle.std.proofs.lemmas.Bool.{eqb-true, ne_eqb, and_parts, ltb-true, lt-ltb}
use Rattle.hx_words.specs.LittleEndian.{bytes_of}
use Rattle.hx_words.specs.TwosComplement.{signed_of, bits_of, IsSigned}
use Rattle.hx_words.proofs.TwosComplementLaws.{bits_of-signed_of, signed_of-bits_of, bits_of_lt, IsSigned-signed_of}
use Rattle.reg_map.specs.declared.registers.X64Reg.{X64Reg}
use Rattle.x64_isa.specs.declared.instruction.Place.{Place}
use Rattle.x64_isa.specs.declared.instruction.Place.TheVariants.{Base, Rip}
use Rattle.x64_isa.specs.declared.instruction.Operand.{Operand}
use Rattle.x64_isa.specs.declared.instruction.Operand.TheVariants.{Register, Memory}
use Rattle.x64_isa.specs.Fields.{register_at, low, high, modrm, imm8, imm32, fits8, sib, place_high, place_mode, place_rm, place_tail, IsPlace, register_bytes, place_bytes, operand_high, operand_bytes, IsOperand}
use Rattle.x64_isa.specs.Reading.{done, unknown, byte_then, choose, followed, bind, number_at, near_at, far_at, imm_at, imm32_at, count_at, displacement_at, place_at, rest_at, register_operand_at, memory_operand_at, operand_at}
use Rattle.x64_isa.proofs.FieldLaws.{low_lt, high_lt, register_at-bits, low-register_at, high-register_at, fits8-signed_of, IsSigned-signed_of8, signed_of-bits_of8, bits_of8_lt, far-signed_of, modrm_parts, modrm_mode, modrm_reg, modrm_rm}
use Rattle.x64_isa.proofs.Readers.{ok, Live, Live-done, Live-byte, Live-first, Live-second, Live-map, Good, Good-done, Good-unknown, Good-choose, Good-byte, Good-as, Good-bind, Good-map, map_again, Below, number_live, number_good, number_again, number_joins}

-- ---- signed numbers

-- from one end to the other of 32 bits, and near or far
abbrev pub IsImm : Bool → ℤ → Type 0
IsImm near z = IsSigned 32 z × (fits8 z ≡ near)

abbrev pub imm_bytes : Bool → ℤ → List ℕ
imm_bytes near z = cond near (imm8 z) (imm32 z)

near_good : Good (IsImm true) (imm_bytes true) [] near_at
unfolding near_at
near_good = Good-map (Below 1) (bytes_of 1) (IsImm true) (imm_bytes true) [] (number_at 1) (λ n. signed_of 8 n) (number_good 1) (λ n h.
    let lt : n < 256 = omega arith in
    ((IsSigned-signed_of8 n lt, fits8-signed_of n lt), ap (λ (k : ℕ). bytes_of 1 k) (bits_of-signed_of 8 n (lit< tt) lt)))

near_live : Live near_at
unfolding near_at
near_live = Live-map (number_at 1) (λ n. signed_of 8 n) (number_live 1)

far_value : (n : ℕ) → 256 ^ 3 ≤ n → n < 2 * 256 ^ 3 → Live (choose (fits8 (signed_of 32 n)) unknown (done (signed_of 32 n)))
far_value n l h = Live-second _ _ _ (far-signed_of n l h) (Live-done _)

far_good : Good (IsImm false) (imm_bytes false) [] far_at
unfolding far_at
far_good = Good-bind (Below 4) (bytes_of 4) (IsImm false) (imm_bytes false) [] (number_at 4) _ (number_good 4) (λ n h.
    let lt : n < 2 ^ 32 = omega arith in
    Good-choose (IsImm false) (imm_bytes false) (bytes_of 4 n) (fits8 (signed_of 32 n)) _ _ (λ _. Good-unknown _ _ _) (λ e.
    Good-done (IsImm false) (imm_bytes false) _ _ (IsSigned-signed_of 32 n (lit< tt) lt, e) (ap (λ (k : ℕ). bytes_of 4 k) (bits_of-signed_of 32 n (lit< tt) lt))))
    (number_joins 3 _ far_value)

pub imm_good : (near : Bool) → Good (IsImm near) (imm_bytes near) [] (imm_at near)
unfolding imm_at
imm_good true = Good-choose _ _ [] true _ _ (λ _. near_good) (λ e. absurd cc)
imm_good false = Good-choose _ _ [] false _ _ (λ e. absurd cc) (λ _. far_good)

far_live : Live far_at
unfolding far_at bind choose number_at byte_then done unknown fits8
far_live = record { more = 0 ∷ (0 ∷ (0 ∷ (1 ∷ []))); value = signed_of 32 16777216; are_bytes = (omega arith, (omega arith, (omega arith, (omega arith, tt)))); reads = refl }

pub imm_live : (near : Bool) → Live (imm_at near)
unfolding imm_at
imm_live true = Live-first true _ _ refl near_live
imm_live false = Live-second false _ _ refl far_live

near_again : (z : ℤ) → fits8 z ≡ true → (rest : List ℕ) → near_at (imm8 z ++ rest) ≡ Ok (z, rest)
unfolding near_at
near_again z e rest = map_again (number_at 1) (λ n. signed_of 8 n) (imm8 z ++ rest) (bits_of 8 z) rest (number_again 1 (bits_of 8 z) rest (bits_of8_lt z e)) ∙ ap (λ (k : ℤ). ok (k, rest)) (signed_of-bits_of8 z e)

far_again : (z : ℤ) → IsSigned 32 z → fits8 z ≡ false → (rest : List ℕ) → far_at (imm32 z ++ rest) ≡ Ok (z, rest)
unfolding far_at bind choose done unknown
far_again z s e rest =
    let back : signed_of 32 (bits_of 32 z) ≡ z = signed_of-bits_of 32 z (lit< tt) s in
    ap (followed (λ n. choose (fits8 (signed_of 32 n)) unknown (done (signed_of 32 n)))) (number_again 4 (bits_of 32 z) rest (bits_of_lt 32 z (lit< tt) s)) ∙ rw (back, e) refl

pub imm_again : (near : Bool) (z : ℤ) → IsImm near z → (rest : List ℕ) → imm_at near (imm_bytes near z ++ rest) ≡ Ok (z, rest)
unfolding imm_at choose
imm_again true z h rest = near_again z h.1 rest
imm_again false z h rest = far_again z h.0 h.1 rest

pub imm32_good : Good (IsSigned 32) imm32 [] imm32_at
unfolding imm32_at
imm32_good = Good-map (Below 4) (bytes_of 4) (IsSigned 32) imm32 [] (number_at 4) (λ n. signed_of 32 n) (number_good 4) (λ n h.
    let lt : n < 2 ^ 32 = omega arith in
    (IsSigned-signed_of 32 n (lit< tt) lt, ap (λ (k : ℕ). bytes_of 4 k) (bits_of-signed_of 32 n (lit< tt) lt)))

pub imm32_live : Live imm32_at
unfolding imm32_at
imm32_live = Live-map (number_at 4) (λ n. signed_of 32 n) (number_live 4)

pub imm32_again : (z : ℤ) → IsSigned 32 z → (rest : List ℕ) → imm32_at (imm32 z ++ rest) ≡ Ok (z, rest)
unfolding imm32_at
imm32_again z s rest = map_again (number_at 4) (λ n. signed_of 32 n) (imm32 z ++ rest) (bits_of 32 z) rest (number_again 4 (bits_of 32 z) rest (bits_of_lt 32 z (lit< tt) s)) ∙ ap (λ (k : ℤ). ok (k, rest)) (signed_of-bits_of 32 z (lit< tt) s)

-- ---- counts of shifts

abbrev pub IsCount : ℕ → Type 0
IsCount n = n < 64

one_byte : (n : ℕ) → n < 64 → bytes_of 1 n ≡ n ∷ []
unfolding bytes_of
one_byte n h = let e : n % 256 ≡ n = omega arith in rw e refl

pub count_live : Live count_at
unfolding count_at
count_live = Live-byte _ 0 (lit< tt) (Live-first _ _ _ refl (Live-done 0))

pub count_good : Good IsCount (bytes_of 1) [] count_at
unfolding count_at
count_good = Good-byte IsCount (bytes_of 1) [] _ (Live-byte _ 0 (lit< tt) (Live-first _ _ _ refl (Live-done 0))) (λ n ln.
    Good-choose IsCount (bytes_of 1) (n ∷ []) _ _ _ (λ t. let lt : n < 64 = ltb-true n 64 t in Good-done IsCount (bytes_of 1) (n ∷ []) n lt (one_byte n lt)) (λ _. Good-unknown _ _ _))

pub count_again : (n : ℕ) → n < 64 → (rest : List ℕ) → count_at (bytes_of 1 n ++ rest) ≡ Ok (n, rest)
unfolding count_at byte_then choose done
count_again n h rest = rw (one_byte n h, lt-ltb n 64 h) refl

-- ---- places

disp_bytes : ℕ → Bool → ℤ → List ℕ
disp_bytes l near z = sib l ++ imm_bytes near z

sib_is : (l : ℕ) → eqb l 4 ≡ true → sib l ≡ 0x24 ∷ []
sib_is l e = rw e refl

no_sib : (l : ℕ) → eqb l 4 ≡ false → sib l ≡ []
no_sib l e = rw e refl

disp_good : (l : ℕ) (near : Bool) → Good (IsImm near) (disp_bytes l near) [] (displacement_at l near)
unfolding displacement_at disp_bytes
disp_good l near = Good-choose (IsImm near) (disp_bytes l near) [] (eqb l 4) _ _
    (λ t. Good-byte (IsImm near) (disp_bytes l near) [] _ (Live-byte _ 0x24 (lit< tt) (Live-first _ _ _ refl (imm_live near))) (λ s ls.
    Good-choose (IsImm near) (disp_bytes l near) (s ∷ []) (eqb s 0x24) _ _ (λ u.
    Good-as (IsImm near) (IsImm near) (imm_bytes near) (disp_bytes l near) (s ∷ []) (imm_at near) (imm_good near) (λ z v. (v, ap (λ (x : List ℕ). x ++ imm_bytes near z) (sib_is l t ∙ ap (λ (k : ℕ). k ∷ []) (sym (eqb-true s 0x24 u))))))
    (λ _. Good-unknown _ _ _)))
    (λ t. Good-as (IsImm near) (IsImm near) (imm_bytes near) (disp_bytes l near) [] (imm_at near) (imm_good near) (λ z v. (v, ap (λ (x : List ℕ). x ++ imm_bytes near z) (no_sib l t))))

disp_live : (l : ℕ) (near : Bool) → eqb l 4 ≡ false → Live (displacement_at l near)
unfolding displacement_at
disp_live l near e = Live-second _ _ _ e (imm_live near)

disp_again : (b : Bool) (l : ℕ) → eqb l 4 ≡ b → (near : Bool) (z : ℤ) → IsImm near z → (rest : List ℕ) → displacement_at l near (disp_bytes l near z ++ rest) ≡ Ok (z, rest)
unfolding displacement_at disp_bytes choose byte_then
disp_again true l e near z v rest = rw e (imm_again near z v rest)
disp_again false l e near z v rest = rw e (imm_again near z v rest)

-- a place with this high bit, mode and field rm
abbrev IsAt : ℕ → ℕ → ℕ → Place → Type 0
IsAt b mode l m = IsPlace m × ((place_high m ≡ b) × ((place_mode m ≡ mode) × (place_rm m ≡ l)))

rip_at : (b mode l : ℕ) (d : ℤ) → IsSigned 32 d → b ≡ 0 → mode ≡ 0 → l ≡ 5 → IsAt b mode l (Rip d) × (place_tail (Rip d) ≡ [] ++ imm32 d)
unfolding IsPlace place_high place_mode place_rm place_tail
rip_at b mode l d s eb em el = ((s, (sym eb, (sym em, sym el))), refl)

base_at : (b mode l : ℕ) (near : Bool) (d : ℤ) → b < 2 → l < 8 → IsImm near d → mode ≡ cond near 1 2 → IsAt b mode l (Base (register_at b l) d) × (place_tail (Base (register_at b l) d) ≡ [] ++ disp_bytes l near d)
unfolding IsPlace place_high place_mode place_rm place_tail disp_bytes
base_at b mode l near d lb ll v em = (
  (v.0, (high-register_at b l lb ll, (ap (λ (t : Bool). cond t 1 2) v.1 ∙ sym em, low-register_at b l lb ll))),
  ap (λ (k : ℕ). sib k ++ cond (fits8 d) (imm8 d) (imm32 d)) (low-register_at b l lb ll) ∙ ap (λ (t : Bool). sib l ++ cond t (imm8 d) (imm32 d)) v.1,
)

place_good : (b mode l : ℕ) → b < 2 → l < 8 → Good (IsAt b mode l) place_tail [] (place_at b mode l)
unfolding place_at
place_good b mode l lb ll =
    Good-choose (IsAt b mode l) place_tail [] (eqb mode 0) _ _ (λ t.
    Good-choose (IsAt b mode l) place_tail [] _ _ _ (λ u. let h = and_parts (eqb l 5) (eqb b 0) u in
    Good-map (IsSigned 32) imm32 (IsAt b mode l) place_tail [] imm32_at (λ d. Rip d) imm32_good (λ d s. rip_at b mode l d s (eqb-true b 0 h.1) (eqb-true mode 0 t) (eqb-true l 5 h.0)))
    (λ _. Good-unknown _ _ _)) (λ _.
    Good-choose (IsAt b mode l) place_tail [] (eqb mode 1) _ _ (λ t.
    Good-map (IsImm true) (disp_bytes l true) (IsAt b mode l) place_tail [] (displacement_at l true) (λ d. Base (register_at b l) d) (disp_good l true) (λ d v. base_at b mode l true d lb ll v (eqb-true mode 1 t))) (λ _.
    Good-choose (IsAt b mode l) place_tail [] (eqb mode 2) _ _ (λ t.
    Good-map (IsImm false) (disp_bytes l false) (IsAt b mode l) place_tail [] (displacement_at l false) (λ d. Base (register_at b l) d) (disp_good l false) (λ d v. base_at b mode l false d lb ll v (eqb-true mode 2 t)))
    (λ _. Good-unknown _ _ _)))

place_live : (b : ℕ) → Live (place_at b 1 0)
unfolding place_at
place_live b = Live-second _ _ _ refl (Live-first _ _ _ refl (Live-map (displacement_at 0 true) (λ d. Base (register_at b 0) d) (disp_live 0 true refl)))

-- the two modes of a base
base_again : (near : Bool) (b l : ℕ) (d : ℤ) → IsImm near d → (rest : List ℕ) → place_at b (cond near 1 2) l (disp_bytes l near d ++ rest) ≡ Ok (Base (register_at b l) d, rest)
unfolding place_at choose
base_again true b l d v rest = map_again (displacement_at l true) (λ z. Base (register_at b l) z) (disp_bytes l true d ++ rest) d rest (disp_again (eqb l 4) l refl true d v rest)
base_again false b l d v rest = map_again (displacement_at l false) (λ z. Base (register_at b l) z) (disp_bytes l false d ++ rest) d rest (disp_again (eqb l 4) l refl false d v rest)

rip_again : (d : ℤ) → IsSigned 32 d → (rest : List ℕ) → place_at 0 0 5 (imm32 d ++ rest) ≡ Ok (Rip d, rest)
unfolding place_at choose
rip_again d s rest = map_again imm32_at (λ z. Rip z) (imm32 d ++ rest) d rest (imm32_again d s rest)

pub place_again : (m : Place) → IsPlace m → (rest : List ℕ) → place_at (place_high m) (place_mode m) (place_rm m) (place_tail m ++ rest) ≡ Ok (m, rest)
unfolding IsPlace place_high place_mode place_rm place_tail disp_bytes
place_again (Base base d) v rest = base_again (fits8 d) (high base) (low base) d (v, refl) rest ∙ ap (λ (r : X64Reg). ok (Base r d, rest)) (register_at-bits base)
place_again (Rip d) v rest = rip_again d v rest

mode_lt : (t : Bool) → cond t 1 2 < 3
mode_lt true = omega arith
mode_lt false = omega arith

pub place_mode_lt : (m : Place) → place_mode m < 3
unfolding place_mode
place_mode_lt (Base base d) = mode_lt (fits8 d)
place_mode_lt (Rip d) = omega arith

pub place_rm_lt : (m : Place) → place_rm m < 8
unfolding place_rm
place_rm_lt (Base base d) = low_lt base
place_rm_lt (Rip d) = omega arith

pub place_high_lt : (m : Place) → place_high m < 2
unfolding place_high
place_high_lt (Base base d) = high_lt base
place_high_lt (Rip d) = omega arith

-- ---- ModRM and what follows it

-- what rm names, as a mode, a field rm and the bytes behind ModRM
abbrev pub operand_mode : Operand → ℕ
operand_mode (Register q) = 3
operand_mode (Memory m) = place_mode m

abbrev pub operand_rm : Operand → ℕ
operand_rm (Register q) = low q
operand_rm (Memory m) = place_rm m

abbrev pub operand_tail : Operand → List ℕ
operand_tail (Register q) = []
operand_tail (Memory m) = place_tail m

abbrev pub IsRest : ℕ → ℕ → ℕ → Operand → Type 0
IsRest b mode l o = IsOperand o × ((operand_high o ≡ b) × ((operand_mode o ≡ mode) × (operand_rm o ≡ l)))

pub operand_parts : (n : ℕ) (o : Operand) → operand_bytes n o ≡ modrm (operand_mode o) n (operand_rm o) ∷ operand_tail o
unfolding register_bytes place_bytes
operand_parts n (Register q) = refl
operand_parts n (Memory m) = refl

pub rest_good : (b mode l : ℕ) → b < 2 → l < 8 → Good (IsRest b mode l) operand_tail [] (rest_at b mode l)
unfolding rest_at
rest_good b mode l lb ll = Good-choose (IsRest b mode l) operand_tail [] (eqb mode 3) _ _
    (λ t. Good-done (IsRest b mode l) operand_tail [] (Register (register_at b l)) (tt, (high-register_at b l lb ll, (sym (eqb-true mode 3 t), low-register_at b l lb ll))) refl)
    (λ _. Good-map (IsAt b mode l) place_tail (IsRest b mode l) operand_tail [] (place_at b mode l) (λ m. Memory m) (place_good b mode l lb ll) (λ m v. (v, refl)))

pub rest_live : (b : ℕ) → Live (rest_at b 3 0)
unfolding rest_at
rest_live b = Live-first _ _ _ refl (Live-done _)

not_three : (k : ℕ) → k < 3 → eqb k 3 ≡ false
not_three k h = ne_eqb k 3 (λ e. omega arith)

pub rest_again : (o : Operand) → IsOperand o → (rest : List ℕ) → rest_at (operand_high o) (operand_mode o) (operand_rm o) (operand_tail o ++ rest) ≡ Ok (o, rest)
unfolding rest_at choose done
rest_again (Register q) v rest = ap (λ (r : X64Reg). ok (Register r, rest)) (register_at-bits q)
rest_again (Memory m) v rest = rw (not_three (place_mode m) (place_mode_lt m)) (map_again (place_at (place_high m) (place_mode m) (place_rm m)) (λ p. Memory p) (place_tail m ++ rest) m rest (place_again m v rest))

pub operand_rm_lt : (o : Operand) → operand_rm o < 8
operand_rm_lt (Register q) = low_lt q
operand_rm_lt (Memory m) = place_rm_lt m

pub operand_is : (m : ℕ) (o : Operand) → operand_mode o ≡ m / 64 → operand_rm o ≡ m % 8 → operand_bytes (m / 8 % 8) o ≡ m ∷ operand_tail o
operand_is m o em el = operand_parts (m / 8 % 8) o ∙ ap₂ (λ k l. modrm k (m / 8 % 8) l ∷ operand_tail o) em el ∙ ap (λ (k : ℕ). k ∷ operand_tail o) (modrm_parts m)

-- behind the byte ModRM: what rm names, with this field reg
pub rest_behind : (b m : ℕ) → b < 2 → Good (λ o. IsOperand o × (operand_high o ≡ b)) (λ o. operand_bytes (m / 8 % 8) o) (m ∷ []) (rest_at b (m / 64) (m % 8))
rest_behind b m lb =
    let ll : m % 8 < 8 = omega arith in
    Good-as (IsRest b (m / 64) (m % 8)) (λ o. IsOperand o × (operand_high o ≡ b)) operand_tail (λ o. operand_bytes (m / 8 % 8) o) (m ∷ []) (rest_at b (m / 64) (m % 8)) (rest_good b (m / 64) (m % 8) lb ll) (λ o v.
    ((v.0, v.1.0), operand_is m o v.1.1.0 v.1.1.1))

-- a field reg and a register, a place, or either
abbrev pub IsRegisterOperand : ℕ → ℕ × X64Reg → Type 0
IsRegisterOperand b x = (x.0 < 8) × (high x.1 ≡ b)

abbrev pub register_spelled : ℕ × X64Reg → List ℕ
register_spelled x = register_bytes x.0 x.1

register_is : (b m : ℕ) → b < 2 → m / 64 ≡ 3 → register_bytes (m / 8 % 8) (register_at b (m % 8)) ≡ m ∷ []
unfolding register_bytes
register_is b m lb e =
    let ll : m % 8 < 8 = omega arith in
    ap₂ (λ k l. modrm k (m / 8 % 8) l ∷ []) (sym e) (low-register_at b (m % 8) lb ll) ∙ ap (λ (k : ℕ). k ∷ []) (modrm_parts m)

pub register_operand_good : (b : ℕ) → b < 2 → Good (IsRegisterOperand b) register_spelled [] (register_operand_at b)
unfolding register_operand_at
register_operand_good b lb = Good-byte (IsRegisterOperand b) register_spelled [] _ (Live-byte _ 192 (lit< tt) (Live-first _ _ _ refl (Live-done _))) (λ m lm.
    Good-choose (IsRegisterOperand b) register_spelled (m ∷ []) (eqb (m / 64) 3) _ _
    (λ t. let ln : m / 8 % 8 < 8 = omega arith in let ll : m % 8 < 8 = omega arith in
    Good-done (IsRegisterOperand b) register_spelled (m ∷ []) (m / 8 % 8, register_at b (m % 8)) (ln, high-register_at b (m % 8) lb ll) (register_is b m lb (eqb-true (m / 64) 3 t)))
    (λ _. Good-unknown _ _ _))

pub register_operand_live : (b : ℕ) → Live (register_operand_at b)
unfolding register_operand_at
register_operand_live b = Live-byte _ 192 (lit< tt) (Live-first _ _ _ refl (Live-done _))

-- with each number /n
pub register_operand_reads : (b n : ℕ) → n < 8 → register_operand_at b ((192 + 8 * n) ∷ []) ≡ Ok ((n, register_at b 0), [])
unfolding register_operand_at byte_then choose done
register_operand_reads b n h =
    let mode : (192 + 8 * n) / 64 ≡ 3 = omega arith in
    let reg : (192 + 8 * n) / 8 % 8 ≡ n = omega arith in
    let rm : (192 + 8 * n) % 8 ≡ 0 = omega arith in
    rw (mode, reg, rm) refl

pub register_operand_again : (n : ℕ) (q : X64Reg) → n < 8 → (rest : List ℕ) → register_operand_at (high q) (register_bytes n q ++ rest) ≡ Ok ((n, q), rest)
unfolding register_operand_at register_bytes byte_then choose done
register_operand_again n q h rest = rw (modrm_mode 3 n (low q) h (low_lt q), modrm_reg 3 n (low q) h (low_lt q), modrm_rm 3 n (low q) h (low_lt q), register_at-bits q) refl

abbrev pub IsMemoryOperand : ℕ → ℕ × Place → Type 0
IsMemoryOperand b x = (x.0 < 8) × (IsPlace x.1 × (place_high x.1 ≡ b))

abbrev pub memory_spelled : ℕ × Place → List ℕ
memory_spelled x = place_bytes x.0 x.1

place_is : (m : ℕ) (p : Place) → place_mode p ≡ m / 64 → place_rm p ≡ m % 8 → place_bytes (m / 8 % 8) p ≡ m ∷ place_tail p
unfolding place_bytes
place_is m p em el = ap₂ (λ k l. modrm k (m / 8 % 8) l ∷ place_tail p) em el ∙ ap (λ (k : ℕ). k ∷ place_tail p) (modrm_parts m)

pub memory_operand_live : (b : ℕ) → Live (memory_operand_at b)
unfolding memory_operand_at
memory_operand_live b = Live-byte _ 64 (lit< tt) (Live-second _ _ _ refl (Live-map (place_at b 1 0) (λ p. (0, p)) (place_live b)))

pub memory_operand_good : (b : ℕ) → b < 2 → Good (IsMemoryOperand b) memory_spelled [] (memory_operand_at b)
unfolding memory_operand_at
memory_operand_good b lb = Good-byte (IsMemoryOperand b) memory_spelled [] _ (Live-byte _ 64 (lit< tt) (Live-second _ _ _ refl (Live-map (place_at b 1 0) (λ p. (0, p)) (place_live b)))) (λ m lm.
    let ln : m / 8 % 8 < 8 = omega arith in
    let ll : m % 8 < 8 = omega arith in
    Good-choose (IsMemoryOperand b) memory_spelled (m ∷ []) (eqb (m / 64) 3) _ _ (λ _. Good-unknown _ _ _) (λ _.
    Good-map (IsAt b (m / 64) (m % 8)) place_tail (IsMemoryOperand b) memory_spelled (m ∷ []) (place_at b (m / 64) (m % 8)) (λ p. (m / 8 % 8, p)) (place_good b (m / 64) (m % 8) lb ll) (λ p v.
    ((ln, (v.0, v.1.0)), place_is m p v.1.1.0 v.1.1.1))))

pub memory_operand_again : (n : ℕ) (m : Place) → n < 8 → IsPlace m → (rest : List ℕ) → memory_operand_at (place_high m) (place_bytes n m ++ rest) ≡ Ok ((n, m), rest)
unfolding memory_operand_at place_bytes byte_then choose
memory_operand_again n m h v rest =
    let lr = place_rm_lt m in
    rw (modrm_mode (place_mode m) n (place_rm m) h lr, modrm_reg (place_mode m) n (place_rm m) h lr, modrm_rm (place_mode m) n (place_rm m) h lr, not_three (place_mode m) (place_mode_lt m))
    (map_again (place_at (place_high m) (place_mode m) (place_rm m)) (λ p. (n, p)) (place_tail m ++ rest) m rest (place_again m v rest))

abbrev pub IsAnyOperand : ℕ → ℕ × Operand → Type 0
IsAnyOperand b x = (x.0 < 8) × (IsOperand x.1 × (operand_high x.1 ≡ b))

abbrev pub any_spelled : ℕ × Operand → List ℕ
any_spelled x = operand_bytes x.0 x.1

pub operand_live : (b : ℕ) → Live (operand_at b)
unfolding operand_at
operand_live b = Live-byte _ 192 (lit< tt) (Live-map (rest_at b 3 0) (λ o. (0, o)) (rest_live b))

pub operand_good : (b : ℕ) → b < 2 → Good (IsAnyOperand b) any_spelled [] (operand_at b)
unfolding operand_at
operand_good b lb = Good-byte (IsAnyOperand b) any_spelled [] _ (Live-byte _ 192 (lit< tt) (Live-map (rest_at b 3 0) (λ o. (0, o)) (rest_live b))) (λ m lm.
    let ln : m / 8 % 8 < 8 = omega arith in
    let ll : m % 8 < 8 = omega arith in
    Good-map (IsRest b (m / 64) (m % 8)) operand_tail (IsAnyOperand b) any_spelled (m ∷ []) (rest_at b (m / 64) (m % 8)) (λ o. (m / 8 % 8, o)) (rest_good b (m / 64) (m % 8) lb ll) (λ o v.
    ((ln, (v.0, v.1.0)), operand_is m o v.1.1.0 v.1.1.1)))

operand_front : (n : ℕ) (o : Operand) → n < 8 → IsOperand o → (rest : List ℕ) → operand_at (operand_high o) (modrm (operand_mode o) n (operand_rm o) ∷ (operand_tail o ++ rest)) ≡ Ok ((n, o), rest)
unfolding operand_at byte_then
operand_front n o h v rest =
    let lr = operand_rm_lt o in
    rw (modrm_mode (operand_mode o) n (operand_rm o) h lr, modrm_reg (operand_mode o) n (operand_rm o) h lr, modrm_rm (operand_mode o) n (operand_rm o) h lr)
    (map_again (rest_at (operand_high o) (operand_mode o) (operand_rm o)) (λ p. (n, p)) (operand_tail o ++ rest) o rest (rest_again o v rest))

pub operand_again : (n : ℕ) (o : Operand) → n < 8 → IsOperand o → (rest : List ℕ) → operand_at (operand_high o) (operand_bytes n o ++ rest) ≡ Ok ((n, o), rest)
operand_again n o h v rest = ap (λ (l : List ℕ). operand_at (operand_high o) (l ++ rest)) (operand_parts n o) ∙ operand_front n o h v rest
