-- For each place of operands: what is read from a word is spelled so, and what is spelled is read.
use Rattle.std.proofs.Common.{◌≡◌, ℕ, ℤ, ◌+◌, ◌*◌, ◌^◌, ◌<◌, Bool, ◌==◌, eqb, arith}
use Rattle.hx_words.specs.TwosComplement.{signed_of, bits_of}
use Rattle.hx_words.proofs.TwosComplementLaws.{bits_of-signed_of, bits_of_lt, IsSigned-signed_of}
use Rattle.hx_bits.specs.Bits.{field_of}
use Rattle.reg_map.specs.declared.registers.A64Reg.{A64Reg}
use Rattle.a64_isa.specs.declared.instruction.Condition.{Condition}
use Rattle.a64_isa.specs.declared.instruction.AInstr.{AInstr}
use Rattle.a64_isa.specs.Conditions.{condition_number, condition_at}
use Rattle.a64_isa.specs.Forms.{bit_of, In_add_immediate, In_three_registers, In_three_sources, In_move_wide, In_pc_relative, In_one_register, In_register_pair, In_branch, In_branch_if, In_compare_branch, In_branch_register, In_select, In_bitfield, In_exception, add_immediate_word, three_registers_word, three_sources_word, move_wide_word, pc_relative_word, one_register_word, register_pair_word, branch_word, branch_if_word, compare_branch_word, branch_register_word, select_word, bitfield_word, exception_word}
use Rattle.a64_isa.specs.Reading.{cleared, register_in, add_immediate_in, three_registers_in, three_sources_in, move_wide_in, pc_relative_in, one_register_in, register_pair_in, branch_in, branch_if_in, compare_branch_in, branch_register_in, select_in, bitfield_in, exception_in}
use Rattle.a64_isa.proofs.OperandLaws.{register_in-is, bit_of_lt, flag-is, bit_of-flag, condition_number_lt, condition-is, condition_number-at, signed-is}

pub add_immediate-found : (w base : ℕ) → w < 2 ^ 32 → cleared 0 23 w ≡ base → (In_add_immediate (register_in 0 w) (register_in 5 w) (field_of 10 12 w) (field_of 22 1 w == 1)) × (add_immediate_word base (register_in 0 w) (register_in 5 w) (field_of 10 12 w) (field_of 22 1 w == 1) ≡ w)
add_immediate-found w base lt e =
    let shift12_is : bit_of (eqb (field_of 22 1 w) 1) ≡ field_of 22 1 w = bit_of-flag (field_of 22 1 w) (omega arith) in
    ((omega arith, omega arith, omega arith), rw shift12_is (omega arith))

pub add_immediate-fixed : (base : ℕ) → cleared 0 23 base ≡ base → (d : A64Reg) (n : A64Reg) (imm : ℕ) (shift12 : Bool) → In_add_immediate d n imm shift12 → cleared 0 23 (add_immediate_word base d n imm shift12) ≡ base
add_immediate-fixed base fix d n imm shift12 h =
    let shift12_lt = bit_of_lt shift12 in
    omega arith

pub add_immediate-again : (form : A64Reg → A64Reg → ℕ → Bool → AInstr) (base : ℕ) → cleared 0 23 base ≡ base → (d : A64Reg) (n : A64Reg) (imm : ℕ) (shift12 : Bool) → In_add_immediate d n imm shift12 → add_immediate_in form (add_immediate_word base d n imm shift12) ≡ form d n imm shift12
add_immediate-again form base fix d n imm shift12 h =
    let shift12_lt = bit_of_lt shift12 in
    let w : ℕ = add_immediate_word base d n imm shift12 in
    let d_is : register_in 0 w ≡ d = register_in-is 0 w d (omega arith) in
    let n_is : register_in 5 w ≡ n = register_in-is 5 w n (omega arith) in
    let imm_is : field_of 10 12 w ≡ imm = omega arith in
    let shift12_is : eqb (field_of 22 1 w) 1 ≡ shift12 = flag-is (field_of 22 1 w) shift12 (omega arith) in
    cc

pub three_registers-found : (w base : ℕ) → w < 2 ^ 32 → cleared 0 10 (cleared 16 5 w) ≡ base → (In_three_registers (register_in 0 w) (register_in 5 w) (register_in 16 w)) × (three_registers_word base (register_in 0 w) (register_in 5 w) (register_in 16 w) ≡ w)
three_registers-found w base lt e =
    ((omega arith, omega arith, omega arith), omega arith)

pub three_registers-fixed : (base : ℕ) → cleared 0 10 (cleared 16 5 base) ≡ base → (d : A64Reg) (n : A64Reg) (m : A64Reg) → In_three_registers d n m → cleared 0 10 (cleared 16 5 (three_registers_word base d n m)) ≡ base
three_registers-fixed base fix d n m h =
    omega arith

pub three_registers-again : (form : A64Reg → A64Reg → A64Reg → AInstr) (base : ℕ) → cleared 0 10 (cleared 16 5 base) ≡ base → (d : A64Reg) (n : A64Reg) (m : A64Reg) → In_three_registers d n m → three_registers_in form (three_registers_word base d n m) ≡ form d n m
three_registers-again form base fix d n m h =
    let w : ℕ = three_registers_word base d n m in
    let d_is : register_in 0 w ≡ d = register_in-is 0 w d (omega arith) in
    let n_is : register_in 5 w ≡ n = register_in-is 5 w n (omega arith) in
    let m_is : register_in 16 w ≡ m = register_in-is 16 w m (omega arith) in
    cc

pub three_sources-found : (w base : ℕ) → w < 2 ^ 32 → cleared 0 15 (cleared 16 5 w) ≡ base → (In_three_sources (register_in 0 w) (register_in 5 w) (register_in 10 w) (register_in 16 w)) × (three_sources_word base (register_in 0 w) (register_in 5 w) (register_in 10 w) (register_in 16 w) ≡ w)
three_sources-found w base lt e =
    ((omega arith, omega arith, omega arith, omega arith), omega arith)

pub three_sources-fixed : (base : ℕ) → cleared 0 15 (cleared 16 5 base) ≡ base → (d : A64Reg) (n : A64Reg) (a : A64Reg) (m : A64Reg) → In_three_sources d n a m → cleared 0 15 (cleared 16 5 (three_sources_word base d n a m)) ≡ base
three_sources-fixed base fix d n a m h =
    omega arith

pub three_sources-again : (form : A64Reg → A64Reg → A64Reg → A64Reg → AInstr) (base : ℕ) → cleared 0 15 (cleared 16 5 base) ≡ base → (d : A64Reg) (n : A64Reg) (a : A64Reg) (m : A64Reg) → In_three_sources d n a m → three_sources_in form (three_sources_word base d n a m) ≡ form d n a m
three_sources-again form base fix d n a m h =
    let w : ℕ = three_sources_word base d n a m in
    let d_is : register_in 0 w ≡ d = register_in-is 0 w d (omega arith) in
    let n_is : register_in 5 w ≡ n = register_in-is 5 w n (omega arith) in
    let a_is : register_in 10 w ≡ a = register_in-is 10 w a (omega arith) in
    let m_is : register_in 16 w ≡ m = register_in-is 16 w m (omega arith) in
    cc

pub move_wide-found : (w base : ℕ) → w < 2 ^ 32 → cleared 0 23 w ≡ base → (In_move_wide (register_in 0 w) (field_of 5 16 w) (field_of 21 2 w)) × (move_wide_word base (register_in 0 w) (field_of 5 16 w) (field_of 21 2 w) ≡ w)
move_wide-found w base lt e =
    ((omega arith, omega arith, omega arith), omega arith)

pub move_wide-fixed : (base : ℕ) → cleared 0 23 base ≡ base → (d : A64Reg) (imm : ℕ) (hw : ℕ) → In_move_wide d imm hw → cleared 0 23 (move_wide_word base d imm hw) ≡ base
move_wide-fixed base fix d imm hw h =
    omega arith

pub move_wide-again : (form : A64Reg → ℕ → ℕ → AInstr) (base : ℕ) → cleared 0 23 base ≡ base → (d : A64Reg) (imm : ℕ) (hw : ℕ) → In_move_wide d imm hw → move_wide_in form (move_wide_word base d imm hw) ≡ form d imm hw
move_wide-again form base fix d imm hw h =
    let w : ℕ = move_wide_word base d imm hw in
    let d_is : register_in 0 w ≡ d = register_in-is 0 w d (omega arith) in
    let imm_is : field_of 5 16 w ≡ imm = omega arith in
    let hw_is : field_of 21 2 w ≡ hw = omega arith in
    cc

pub pc_relative-found : (w base : ℕ) → w < 2 ^ 32 → cleared 0 24 (cleared 29 2 w) ≡ base → (In_pc_relative (register_in 0 w) (signed_of 21 (field_of 5 19 w * 2 ^ 2 + field_of 29 2 w))) × (pc_relative_word base (register_in 0 w) (signed_of 21 (field_of 5 19 w * 2 ^ 2 + field_of 29 2 w)) ≡ w)
pc_relative-found w base lt e =
    let offset_lt : field_of 5 19 w * 2 ^ 2 + field_of 29 2 w < 2 ^ 21 = omega arith in
    let offset_is : bits_of 21 (signed_of 21 (field_of 5 19 w * 2 ^ 2 + field_of 29 2 w)) ≡ field_of 5 19 w * 2 ^ 2 + field_of 29 2 w = bits_of-signed_of 21 (field_of 5 19 w * 2 ^ 2 + field_of 29 2 w) (omega arith) offset_lt in
    ((omega arith, IsSigned-signed_of 21 (field_of 5 19 w * 2 ^ 2 + field_of 29 2 w) (omega arith) offset_lt), rw offset_is (omega arith))

pub pc_relative-fixed : (base : ℕ) → cleared 0 24 (cleared 29 2 base) ≡ base → (d : A64Reg) (offset : ℤ) → In_pc_relative d offset → cleared 0 24 (cleared 29 2 (pc_relative_word base d offset)) ≡ base
pc_relative-fixed base fix d offset h =
    let offset_lt : bits_of 21 offset < 2 ^ 21 = bits_of_lt 21 offset (omega arith) h.1 in
    omega arith

pub pc_relative-again : (form : A64Reg → ℤ → AInstr) (base : ℕ) → cleared 0 24 (cleared 29 2 base) ≡ base → (d : A64Reg) (offset : ℤ) → In_pc_relative d offset → pc_relative_in form (pc_relative_word base d offset) ≡ form d offset
pc_relative-again form base fix d offset h =
    let offset_lt : bits_of 21 offset < 2 ^ 21 = bits_of_lt 21 offset (omega arith) h.1 in
    let w : ℕ = pc_relative_word base d offset in
    let d_is : register_in 0 w ≡ d = register_in-is 0 w d (omega arith) in
    let offset_is : signed_of 21 (field_of 5 19 w * 2 ^ 2 + field_of 29 2 w) ≡ offset = signed-is 21 (field_of 5 19 w * 2 ^ 2 + field_of 29 2 w) offset (omega arith) h.1 (omega arith) in
    cc

pub one_register-found : (w base : ℕ) → w < 2 ^ 32 → cleared 0 22 w ≡ base → (In_one_register (register_in 0 w) (register_in 5 w) (field_of 10 12 w)) × (one_register_word base (register_in 0 w) (register_in 5 w) (field_of 10 12 w) ≡ w)
one_register-found w base lt e =
    ((omega arith, omega arith, omega arith), omega arith)

pub one_register-fixed : (base : ℕ) → cleared 0 22 base ≡ base → (t : A64Reg) (n : A64Reg) (offset : ℕ) → In_one_register t n offset → cleared 0 22 (one_register_word base t n offset) ≡ base
one_register-fixed base fix t n offset h =
    omega arith

pub one_register-again : (form : A64Reg → A64Reg → ℕ → AInstr) (base : ℕ) → cleared 0 22 base ≡ base → (t : A64Reg) (n : A64Reg) (offset : ℕ) → In_one_register t n offset → one_register_in form (one_register_word base t n offset) ≡ form t n offset
one_register-again form base fix t n offset h =
    let w : ℕ = one_register_word base t n offset in
    let t_is : register_in 0 w ≡ t = register_in-is 0 w t (omega arith) in
    let n_is : register_in 5 w ≡ n = register_in-is 5 w n (omega arith) in
    let offset_is : field_of 10 12 w ≡ offset = omega arith in
    cc

pub register_pair-found : (w base : ℕ) → w < 2 ^ 32 → cleared 0 22 w ≡ base → (In_register_pair (register_in 0 w) (register_in 5 w) (register_in 10 w) (signed_of 7 (field_of 15 7 w))) × (register_pair_word base (register_in 0 w) (register_in 5 w) (register_in 10 w) (signed_of 7 (field_of 15 7 w)) ≡ w)
register_pair-found w base lt e =
    let offset_lt : field_of 15 7 w < 2 ^ 7 = omega arith in
    let offset_is : bits_of 7 (signed_of 7 (field_of 15 7 w)) ≡ field_of 15 7 w = bits_of-signed_of 7 (field_of 15 7 w) (omega arith) offset_lt in
    ((omega arith, omega arith, omega arith, IsSigned-signed_of 7 (field_of 15 7 w) (omega arith) offset_lt), rw offset_is (omega arith))

pub register_pair-fixed : (base : ℕ) → cleared 0 22 base ≡ base → (t : A64Reg) (n : A64Reg) (t2 : A64Reg) (offset : ℤ) → In_register_pair t n t2 offset → cleared 0 22 (register_pair_word base t n t2 offset) ≡ base
register_pair-fixed base fix t n t2 offset h =
    let offset_lt : bits_of 7 offset < 2 ^ 7 = bits_of_lt 7 offset (omega arith) h.3 in
    omega arith

pub register_pair-again : (form : A64Reg → A64Reg → A64Reg → ℤ → AInstr) (base : ℕ) → cleared 0 22 base ≡ base → (t : A64Reg) (n : A64Reg) (t2 : A64Reg) (offset : ℤ) → In_register_pair t n t2 offset → register_pair_in form (register_pair_word base t n t2 offset) ≡ form t n t2 offset
register_pair-again form base fix t n t2 offset h =
    let offset_lt : bits_of 7 offset < 2 ^ 7 = bits_of_lt 7 offset (omega arith) h.3 in
    let w : ℕ = register_pair_word base t n t2 offset in
    let t_is : register_in 0 w ≡ t = register_in-is 0 w t (omega arith) in
    let n_is : register_in 5 w ≡ n = register_in-is 5 w n (omega arith) in
    let t2_is : register_in 10 w ≡ t2 = register_in-is 10 w t2 (omega arith) in
    let offset_is : signed_of 7 (field_of 15 7 w) ≡ offset = signed-is 7 (field_of 15 7 w) offset (omega arith) h.3 (omega arith) in
    cc

pub branch-found : (w base : ℕ) → w < 2 ^ 32 → cleared 0 26 w ≡ base → (In_branch (signed_of 26 (field_of 0 26 w))) × (branch_word base (signed_of 26 (field_of 0 26 w)) ≡ w)
branch-found w base lt e =
    let offset_lt : field_of 0 26 w < 2 ^ 26 = omega arith in
    let offset_is : bits_of 26 (signed_of 26 (field_of 0 26 w)) ≡ field_of 0 26 w = bits_of-signed_of 26 (field_of 0 26 w) (omega arith) offset_lt in
    (IsSigned-signed_of 26 (field_of 0 26 w) (omega arith) offset_lt, rw offset_is (omega arith))

pub branch-fixed : (base : ℕ) → cleared 0 26 base ≡ base → (offset : ℤ) → In_branch offset → cleared 0 26 (branch_word base offset) ≡ base
branch-fixed base fix offset h =
    let offset_lt : bits_of 26 offset < 2 ^ 26 = bits_of_lt 26 offset (omega arith) h in
    omega arith

pub branch-again : (form : ℤ → AInstr) (base : ℕ) → cleared 0 26 base ≡ base → (offset : ℤ) → In_branch offset → branch_in form (branch_word base offset) ≡ form offset
branch-again form base fix offset h =
    let offset_lt : bits_of 26 offset < 2 ^ 26 = bits_of_lt 26 offset (omega arith) h in
    let w : ℕ = branch_word base offset in
    let offset_is : signed_of 26 (field_of 0 26 w) ≡ offset = signed-is 26 (field_of 0 26 w) offset (omega arith) h (omega arith) in
    cc

pub branch_if-found : (w base : ℕ) → w < 2 ^ 32 → cleared 0 4 (cleared 5 19 w) ≡ base → field_of 0 4 w < 14 → (In_branch_if (condition_at (field_of 0 4 w)) (signed_of 19 (field_of 5 19 w))) × (branch_if_word base (condition_at (field_of 0 4 w)) (signed_of 19 (field_of 5 19 w)) ≡ w)
branch_if-found w base lt e c =
    let condition_is : condition_number (condition_at (field_of 0 4 w)) ≡ field_of 0 4 w = condition_number-at (field_of 0 4 w) c in
    let offset_lt : field_of 5 19 w < 2 ^ 19 = omega arith in
    let offset_is : bits_of 19 (signed_of 19 (field_of 5 19 w)) ≡ field_of 5 19 w = bits_of-signed_of 19 (field_of 5 19 w) (omega arith) offset_lt in
    (IsSigned-signed_of 19 (field_of 5 19 w) (omega arith) offset_lt, rw (condition_is, offset_is) (omega arith))

pub branch_if-fixed : (base : ℕ) → cleared 0 4 (cleared 5 19 base) ≡ base → (condition : Condition) (offset : ℤ) → In_branch_if condition offset → cleared 0 4 (cleared 5 19 (branch_if_word base condition offset)) ≡ base
branch_if-fixed base fix condition offset h =
    let condition_lt = condition_number_lt condition in
    let offset_lt : bits_of 19 offset < 2 ^ 19 = bits_of_lt 19 offset (omega arith) h in
    omega arith

pub branch_if-again : (form : Condition → ℤ → AInstr) (base : ℕ) → cleared 0 4 (cleared 5 19 base) ≡ base → (condition : Condition) (offset : ℤ) → In_branch_if condition offset → branch_if_in form (branch_if_word base condition offset) ≡ form condition offset
branch_if-again form base fix condition offset h =
    let condition_lt = condition_number_lt condition in
    let offset_lt : bits_of 19 offset < 2 ^ 19 = bits_of_lt 19 offset (omega arith) h in
    let w : ℕ = branch_if_word base condition offset in
    let condition_is : condition_at (field_of 0 4 w) ≡ condition = condition-is (field_of 0 4 w) condition (omega arith) in
    let offset_is : signed_of 19 (field_of 5 19 w) ≡ offset = signed-is 19 (field_of 5 19 w) offset (omega arith) h (omega arith) in
    cc

pub compare_branch-found : (w base : ℕ) → w < 2 ^ 32 → cleared 0 24 w ≡ base → (In_compare_branch (register_in 0 w) (signed_of 19 (field_of 5 19 w))) × (compare_branch_word base (register_in 0 w) (signed_of 19 (field_of 5 19 w)) ≡ w)
compare_branch-found w base lt e =
    let offset_lt : field_of 5 19 w < 2 ^ 19 = omega arith in
    let offset_is : bits_of 19 (signed_of 19 (field_of 5 19 w)) ≡ field_of 5 19 w = bits_of-signed_of 19 (field_of 5 19 w) (omega arith) offset_lt in
    ((omega arith, IsSigned-signed_of 19 (field_of 5 19 w) (omega arith) offset_lt), rw offset_is (omega arith))

pub compare_branch-fixed : (base : ℕ) → cleared 0 24 base ≡ base → (t : A64Reg) (offset : ℤ) → In_compare_branch t offset → cleared 0 24 (compare_branch_word base t offset) ≡ base
compare_branch-fixed base fix t offset h =
    let offset_lt : bits_of 19 offset < 2 ^ 19 = bits_of_lt 19 offset (omega arith) h.1 in
    omega arith

pub compare_branch-again : (form : A64Reg → ℤ → AInstr) (base : ℕ) → cleared 0 24 base ≡ base → (t : A64Reg) (offset : ℤ) → In_compare_branch t offset → compare_branch_in form (compare_branch_word base t offset) ≡ form t offset
compare_branch-again form base fix t offset h =
    let offset_lt : bits_of 19 offset < 2 ^ 19 = bits_of_lt 19 offset (omega arith) h.1 in
    let w : ℕ = compare_branch_word base t offset in
    let t_is : register_in 0 w ≡ t = register_in-is 0 w t (omega arith) in
    let offset_is : signed_of 19 (field_of 5 19 w) ≡ offset = signed-is 19 (field_of 5 19 w) offset (omega arith) h.1 (omega arith) in
    cc

pub branch_register-found : (w base : ℕ) → w < 2 ^ 32 → cleared 5 5 w ≡ base → (In_branch_register (register_in 5 w)) × (branch_register_word base (register_in 5 w) ≡ w)
branch_register-found w base lt e =
    (omega arith, omega arith)

pub branch_register-fixed : (base : ℕ) → cleared 5 5 base ≡ base → (n : A64Reg) → In_branch_register n → cleared 5 5 (branch_register_word base n) ≡ base
branch_register-fixed base fix n h =
    omega arith

pub branch_register-again : (form : A64Reg → AInstr) (base : ℕ) → cleared 5 5 base ≡ base → (n : A64Reg) → In_branch_register n → branch_register_in form (branch_register_word base n) ≡ form n
branch_register-again form base fix n h =
    let w : ℕ = branch_register_word base n in
    let n_is : register_in 5 w ≡ n = register_in-is 5 w n (omega arith) in
    cc

pub select-found : (w base : ℕ) → w < 2 ^ 32 → cleared 0 10 (cleared 12 9 w) ≡ base → field_of 12 4 w < 14 → (In_select (register_in 0 w) (register_in 5 w) (condition_at (field_of 12 4 w)) (register_in 16 w)) × (select_word base (register_in 0 w) (register_in 5 w) (condition_at (field_of 12 4 w)) (register_in 16 w) ≡ w)
select-found w base lt e c =
    let condition_is : condition_number (condition_at (field_of 12 4 w)) ≡ field_of 12 4 w = condition_number-at (field_of 12 4 w) c in
    ((omega arith, omega arith, omega arith), rw condition_is (omega arith))

pub select-fixed : (base : ℕ) → cleared 0 10 (cleared 12 9 base) ≡ base → (d : A64Reg) (n : A64Reg) (condition : Condition) (m : A64Reg) → In_select d n condition m → cleared 0 10 (cleared 12 9 (select_word base d n condition m)) ≡ base
select-fixed base fix d n condition m h =
    let condition_lt = condition_number_lt condition in
    omega arith

pub select-again : (form : A64Reg → A64Reg → Condition → A64Reg → AInstr) (base : ℕ) → cleared 0 10 (cleared 12 9 base) ≡ base → (d : A64Reg) (n : A64Reg) (condition : Condition) (m : A64Reg) → In_select d n condition m → select_in form (select_word base d n condition m) ≡ form d n condition m
select-again form base fix d n condition m h =
    let condition_lt = condition_number_lt condition in
    let w : ℕ = select_word base d n condition m in
    let d_is : register_in 0 w ≡ d = register_in-is 0 w d (omega arith) in
    let n_is : register_in 5 w ≡ n = register_in-is 5 w n (omega arith) in
    let condition_is : condition_at (field_of 12 4 w) ≡ condition = condition-is (field_of 12 4 w) condition (omega arith) in
    let m_is : register_in 16 w ≡ m = register_in-is 16 w m (omega arith) in
    cc

pub bitfield-found : (w base : ℕ) → w < 2 ^ 32 → cleared 0 22 w ≡ base → (In_bitfield (register_in 0 w) (register_in 5 w) (field_of 10 6 w) (field_of 16 6 w)) × (bitfield_word base (register_in 0 w) (register_in 5 w) (field_of 10 6 w) (field_of 16 6 w) ≡ w)
bitfield-found w base lt e =
    ((omega arith, omega arith, omega arith, omega arith), omega arith)

pub bitfield-fixed : (base : ℕ) → cleared 0 22 base ≡ base → (d : A64Reg) (n : A64Reg) (imms : ℕ) (immr : ℕ) → In_bitfield d n imms immr → cleared 0 22 (bitfield_word base d n imms immr) ≡ base
bitfield-fixed base fix d n imms immr h =
    omega arith

pub bitfield-again : (form : A64Reg → A64Reg → ℕ → ℕ → AInstr) (base : ℕ) → cleared 0 22 base ≡ base → (d : A64Reg) (n : A64Reg) (imms : ℕ) (immr : ℕ) → In_bitfield d n imms immr → bitfield_in form (bitfield_word base d n imms immr) ≡ form d n imms immr
bitfield-again form base fix d n imms immr h =
    let w : ℕ = bitfield_word base d n imms immr in
    let d_is : register_in 0 w ≡ d = register_in-is 0 w d (omega arith) in
    let n_is : register_in 5 w ≡ n = register_in-is 5 w n (omega arith) in
    let imms_is : field_of 10 6 w ≡ imms = omega arith in
    let immr_is : field_of 16 6 w ≡ immr = omega arith in
    cc

pub exception-found : (w base : ℕ) → w < 2 ^ 32 → cleared 5 16 w ≡ base → (In_exception (field_of 5 16 w)) × (exception_word base (field_of 5 16 w) ≡ w)
exception-found w base lt e =
    (omega arith, omega arith)

pub exception-fixed : (base : ℕ) → cleared 5 16 base ≡ base → (imm : ℕ) → In_exception imm → cleared 5 16 (exception_word base imm) ≡ base
exception-fixed base fix imm h =
    omega arith

pub exception-again : (form : ℕ → AInstr) (base : ℕ) → cleared 5 16 base ≡ base → (imm : ℕ) → In_exception imm → exception_in form (exception_word base imm) ≡ form imm
exception-again form base fix imm h =
    let w : ℕ = exception_word base imm in
    let imm_is : field_of 5 16 w ≡ imm = omega arith in
    cc
