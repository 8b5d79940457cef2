-- What an instruction is spelled as is read as that instruction.
use Rattle.std.proofs.Common.{◌≡◌, ℕ, ℤ, ◌^◌, ◌<◌, Bool, true, false, eqb, nat_lt, Some, arith, refl, ap, ◌∙◌}
use Rattle.hx_words.specs.TwosComplement.{bits_of}
use Rattle.hx_words.proofs.TwosComplementLaws.{bits_of_lt}
use Rattle.hx_bits.specs.Bits.{field_of}
use Rattle.reg_map.specs.declared.registers.A64Reg.{A64Reg}
use Rattle.a64_isa.specs.declared.instruction.Condition.{Condition}
use Rattle.a64_isa.specs.declared.instruction.AInstr.{AInstr}
use Rattle.a64_isa.specs.declared.instruction.AInstr.TheVariants.{AddImmediate, SubImmediate, AddsImmediate, SubsImmediate, AddRegister, SubRegister, AddsRegister, SubsRegister, AndRegister, OrrRegister, EorRegister, OrnRegister, Udiv, Sdiv, Lslv, Lsrv, Asrv, Madd, Msub, Movz, Movk, Movn, Adr, Adrp, LdrX, StrX, LdrW, StrW, Ldrh, Strh, Ldrb, Strb, Ldrsb, Ldrsh, Ldrsw, Stp, Ldp, StpPre, LdpPost, B, Bl, BCond, Cbz, Cbnz, Br, Blr, Ret, Csinc, Ubfm, Sbfm, Nop, Brk}
use Rattle.a64_isa.specs.declared.instruction.Condition.TheVariants.{Equal, NotEqual, CarrySet, CarryClear, Minus, Plus, Overflow, NoOverflow, Higher, LowerOrSame, GreaterOrEqual, Less, Greater, LessOrEqual}
use Rattle.a64_isa.specs.Conditions.{condition_number}
use Rattle.a64_isa.specs.Forms.{encode_of, InRange, In_add_immediate, In_three_registers, In_three_sources, In_move_wide, In_pc_relative, In_one_register, In_register_pair, In_branch, In_branch_if, In_compare_branch, In_branch_register, In_select, In_bitfield, In_exception, add_immediate_word, three_registers_word, three_sources_word, move_wide_word, pc_relative_word, one_register_word, register_pair_word, branch_word, branch_if_word, compare_branch_word, branch_register_word, select_word, bitfield_word, exception_word}
use Rattle.a64_isa.specs.Reading.{cleared, arm, wide_at, pc_relative_at, bitfield_at, one_register_at, register_pair_at, branch_at, branch_if_at, compare_branch_at, branch_register_at, system_at, exception_at, shifted_at, two_sources_at, three_sources_at, select_at, wide_of, pc_relative_of, bitfield_of, one_register_of, register_pair_of, branch_of, branch_if_of, compare_branch_of, branch_register_of, system_of, exception_of, shifted_of, two_sources_of, three_sources_of, select_of, add_immediate_in, three_registers_in, three_sources_in, move_wide_in, pc_relative_in, one_register_in, register_pair_in, branch_in, branch_if_in, compare_branch_in, branch_register_in, select_in, bitfield_in, exception_in, immediate_of, control_of, memory_of, register_of, candidate_of}
use Rattle.a64_isa.proofs.OperandLaws.{bit_of_lt, condition_number_lt}
use Rattle.a64_isa.proofs.PlaceLaws.{add_immediate-fixed, three_registers-fixed, three_sources-fixed, move_wide-fixed, pc_relative-fixed, one_register-fixed, register_pair-fixed, branch-fixed, branch_if-fixed, compare_branch-fixed, branch_register-fixed, select-fixed, bitfield-fixed, exception-fixed, add_immediate-again, three_registers-again, three_sources-again, move_wide-again, pc_relative-again, one_register-again, register_pair-again, branch-again, branch_if-again, compare_branch-again, branch_register-again, select-again, bitfield-again, exception-again}

-- Which class reads a word, by its leading bits.

wide-route : (w : ℕ) → field_of 26 3 w ≡ 4 → eqb (field_of 24 5 w) 16 ≡ false → eqb (field_of 24 5 w) 19 ≡ false → candidate_of w ≡ wide_at (cleared 0 23 w) w
unfolding candidate_of immediate_of wide_of
wide-route w p0 p1 p2 = rw (p0, p1, p2) refl

pc_relative-route : (w : ℕ) → field_of 26 3 w ≡ 4 → field_of 24 5 w ≡ 16 → candidate_of w ≡ pc_relative_at (cleared 0 24 (cleared 29 2 w)) w
unfolding candidate_of immediate_of pc_relative_of
pc_relative-route w p0 p1 = rw (p0, p1) refl

bitfield-route : (w : ℕ) → field_of 26 3 w ≡ 4 → field_of 24 5 w ≡ 19 → candidate_of w ≡ bitfield_at (cleared 0 22 w) w
unfolding candidate_of immediate_of bitfield_of
bitfield-route w p0 p1 = rw (p0, p1) refl

one_register-route : (w : ℕ) → eqb (field_of 26 3 w) 4 ≡ false → eqb (field_of 26 3 w) 5 ≡ false → field_of 25 1 w ≡ 0 → field_of 27 3 w ≡ 7 → candidate_of w ≡ one_register_at (cleared 0 22 w) w
unfolding candidate_of memory_of one_register_of
one_register-route w p0 p1 p2 p3 = rw (p0, p1, p2, p3) refl

register_pair-route : (w : ℕ) → eqb (field_of 26 3 w) 4 ≡ false → eqb (field_of 26 3 w) 5 ≡ false → field_of 25 1 w ≡ 0 → eqb (field_of 27 3 w) 7 ≡ false → candidate_of w ≡ register_pair_at (cleared 0 22 w) w
unfolding candidate_of memory_of register_pair_of
register_pair-route w p0 p1 p2 p3 = rw (p0, p1, p2, p3) refl

branch-route : (w : ℕ) → field_of 26 3 w ≡ 5 → field_of 26 5 w ≡ 5 → candidate_of w ≡ branch_at (cleared 0 26 w) w
unfolding candidate_of control_of branch_of
branch-route w p0 p1 = rw (p0, p1) refl

branch_if-route : (w : ℕ) → field_of 26 3 w ≡ 5 → eqb (field_of 26 5 w) 5 ≡ false → field_of 24 8 w ≡ 0x54 → candidate_of w ≡ branch_if_at (cleared 0 4 (cleared 5 19 w)) w
unfolding candidate_of control_of branch_if_of
branch_if-route w p0 p1 p2 = rw (p0, p1, p2) refl

compare_branch-route : (w : ℕ) → field_of 26 3 w ≡ 5 → eqb (field_of 26 5 w) 5 ≡ false → eqb (field_of 24 8 w) 0x54 ≡ false → eqb (field_of 24 8 w) 0xD4 ≡ false → eqb (field_of 24 8 w) 0xD5 ≡ false → eqb (field_of 24 8 w) 0xD6 ≡ false → candidate_of w ≡ compare_branch_at (cleared 0 24 w) w
unfolding candidate_of control_of compare_branch_of
compare_branch-route w p0 p1 p2 p3 p4 p5 = rw (p0, p1, p2, p3, p4, p5) refl

branch_register-route : (w : ℕ) → field_of 26 3 w ≡ 5 → eqb (field_of 26 5 w) 5 ≡ false → field_of 24 8 w ≡ 0xD6 → candidate_of w ≡ branch_register_at (cleared 5 5 w) w
unfolding candidate_of control_of branch_register_of
branch_register-route w p0 p1 p2 = rw (p0, p1, p2) refl

system-route : (w : ℕ) → field_of 26 3 w ≡ 5 → eqb (field_of 26 5 w) 5 ≡ false → field_of 24 8 w ≡ 0xD5 → candidate_of w ≡ system_at w w
unfolding candidate_of control_of system_of
system-route w p0 p1 p2 = rw (p0, p1, p2) refl

exception-route : (w : ℕ) → field_of 26 3 w ≡ 5 → eqb (field_of 26 5 w) 5 ≡ false → field_of 24 8 w ≡ 0xD4 → candidate_of w ≡ exception_at (cleared 5 16 w) w
unfolding candidate_of control_of exception_of
exception-route w p0 p1 p2 = rw (p0, p1, p2) refl

shifted-route : (w : ℕ) → eqb (field_of 26 3 w) 4 ≡ false → eqb (field_of 26 3 w) 5 ≡ false → field_of 25 1 w ≡ 1 → eqb (field_of 21 8 w) 0xD8 ≡ false → eqb (field_of 21 8 w) 0xD4 ≡ false → eqb (field_of 21 8 w) 0xD6 ≡ false → candidate_of w ≡ shifted_at (cleared 0 10 (cleared 16 5 w)) w
unfolding candidate_of register_of shifted_of
shifted-route w p0 p1 p2 p3 p4 p5 = rw (p0, p1, p2, p3, p4, p5) refl

two_sources-route : (w : ℕ) → eqb (field_of 26 3 w) 4 ≡ false → eqb (field_of 26 3 w) 5 ≡ false → field_of 25 1 w ≡ 1 → field_of 21 8 w ≡ 0xD6 → candidate_of w ≡ two_sources_at (cleared 0 10 (cleared 16 5 w)) w
unfolding candidate_of register_of two_sources_of
two_sources-route w p0 p1 p2 p3 = rw (p0, p1, p2, p3) refl

three_sources-route : (w : ℕ) → eqb (field_of 26 3 w) 4 ≡ false → eqb (field_of 26 3 w) 5 ≡ false → field_of 25 1 w ≡ 1 → field_of 21 8 w ≡ 0xD8 → candidate_of w ≡ three_sources_at (cleared 0 15 (cleared 16 5 w)) w
unfolding candidate_of register_of three_sources_of
three_sources-route w p0 p1 p2 p3 = rw (p0, p1, p2, p3) refl

select-route : (w : ℕ) → eqb (field_of 26 3 w) 4 ≡ false → eqb (field_of 26 3 w) 5 ≡ false → field_of 25 1 w ≡ 1 → field_of 21 8 w ≡ 0xD4 → candidate_of w ≡ select_at (cleared 0 10 (cleared 12 9 w)) w
unfolding candidate_of register_of select_of
select-route w p0 p1 p2 p3 = rw (p0, p1, p2, p3) refl

-- The reading of each form, by where its operands stand.

condition_test : (c : Condition) → nat_lt (condition_number c) 14 ≡ true
condition_test Equal = refl
condition_test NotEqual = refl
condition_test CarrySet = refl
condition_test CarryClear = refl
condition_test Minus = refl
condition_test Plus = refl
condition_test Overflow = refl
condition_test NoOverflow = refl
condition_test Higher = refl
condition_test LowerOrSame = refl
condition_test GreaterOrEqual = refl
condition_test Less = refl
condition_test Greater = refl
condition_test LessOrEqual = refl

add_immediate-read : (form : A64Reg → A64Reg → ℕ → Bool → AInstr) (base : ℕ) → cleared 0 23 base ≡ base → field_of 26 3 base ≡ 4 → eqb (field_of 24 5 base) 16 ≡ false → eqb (field_of 24 5 base) 19 ≡ false → ((w : ℕ) → wide_at base w ≡ Some (add_immediate_in form w)) → (d : A64Reg) (n : A64Reg) (imm : ℕ) (shift12 : Bool) → In_add_immediate d n imm shift12 → candidate_of (add_immediate_word base d n imm shift12) ≡ Some (form d n imm shift12)
add_immediate-read form base fix p0 p1 p2 at d n imm shift12 h =
    let shift12_lt = bit_of_lt shift12 in
    let w : ℕ = add_immediate_word base d n imm shift12 in
    let s26_3 : field_of 26 3 w ≡ field_of 26 3 base = omega arith in
    let s24_5 : field_of 24 5 w ≡ field_of 24 5 base = omega arith in
    wide-route w (s26_3 ∙ p0) (ap (λ (k : ℕ). eqb k 16) s24_5 ∙ p1) (ap (λ (k : ℕ). eqb k 19) s24_5 ∙ p2)
    ∙ ap (λ (k : ℕ). wide_at k w) (add_immediate-fixed base fix d n imm shift12 h)
    ∙ at w
    ∙ ap (λ (i : AInstr). Some i) (add_immediate-again form base fix d n imm shift12 h)

move_wide-read : (form : A64Reg → ℕ → ℕ → AInstr) (base : ℕ) → cleared 0 23 base ≡ base → field_of 26 3 base ≡ 4 → eqb (field_of 24 5 base) 16 ≡ false → eqb (field_of 24 5 base) 19 ≡ false → ((w : ℕ) → wide_at base w ≡ Some (move_wide_in form w)) → (d : A64Reg) (imm : ℕ) (hw : ℕ) → In_move_wide d imm hw → candidate_of (move_wide_word base d imm hw) ≡ Some (form d imm hw)
move_wide-read form base fix p0 p1 p2 at d imm hw h =
    let w : ℕ = move_wide_word base d imm hw in
    let s26_3 : field_of 26 3 w ≡ field_of 26 3 base = omega arith in
    let s24_5 : field_of 24 5 w ≡ field_of 24 5 base = omega arith in
    wide-route w (s26_3 ∙ p0) (ap (λ (k : ℕ). eqb k 16) s24_5 ∙ p1) (ap (λ (k : ℕ). eqb k 19) s24_5 ∙ p2)
    ∙ ap (λ (k : ℕ). wide_at k w) (move_wide-fixed base fix d imm hw h)
    ∙ at w
    ∙ ap (λ (i : AInstr). Some i) (move_wide-again form base fix d imm hw h)

pc_relative-read : (form : A64Reg → ℤ → AInstr) (base : ℕ) → cleared 0 24 (cleared 29 2 base) ≡ base → field_of 26 3 base ≡ 4 → field_of 24 5 base ≡ 16 → ((w : ℕ) → pc_relative_at base w ≡ Some (pc_relative_in form w)) → (d : A64Reg) (offset : ℤ) → In_pc_relative d offset → candidate_of (pc_relative_word base d offset) ≡ Some (form d offset)
pc_relative-read form base fix p0 p1 at d offset h =
    let offset_lt : bits_of 21 offset < 2 ^ 21 = bits_of_lt 21 offset (omega arith) h.1 in
    let w : ℕ = pc_relative_word base d offset in
    let s26_3 : field_of 26 3 w ≡ field_of 26 3 base = omega arith in
    let s24_5 : field_of 24 5 w ≡ field_of 24 5 base = omega arith in
    pc_relative-route w (s26_3 ∙ p0) (s24_5 ∙ p1)
    ∙ ap (λ (k : ℕ). pc_relative_at k w) (pc_relative-fixed base fix d offset h)
    ∙ at w
    ∙ ap (λ (i : AInstr). Some i) (pc_relative-again form base fix d offset h)

bitfield-read : (form : A64Reg → A64Reg → ℕ → ℕ → AInstr) (base : ℕ) → cleared 0 22 base ≡ base → field_of 26 3 base ≡ 4 → field_of 24 5 base ≡ 19 → ((w : ℕ) → bitfield_at base w ≡ Some (bitfield_in form w)) → (d : A64Reg) (n : A64Reg) (imms : ℕ) (immr : ℕ) → In_bitfield d n imms immr → candidate_of (bitfield_word base d n imms immr) ≡ Some (form d n imms immr)
bitfield-read form base fix p0 p1 at d n imms immr h =
    let w : ℕ = bitfield_word base d n imms immr in
    let s26_3 : field_of 26 3 w ≡ field_of 26 3 base = omega arith in
    let s24_5 : field_of 24 5 w ≡ field_of 24 5 base = omega arith in
    bitfield-route w (s26_3 ∙ p0) (s24_5 ∙ p1)
    ∙ ap (λ (k : ℕ). bitfield_at k w) (bitfield-fixed base fix d n imms immr h)
    ∙ at w
    ∙ ap (λ (i : AInstr). Some i) (bitfield-again form base fix d n imms immr h)

one_register-read : (form : A64Reg → A64Reg → ℕ → AInstr) (base : ℕ) → cleared 0 22 base ≡ base → eqb (field_of 26 3 base) 4 ≡ false → eqb (field_of 26 3 base) 5 ≡ false → field_of 25 1 base ≡ 0 → field_of 27 3 base ≡ 7 → ((w : ℕ) → one_register_at base w ≡ Some (one_register_in form w)) → (t : A64Reg) (n : A64Reg) (offset : ℕ) → In_one_register t n offset → candidate_of (one_register_word base t n offset) ≡ Some (form t n offset)
one_register-read form base fix p0 p1 p2 p3 at t n offset h =
    let w : ℕ = one_register_word base t n offset in
    let s26_3 : field_of 26 3 w ≡ field_of 26 3 base = omega arith in
    let s25_1 : field_of 25 1 w ≡ field_of 25 1 base = omega arith in
    let s27_3 : field_of 27 3 w ≡ field_of 27 3 base = omega arith in
    one_register-route w (ap (λ (k : ℕ). eqb k 4) s26_3 ∙ p0) (ap (λ (k : ℕ). eqb k 5) s26_3 ∙ p1) (s25_1 ∙ p2) (s27_3 ∙ p3)
    ∙ ap (λ (k : ℕ). one_register_at k w) (one_register-fixed base fix t n offset h)
    ∙ at w
    ∙ ap (λ (i : AInstr). Some i) (one_register-again form base fix t n offset h)

register_pair-read : (form : A64Reg → A64Reg → A64Reg → ℤ → AInstr) (base : ℕ) → cleared 0 22 base ≡ base → eqb (field_of 26 3 base) 4 ≡ false → eqb (field_of 26 3 base) 5 ≡ false → field_of 25 1 base ≡ 0 → eqb (field_of 27 3 base) 7 ≡ false → ((w : ℕ) → register_pair_at base w ≡ Some (register_pair_in form w)) → (t : A64Reg) (n : A64Reg) (t2 : A64Reg) (offset : ℤ) → In_register_pair t n t2 offset → candidate_of (register_pair_word base t n t2 offset) ≡ Some (form t n t2 offset)
register_pair-read form base fix p0 p1 p2 p3 at t n t2 offset h =
    let offset_lt : bits_of 7 offset < 2 ^ 7 = bits_of_lt 7 offset (omega arith) h.3 in
    let w : ℕ = register_pair_word base t n t2 offset in
    let s26_3 : field_of 26 3 w ≡ field_of 26 3 base = omega arith in
    let s25_1 : field_of 25 1 w ≡ field_of 25 1 base = omega arith in
    let s27_3 : field_of 27 3 w ≡ field_of 27 3 base = omega arith in
    register_pair-route w (ap (λ (k : ℕ). eqb k 4) s26_3 ∙ p0) (ap (λ (k : ℕ). eqb k 5) s26_3 ∙ p1) (s25_1 ∙ p2) (ap (λ (k : ℕ). eqb k 7) s27_3 ∙ p3)
    ∙ ap (λ (k : ℕ). register_pair_at k w) (register_pair-fixed base fix t n t2 offset h)
    ∙ at w
    ∙ ap (λ (i : AInstr). Some i) (register_pair-again form base fix t n t2 offset h)

branch-read : (form : ℤ → AInstr) (base : ℕ) → cleared 0 26 base ≡ base → field_of 26 3 base ≡ 5 → field_of 26 5 base ≡ 5 → ((w : ℕ) → branch_at base w ≡ Some (branch_in form w)) → (offset : ℤ) → In_branch offset → candidate_of (branch_word base offset) ≡ Some (form offset)
branch-read form base fix p0 p1 at offset h =
    let offset_lt : bits_of 26 offset < 2 ^ 26 = bits_of_lt 26 offset (omega arith) h in
    let w : ℕ = branch_word base offset in
    let s26_3 : field_of 26 3 w ≡ field_of 26 3 base = omega arith in
    let s26_5 : field_of 26 5 w ≡ field_of 26 5 base = omega arith in
    branch-route w (s26_3 ∙ p0) (s26_5 ∙ p1)
    ∙ ap (λ (k : ℕ). branch_at k w) (branch-fixed base fix offset h)
    ∙ at w
    ∙ ap (λ (i : AInstr). Some i) (branch-again form base fix offset h)

branch_if-read : (form : Condition → ℤ → AInstr) (base : ℕ) → cleared 0 4 (cleared 5 19 base) ≡ base → field_of 26 3 base ≡ 5 → eqb (field_of 26 5 base) 5 ≡ false → field_of 24 8 base ≡ 0x54 → ((w : ℕ) → nat_lt (field_of 0 4 w) 14 ≡ true → branch_if_at base w ≡ Some (branch_if_in form w)) → (condition : Condition) (offset : ℤ) → In_branch_if condition offset → candidate_of (branch_if_word base condition offset) ≡ Some (form condition offset)
branch_if-read form base fix p0 p1 p2 at condition offset h =
    let condition_lt = condition_number_lt condition in
    let offset_lt : bits_of 19 offset < 2 ^ 19 = bits_of_lt 19 offset (omega arith) h in
    let w : ℕ = branch_if_word base condition offset in
    let s26_3 : field_of 26 3 w ≡ field_of 26 3 base = omega arith in
    let s26_5 : field_of 26 5 w ≡ field_of 26 5 base = omega arith in
    let s24_8 : field_of 24 8 w ≡ field_of 24 8 base = omega arith in
    let number : field_of 0 4 w ≡ condition_number condition = omega arith in
    let below : nat_lt (field_of 0 4 w) 14 ≡ true = ap (λ (k : ℕ). nat_lt k 14) number ∙ condition_test condition in
    branch_if-route w (s26_3 ∙ p0) (ap (λ (k : ℕ). eqb k 5) s26_5 ∙ p1) (s24_8 ∙ p2)
    ∙ ap (λ (k : ℕ). branch_if_at k w) (branch_if-fixed base fix condition offset h)
    ∙ at w below
    ∙ ap (λ (i : AInstr). Some i) (branch_if-again form base fix condition offset h)

compare_branch-read : (form : A64Reg → ℤ → AInstr) (base : ℕ) → cleared 0 24 base ≡ base → field_of 26 3 base ≡ 5 → eqb (field_of 26 5 base) 5 ≡ false → eqb (field_of 24 8 base) 0x54 ≡ false → eqb (field_of 24 8 base) 0xD4 ≡ false → eqb (field_of 24 8 base) 0xD5 ≡ false → eqb (field_of 24 8 base) 0xD6 ≡ false → ((w : ℕ) → compare_branch_at base w ≡ Some (compare_branch_in form w)) → (t : A64Reg) (offset : ℤ) → In_compare_branch t offset → candidate_of (compare_branch_word base t offset) ≡ Some (form t offset)
compare_branch-read form base fix p0 p1 p2 p3 p4 p5 at t offset h =
    let offset_lt : bits_of 19 offset < 2 ^ 19 = bits_of_lt 19 offset (omega arith) h.1 in
    let w : ℕ = compare_branch_word base t offset in
    let s26_3 : field_of 26 3 w ≡ field_of 26 3 base = omega arith in
    let s26_5 : field_of 26 5 w ≡ field_of 26 5 base = omega arith in
    let s24_8 : field_of 24 8 w ≡ field_of 24 8 base = omega arith in
    compare_branch-route w (s26_3 ∙ p0) (ap (λ (k : ℕ). eqb k 5) s26_5 ∙ p1) (ap (λ (k : ℕ). eqb k 0x54) s24_8 ∙ p2) (ap (λ (k : ℕ). eqb k 0xD4) s24_8 ∙ p3) (ap (λ (k : ℕ). eqb k 0xD5) s24_8 ∙ p4) (ap (λ (k : ℕ). eqb k 0xD6) s24_8 ∙ p5)
    ∙ ap (λ (k : ℕ). compare_branch_at k w) (compare_branch-fixed base fix t offset h)
    ∙ at w
    ∙ ap (λ (i : AInstr). Some i) (compare_branch-again form base fix t offset h)

branch_register-read : (form : A64Reg → AInstr) (base : ℕ) → cleared 5 5 base ≡ base → field_of 26 3 base ≡ 5 → eqb (field_of 26 5 base) 5 ≡ false → field_of 24 8 base ≡ 0xD6 → ((w : ℕ) → branch_register_at base w ≡ Some (branch_register_in form w)) → (n : A64Reg) → In_branch_register n → candidate_of (branch_register_word base n) ≡ Some (form n)
branch_register-read form base fix p0 p1 p2 at n h =
    let w : ℕ = branch_register_word base n in
    let s26_3 : field_of 26 3 w ≡ field_of 26 3 base = omega arith in
    let s26_5 : field_of 26 5 w ≡ field_of 26 5 base = omega arith in
    let s24_8 : field_of 24 8 w ≡ field_of 24 8 base = omega arith in
    branch_register-route w (s26_3 ∙ p0) (ap (λ (k : ℕ). eqb k 5) s26_5 ∙ p1) (s24_8 ∙ p2)
    ∙ ap (λ (k : ℕ). branch_register_at k w) (branch_register-fixed base fix n h)
    ∙ at w
    ∙ ap (λ (i : AInstr). Some i) (branch_register-again form base fix n h)

exception-read : (form : ℕ → AInstr) (base : ℕ) → cleared 5 16 base ≡ base → field_of 26 3 base ≡ 5 → eqb (field_of 26 5 base) 5 ≡ false → field_of 24 8 base ≡ 0xD4 → ((w : ℕ) → exception_at base w ≡ Some (exception_in form w)) → (imm : ℕ) → In_exception imm → candidate_of (exception_word base imm) ≡ Some (form imm)
exception-read form base fix p0 p1 p2 at imm h =
    let w : ℕ = exception_word base imm in
    let s26_3 : field_of 26 3 w ≡ field_of 26 3 base = omega arith in
    let s26_5 : field_of 26 5 w ≡ field_of 26 5 base = omega arith in
    let s24_8 : field_of 24 8 w ≡ field_of 24 8 base = omega arith in
    exception-route w (s26_3 ∙ p0) (ap (λ (k : ℕ). eqb k 5) s26_5 ∙ p1) (s24_8 ∙ p2)
    ∙ ap (λ (k : ℕ). exception_at k w) (exception-fixed base fix imm h)
    ∙ at w
    ∙ ap (λ (i : AInstr). Some i) (exception-again form base fix imm h)

shifted-read : (form : A64Reg → A64Reg → A64Reg → AInstr) (base : ℕ) → cleared 0 10 (cleared 16 5 base) ≡ base → eqb (field_of 26 3 base) 4 ≡ false → eqb (field_of 26 3 base) 5 ≡ false → field_of 25 1 base ≡ 1 → eqb (field_of 21 8 base) 0xD8 ≡ false → eqb (field_of 21 8 base) 0xD4 ≡ false → eqb (field_of 21 8 base) 0xD6 ≡ false → ((w : ℕ) → shifted_at base w ≡ Some (three_registers_in form w)) → (d : A64Reg) (n : A64Reg) (m : A64Reg) → In_three_registers d n m → candidate_of (three_registers_word base d n m) ≡ Some (form d n m)
shifted-read form base fix p0 p1 p2 p3 p4 p5 at d n m h =
    let w : ℕ = three_registers_word base d n m in
    let s26_3 : field_of 26 3 w ≡ field_of 26 3 base = omega arith in
    let s25_1 : field_of 25 1 w ≡ field_of 25 1 base = omega arith in
    let s21_8 : field_of 21 8 w ≡ field_of 21 8 base = omega arith in
    shifted-route w (ap (λ (k : ℕ). eqb k 4) s26_3 ∙ p0) (ap (λ (k : ℕ). eqb k 5) s26_3 ∙ p1) (s25_1 ∙ p2) (ap (λ (k : ℕ). eqb k 0xD8) s21_8 ∙ p3) (ap (λ (k : ℕ). eqb k 0xD4) s21_8 ∙ p4) (ap (λ (k : ℕ). eqb k 0xD6) s21_8 ∙ p5)
    ∙ ap (λ (k : ℕ). shifted_at k w) (three_registers-fixed base fix d n m h)
    ∙ at w
    ∙ ap (λ (i : AInstr). Some i) (three_registers-again form base fix d n m h)

two_sources-read : (form : A64Reg → A64Reg → A64Reg → AInstr) (base : ℕ) → cleared 0 10 (cleared 16 5 base) ≡ base → eqb (field_of 26 3 base) 4 ≡ false → eqb (field_of 26 3 base) 5 ≡ false → field_of 25 1 base ≡ 1 → field_of 21 8 base ≡ 0xD6 → ((w : ℕ) → two_sources_at base w ≡ Some (three_registers_in form w)) → (d : A64Reg) (n : A64Reg) (m : A64Reg) → In_three_registers d n m → candidate_of (three_registers_word base d n m) ≡ Some (form d n m)
two_sources-read form base fix p0 p1 p2 p3 at d n m h =
    let w : ℕ = three_registers_word base d n m in
    let s26_3 : field_of 26 3 w ≡ field_of 26 3 base = omega arith in
    let s25_1 : field_of 25 1 w ≡ field_of 25 1 base = omega arith in
    let s21_8 : field_of 21 8 w ≡ field_of 21 8 base = omega arith in
    two_sources-route w (ap (λ (k : ℕ). eqb k 4) s26_3 ∙ p0) (ap (λ (k : ℕ). eqb k 5) s26_3 ∙ p1) (s25_1 ∙ p2) (s21_8 ∙ p3)
    ∙ ap (λ (k : ℕ). two_sources_at k w) (three_registers-fixed base fix d n m h)
    ∙ at w
    ∙ ap (λ (i : AInstr). Some i) (three_registers-again form base fix d n m h)

three_sources-read : (form : A64Reg → A64Reg → A64Reg → A64Reg → AInstr) (base : ℕ) → cleared 0 15 (cleared 16 5 base) ≡ base → eqb (field_of 26 3 base) 4 ≡ false → eqb (field_of 26 3 base) 5 ≡ false → field_of 25 1 base ≡ 1 → field_of 21 8 base ≡ 0xD8 → ((w : ℕ) → three_sources_at base w ≡ Some (three_sources_in form w)) → (d : A64Reg) (n : A64Reg) (a : A64Reg) (m : A64Reg) → In_three_sources d n a m → candidate_of (three_sources_word base d n a m) ≡ Some (form d n a m)
three_sources-read form base fix p0 p1 p2 p3 at d n a m h =
    let w : ℕ = three_sources_word base d n a m in
    let s26_3 : field_of 26 3 w ≡ field_of 26 3 base = omega arith in
    let s25_1 : field_of 25 1 w ≡ field_of 25 1 base = omega arith in
    let s21_8 : field_of 21 8 w ≡ field_of 21 8 base = omega arith in
    three_sources-route w (ap (λ (k : ℕ). eqb k 4) s26_3 ∙ p0) (ap (λ (k : ℕ). eqb k 5) s26_3 ∙ p1) (s25_1 ∙ p2) (s21_8 ∙ p3)
    ∙ ap (λ (k : ℕ). three_sources_at k w) (three_sources-fixed base fix d n a m h)
    ∙ at w
    ∙ ap (λ (i : AInstr). Some i) (three_sources-again form base fix d n a m h)

select-read : (form : A64Reg → A64Reg → Condition → A64Reg → AInstr) (base : ℕ) → cleared 0 10 (cleared 12 9 base) ≡ base → eqb (field_of 26 3 base) 4 ≡ false → eqb (field_of 26 3 base) 5 ≡ false → field_of 25 1 base ≡ 1 → field_of 21 8 base ≡ 0xD4 → ((w : ℕ) → nat_lt (field_of 12 4 w) 14 ≡ true → select_at base w ≡ Some (select_in form w)) → (d : A64Reg) (n : A64Reg) (condition : Condition) (m : A64Reg) → In_select d n condition m → candidate_of (select_word base d n condition m) ≡ Some (form d n condition m)
select-read form base fix p0 p1 p2 p3 at d n condition m h =
    let condition_lt = condition_number_lt condition in
    let w : ℕ = select_word base d n condition m in
    let s26_3 : field_of 26 3 w ≡ field_of 26 3 base = omega arith in
    let s25_1 : field_of 25 1 w ≡ field_of 25 1 base = omega arith in
    let s21_8 : field_of 21 8 w ≡ field_of 21 8 base = omega arith in
    let number : field_of 12 4 w ≡ condition_number condition = omega arith in
    let below : nat_lt (field_of 12 4 w) 14 ≡ true = ap (λ (k : ℕ). nat_lt k 14) number ∙ condition_test condition in
    select-route w (ap (λ (k : ℕ). eqb k 4) s26_3 ∙ p0) (ap (λ (k : ℕ). eqb k 5) s26_3 ∙ p1) (s25_1 ∙ p2) (s21_8 ∙ p3)
    ∙ ap (λ (k : ℕ). select_at k w) (select-fixed base fix d n condition m h)
    ∙ at w below
    ∙ ap (λ (i : AInstr). Some i) (select-again form base fix d n condition m h)

pub candidate_of-again : (i : AInstr) → InRange i → candidate_of (encode_of i) ≡ Some i
unfolding wide_at pc_relative_at bitfield_at one_register_at register_pair_at branch_at branch_if_at compare_branch_at branch_register_at system_at exception_at shifted_at two_sources_at three_sources_at select_at arm
candidate_of-again (AddImmediate d n imm shift12) h = add_immediate-read AddImmediate 0x91000000 refl refl refl refl (λ w. refl) d n imm shift12 h
candidate_of-again (SubImmediate d n imm shift12) h = add_immediate-read SubImmediate 0xD1000000 refl refl refl refl (λ w. refl) d n imm shift12 h
candidate_of-again (AddsImmediate d n imm shift12) h = add_immediate-read AddsImmediate 0xB1000000 refl refl refl refl (λ w. refl) d n imm shift12 h
candidate_of-again (SubsImmediate d n imm shift12) h = add_immediate-read SubsImmediate 0xF1000000 refl refl refl refl (λ w. refl) d n imm shift12 h
candidate_of-again (AddRegister d n m) h = shifted-read AddRegister 0x8B000000 refl refl refl refl refl refl refl (λ w. refl) d n m h
candidate_of-again (SubRegister d n m) h = shifted-read SubRegister 0xCB000000 refl refl refl refl refl refl refl (λ w. refl) d n m h
candidate_of-again (AddsRegister d n m) h = shifted-read AddsRegister 0xAB000000 refl refl refl refl refl refl refl (λ w. refl) d n m h
candidate_of-again (SubsRegister d n m) h = shifted-read SubsRegister 0xEB000000 refl refl refl refl refl refl refl (λ w. refl) d n m h
candidate_of-again (AndRegister d n m) h = shifted-read AndRegister 0x8A000000 refl refl refl refl refl refl refl (λ w. refl) d n m h
candidate_of-again (OrrRegister d n m) h = shifted-read OrrRegister 0xAA000000 refl refl refl refl refl refl refl (λ w. refl) d n m h
candidate_of-again (EorRegister d n m) h = shifted-read EorRegister 0xCA000000 refl refl refl refl refl refl refl (λ w. refl) d n m h
candidate_of-again (OrnRegister d n m) h = shifted-read OrnRegister 0xAA200000 refl refl refl refl refl refl refl (λ w. refl) d n m h
candidate_of-again (Udiv d n m) h = two_sources-read Udiv 0x9AC00800 refl refl refl refl refl (λ w. refl) d n m h
candidate_of-again (Sdiv d n m) h = two_sources-read Sdiv 0x9AC00C00 refl refl refl refl refl (λ w. refl) d n m h
candidate_of-again (Lslv d n m) h = two_sources-read Lslv 0x9AC02000 refl refl refl refl refl (λ w. refl) d n m h
candidate_of-again (Lsrv d n m) h = two_sources-read Lsrv 0x9AC02400 refl refl refl refl refl (λ w. refl) d n m h
candidate_of-again (Asrv d n m) h = two_sources-read Asrv 0x9AC02800 refl refl refl refl refl (λ w. refl) d n m h
candidate_of-again (Madd d n a m) h = three_sources-read Madd 0x9B000000 refl refl refl refl refl (λ w. refl) d n a m h
candidate_of-again (Msub d n a m) h = three_sources-read Msub 0x9B008000 refl refl refl refl refl (λ w. refl) d n a m h
candidate_of-again (Movz d imm hw) h = move_wide-read Movz 0xD2800000 refl refl refl refl (λ w. refl) d imm hw h
candidate_of-again (Movk d imm hw) h = move_wide-read Movk 0xF2800000 refl refl refl refl (λ w. refl) d imm hw h
candidate_of-again (Movn d imm hw) h = move_wide-read Movn 0x92800000 refl refl refl refl (λ w. refl) d imm hw h
candidate_of-again (Adr d offset) h = pc_relative-read Adr 0x10000000 refl refl refl (λ w. refl) d offset h
candidate_of-again (Adrp d offset) h = pc_relative-read Adrp 0x90000000 refl refl refl (λ w. refl) d offset h
candidate_of-again (LdrX t n offset) h = one_register-read LdrX 0xF9400000 refl refl refl refl refl (λ w. refl) t n offset h
candidate_of-again (StrX t n offset) h = one_register-read StrX 0xF9000000 refl refl refl refl refl (λ w. refl) t n offset h
candidate_of-again (LdrW t n offset) h = one_register-read LdrW 0xB9400000 refl refl refl refl refl (λ w. refl) t n offset h
candidate_of-again (StrW t n offset) h = one_register-read StrW 0xB9000000 refl refl refl refl refl (λ w. refl) t n offset h
candidate_of-again (Ldrh t n offset) h = one_register-read Ldrh 0x79400000 refl refl refl refl refl (λ w. refl) t n offset h
candidate_of-again (Strh t n offset) h = one_register-read Strh 0x79000000 refl refl refl refl refl (λ w. refl) t n offset h
candidate_of-again (Ldrb t n offset) h = one_register-read Ldrb 0x39400000 refl refl refl refl refl (λ w. refl) t n offset h
candidate_of-again (Strb t n offset) h = one_register-read Strb 0x39000000 refl refl refl refl refl (λ w. refl) t n offset h
candidate_of-again (Ldrsb t n offset) h = one_register-read Ldrsb 0x39800000 refl refl refl refl refl (λ w. refl) t n offset h
candidate_of-again (Ldrsh t n offset) h = one_register-read Ldrsh 0x79800000 refl refl refl refl refl (λ w. refl) t n offset h
candidate_of-again (Ldrsw t n offset) h = one_register-read Ldrsw 0xB9800000 refl refl refl refl refl (λ w. refl) t n offset h
candidate_of-again (Stp t n t2 offset) h = register_pair-read Stp 0xA9000000 refl refl refl refl refl (λ w. refl) t n t2 offset h
candidate_of-again (Ldp t n t2 offset) h = register_pair-read Ldp 0xA9400000 refl refl refl refl refl (λ w. refl) t n t2 offset h
candidate_of-again (StpPre t n t2 offset) h = register_pair-read StpPre 0xA9800000 refl refl refl refl refl (λ w. refl) t n t2 offset h
candidate_of-again (LdpPost t n t2 offset) h = register_pair-read LdpPost 0xA8C00000 refl refl refl refl refl (λ w. refl) t n t2 offset h
candidate_of-again (B offset) h = branch-read B 0x14000000 refl refl refl (λ w. refl) offset h
candidate_of-again (Bl offset) h = branch-read Bl 0x94000000 refl refl refl (λ w. refl) offset h
candidate_of-again (BCond condition offset) h = branch_if-read BCond 0x54000000 refl refl refl refl (λ w below. rw below refl) condition offset h
candidate_of-again (Cbz t offset) h = compare_branch-read Cbz 0xB4000000 refl refl refl refl refl refl refl (λ w. refl) t offset h
candidate_of-again (Cbnz t offset) h = compare_branch-read Cbnz 0xB5000000 refl refl refl refl refl refl refl (λ w. refl) t offset h
candidate_of-again (Br n) h = branch_register-read Br 0xD61F0000 refl refl refl refl (λ w. refl) n h
candidate_of-again (Blr n) h = branch_register-read Blr 0xD63F0000 refl refl refl refl (λ w. refl) n h
candidate_of-again (Ret n) h = branch_register-read Ret 0xD65F0000 refl refl refl refl (λ w. refl) n h
candidate_of-again (Csinc d n condition m) h = select-read Csinc 0x9A800400 refl refl refl refl refl (λ w below. rw below refl) d n condition m h
candidate_of-again (Ubfm d n imms immr) h = bitfield-read Ubfm 0xD3400000 refl refl refl (λ w. refl) d n imms immr h
candidate_of-again (Sbfm d n imms immr) h = bitfield-read Sbfm 0x93400000 refl refl refl (λ w. refl) d n imms immr h
candidate_of-again Nop h = system-route 0xD503201F refl refl refl
candidate_of-again (Brk imm) h = exception-read Brk 0xD4200000 refl refl refl refl (λ w. refl) imm h
