-- The instruction that a word is, read by its leading bits as the Arm ARM's index does (C4.1).
use Rattle.std.specs.Prelude.{ℕ, ℤ, ◌+◌, ◌*◌, ◌^◌, Bool, ◌==◌, ◌&&◌, nat_lt, Option, Some, None, if◌then◌else◌, option_and_then}
use Rattle.hx_words.specs.TwosComplement.{signed_of}
use Rattle.hx_bits.specs.Bits.{field_of, with_field}
use Rattle.reg_map.specs.declared.registers.A64Reg.{A64Reg}
use Rattle.a64_isa.specs.declared.instruction.Condition.{Condition}
use Rattle.a64_isa.specs.declared.instruction.AInstr.{AInstr}
use Rattle.a64_isa.specs.declared.instruction.AInstr.TheVariants.{AddImmediate, SubImmediate, AddsImmediate, SubsImmediate, AddRegister, SubRegister, AddsRegister, SubsRegister, AndRegister, OrrRegister, EorRegister, OrnRegister, Udiv, Sdiv, Lslv, Lsrv, Asrv, Madd, Msub, Movz, Movk, Movn, Adr, Adrp, LdrX, StrX, LdrW, StrW, Ldrh, Strh, Ldrb, Strb, Ldrsb, Ldrsh, Ldrsw, Stp, Ldp, StpPre, LdpPost, B, Bl, BCond, Cbz, Cbnz, Br, Blr, Ret, Csinc, Ubfm, Sbfm, Nop, Brk}
use Rattle.a64_isa.specs.Conditions.{condition_at}
use Rattle.a64_isa.specs.Forms.{is_allowed}

-- the word with the len bits from bit lo up made zero
abbrev pub cleared : ℕ → ℕ → ℕ → ℕ
cleared lo len w = with_field lo len w 0

-- the register that the five bits from bit lo up name
abbrev pub register_in : ℕ → ℕ → A64Reg
register_in lo w = record { 0 = field_of lo 5 w }

-- The operands of a word, by where they stand.

abbrev pub add_immediate_in : (A64Reg → A64Reg → ℕ → Bool → AInstr) → ℕ → AInstr
add_immediate_in form w = form (register_in 0 w) (register_in 5 w) (field_of 10 12 w) (field_of 22 1 w == 1)

abbrev pub three_registers_in : (A64Reg → A64Reg → A64Reg → AInstr) → ℕ → AInstr
three_registers_in form w = form (register_in 0 w) (register_in 5 w) (register_in 16 w)

abbrev pub three_sources_in : (A64Reg → A64Reg → A64Reg → A64Reg → AInstr) → ℕ → AInstr
three_sources_in form w = form (register_in 0 w) (register_in 5 w) (register_in 10 w) (register_in 16 w)

abbrev pub move_wide_in : (A64Reg → ℕ → ℕ → AInstr) → ℕ → AInstr
move_wide_in form w = form (register_in 0 w) (field_of 5 16 w) (field_of 21 2 w)

abbrev pub pc_relative_in : (A64Reg → ℤ → AInstr) → ℕ → AInstr
pc_relative_in form w = form (register_in 0 w) (signed_of 21 (field_of 5 19 w * 2 ^ 2 + field_of 29 2 w))

abbrev pub one_register_in : (A64Reg → A64Reg → ℕ → AInstr) → ℕ → AInstr
one_register_in form w = form (register_in 0 w) (register_in 5 w) (field_of 10 12 w)

abbrev pub register_pair_in : (A64Reg → A64Reg → A64Reg → ℤ → AInstr) → ℕ → AInstr
register_pair_in form w = form (register_in 0 w) (register_in 5 w) (register_in 10 w) (signed_of 7 (field_of 15 7 w))

abbrev pub branch_in : (ℤ → AInstr) → ℕ → AInstr
branch_in form w = form (signed_of 26 (field_of 0 26 w))

abbrev pub branch_if_in : (Condition → ℤ → AInstr) → ℕ → AInstr
branch_if_in form w = form (condition_at (field_of 0 4 w)) (signed_of 19 (field_of 5 19 w))

abbrev pub compare_branch_in : (A64Reg → ℤ → AInstr) → ℕ → AInstr
compare_branch_in form w = form (register_in 0 w) (signed_of 19 (field_of 5 19 w))

abbrev pub branch_register_in : (A64Reg → AInstr) → ℕ → AInstr
branch_register_in form w = form (register_in 5 w)

abbrev pub select_in : (A64Reg → A64Reg → Condition → A64Reg → AInstr) → ℕ → AInstr
select_in form w = form (register_in 0 w) (register_in 5 w) (condition_at (field_of 12 4 w)) (register_in 16 w)

abbrev pub bitfield_in : (A64Reg → A64Reg → ℕ → ℕ → AInstr) → ℕ → AInstr
bitfield_in form w = form (register_in 0 w) (register_in 5 w) (field_of 10 6 w) (field_of 16 6 w)

abbrev pub exception_in : (ℕ → AInstr) → ℕ → AInstr
exception_in form w = form (field_of 5 16 w)

-- this instruction where the test holds, and what the rest gives elsewhere
unfoldable pub arm : Bool → AInstr → Option AInstr → Option AInstr
arm b i rest = if b then Some i else rest

-- Each class by the word with its operands made zero, which is a form's base word or none.

unfoldable pub wide_at : ℕ → ℕ → Option AInstr
wide_at fixed w =
    arm (fixed == 0x91000000) (add_immediate_in AddImmediate w) (
    arm (fixed == 0xD1000000) (add_immediate_in SubImmediate w) (
    arm (fixed == 0xB1000000) (add_immediate_in AddsImmediate w) (
    arm (fixed == 0xF1000000) (add_immediate_in SubsImmediate w) (
    arm (fixed == 0xD2800000) (move_wide_in Movz w) (
    arm (fixed == 0xF2800000) (move_wide_in Movk w) (
    arm (fixed == 0x92800000) (move_wide_in Movn w) (None)))))))

unfoldable pub pc_relative_at : ℕ → ℕ → Option AInstr
pc_relative_at fixed w =
    arm (fixed == 0x10000000) (pc_relative_in Adr w) (
    arm (fixed == 0x90000000) (pc_relative_in Adrp w) (None))

unfoldable pub bitfield_at : ℕ → ℕ → Option AInstr
bitfield_at fixed w =
    arm (fixed == 0xD3400000) (bitfield_in Ubfm w) (
    arm (fixed == 0x93400000) (bitfield_in Sbfm w) (None))

unfoldable pub one_register_at : ℕ → ℕ → Option AInstr
one_register_at fixed w =
    arm (fixed == 0xF9400000) (one_register_in LdrX w) (
    arm (fixed == 0xF9000000) (one_register_in StrX w) (
    arm (fixed == 0xB9400000) (one_register_in LdrW w) (
    arm (fixed == 0xB9000000) (one_register_in StrW w) (
    arm (fixed == 0x79400000) (one_register_in Ldrh w) (
    arm (fixed == 0x79000000) (one_register_in Strh w) (
    arm (fixed == 0x39400000) (one_register_in Ldrb w) (
    arm (fixed == 0x39000000) (one_register_in Strb w) (
    arm (fixed == 0x39800000) (one_register_in Ldrsb w) (
    arm (fixed == 0x79800000) (one_register_in Ldrsh w) (
    arm (fixed == 0xB9800000) (one_register_in Ldrsw w) (None)))))))))))

unfoldable pub register_pair_at : ℕ → ℕ → Option AInstr
register_pair_at fixed w =
    arm (fixed == 0xA9000000) (register_pair_in Stp w) (
    arm (fixed == 0xA9400000) (register_pair_in Ldp w) (
    arm (fixed == 0xA9800000) (register_pair_in StpPre w) (
    arm (fixed == 0xA8C00000) (register_pair_in LdpPost w) (None))))

unfoldable pub branch_at : ℕ → ℕ → Option AInstr
branch_at fixed w =
    arm (fixed == 0x14000000) (branch_in B w) (
    arm (fixed == 0x94000000) (branch_in Bl w) (None))

unfoldable pub branch_if_at : ℕ → ℕ → Option AInstr
branch_if_at fixed w =
    arm ((fixed == 0x54000000) && nat_lt (field_of 0 4 w) 14) (branch_if_in BCond w) (None)

unfoldable pub compare_branch_at : ℕ → ℕ → Option AInstr
compare_branch_at fixed w =
    arm (fixed == 0xB4000000) (compare_branch_in Cbz w) (
    arm (fixed == 0xB5000000) (compare_branch_in Cbnz w) (None))

unfoldable pub branch_register_at : ℕ → ℕ → Option AInstr
branch_register_at fixed w =
    arm (fixed == 0xD61F0000) (branch_register_in Br w) (
    arm (fixed == 0xD63F0000) (branch_register_in Blr w) (
    arm (fixed == 0xD65F0000) (branch_register_in Ret w) (None)))

unfoldable pub system_at : ℕ → ℕ → Option AInstr
system_at fixed w =
    arm (fixed == 0xD503201F) Nop (None)

unfoldable pub exception_at : ℕ → ℕ → Option AInstr
exception_at fixed w =
    arm (fixed == 0xD4200000) (exception_in Brk w) (None)

unfoldable pub shifted_at : ℕ → ℕ → Option AInstr
shifted_at fixed w =
    arm (fixed == 0x8B000000) (three_registers_in AddRegister w) (
    arm (fixed == 0xCB000000) (three_registers_in SubRegister w) (
    arm (fixed == 0xAB000000) (three_registers_in AddsRegister w) (
    arm (fixed == 0xEB000000) (three_registers_in SubsRegister w) (
    arm (fixed == 0x8A000000) (three_registers_in AndRegister w) (
    arm (fixed == 0xAA000000) (three_registers_in OrrRegister w) (
    arm (fixed == 0xCA000000) (three_registers_in EorRegister w) (
    arm (fixed == 0xAA200000) (three_registers_in OrnRegister w) (None))))))))

unfoldable pub two_sources_at : ℕ → ℕ → Option AInstr
two_sources_at fixed w =
    arm (fixed == 0x9AC00800) (three_registers_in Udiv w) (
    arm (fixed == 0x9AC00C00) (three_registers_in Sdiv w) (
    arm (fixed == 0x9AC02000) (three_registers_in Lslv w) (
    arm (fixed == 0x9AC02400) (three_registers_in Lsrv w) (
    arm (fixed == 0x9AC02800) (three_registers_in Asrv w) (None)))))

unfoldable pub three_sources_at : ℕ → ℕ → Option AInstr
three_sources_at fixed w =
    arm (fixed == 0x9B000000) (three_sources_in Madd w) (
    arm (fixed == 0x9B008000) (three_sources_in Msub w) (None))

unfoldable pub select_at : ℕ → ℕ → Option AInstr
select_at fixed w =
    arm ((fixed == 0x9A800400) && nat_lt (field_of 12 4 w) 14) (select_in Csinc w) (None)

unfoldable pub wide_of : ℕ → Option AInstr
wide_of w = wide_at (cleared 0 23 w) w

unfoldable pub pc_relative_of : ℕ → Option AInstr
pc_relative_of w = pc_relative_at (cleared 0 24 (cleared 29 2 w)) w

unfoldable pub bitfield_of : ℕ → Option AInstr
bitfield_of w = bitfield_at (cleared 0 22 w) w

unfoldable pub one_register_of : ℕ → Option AInstr
one_register_of w = one_register_at (cleared 0 22 w) w

unfoldable pub register_pair_of : ℕ → Option AInstr
register_pair_of w = register_pair_at (cleared 0 22 w) w

unfoldable pub branch_of : ℕ → Option AInstr
branch_of w = branch_at (cleared 0 26 w) w

unfoldable pub branch_if_of : ℕ → Option AInstr
branch_if_of w = branch_if_at (cleared 0 4 (cleared 5 19 w)) w

unfoldable pub compare_branch_of : ℕ → Option AInstr
compare_branch_of w = compare_branch_at (cleared 0 24 w) w

unfoldable pub branch_register_of : ℕ → Option AInstr
branch_register_of w = branch_register_at (cleared 5 5 w) w

unfoldable pub system_of : ℕ → Option AInstr
system_of w = system_at w w

unfoldable pub exception_of : ℕ → Option AInstr
exception_of w = exception_at (cleared 5 16 w) w

unfoldable pub shifted_of : ℕ → Option AInstr
shifted_of w = shifted_at (cleared 0 10 (cleared 16 5 w)) w

unfoldable pub two_sources_of : ℕ → Option AInstr
two_sources_of w = two_sources_at (cleared 0 10 (cleared 16 5 w)) w

unfoldable pub three_sources_of : ℕ → Option AInstr
three_sources_of w = three_sources_at (cleared 0 15 (cleared 16 5 w)) w

unfoldable pub select_of : ℕ → Option AInstr
select_of w = select_at (cleared 0 10 (cleared 12 9 w)) w

-- Data processing (immediate)
unfoldable pub immediate_of : ℕ → Option AInstr
immediate_of w =
    if field_of 24 5 w == 16 then pc_relative_of w
    else (if field_of 24 5 w == 19 then bitfield_of w else wide_of w)

-- Branches, exception generating and system instructions
unfoldable pub control_of : ℕ → Option AInstr
control_of w =
    if field_of 26 5 w == 5 then branch_of w
    else (if field_of 24 8 w == 0x54 then branch_if_of w
    else (if field_of 24 8 w == 0xD4 then exception_of w
    else (if field_of 24 8 w == 0xD5 then system_of w
    else (if field_of 24 8 w == 0xD6 then branch_register_of w
    else compare_branch_of w))))

-- Loads and stores
unfoldable pub memory_of : ℕ → Option AInstr
memory_of w = if field_of 27 3 w == 7 then one_register_of w else register_pair_of w

-- Data processing (register)
unfoldable pub register_of : ℕ → Option AInstr
register_of w =
    if field_of 21 8 w == 0xD8 then three_sources_of w
    else (if field_of 21 8 w == 0xD4 then select_of w
    else (if field_of 21 8 w == 0xD6 then two_sources_of w else shifted_of w))

-- the form whose fixed bits the word has
unfoldable pub candidate_of : ℕ → Option AInstr
candidate_of w =
    if field_of 26 3 w == 4 then immediate_of w
    else (if field_of 26 3 w == 5 then control_of w
    else (if field_of 25 1 w == 0 then memory_of w else register_of w))

-- the instruction of the table whose word this is, if there is one
unfoldable pub decode_of : ℕ → Option AInstr
decode_of w = option_and_then (λ i. if is_allowed i then Some i else None) (candidate_of w)
