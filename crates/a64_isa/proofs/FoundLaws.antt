-- What is read from a word is a form whose word it is.
use Rattle.std.proofs.Common.{◌≡◌, ℕ, ◌^◌, ◌<◌, Bool, true, false, cond, eqb, nat_lt, Option, Some, None, subst, refl, sym}
use Rattle.std.proofs.lemmas.Bool.{and_parts, eqb-true}
use Rattle.hx_bits.specs.Bits.{field_of}
use Rattle.a64_isa.specs.declared.instruction.AInstr.{AInstr}
use Rattle.std.proofs.Common.{ltb-true}
use Rattle.a64_isa.specs.Forms.{encode_of, InRange}
use Rattle.a64_isa.specs.Reading.{cleared, arm, wide_at, pc_relative_at, bitfield_at, one_register_at, register_pair_at, branch_at, branch_if_at, compare_branch_at, branch_register_at, system_at, exception_at, shifted_at, two_sources_at, three_sources_at, select_at, wide_of, pc_relative_of, bitfield_of, one_register_of, register_pair_of, branch_of, branch_if_of, compare_branch_of, branch_register_of, system_of, exception_of, shifted_of, two_sources_of, three_sources_of, select_of, immediate_of, control_of, memory_of, register_of, candidate_of}
use Rattle.a64_isa.proofs.PlaceLaws.{add_immediate-found, three_registers-found, three_sources-found, move_wide-found, pc_relative-found, one_register-found, register_pair-found, branch-found, branch_if-found, compare_branch-found, branch_register-found, select-found, bitfield-found, exception-found}

-- what is read from a word is spelled so
pub record Reads (w : ℕ) (o : Option AInstr) : Type 0 where
  pub found : (i : AInstr) → o ≡ Some i → InRange i × (encode_of i ≡ w)

Reads-None : (w : ℕ) → Reads w None
Reads-None w = record { found = λ i e. absurd cc }

Reads-Some : (w : ℕ) (x : AInstr) → InRange x × (encode_of x ≡ w) → Reads w (Some x)
Reads-Some w x h = record { found = λ i e. let same : x ≡ i = cc in subst (λ (k : AInstr). InRange k × (encode_of k ≡ w)) same h }

Reads-arm : (w : ℕ) (b : Bool) (x : AInstr) (rest : Option AInstr) → (b ≡ true → InRange x × (encode_of x ≡ w)) → Reads w rest → Reads w (arm b x rest)
unfolding arm
Reads-arm w true x rest h r = Reads-Some w x (h refl)
Reads-arm w false x rest h r = r

Reads-choice : (w : ℕ) (b : Bool) (x y : Option AInstr) → Reads w x → Reads w y → Reads w (cond b x y)
Reads-choice w true x y p q = p
Reads-choice w false x y p q = q

wide_of-found : (w : ℕ) → w < 2 ^ 32 → Reads w (wide_of w)
unfolding wide_of wide_at
wide_of-found w lt =
    Reads-arm _ _ _ _ (λ t. add_immediate-found w 0x91000000 lt (eqb-true (cleared 0 23 w) 0x91000000 t)) (
    Reads-arm _ _ _ _ (λ t. add_immediate-found w 0xD1000000 lt (eqb-true (cleared 0 23 w) 0xD1000000 t)) (
    Reads-arm _ _ _ _ (λ t. add_immediate-found w 0xB1000000 lt (eqb-true (cleared 0 23 w) 0xB1000000 t)) (
    Reads-arm _ _ _ _ (λ t. add_immediate-found w 0xF1000000 lt (eqb-true (cleared 0 23 w) 0xF1000000 t)) (
    Reads-arm _ _ _ _ (λ t. move_wide-found w 0xD2800000 lt (eqb-true (cleared 0 23 w) 0xD2800000 t)) (
    Reads-arm _ _ _ _ (λ t. move_wide-found w 0xF2800000 lt (eqb-true (cleared 0 23 w) 0xF2800000 t)) (
    Reads-arm _ _ _ _ (λ t. move_wide-found w 0x92800000 lt (eqb-true (cleared 0 23 w) 0x92800000 t)) (Reads-None w)))))))

pc_relative_of-found : (w : ℕ) → w < 2 ^ 32 → Reads w (pc_relative_of w)
unfolding pc_relative_of pc_relative_at
pc_relative_of-found w lt =
    Reads-arm _ _ _ _ (λ t. pc_relative-found w 0x10000000 lt (eqb-true (cleared 0 24 (cleared 29 2 w)) 0x10000000 t)) (
    Reads-arm _ _ _ _ (λ t. pc_relative-found w 0x90000000 lt (eqb-true (cleared 0 24 (cleared 29 2 w)) 0x90000000 t)) (Reads-None w))

bitfield_of-found : (w : ℕ) → w < 2 ^ 32 → Reads w (bitfield_of w)
unfolding bitfield_of bitfield_at
bitfield_of-found w lt =
    Reads-arm _ _ _ _ (λ t. bitfield-found w 0xD3400000 lt (eqb-true (cleared 0 22 w) 0xD3400000 t)) (
    Reads-arm _ _ _ _ (λ t. bitfield-found w 0x93400000 lt (eqb-true (cleared 0 22 w) 0x93400000 t)) (Reads-None w))

one_register_of-found : (w : ℕ) → w < 2 ^ 32 → Reads w (one_register_of w)
unfolding one_register_of one_register_at
one_register_of-found w lt =
    Reads-arm _ _ _ _ (λ t. one_register-found w 0xF9400000 lt (eqb-true (cleared 0 22 w) 0xF9400000 t)) (
    Reads-arm _ _ _ _ (λ t. one_register-found w 0xF9000000 lt (eqb-true (cleared 0 22 w) 0xF9000000 t)) (
    Reads-arm _ _ _ _ (λ t. one_register-found w 0xB9400000 lt (eqb-true (cleared 0 22 w) 0xB9400000 t)) (
    Reads-arm _ _ _ _ (λ t. one_register-found w 0xB9000000 lt (eqb-true (cleared 0 22 w) 0xB9000000 t)) (
    Reads-arm _ _ _ _ (λ t. one_register-found w 0x79400000 lt (eqb-true (cleared 0 22 w) 0x79400000 t)) (
    Reads-arm _ _ _ _ (λ t. one_register-found w 0x79000000 lt (eqb-true (cleared 0 22 w) 0x79000000 t)) (
    Reads-arm _ _ _ _ (λ t. one_register-found w 0x39400000 lt (eqb-true (cleared 0 22 w) 0x39400000 t)) (
    Reads-arm _ _ _ _ (λ t. one_register-found w 0x39000000 lt (eqb-true (cleared 0 22 w) 0x39000000 t)) (
    Reads-arm _ _ _ _ (λ t. one_register-found w 0x39800000 lt (eqb-true (cleared 0 22 w) 0x39800000 t)) (
    Reads-arm _ _ _ _ (λ t. one_register-found w 0x79800000 lt (eqb-true (cleared 0 22 w) 0x79800000 t)) (
    Reads-arm _ _ _ _ (λ t. one_register-found w 0xB9800000 lt (eqb-true (cleared 0 22 w) 0xB9800000 t)) (Reads-None w)))))))))))

register_pair_of-found : (w : ℕ) → w < 2 ^ 32 → Reads w (register_pair_of w)
unfolding register_pair_of register_pair_at
register_pair_of-found w lt =
    Reads-arm _ _ _ _ (λ t. register_pair-found w 0xA9000000 lt (eqb-true (cleared 0 22 w) 0xA9000000 t)) (
    Reads-arm _ _ _ _ (λ t. register_pair-found w 0xA9400000 lt (eqb-true (cleared 0 22 w) 0xA9400000 t)) (
    Reads-arm _ _ _ _ (λ t. register_pair-found w 0xA9800000 lt (eqb-true (cleared 0 22 w) 0xA9800000 t)) (
    Reads-arm _ _ _ _ (λ t. register_pair-found w 0xA8C00000 lt (eqb-true (cleared 0 22 w) 0xA8C00000 t)) (Reads-None w))))

branch_of-found : (w : ℕ) → w < 2 ^ 32 → Reads w (branch_of w)
unfolding branch_of branch_at
branch_of-found w lt =
    Reads-arm _ _ _ _ (λ t. branch-found w 0x14000000 lt (eqb-true (cleared 0 26 w) 0x14000000 t)) (
    Reads-arm _ _ _ _ (λ t. branch-found w 0x94000000 lt (eqb-true (cleared 0 26 w) 0x94000000 t)) (Reads-None w))

branch_if_of-found : (w : ℕ) → w < 2 ^ 32 → Reads w (branch_if_of w)
unfolding branch_if_of branch_if_at
branch_if_of-found w lt =
    Reads-arm _ _ _ _ (λ t. let h = and_parts (eqb (cleared 0 4 (cleared 5 19 w)) 0x54000000) (nat_lt (field_of 0 4 w) 14) t in branch_if-found w 0x54000000 lt (eqb-true (cleared 0 4 (cleared 5 19 w)) 0x54000000 h.0) (ltb-true (field_of 0 4 w) 14 h.1)) (Reads-None w)

compare_branch_of-found : (w : ℕ) → w < 2 ^ 32 → Reads w (compare_branch_of w)
unfolding compare_branch_of compare_branch_at
compare_branch_of-found w lt =
    Reads-arm _ _ _ _ (λ t. compare_branch-found w 0xB4000000 lt (eqb-true (cleared 0 24 w) 0xB4000000 t)) (
    Reads-arm _ _ _ _ (λ t. compare_branch-found w 0xB5000000 lt (eqb-true (cleared 0 24 w) 0xB5000000 t)) (Reads-None w))

branch_register_of-found : (w : ℕ) → w < 2 ^ 32 → Reads w (branch_register_of w)
unfolding branch_register_of branch_register_at
branch_register_of-found w lt =
    Reads-arm _ _ _ _ (λ t. branch_register-found w 0xD61F0000 lt (eqb-true (cleared 5 5 w) 0xD61F0000 t)) (
    Reads-arm _ _ _ _ (λ t. branch_register-found w 0xD63F0000 lt (eqb-true (cleared 5 5 w) 0xD63F0000 t)) (
    Reads-arm _ _ _ _ (λ t. branch_register-found w 0xD65F0000 lt (eqb-true (cleared 5 5 w) 0xD65F0000 t)) (Reads-None w)))

system_of-found : (w : ℕ) → w < 2 ^ 32 → Reads w (system_of w)
unfolding system_of system_at
system_of-found w lt =
    Reads-arm _ _ _ _ (λ t. (tt, sym (eqb-true w 0xD503201F t))) (Reads-None w)

exception_of-found : (w : ℕ) → w < 2 ^ 32 → Reads w (exception_of w)
unfolding exception_of exception_at
exception_of-found w lt =
    Reads-arm _ _ _ _ (λ t. exception-found w 0xD4200000 lt (eqb-true (cleared 5 16 w) 0xD4200000 t)) (Reads-None w)

shifted_of-found : (w : ℕ) → w < 2 ^ 32 → Reads w (shifted_of w)
unfolding shifted_of shifted_at
shifted_of-found w lt =
    Reads-arm _ _ _ _ (λ t. three_registers-found w 0x8B000000 lt (eqb-true (cleared 0 10 (cleared 16 5 w)) 0x8B000000 t)) (
    Reads-arm _ _ _ _ (λ t. three_registers-found w 0xCB000000 lt (eqb-true (cleared 0 10 (cleared 16 5 w)) 0xCB000000 t)) (
    Reads-arm _ _ _ _ (λ t. three_registers-found w 0xAB000000 lt (eqb-true (cleared 0 10 (cleared 16 5 w)) 0xAB000000 t)) (
    Reads-arm _ _ _ _ (λ t. three_registers-found w 0xEB000000 lt (eqb-true (cleared 0 10 (cleared 16 5 w)) 0xEB000000 t)) (
    Reads-arm _ _ _ _ (λ t. three_registers-found w 0x8A000000 lt (eqb-true (cleared 0 10 (cleared 16 5 w)) 0x8A000000 t)) (
    Reads-arm _ _ _ _ (λ t. three_registers-found w 0xAA000000 lt (eqb-true (cleared 0 10 (cleared 16 5 w)) 0xAA000000 t)) (
    Reads-arm _ _ _ _ (λ t. three_registers-found w 0xCA000000 lt (eqb-true (cleared 0 10 (cleared 16 5 w)) 0xCA000000 t)) (
    Reads-arm _ _ _ _ (λ t. three_registers-found w 0xAA200000 lt (eqb-true (cleared 0 10 (cleared 16 5 w)) 0xAA200000 t)) (Reads-None w))))))))

two_sources_of-found : (w : ℕ) → w < 2 ^ 32 → Reads w (two_sources_of w)
unfolding two_sources_of two_sources_at
two_sources_of-found w lt =
    Reads-arm _ _ _ _ (λ t. three_registers-found w 0x9AC00800 lt (eqb-true (cleared 0 10 (cleared 16 5 w)) 0x9AC00800 t)) (
    Reads-arm _ _ _ _ (λ t. three_registers-found w 0x9AC00C00 lt (eqb-true (cleared 0 10 (cleared 16 5 w)) 0x9AC00C00 t)) (
    Reads-arm _ _ _ _ (λ t. three_registers-found w 0x9AC02000 lt (eqb-true (cleared 0 10 (cleared 16 5 w)) 0x9AC02000 t)) (
    Reads-arm _ _ _ _ (λ t. three_registers-found w 0x9AC02400 lt (eqb-true (cleared 0 10 (cleared 16 5 w)) 0x9AC02400 t)) (
    Reads-arm _ _ _ _ (λ t. three_registers-found w 0x9AC02800 lt (eqb-true (cleared 0 10 (cleared 16 5 w)) 0x9AC02800 t)) (Reads-None w)))))

three_sources_of-found : (w : ℕ) → w < 2 ^ 32 → Reads w (three_sources_of w)
unfolding three_sources_of three_sources_at
three_sources_of-found w lt =
    Reads-arm _ _ _ _ (λ t. three_sources-found w 0x9B000000 lt (eqb-true (cleared 0 15 (cleared 16 5 w)) 0x9B000000 t)) (
    Reads-arm _ _ _ _ (λ t. three_sources-found w 0x9B008000 lt (eqb-true (cleared 0 15 (cleared 16 5 w)) 0x9B008000 t)) (Reads-None w))

select_of-found : (w : ℕ) → w < 2 ^ 32 → Reads w (select_of w)
unfolding select_of select_at
select_of-found w lt =
    Reads-arm _ _ _ _ (λ t. let h = and_parts (eqb (cleared 0 10 (cleared 12 9 w)) 0x9A800400) (nat_lt (field_of 12 4 w) 14) t in select-found w 0x9A800400 lt (eqb-true (cleared 0 10 (cleared 12 9 w)) 0x9A800400 h.0) (ltb-true (field_of 12 4 w) 14 h.1)) (Reads-None w)

immediate_of-found : (w : ℕ) → w < 2 ^ 32 → Reads w (immediate_of w)
unfolding immediate_of
immediate_of-found w lt = Reads-choice _ _ _ _ (pc_relative_of-found w lt) (Reads-choice _ _ _ _ (bitfield_of-found w lt) (wide_of-found w lt))

control_of-found : (w : ℕ) → w < 2 ^ 32 → Reads w (control_of w)
unfolding control_of
control_of-found w lt = Reads-choice _ _ _ _ (branch_of-found w lt) (Reads-choice _ _ _ _ (branch_if_of-found w lt) (Reads-choice _ _ _ _ (exception_of-found w lt) (Reads-choice _ _ _ _ (system_of-found w lt) (Reads-choice _ _ _ _ (branch_register_of-found w lt) (compare_branch_of-found w lt)))))

memory_of-found : (w : ℕ) → w < 2 ^ 32 → Reads w (memory_of w)
unfolding memory_of
memory_of-found w lt = Reads-choice _ _ _ _ (one_register_of-found w lt) (register_pair_of-found w lt)

register_of-found : (w : ℕ) → w < 2 ^ 32 → Reads w (register_of w)
unfolding register_of
register_of-found w lt = Reads-choice _ _ _ _ (three_sources_of-found w lt) (Reads-choice _ _ _ _ (select_of-found w lt) (Reads-choice _ _ _ _ (two_sources_of-found w lt) (shifted_of-found w lt)))

pub candidate_of-found : (w : ℕ) → w < 2 ^ 32 → Reads w (candidate_of w)
unfolding candidate_of
candidate_of-found w lt = Reads-choice _ _ _ _ (immediate_of-found w lt) (Reads-choice _ _ _ _ (control_of-found w lt) (Reads-choice _ _ _ _ (memory_of-found w lt) (register_of-found w lt)))
