-- Flags in the header of a section: the one that speaks of the file alone is put beside the section's own.
use Rattle.std.proofs.Common.{◌≡◌, ℕ, ◌+◌, ◌-◌, ◌*◌, ◌/◌, ◌%◌, ◌<◌, Bool, true, false, cond, not, eqb, refl, sym, ap, ◌∙◌, arith}
use Rattle.std.specs.Prelude.{bit_and, bit_or}
use Rattle.std.proofs.lemmas.Nat.{and_le_l, and_assoc, or_disjoint, and_or_self, and_or_apart}
use Rattle.std.proofs.lemmas.Nat.Bits.{and_pow}
use Rattle.std.proofs.lemmas.Bool.{and_parts, not-true, not-false, eqb-true}
use Rattle.coff_write.specs.declared.object.ObjSection.{ObjSection}
use Rattle.coff_write.specs.Format.{overflows, section_flags}
use Rattle.coff_write.specs.Valid.{has_flag, has_right_comdat, has_right_flags}

-- a part of a mask none of whose bits a number has
part_zero : (f m n : ℕ) → bit_and f m ≡ 0 → bit_and m n ≡ n → bit_and f n ≡ 0
part_zero f m n e s = ap (bit_and f) (sym s) ∙ sym (and_assoc n f m) ∙ ap (λ k. bit_and k n) e ∙ omega (arith, and_le_l 0 n)

-- bit 24 is free, so adding it keeps the number within 32 bits
small_sum : (f : ℕ) → f < 4294967296 → bit_and f 16777216 ≡ 0 → f + 16777216 < 4294967296
small_sum f lt e = let h : bit_and f 16777216 ≡ f / 16777216 % 2 * 16777216 = and_pow f 24 in omega (arith, h, e)

pub record FlagFields (s : ObjSection) (g : ℕ) : Type 0 where
  pub small : g < 4294967296
  pub over : not (eqb (bit_and g 16777216) 0) ≡ overflows s
  pub gone : bit_and g 2560 ≡ 0
  pub zeros : bit_and g 128 ≡ bit_and s.flags 128
  pub comdat : bit_and g 4096 ≡ bit_and s.flags 4096
  pub code : bit_and g 536870912 ≡ bit_and s.flags 536870912
  pub back : cond (not (eqb (bit_and g 16777216) 0)) (g - 16777216) g ≡ s.flags

flag_case : (s : ObjSection) (b : Bool) → overflows s ≡ b → s.flags < 4294967296 → bit_and s.flags 16779776 ≡ 0 → FlagFields s (cond b (s.flags + 16777216) s.flags)
flag_case s true o lt e =
    let apart : bit_and s.flags 16777216 ≡ 0 = part_zero s.flags 16779776 16777216 e refl in
    let gone : bit_and s.flags 2560 ≡ 0 = part_zero s.flags 16779776 2560 e refl in
    let sum : s.flags + 16777216 ≡ bit_or s.flags 16777216 = sym (or_disjoint s.flags 16777216 apart) in
    let set : bit_and (s.flags + 16777216) 16777216 ≡ 16777216 = ap (λ k. bit_and k 16777216) sum ∙ and_or_self 16777216 s.flags in
    record {
      small = small_sum s.flags lt apart;
      over = ap (λ k. not (eqb k 0)) set ∙ sym o;
      gone = ap (λ k. bit_and k 2560) sum ∙ and_or_apart 2560 s.flags 16777216 refl ∙ gone;
      zeros = ap (λ k. bit_and k 128) sum ∙ and_or_apart 128 s.flags 16777216 refl;
      comdat = ap (λ k. bit_and k 4096) sum ∙ and_or_apart 4096 s.flags 16777216 refl;
      code = ap (λ k. bit_and k 536870912) sum ∙ and_or_apart 536870912 s.flags 16777216 refl;
      back = rw set (omega arith);
    }
flag_case s false o lt e =
    let apart : bit_and s.flags 16777216 ≡ 0 = part_zero s.flags 16779776 16777216 e refl in
    record {
      small = lt;
      over = ap (λ k. not (eqb k 0)) apart ∙ sym o;
      gone = part_zero s.flags 16779776 2560 e refl;
      zeros = refl;
      comdat = refl;
      code = refl;
      back = rw apart refl;
    }

free_flags : (s : ObjSection) → has_right_flags s ≡ true → bit_and s.flags 16779776 ≡ 0
unfolding has_right_flags has_flag
free_flags s e = eqb-true (bit_and s.flags 16779776) 0 (not-false (eqb (bit_and s.flags 16779776) 0) (not-true (not (eqb (bit_and s.flags 16779776) 0)) (and_parts _ (has_right_comdat s) e).0))

pub flag_fields : (s : ObjSection) → s.flags < 4294967296 → has_right_flags s ≡ true → FlagFields s (section_flags s)
unfolding section_flags
flag_fields s lt e = flag_case s (overflows s) refl lt (free_flags s e)
