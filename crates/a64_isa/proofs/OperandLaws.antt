-- Operands and their bits determine each other.
use Rattle.std.proofs.Common.{◌≡◌, ℕ, zero, suc, ℤ, ◌<◌, Bool, true, false, eqb, arith, refl, ap, ◌∙◌}
use Rattle.std.proofs.lemmas.Bool.Decides.{nat_tests}
use Rattle.hx_words.specs.TwosComplement.{signed_of, bits_of, IsSigned}
use Rattle.hx_words.proofs.TwosComplementLaws.{signed_of-bits_of}
use Rattle.hx_bits.specs.Bits.{field_of}
use Rattle.reg_map.specs.declared.registers.A64Reg.{A64Reg}
use Rattle.a64_isa.specs.declared.instruction.Condition.{Condition}
use Rattle.a64_isa.specs.declared.instruction.Condition.TheVariants.{Equal, NotEqual, CarrySet, CarryClear, Minus, Plus, Overflow, NoOverflow, Higher, LowerOrSame, GreaterOrEqual, Less, Greater, LessOrEqual}
use Rattle.a64_isa.specs.Conditions.{condition_number, condition_at}
use Rattle.a64_isa.specs.Forms.{bit_of}
use Rattle.a64_isa.specs.Reading.{register_in}

pub register_in-is : (lo w : ℕ) (r : A64Reg) → field_of lo 5 w ≡ r.0 → register_in lo w ≡ r
register_in-is lo w r e = ap (λ (k : ℕ). let x : A64Reg = record { 0 = k } in x) e

pub bit_of_lt : (b : Bool) → bit_of b < 2
bit_of_lt true = omega arith
bit_of_lt false = omega arith

pub flag-is : (n : ℕ) (b : Bool) → n ≡ bit_of b → eqb n 1 ≡ b
flag-is n true e = ap (λ k. eqb k 1) e
flag-is n false e = ap (λ k. eqb k 1) e

-- a bit is that of its flag
pub bit_of-flag : (n : ℕ) → n < 2 → bit_of (eqb n 1) ≡ n
bit_of-flag zero h = refl
bit_of-flag (suc n) h = let e : n ≡ 0 = omega arith in rw e refl

pub condition_number_lt : (c : Condition) → condition_number c < 14
condition_number_lt Equal = omega arith
condition_number_lt NotEqual = omega arith
condition_number_lt CarrySet = omega arith
condition_number_lt CarryClear = omega arith
condition_number_lt Minus = omega arith
condition_number_lt Plus = omega arith
condition_number_lt Overflow = omega arith
condition_number_lt NoOverflow = omega arith
condition_number_lt Higher = omega arith
condition_number_lt LowerOrSame = omega arith
condition_number_lt GreaterOrEqual = omega arith
condition_number_lt Less = omega arith
condition_number_lt Greater = omega arith
condition_number_lt LessOrEqual = omega arith

pub condition_at-number : (c : Condition) → condition_at (condition_number c) ≡ c
condition_at-number Equal = refl
condition_at-number NotEqual = refl
condition_at-number CarrySet = refl
condition_at-number CarryClear = refl
condition_at-number Minus = refl
condition_at-number Plus = refl
condition_at-number Overflow = refl
condition_at-number NoOverflow = refl
condition_at-number Higher = refl
condition_at-number LowerOrSame = refl
condition_at-number GreaterOrEqual = refl
condition_at-number Less = refl
condition_at-number Greater = refl
condition_at-number LessOrEqual = refl

pub condition-is : (n : ℕ) (c : Condition) → n ≡ condition_number c → condition_at n ≡ c
condition-is n c e = ap condition_at e ∙ condition_at-number c

pub condition_number-at : (n : ℕ) → n < 14 → condition_number (condition_at n) ≡ n
condition_number-at n h = grind (arith, nat_tests)

pub signed-is : (len n : ℕ) (z : ℤ) → 0 < len → IsSigned len z → n ≡ bits_of len z → signed_of len n ≡ z
signed-is len n z some h e = ap (signed_of len) e ∙ signed_of-bits_of len z some h
