-- Registers, conditions and their numbers, signed numbers of 8 bits, and the fields of REX and ModRM.
use Rattle.std.proofs.Common.{◌≡◌, ℕ, zero, suc, ℤ, pos, negsuc, ◌+◌, ◌*◌, ◌/◌, ◌%◌, ◌^◌, ◌<◌, ◌≤◌, true, false, refl, arith, mod-lt, lit<}
use Rattle.std.proofs.lemmas.Int.{ints}
use Rattle.std.proofs.lemmas.Bool.Decides.{nat_tests}
use Rattle.hx_words.specs.TwosComplement.{signed_of, bits_of, IsSigned}
use Rattle.reg_map.specs.declared.registers.X64Reg.{X64Reg}
use Rattle.reg_map.specs.declared.registers.X64Reg.TheVariants.{Rax, Rcx, Rdx, Rbx, Rsp, Rbp, Rsi, Rdi, R8, R9, R10, R11, R12, R13, R14, R15}
use Rattle.x64_isa.specs.declared.instruction.Condition.{Condition}
use Rattle.x64_isa.specs.declared.instruction.Condition.TheVariants.{Overflow, NotOverflow, Below, AboveOrEqual, Equals, NotEquals, BelowOrEqual, Above, Sign, NotSign, LessThan, GreaterOrEqual, LessOrEqual, GreaterThan}
use Rattle.x64_isa.specs.Fields.{number_of_condition, condition_of, is_condition, rex, modrm, number_of_register, register_of, register_at, low, high, fits8}

number_lt : (r : X64Reg) → number_of_register r < 16
unfolding number_of_register
number_lt Rax = lit< tt
number_lt Rcx = lit< tt
number_lt Rdx = lit< tt
number_lt Rbx = lit< tt
number_lt Rsp = lit< tt
number_lt Rbp = lit< tt
number_lt Rsi = lit< tt
number_lt Rdi = lit< tt
number_lt R8 = lit< tt
number_lt R9 = lit< tt
number_lt R10 = lit< tt
number_lt R11 = lit< tt
number_lt R12 = lit< tt
number_lt R13 = lit< tt
number_lt R14 = lit< tt
number_lt R15 = lit< tt

pub low_lt : (r : X64Reg) → low r < 8
unfolding low
low_lt r = mod-lt (number_of_register r) (omega arith)

pub high_lt : (r : X64Reg) → high r < 2
unfolding high
high_lt r = omega (arith, number_lt r)

-- a register is that of its bits
pub register_at-bits : (r : X64Reg) → register_at (high r) (low r) ≡ r
unfolding register_at register_of low high number_of_register
register_at-bits Rax = refl
register_at-bits Rcx = refl
register_at-bits Rdx = refl
register_at-bits Rbx = refl
register_at-bits Rsp = refl
register_at-bits Rbp = refl
register_at-bits Rsi = refl
register_at-bits Rdi = refl
register_at-bits R8 = refl
register_at-bits R9 = refl
register_at-bits R10 = refl
register_at-bits R11 = refl
register_at-bits R12 = refl
register_at-bits R13 = refl
register_at-bits R14 = refl
register_at-bits R15 = refl

number-register_of : (n : ℕ) → n < 16 → number_of_register (register_of n) ≡ n
unfolding register_of number_of_register
number-register_of zero h = refl
number-register_of (suc zero) h = refl
number-register_of (suc (suc zero)) h = refl
number-register_of (suc (suc (suc zero))) h = refl
number-register_of (suc (suc (suc (suc zero)))) h = refl
number-register_of (suc (suc (suc (suc (suc zero))))) h = refl
number-register_of (suc (suc (suc (suc (suc (suc zero)))))) h = refl
number-register_of (suc (suc (suc (suc (suc (suc (suc zero))))))) h = refl
number-register_of (suc (suc (suc (suc (suc (suc (suc (suc zero)))))))) h = refl
number-register_of (suc (suc (suc (suc (suc (suc (suc (suc (suc zero))))))))) h = refl
number-register_of (suc (suc (suc (suc (suc (suc (suc (suc (suc (suc zero)))))))))) h = refl
number-register_of (suc (suc (suc (suc (suc (suc (suc (suc (suc (suc (suc zero))))))))))) h = refl
number-register_of (suc (suc (suc (suc (suc (suc (suc (suc (suc (suc (suc (suc zero)))))))))))) h = refl
number-register_of (suc (suc (suc (suc (suc (suc (suc (suc (suc (suc (suc (suc (suc zero))))))))))))) h = refl
number-register_of (suc (suc (suc (suc (suc (suc (suc (suc (suc (suc (suc (suc (suc (suc zero)))))))))))))) h = refl
number-register_of (suc (suc (suc (suc (suc (suc (suc (suc (suc (suc (suc (suc (suc (suc (suc zero))))))))))))))) h = refl
number-register_of (suc (suc (suc (suc (suc (suc (suc (suc (suc (suc (suc (suc (suc (suc (suc (suc n)))))))))))))))) h = absurd (omega arith)

-- and the bits are those of the register
pub low-register_at : (h l : ℕ) → h < 2 → l < 8 → low (register_at h l) ≡ l
unfolding low register_at
low-register_at h l lh ll = omega (arith, number-register_of (8 * h + l) (omega arith))

pub high-register_at : (h l : ℕ) → h < 2 → l < 8 → high (register_at h l) ≡ h
unfolding high register_at
high-register_at h l lh ll = omega (arith, number-register_of (8 * h + l) (omega arith))

-- ---- signed numbers of 8 bits

pub fits8-signed_of : (n : ℕ) → n < 256 → fits8 (signed_of 8 n) ≡ true
unfolding fits8
fits8-signed_of n h = grind (arith, ints, nat_tests)

pub IsSigned-signed_of8 : (n : ℕ) → n < 256 → IsSigned 32 (signed_of 8 n)
IsSigned-signed_of8 n h = grind (arith, ints, nat_tests)

pub signed_of-bits_of8 : (z : ℤ) → fits8 z ≡ true → signed_of 8 (bits_of 8 z) ≡ z
unfolding fits8
signed_of-bits_of8 (pos n) h = grind (arith, ints, nat_tests)
signed_of-bits_of8 (negsuc n) h = grind (arith, ints, nat_tests)

pub bits_of8_lt : (z : ℤ) → fits8 z ≡ true → bits_of 8 z < 256
unfolding fits8
bits_of8_lt (pos n) h = grind (arith, ints, nat_tests)
bits_of8_lt (negsuc n) h = grind (arith, ints, nat_tests)

-- a number whose highest byte is 1 wants 32 bits
pub far-signed_of : (n : ℕ) → 256 ^ 3 ≤ n → n < 2 * 256 ^ 3 → fits8 (signed_of 32 n) ≡ false
unfolding fits8
far-signed_of n l h = grind (arith, ints, nat_tests)

-- ---- conditions

pub condition_of-number : (c : Condition) → condition_of (number_of_condition c) ≡ c
unfolding condition_of number_of_condition
condition_of-number Overflow = refl
condition_of-number NotOverflow = refl
condition_of-number Below = refl
condition_of-number AboveOrEqual = refl
condition_of-number Equals = refl
condition_of-number NotEquals = refl
condition_of-number BelowOrEqual = refl
condition_of-number Above = refl
condition_of-number Sign = refl
condition_of-number NotSign = refl
condition_of-number LessThan = refl
condition_of-number GreaterOrEqual = refl
condition_of-number LessOrEqual = refl
condition_of-number GreaterThan = refl

pub is_condition-number : (c : Condition) → is_condition (number_of_condition c) ≡ true
unfolding is_condition number_of_condition
is_condition-number Overflow = refl
is_condition-number NotOverflow = refl
is_condition-number Below = refl
is_condition-number AboveOrEqual = refl
is_condition-number Equals = refl
is_condition-number NotEquals = refl
is_condition-number BelowOrEqual = refl
is_condition-number Above = refl
is_condition-number Sign = refl
is_condition-number NotSign = refl
is_condition-number LessThan = refl
is_condition-number GreaterOrEqual = refl
is_condition-number LessOrEqual = refl
is_condition-number GreaterThan = refl

pub condition_lt : (c : Condition) → number_of_condition c < 16
unfolding number_of_condition
condition_lt Overflow = lit< tt
condition_lt NotOverflow = lit< tt
condition_lt Below = lit< tt
condition_lt AboveOrEqual = lit< tt
condition_lt Equals = lit< tt
condition_lt NotEquals = lit< tt
condition_lt BelowOrEqual = lit< tt
condition_lt Above = lit< tt
condition_lt Sign = lit< tt
condition_lt NotSign = lit< tt
condition_lt LessThan = lit< tt
condition_lt GreaterOrEqual = lit< tt
condition_lt LessOrEqual = lit< tt
condition_lt GreaterThan = lit< tt

pub number-condition_of : (n : ℕ) → n < 16 → is_condition n ≡ true → number_of_condition (condition_of n) ≡ n
unfolding condition_of number_of_condition is_condition
number-condition_of zero h e = refl
number-condition_of (suc zero) h e = refl
number-condition_of (suc (suc zero)) h e = refl
number-condition_of (suc (suc (suc zero))) h e = refl
number-condition_of (suc (suc (suc (suc zero)))) h e = refl
number-condition_of (suc (suc (suc (suc (suc zero))))) h e = refl
number-condition_of (suc (suc (suc (suc (suc (suc zero)))))) h e = refl
number-condition_of (suc (suc (suc (suc (suc (suc (suc zero))))))) h e = refl
number-condition_of (suc (suc (suc (suc (suc (suc (suc (suc zero)))))))) h e = refl
number-condition_of (suc (suc (suc (suc (suc (suc (suc (suc (suc zero))))))))) h e = refl
number-condition_of (suc (suc (suc (suc (suc (suc (suc (suc (suc (suc zero)))))))))) h e = absurd cc
number-condition_of (suc (suc (suc (suc (suc (suc (suc (suc (suc (suc (suc zero))))))))))) h e = absurd cc
number-condition_of (suc (suc (suc (suc (suc (suc (suc (suc (suc (suc (suc (suc zero)))))))))))) h e = refl
number-condition_of (suc (suc (suc (suc (suc (suc (suc (suc (suc (suc (suc (suc (suc zero))))))))))))) h e = refl
number-condition_of (suc (suc (suc (suc (suc (suc (suc (suc (suc (suc (suc (suc (suc (suc zero)))))))))))))) h e = refl
number-condition_of (suc (suc (suc (suc (suc (suc (suc (suc (suc (suc (suc (suc (suc (suc (suc zero))))))))))))))) h e = refl
number-condition_of (suc (suc (suc (suc (suc (suc (suc (suc (suc (suc (suc (suc (suc (suc (suc (suc n)))))))))))))))) h e = absurd (omega arith)

-- ---- ModRM and REX

pub modrm_parts : (m : ℕ) → modrm (m / 64) (m / 8 % 8) (m % 8) ≡ m
unfolding modrm
modrm_parts m = omega arith

pub modrm_mode : (mode n l : ℕ) → n < 8 → l < 8 → modrm mode n l / 64 ≡ mode
unfolding modrm
modrm_mode mode n l ln ll = omega arith

pub modrm_reg : (mode n l : ℕ) → n < 8 → l < 8 → modrm mode n l / 8 % 8 ≡ n
unfolding modrm
modrm_reg mode n l ln ll = omega arith

pub modrm_rm : (mode n l : ℕ) → n < 8 → l < 8 → modrm mode n l % 8 ≡ l
unfolding modrm
modrm_rm mode n l ln ll = omega arith

pub rex_parts : (c : ℕ) → c / 16 ≡ 4 → c / 2 % 2 ≡ 0 → rex (c / 8 % 2) (c / 4 % 2) (c % 2) ≡ c
unfolding rex
rex_parts c h e = omega arith
