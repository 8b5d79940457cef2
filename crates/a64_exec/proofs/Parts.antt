-- Shifts and extensions as parts of numbers, numbers by quarters, and what a register's change leaves.
use Rattle.std.proofs.Common.{◌≡◌, ◌≢◌, ℕ, ◌+◌, ◌-◌, ◌*◌, ◌/◌, ◌%◌, ◌^◌, ◌<◌, ◌≤◌, Bool, true, false, cond, eqb, nat_le, nat_lt, arith, refl, ap, sym, ◌∙◌}
use Rattle.std.proofs.lemmas.Bool.Decides.{nat_tests}
use Rattle.std.proofs.lemmas.Int.{ints}
use Rattle.hx_bits.specs.declared.widths.Width.TheVariants.{W8, W16, W32}
use Rattle.hx_bits.specs.Widths.{sign_extended}
use Rattle.reg_map.specs.declared.registers.A64Reg.{A64Reg}
use Rattle.reg_map.specs.Registers.{Registers}
use Rattle.a64_exec.specs.Values.{wrapped, is_minus, complement, shifted_left, shifted_right_signed, quarter_of, with_quarter, bitfield_of, signed_bitfield_of}
use Rattle.a64_exec.specs.Effects.{with_target}

pub bitfield_of-right : (x k : ℕ) → x < 2 ^ 64 → k < 64 → bitfield_of x 63 k ≡ x / 2 ^ k
bitfield_of-right x k x_lt k_lt =
    let d : (63 - 63 + k) % 64 ≡ k = omega arith in
    let t : x * 2 ^ (63 - 63) % 2 ^ 64 ≡ x = omega arith in
    ap (λ (j : ℕ). x * 2 ^ (63 - 63) % 2 ^ 64 / 2 ^ j) d ∙ ap (λ (z : ℕ). z / 2 ^ k) t

pub signed_bitfield_of-right : (x k : ℕ) → x < 2 ^ 64 → k < 64 → signed_bitfield_of x 63 k ≡ shifted_right_signed x k
signed_bitfield_of-right x k x_lt k_lt =
    let d : (63 - 63 + k) % 64 ≡ k = omega arith in
    let t : x * 2 ^ (63 - 63) % 2 ^ 64 ≡ x = omega arith in
    ap (λ (j : ℕ). shifted_right_signed (x * 2 ^ (63 - 63) % 2 ^ 64) j) d ∙ ap (λ (z : ℕ). shifted_right_signed z k) t

pub bitfield_of-left : (x k : ℕ) → 0 < k → k < 64 → bitfield_of x (63 - k) (64 - k) ≡ shifted_left x k
bitfield_of-left x k some k_lt =
    let up : 63 - (63 - k) ≡ k = omega arith in
    let down : (63 - (63 - k) + (64 - k)) % 64 ≡ 0 = omega arith in
    let z : x * 2 ^ k % 2 ^ 64 / 2 ^ 0 ≡ x * 2 ^ k % 2 ^ 64 = omega arith in
    ap (λ (j : ℕ). x * 2 ^ (63 - (63 - k)) % 2 ^ 64 / 2 ^ j) down ∙ ap (λ (j : ℕ). x * 2 ^ j % 2 ^ 64 / 2 ^ 0) up ∙ z

pub bitfield_of-byte : (x : ℕ) → bitfield_of x 7 0 ≡ x % 2 ^ 8
bitfield_of-byte x = omega arith

pub bitfield_of-half : (x : ℕ) → bitfield_of x 15 0 ≡ x % 2 ^ 16
bitfield_of-half x = omega arith

pub bitfield_of-word : (x : ℕ) → bitfield_of x 31 0 ≡ x % 2 ^ 32
bitfield_of-word x = omega arith

pub signed_bitfield_of-byte : (x : ℕ) → signed_bitfield_of x 7 0 ≡ sign_extended W8 x
signed_bitfield_of-byte x = grind (arith, ints, nat_tests)

pub signed_bitfield_of-half : (x : ℕ) → signed_bitfield_of x 15 0 ≡ sign_extended W16 x
signed_bitfield_of-half x = grind (arith, ints, nat_tests)

pub signed_bitfield_of-word : (x : ℕ) → signed_bitfield_of x 31 0 ≡ sign_extended W32 x
signed_bitfield_of-word x = grind (arith, ints, nat_tests)

-- MOVZ and three MOVK make any number
pub quarters : (v : ℕ) → v < 2 ^ 64 → with_quarter (with_quarter (with_quarter (quarter_of (v % 2 ^ 16) 0) (v / 2 ^ 16 % 2 ^ 16) 1) (v / 2 ^ 32 % 2 ^ 16) 2) (v / 2 ^ 48) 3 ≡ v
quarters v v_lt = omega arith

-- other registers, the program counter and both sets of flags stay
pub with_target-other : (s : Registers) (d : A64Reg) (v k : ℕ) → k ≢ d.0 → (with_target s d v).value k ≡ s.value k
with_target-other s d v k other = grind (arith, nat_tests)
