-- Numbers by MOVN and MOVK.
use Rattle.std.proofs.Common.{◌≡◌, ℕ, ◌-◌, ◌/◌, ◌%◌, ◌^◌, ◌<◌, ◌≤◌, arith}
use Rattle.a64_exec.specs.Values.{complement, quarter_of, with_quarter}

pub negated_quarters : (v : ℕ) → v < 2 ^ 64 → with_quarter (with_quarter (with_quarter (complement (quarter_of (2 ^ 16 - 1 - v % 2 ^ 16) 0)) (v / 2 ^ 16 % 2 ^ 16) 1) (v / 2 ^ 32 % 2 ^ 16) 2) (v / 2 ^ 48) 3 ≡ v
negated_quarters v v_lt = omega arith

pub negated_quarter_alone : (v : ℕ) → v < 2 ^ 64 → 2 ^ 64 - 2 ^ 16 ≤ v → complement (quarter_of (2 ^ 16 - 1 - v % 2 ^ 16) 0) ≡ v
negated_quarter_alone v v_lt h = omega arith
