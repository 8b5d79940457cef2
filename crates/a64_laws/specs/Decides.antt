-- What a condition decides of two numbers, after the instruction that adds them.
use Rattle.std.specs.Prelude.{ℕ, ◌^◌, ◌<◌, ◌↔◌, IsTrue}
use Rattle.a64_isa.specs.declared.instruction.Condition.{Condition}
use Rattle.a64_exec.specs.Values.{adds_of, holds}

-- after ADDS of x and y the condition holds exactly where the fact does
abbrev pub AddsDecides : Condition → (ℕ → ℕ → Type 0) → Type 0
AddsDecides c P = (x y : ℕ) → x < 2 ^ 64 → y < 2 ^ 64 → IsTrue (holds c (adds_of x y).flags) ↔ P x y
