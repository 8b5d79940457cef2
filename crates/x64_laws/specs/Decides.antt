-- What a condition decides of two numbers, after the instruction that compares them.
use Rattle.std.specs.Prelude.{ℕ, ◌^◌, ◌<◌, ◌↔◌, IsTrue}
use Rattle.x64_isa.specs.declared.instruction.Condition.{Condition}
use Rattle.x64_exec.specs.Words.{flags_of_minus, holds}

-- after CMP of x and y the condition holds exactly where the fact does
abbrev pub CmpDecides : Condition → (ℕ → ℕ → Type 0) → Type 0
CmpDecides c P = (x y : ℕ) → x < 2 ^ 64 → y < 2 ^ 64 → IsTrue (holds c (flags_of_minus x y)) ↔ P x y
