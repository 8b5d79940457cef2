use Rattle.std.proofs.Common.{◌≡◌, length, drop}
use Rattle.c_values.specs.Objects.{same_path}
use Rattle.c_values.proofs.comparing.is_same_path.Given as goal

-- what is left is the same where the whole is
abbrev pub invariant-loop-at : goal.invariant-loop-at
invariant-loop-at l = (length l.a ≡ length l.b) × (same_path (drop l.at l.a) (drop l.at l.b) ≡ same_path l.a l.b)
