-- Counts that rose, over calls in a row.
use Rattle.std.proofs.Common.{ℕ, ◌≤◌, ⊎_elim, inl, inr, arith}
use Rattle.hx_words.specs.Counts.{Rose, most_faults}
use Rattle.hx_io.specs.Faults.{risen}

-- a count rises by a fault
pub Rose-risen : (faults : ℕ) → faults ≤ most_faults → Rose faults (risen faults)
Rose-risen faults h = grind arith

-- a count that rose in a later call rose over both
pub Rose-later : (a b c : ℕ) → a ≤ b → Rose b c → Rose a c
Rose-later a b c h r = ⊎_elim (λ below. inl (omega arith)) (λ top. inr top) r

-- a count that rose in an earlier call rose over both
pub Rose-earlier : (a b c : ℕ) → Rose a b → b ≤ c → c ≤ most_faults → Rose a c
Rose-earlier a b c r h top = ⊎_elim (λ below. inl (omega arith)) (λ at. inr (omega arith)) r
