-- The greatest of the numbers at places, one more at a time.
use Rattle.std.proofs.Common.{◌≡◌, ℕ, ◌+◌, refl, add-one}
use Rattle.std.specs.Prelude.{max}
use Rattle.ec_limits.specs.Limits.{greatest_below}

pub below_none : (f : ℕ → ℕ) → greatest_below 0 f ≡ 0
unfolding greatest_below
below_none f = refl

pub below_next : (n : ℕ) (f : ℕ → ℕ) → greatest_below (n + 1) f ≡ max (greatest_below n f) (f n)
unfolding greatest_below
below_next n f = rw add-one refl

pub ruleset below_laws = (below_none, below_next)
