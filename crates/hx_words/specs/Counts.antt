-- Counts of faults, as an object of the outside keeps them.
use Rattle.std.specs.Prelude.{◌≡◌, ℕ, ◌-◌, ◌^◌, ◌<◌, ◌⊎◌}

-- the greatest count that an object can tell
abbrev pub most_faults : ℕ
most_faults = 2 ^ 64 - 1

-- the count rose in this call, or stands where it can rise no more
abbrev pub Rose : ℕ → ℕ → Type 0
Rose old new = (old < new) ⊎ (new ≡ most_faults)
