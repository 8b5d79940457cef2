-- How an object counts its faults.
use Rattle.std.specs.Prelude.{ℕ, ◌+◌, min, Bool, if◌then◌else◌}
use Rattle.hx_words.specs.Counts.{most_faults}

-- the count after one more fault
abbrev pub risen : ℕ → ℕ
risen faults = min (faults + 1) most_faults

-- the count after a call that failed or not
abbrev pub counted : ℕ → Bool → ℕ
counted faults failed = if failed then risen faults else faults
