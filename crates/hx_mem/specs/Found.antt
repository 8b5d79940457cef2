-- The place of the region that has an address.
use Rattle.std.specs.Prelude.{◌≡◌, ℕ, ◌<◌, ◌≤◌, true, false, List, [], length, slice_index_or}
use Rattle.hx_mem.specs.Segments.{Segment}
use Rattle.hx_mem.specs.Space.{has}

abbrev pub no_segment : Segment
no_segment = record { start = 0; bytes = []; write = false; exec = false }

-- the first n regions start by an address, and the others past it
abbrev pub AllStartBy : List Segment → ℕ → ℕ → Type 0
AllStartBy rs a n = (k : ℕ) → k < n → (slice_index_or rs k no_segment).start ≤ a

abbrev pub AllStartPast : List Segment → ℕ → ℕ → Type 0
AllStartPast rs a n = (k : ℕ) → n ≤ k → k < length rs → a < (slice_index_or rs k no_segment).start

-- no region before the place n has the address
abbrev pub NoneBefore : List Segment → ℕ → ℕ → Type 0
NoneBefore rs a n = (k : ℕ) → k < n → has (slice_index_or rs k no_segment) a ≡ false

abbrev pub NoneHas : List Segment → ℕ → Type 0
NoneHas rs a = NoneBefore rs a (length rs)

-- the region at i is the first that has it
abbrev pub IsFoundAt : List Segment → ℕ → ℕ → Type 0
IsFoundAt rs a i = (i < length rs) × NoneBefore rs a i × (has (slice_index_or rs i no_segment) a ≡ true)
