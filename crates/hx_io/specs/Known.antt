-- What a writer of std holds and a reader of std has left, where they tell that.
use Rattle.std.specs.Prelude.{ℕ, List, Option, Some, None, Result, Ok, Err}
use Rattle.std.specs.Io.KnownBytes.{Appends}
use Rattle.hx_words.specs.Prefixes.{IsPrefix}
use Rattle.hx_io.specs.Streams.{Takes}
use Rattle.hx_io.specs.declared.outside.Failed.{Failed}

-- all the bytes were appended, or after a failure a prefix of them
abbrev pub Writes : {A : Type 0} → Option (List ℕ) → List ℕ → Result A Failed → Option (List ℕ) → Type 0
Writes old bytes (Ok _) new = Appends old new bytes
Writes old bytes (Err _) new = (kept : List ℕ) × IsPrefix kept bytes × Appends old new kept

-- a call of `next` over bytes that are known, where they are: its answer, and what is left then
abbrev pub TakesKnown : Option (List ℕ) → Result (Option ℕ) Failed → Option (List ℕ) → Type 0
TakesKnown None result new = Unit {0}
TakesKnown (Some old) result None = ⊥
TakesKnown (Some old) result (Some new) = Takes old result new
