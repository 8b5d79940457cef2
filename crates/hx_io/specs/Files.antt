-- What the calls of a store do to its files, where those are told.
use Rattle.std.specs.Prelude.{◌≡◌, ◌≢◌, ℕ, ◌<◌, ◌≤◌, List, length, Option, Some, None, IsSomeAnd, Result, Ok, Err, ◌⊎◌, vec_len}
use Rattle.hx_words.specs.Prefixes.{IsPrefix}
use Rattle.hx_io.specs.declared.outside.Found.{Found}
use Rattle.hx_io.specs.declared.outside.Found.TheVariants.{Missing, Whole, Longer}
use Rattle.hx_io.specs.declared.outside.StoreFail.{StoreFail}

-- the bytes of the file of each name, where there is one
abbrev pub Files : Type 0
Files = List ℕ → Option (List ℕ)

-- no file changed
abbrev pub SameFiles : Files → Files → Type 0
SameFiles old new = (name : List ℕ) → new name ≡ old name

-- no file of another name changed
abbrev pub SameButAt : Files → List ℕ → Files → Type 0
SameButAt old name new = (other : List ℕ) → other ≢ name → new other ≡ old other

-- what `load` answers for a file of which at most so many bytes are wanted
abbrev pub Finds : Option (List ℕ) → ℕ → Result Found StoreFail → Type 0
Finds file most (Ok Missing) = file ≡ None
Finds file most (Ok (Whole bytes)) = (file ≡ Some bytes.items) × (vec_len bytes ≤ most)
Finds file most (Ok Longer) = IsSomeAnd file (λ bytes. most < length bytes)
Finds file most (Err _) = Unit {0}

-- a whole file has at most so many bytes
abbrev pub IsWithin : ℕ → Found → Type 0
IsWithin most Missing = Unit {0}
IsWithin most (Whole bytes) = vec_len bytes ≤ most
IsWithin most Longer = Unit {0}

-- the file holds what it held, or a prefix of the bytes
abbrev pub HoldsOldOrPrefix : Option (List ℕ) → List ℕ → Option (List ℕ) → Type 0
HoldsOldOrPrefix old bytes new = (new ≡ old) ⊎ ((kept : List ℕ) × IsPrefix kept bytes × (new ≡ Some kept))

-- what `save` leaves of the file of its name
abbrev pub Saves : {A : Type 0} → Option (List ℕ) → List ℕ → Result A StoreFail → Option (List ℕ) → Type 0
Saves old bytes (Ok _) new = new ≡ Some bytes
Saves old bytes (Err _) new = HoldsOldOrPrefix old bytes new
