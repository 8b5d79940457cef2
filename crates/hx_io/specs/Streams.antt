-- What the calls of a source and a sink do to the bytes, where those are told.
use Rattle.std.specs.Prelude.{◌≡◌, ℕ, List, [], ◌∷◌, ◌++◌, Option, Some, None, Result, Ok, Err}
use Rattle.hx_words.specs.Prefixes.{IsPrefix}
use Rattle.hx_io.specs.declared.outside.Failed.{Failed}

-- a call of `next` on a source that has these bytes left: its answer, and what is left then
abbrev pub Takes : List ℕ → Result (Option ℕ) Failed → List ℕ → Type 0
Takes old (Ok (Some byte)) new = old ≡ byte ∷ new
Takes old (Ok None) new = (old ≡ []) × (new ≡ [])
Takes old (Err _) new = new ≡ old

-- a sink that held the old bytes holds them and a prefix of the piece
abbrev pub AppendsPrefix : List ℕ → List ℕ → List ℕ → Type 0
AppendsPrefix old piece new = (kept : List ℕ) × IsPrefix kept piece × (new ≡ old ++ kept)

-- a call of `put` on a sink that holds these bytes: the piece, the answer, and the bytes that it holds then
abbrev pub Puts : {A : Type 0} → List ℕ → List ℕ → Result A Failed → List ℕ → Type 0
Puts old piece (Ok _) new = new ≡ old ++ piece
Puts old piece (Err _) new = AppendsPrefix old piece new
