-- What a sink holds after pieces in a row.
use Rattle.std.proofs.Common.{◌≡◌, ℕ, List, [], ◌++◌, refl, ap, sym, ◌∙◌, append_assoc, Result, Ok, Err}
use Rattle.std.proofs.lemmas.List.{append-nil}
use Rattle.hx_words.specs.Prefixes.{IsPrefix}
use Rattle.hx_io.specs.declared.outside.Failed.{Failed}
use Rattle.hx_io.specs.Streams.{AppendsPrefix, Puts}

-- a prefix of the first list is one of both
pub IsPrefix-append : (kept a b : List ℕ) → IsPrefix kept a → IsPrefix kept (a ++ b)
IsPrefix-append kept a b h = (h.0 ++ b, ap (λ xs. xs ++ b) h.1 ∙ append_assoc kept h.0 b)

-- the first list and a prefix of the second are a prefix of both
pub IsPrefix-append_left : (a kept b : List ℕ) → IsPrefix kept b → IsPrefix (a ++ kept) (a ++ b)
IsPrefix-append_left a kept b h = (h.0, ap (λ xs. a ++ xs) h.1 ∙ sym (append_assoc a kept h.0))

-- nothing, and all, are a prefix
pub IsPrefix-nil : (xs : List ℕ) → IsPrefix [] xs
IsPrefix-nil xs = (xs, refl)

pub IsPrefix-whole : (xs : List ℕ) → IsPrefix xs xs
IsPrefix-whole xs = ([], sym (append-nil xs))

-- a whole piece, and then a prefix of the next
pub AppendsPrefix-later : (old a mid b new : List ℕ) → mid ≡ old ++ a → AppendsPrefix mid b new → AppendsPrefix old (a ++ b) new
AppendsPrefix-later old a mid b new h p =
    (a ++ p.0, IsPrefix-append_left a p.0 b p.1, p.2 ∙ ap (λ xs. xs ++ p.0) h ∙ append_assoc old a p.0)

-- a prefix of a piece, where more was to come
pub AppendsPrefix-earlier : (old a b new : List ℕ) → AppendsPrefix old a new → AppendsPrefix old (a ++ b) new
AppendsPrefix-earlier old a b new p = (p.0, IsPrefix-append p.0 a b p.1, p.2)

-- whatever a call of `put` answered, the sink holds what it held and a prefix of the piece
pub AppendsPrefix-Puts : {A : Type 0} (old piece : List ℕ) (result : Result A Failed) (new : List ℕ) → Puts old piece result new → AppendsPrefix old piece new
AppendsPrefix-Puts old piece (Ok _) new h = (piece, IsPrefix-whole piece, h)
AppendsPrefix-Puts old piece (Err _) new h = h
