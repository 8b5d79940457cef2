-- What a bounded sink keeps of a piece.
use Rattle.std.proofs.Common.{◌≡◌, ℕ, ◌+◌, ◌-◌, ◌≤◌, List, ◌++◌, length, take, drop, arith, ap, sym, ◌∙◌}
use Rattle.std.proofs.Math.Seq.{take-append-add}
use Rattle.std.proofs.lemmas.List.{take-append-drop}
use Rattle.hx_words.specs.Prefixes.{IsPrefix}

-- the bytes up to the room are those that were there and what fits of the piece
pub take_room : (bytes piece : List ℕ) (room : ℕ) → length bytes ≤ room → take room (bytes ++ piece) ≡ bytes ++ take (room - length bytes) piece
take_room bytes piece room h =
    let e : room ≡ length bytes + (room - length bytes) = omega arith in
    ap (λ k. take k (bytes ++ piece)) e ∙ take-append-add bytes piece (room - length bytes)

-- the first bytes of a list are a prefix of it
pub IsPrefix-take : (n : ℕ) (xs : List ℕ) → IsPrefix (take n xs) xs
IsPrefix-take n xs = (drop n xs, sym (take-append-drop n xs))
