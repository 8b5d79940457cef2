-- Parts of contents.
use Rattle.std.proofs.Common.{◌≡◌, ℕ, List, length, drop, arith, length-drop}
use Rattle.std.proofs.lemmas.List.{take_all}
use Rattle.file_words.specs.Fields.{part_of}

pub part_rest : (xs : List ℕ) (o n : ℕ) → n ≡ length xs → part_of xs o n ≡ drop o xs
unfolding part_of
part_rest xs o n e = take_all n (drop o xs) (omega (arith, length-drop o xs))
