-- Words of the laws of this crate.
use Rattle.std.specs.Prelude.{ℕ, List, [], ◌∷◌, ◌++◌, Bool, ◌==◌}
use Rattle.std.specs.List.{list_any}
use Rattle.ec_words.specs.Table.{Text}

-- texts with a comma (44) between each two
abbrev pub joined : List (List ℕ) → List ℕ
joined [] = []
joined (x ∷ []) = x
joined (x ∷ (y ∷ ys)) = x ++ 44 ∷ joined (y ∷ ys)

abbrev pub has_comma : List ℕ → Bool
has_comma = list_any (λ b. b == 44)

-- an option: its name and its value
pub record Pair : Type 0 where
  pub name : Text
  pub value : Text

-- the words of options
abbrev pub words_of : List Pair → List Text
words_of [] = []
words_of (o ∷ os) = o.name ∷ (o.value ∷ words_of os)
