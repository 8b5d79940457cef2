-- A text that stands at a place of a file.
use Rattle.std.specs.Prelude.{◌≡◌, ℕ, List, ◌++◌, drop}

-- the file has this text at this place
pub record Has (file : List ℕ) (place : ℕ) (text : List ℕ) : Type 0 where
  pub rest : List ℕ
  pub is : drop place file ≡ text ++ rest
