-- What contracts see of a region.
use Rattle.std.specs.Prelude.{ℕ, Bool, List}

-- where it starts, its bytes, and whether they may be written and executed
pub record Segment : Type 0 where
  pub start : ℕ
  pub bytes : List ℕ
  pub write : Bool
  pub exec : Bool
