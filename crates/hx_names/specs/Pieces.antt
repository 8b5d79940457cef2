-- What contracts see of a piece of code.
use Rattle.std.specs.Prelude.{ℕ, List}
use Rattle.hx_names.specs.declared.pieces.SiteKind.{SiteKind}

-- a site: its place, its kind and the name that it waits for
pub record Site : Type 0 where
  pub at : ℕ
  pub kind : SiteKind
  pub name : List ℕ

-- bytes, and the sites in them
pub record Piece : Type 0 where
  pub bytes : List ℕ
  pub sites : List Site
