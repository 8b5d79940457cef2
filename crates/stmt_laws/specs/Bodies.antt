-- What it is that a body was read.
use Rattle.std.specs.Prelude.{◌≡◌, ℕ, List, ◌∷◌}
use Rattle.c_tree.specs.declared.statements.BlockItem.{BlockItem}
use Rattle.c_lex.specs.declared.marks.Mark.TheVariants as m
use Rattle.parse_terms.specs.declared.terminal.Sort.TheVariants as sort
use Rattle.parse_terms.specs.declared.terminal.Terminal.{Terminal}
use Rattle.parse_stmt.specs.StmtGrammar.{IsBlockItems}
use Rattle.parse_stmt.specs.StmtParts.{Body, cap_body}

-- the part is that of the items between the tokens z and the token t before a, which is a `}`
pub record IsBodyRead (n : ℕ) (p : Body) (z : List Terminal) (t : Terminal) (a : List Terminal) : Type 0 where
  pub items : List BlockItem
  pub is : p ≡ cap_body n items
  pub reads : IsBlockItems items z (t ∷ a)
  pub ends : t.sort ≡ sort.Mark m.CloseBrace
