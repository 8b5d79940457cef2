-- Lists of tokens against the grammar of units (C, 6.9): where a list that is no unit's stops. The place
-- of a stop is this project's own.
use Rattle.std.specs.Prelude.{◌≡◌, ◌<◌, ◌⊎◌, ℕ, List, [], ◌∷◌, ◌++◌, map}
use Rattle.c_lex.specs.declared.token.Token.{Token}
use Rattle.c_tree.specs.declared.declarations.Unit.{Unit as Unit'}
use Rattle.c_tree.specs.Height.{unit_height}
use Rattle.parse_terms.specs.declared.terminal.Terminal.{Terminal}
use Rattle.parse_terms.specs.Terminals.{terminal_of}
use Rattle.parse_item.specs.ItemGrammar.{IsUnit}

-- the tokens as the grammar sees them, each with its place
abbrev pub terminals : List Token → List Terminal
terminals ts = map terminal_of ts

-- no unit has these tokens
abbrev pub IsNoUnit : List Terminal → Type 0
IsNoUnit a = (u : Unit') → IsUnit u a → ⊥

-- the tokens of some unit begin with these
pub record Begins (a : List Terminal) : Type 0 where
  pub unit : Unit'
  pub rest : List Terminal
  pub reads : IsUnit unit (a ++ rest)

-- where the last token ends; 0 where there is none
abbrev pub end_after : ℕ → List Terminal → ℕ
end_after at [] = at
end_after at (t ∷ a) = end_after t.span.«end» a

abbrev pub last_end : List Terminal → ℕ
last_end a = end_after 0 a

-- a token is the first such that no unit's tokens begin with those up to it
pub record StopsBefore (a : List Terminal) (at : ℕ) : Type 0 where
  pub before : List Terminal
  pub first : Terminal
  pub after : List Terminal
  pub is : a ≡ before ++ first ∷ after
  pub begins : Begins before
  pub stops : Begins (before ++ first ∷ []) → ⊥
  pub place : at ≡ first.span.start

-- there is no such token, and no unit either
pub record StopsBehind (a : List Terminal) (at : ℕ) : Type 0 where
  pub begins : Begins a
  pub unfinished : IsNoUnit a
  pub place : at ≡ last_end a

-- the list is no unit's, and stops at this place
abbrev pub Stops : List Terminal → ℕ → Type 0
Stops a at = StopsBefore a at ⊎ StopsBehind a at

-- the list is that of a unit that is higher than this
pub record IsTooHigh (n : ℕ) (a : List Terminal) : Type 0 where
  pub unit : Unit'
  pub reads : IsUnit unit a
  pub high : n < unit_height unit
