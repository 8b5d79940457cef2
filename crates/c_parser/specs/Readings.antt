-- The reading of a list of tokens by a machine of units, as a function. A step takes a token; at the
-- end it is asked which unit the tokens were.
use Rattle.std.specs.Prelude.{ℕ, List, [], ◌∷◌, Option, Some, None, Result, Ok, Err}
use Rattle.c_tree.specs.declared.declarations.Unit.{Unit as Unit'}
use Rattle.parse_terms.specs.declared.answer.Answer.{Answer}
use Rattle.parse_terms.specs.declared.answer.Answer.TheVariants.{More, Done, Bad}
use Rattle.parse_terms.specs.declared.terminal.Terminal.{Terminal}
use Rattle.parse_stmt.specs.declared.parts.Capped.TheVariants.{Built, Deep}
use Rattle.parse_item.specs.ItemParts.{UnitPart}
use Rattle.c_parser.specs.declared.refusals.ParseRefusal.{ParseRefusal}
use Rattle.c_parser.specs.declared.refusals.ParseRefusal.TheVariants.{Syntax, TooDeep}

abbrev pub Answered : Type 0
Answered = Result Unit' ParseRefusal

-- the unit, one that was given up, or none
abbrev pub answer_at_end : ℕ → Option UnitPart → Answered
answer_at_end at None = Err (Syntax at)
answer_at_end at (Some (Built u h)) = Ok u
answer_at_end at (Some Deep) = Err TooDeep

-- a token that isn't taken is where the list stops
abbrev pub answer_behind : {S D : Type 0} → ℕ → (S → Answered) → Answer S D → Answered
answer_behind at more (More s) = more s
answer_behind at more (Done d) = Err (Syntax at)
answer_behind at more Bad = Err (Syntax at)

-- The number is where the tokens before the list ended.
abbrev pub reading : {S : Type 0} → (Terminal → S → Answer S UnitPart) → (S → Option UnitPart) → ℕ → List Terminal → S → Answered
reading step finish at [] s = answer_at_end at (finish s)
reading step finish at (t ∷ a) s = answer_behind t.span.start (reading step finish t.span.«end» a) (step t s)
