-- What the machine of units says to a token, as a word that doesn't compute by itself: the terms that
-- the machine computes to at a state that isn't known are long.
use Rattle.std.specs.Prelude.{ℕ}
use Rattle.parse_terms.specs.declared.answer.Answer.{Answer}
use Rattle.parse_terms.specs.declared.terminal.Terminal.{Terminal}
use Rattle.parse_item.specs.declared.units.UnitState.{UnitState}
use Rattle.parse_item.specs.ItemParts.{UnitPart}
use Rattle.parse_item.specs.UnitMachine.{unit_step}

unfoldable pub unit_answer : ℕ → Terminal → UnitState → Answer UnitState UnitPart
unit_answer = unit_step
