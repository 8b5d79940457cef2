-- What `parse` answers to a list of tokens, as one function. Trees of more than 256 nodes on a path are
-- given up.
use Rattle.std.specs.Prelude.{◌≡◌, ℕ, List, Result, Ok, Err}
use Rattle.c_lex.specs.declared.token.Token.{Token}
use Rattle.c_tree.specs.declared.declarations.Unit.{Unit as Unit'}
use Rattle.parse_terms.specs.declared.terminal.Terminal.{Terminal}
use Rattle.parse_item.specs.declared.units.UnitState.{UnitState}
use Rattle.parse_item.specs.UnitMachine.{unit_start, unit_finish}
use Rattle.parse_item.specs.UnitAnswers.{unit_answer}
use Rattle.c_parser.specs.declared.refusals.ParseRefusal.{ParseRefusal}
use Rattle.c_parser.specs.declared.refusals.ParseRefusal.TheVariants.{Syntax, TooDeep, NoMemory}
use Rattle.c_parser.specs.Readings.{reading}
use Rattle.c_parser.specs.Texts.{terminals, Stops, IsTooHigh}

-- what the machine in this state answers to the rest of a list, where the tokens before it end at a place
unfoldable pub answer_from : ℕ → List Terminal → UnitState → Result Unit' ParseRefusal
answer_from at a st = reading (unit_answer 256) (unit_finish 256) at a st

unfoldable pub answer_of : List Token → Result Unit' ParseRefusal
answer_of ts = answer_from 0 (terminals ts) unit_start

-- what a call gave is this answer, unless memory ran out
abbrev pub Gives : Result Unit' ParseRefusal → Result Unit' ParseRefusal → Type 0
Gives (Ok u) answer = answer ≡ Ok u
Gives (Err (Syntax at)) answer = answer ≡ Err (Syntax at)
Gives (Err TooDeep) answer = answer ≡ Err TooDeep
Gives (Err NoMemory) answer = Unit {0}

-- what a refusal says of the tokens
abbrev pub IsRefusal : List Terminal → ParseRefusal → Type 0
IsRefusal a (Syntax at) = Stops a at
IsRefusal a TooDeep = IsTooHigh 256 a
IsRefusal a NoMemory = Unit {0}

-- the place alone is free, and want of memory
abbrev pub IsSyntax : Result Unit' ParseRefusal → Type 0
IsSyntax (Ok u) = ⊥
IsSyntax (Err (Syntax at)) = Unit {0}
IsSyntax (Err TooDeep) = ⊥
IsSyntax (Err NoMemory) = Unit {0}
