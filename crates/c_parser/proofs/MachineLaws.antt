-- What is known of a machine that reads units as the grammar has them.
use Rattle.std.proofs.Common.{◌≡◌, ℕ, List, [], Option, Some}
use Rattle.c_tree.specs.declared.declarations.Unit.{Unit as Unit'}
use Rattle.parse_terms.specs.declared.answer.Answer.{Answer}
use Rattle.parse_terms.specs.declared.terminal.Terminal.{Terminal}
use Rattle.parse_terms.specs.Runs.{run, Ended, Came}
use Rattle.parse_item.specs.ItemGrammar.{IsUnit}
use Rattle.parse_item.specs.ItemParts.{UnitPart, cap_unit}
use Rattle.item_laws.specs.Units.{IsUnitRead}

-- from the state st the tokens a are the rest of a unit, which is read as the part
pub record ReadsTo {S : Type 0} (step : Terminal → S → Answer S UnitPart) (finish : S → Option UnitPart) (st : S) (a : List Terminal) (part : UnitPart) : Type 0 where
  pub last : S
  pub runs : run step a st ≡ Ended last
  pub finishes : finish last ≡ Some part

-- tokens bring the unit that is being read to its end
pub record Closes {S : Type 0} (step : Terminal → S → Answer S UnitPart) (finish : S → Option UnitPart) (st : S) : Type 0 where
  pub tokens : List Terminal
  pub part : UnitPart
  pub reads : ReadsTo step finish st tokens part

pub record Laws (n : ℕ) {S : Type 0} (step : Terminal → S → Answer S UnitPart) (finish : S → Option UnitPart) (start : S) : Type 0 where
  pub complete : (u : Unit') (a : List Terminal) → IsUnit u a → ReadsTo step finish start a (cap_unit n u)
  pub sound : (st : S) (p : UnitPart) (a : List Terminal) → Came step start a st [] → finish st ≡ Some p → IsUnitRead n p a
  pub closes : (st : S) (a : List Terminal) → Came step start a st [] → Closes step finish st
