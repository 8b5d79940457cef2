-- Runs of the machine that reads units. The number n is the cap on heights.
use Rattle.std.specs.Prelude.{◌≡◌, ℕ, List, [], ◌∷◌, Option, Some}
use Rattle.c_tree.specs.declared.declarations.Unit.{Unit as Unit'}
use Rattle.parse_terms.specs.declared.terminal.Terminal.{Terminal}
use Rattle.parse_terms.specs.Runs.{run, Ended}
use Rattle.parse_item.specs.declared.units.UnitState.{UnitState}
use Rattle.parse_item.specs.ItemGrammar.{IsUnit}
use Rattle.parse_item.specs.ItemParts.{UnitPart, cap_unit}
use Rattle.parse_item.specs.UnitMachine.{unit_step, unit_finish}

-- from the state st the tokens a are the rest of a unit, which is read as the part
pub record RunsTo (n : ℕ) (st : UnitState) (a : List Terminal) (part : UnitPart) : Type 0 where
  pub last : UnitState
  pub runs : run (unit_step n) a st ≡ Ended last
  pub finishes : unit_finish n last ≡ Some part

-- the part is that of a unit whose tokens are z
pub record IsUnitRead (n : ℕ) (part : UnitPart) (z : List Terminal) : Type 0 where
  pub tree : Unit'
  pub is : part ≡ cap_unit n tree
  pub reads : IsUnit tree z

-- tokens bring the unit that is being read to its end
pub record CanFinish (n : ℕ) (st : UnitState) : Type 0 where
  pub tokens : List Terminal
  pub part : UnitPart
  pub finishes : RunsTo n st tokens part
