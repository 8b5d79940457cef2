use Rattle.gen_units.proofs.UnitLaws.{tree_read, unit_low, tree_answered}
use Rattle.gen_units.proofs.laws.parses_generated.Goals as goal

pub returns : goal.returns
returns c = record { reads = tree_read; low = unit_low; answered = tree_answered }
