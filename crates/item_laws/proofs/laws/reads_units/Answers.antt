use Rattle.item_laws.proofs.UnitLaws.{reads_complete, reads_sound, same_unit}
use Rattle.item_laws.proofs.Bodies.{bodies}
use Rattle.item_laws.proofs.laws.reads_units.Goals as goal

pub returns : goal.returns
returns c = record { complete = reads_complete bodies; sound = reads_sound bodies; one = same_unit bodies }
