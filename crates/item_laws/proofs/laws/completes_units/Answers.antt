use Rattle.item_laws.proofs.UnitLaws.{reads_on}
use Rattle.item_laws.proofs.Bodies.{bodies}
use Rattle.item_laws.proofs.laws.completes_units.Goals as goal

pub returns : goal.returns
returns c = reads_on bodies
