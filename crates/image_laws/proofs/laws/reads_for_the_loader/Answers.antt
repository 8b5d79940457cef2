use Rattle.image_laws.proofs.LoadLaws.{loadable}
use Rattle.image_laws.proofs.laws.reads_for_the_loader.Goals as goal

pub returns : goal.returns
returns c = loadable
