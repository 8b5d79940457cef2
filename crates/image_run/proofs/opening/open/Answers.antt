use Rattle.image_laws.proofs.LoadLaws.{loadable}
use Rattle.image_run.proofs.opening.open.Goals as goal

pub start-requires : goal.start-requires
start-requires c = loadable c.args.bytes.now c.in_ok-image.image c.in_ok-image.ensures.reads
