use Rattle.coff_read.proofs.StageLaws.{early_refused}
use Rattle.coff_read.proofs.reading.read_all.Goals as goal

pub returns-in-Some : goal.returns-in-Some
returns-in-Some c = λ ne. early_refused c.args.bytes.now c.in-Some.refusal c.in-Some.ensures
