use Rattle.pe_read.proofs.StageLaws.{headers_refused}
use Rattle.pe_read.proofs.reading.read_all.Goals as goal

pub returns-in-Some : goal.returns-in-Some
returns-in-Some c = λ ne. headers_refused c.args.bytes.now c.in-Some.refusal c.in-Some.ensures
