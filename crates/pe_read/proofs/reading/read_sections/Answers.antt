use Rattle.pe_read.proofs.StageLaws.{sections_refused}
use Rattle.pe_read.proofs.reading.read_sections.Goals as goal

pub returns-in-Some : goal.returns-in-Some
returns-in-Some c = λ ne. sections_refused c.args.bytes.now c.requires c.in-Some.refusal c.in-Some.ensures
