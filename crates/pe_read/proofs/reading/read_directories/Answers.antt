use Rattle.pe_read.proofs.StageLaws.{directories_refused}
use Rattle.pe_read.proofs.reading.read_directories.Goals as goal

pub returns-in-Some : goal.returns-in-Some
returns-in-Some c = λ ne. directories_refused c.args.bytes.now c.requires.headers c.requires.tables c.in-Some.refusal c.in-Some.ensures
