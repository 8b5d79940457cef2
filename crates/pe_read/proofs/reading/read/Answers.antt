use Rattle.pe_read.proofs.StageLaws.{is_refused, is_accepted}
use Rattle.pe_read.proofs.reading.read.Goals as goal

pub returns-clause-refused : goal.returns-clause-refused
returns-clause-refused c = λ k e ne. is_refused c.args.bytes.now c.read_all.result k c.read_all.ensures e ne

pub returns-clause-accepted : goal.returns-clause-accepted
returns-clause-accepted c = is_accepted c.args.bytes.now c.read_all.result c.read_all.ensures
