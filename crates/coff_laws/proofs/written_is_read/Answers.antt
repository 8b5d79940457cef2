use Rattle.coff_laws.proofs.Written.{reads_back, answers_back}
use Rattle.coff_laws.proofs.written_is_read.Goals as goal

pub returns-clause-spelled : goal.returns-clause-spelled
returns-clause-spelled c = λ o g e. reads_back o g e

pub returns-clause-answered : goal.returns-clause-answered
returns-clause-answered c = λ o g e r t. answers_back o r g e t
