use Rattle.first_form.proofs.LengthLaws.{IsFirstForm-length, IsFirstForm-below}
use Rattle.first_form.proofs.laws.within_bytes.Goals as goal

pub returns-clause-calls : goal.returns-clause-calls
returns-clause-calls c = λ bytes puts status h. IsFirstForm-length puts status bytes h

pub returns-clause-numbers : goal.returns-clause-numbers
returns-clause-numbers c = λ bytes puts status h. IsFirstForm-below puts status bytes h
