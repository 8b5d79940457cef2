use Rattle.first_form.proofs.UnitLaws.{IsFirstForm_unique}
use Rattle.first_form.proofs.laws.one_reading.Goals as goal

pub returns : goal.returns
returns c = λ bytes puts others status other h g. IsFirstForm_unique puts others status other bytes h g
