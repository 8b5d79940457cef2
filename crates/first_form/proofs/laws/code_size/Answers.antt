use Rattle.first_form.proofs.CodeLaws.{code_size}
use Rattle.first_form.proofs.laws.code_size.Goals as goal

pub returns : goal.returns
returns c = λ puts status. code_size puts status
