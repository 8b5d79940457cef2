use Rattle.ir_core.proofs.SignatureLaws.{allowed}
use Rattle.ir_core.proofs.laws.signature_laws.Goals as goal

pub returns : goal.returns
returns c = λ s h. allowed s h
