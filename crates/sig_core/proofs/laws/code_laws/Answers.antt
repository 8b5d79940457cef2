use Rattle.sig_core.proofs.CodeLaws.{same_signature}
use Rattle.sig_core.proofs.laws.code_laws.Goals as goal

pub returns : goal.returns
returns c = same_signature
