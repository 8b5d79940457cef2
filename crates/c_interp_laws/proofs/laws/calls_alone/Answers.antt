use Rattle.c_interp_laws.proofs.StepLaws.{call_alone}
use Rattle.c_interp_laws.proofs.laws.calls_alone.Goals as goal

pub returns : goal.returns
returns c = call_alone
