use Rattle.parse_decl.proofs.ParamsLaws.{params_ends}
use Rattle.parse_decl.proofs.laws.completes_params.Goals as goal

pub returns : goal.returns
returns c = params_ends
