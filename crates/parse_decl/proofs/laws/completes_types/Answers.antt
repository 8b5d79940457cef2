use Rattle.parse_decl.proofs.EndLaws.{type_ends}
use Rattle.parse_decl.proofs.laws.completes_types.Goals as goal

pub returns : goal.returns
returns c = type_ends
