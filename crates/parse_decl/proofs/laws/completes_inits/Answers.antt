use Rattle.parse_decl.proofs.InitLaws.{init_ends}
use Rattle.parse_decl.proofs.laws.completes_inits.Goals as goal

pub returns : goal.returns
returns c = λ n st t h. init_ends n t h st
