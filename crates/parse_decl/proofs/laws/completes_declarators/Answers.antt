use Rattle.parse_decl.proofs.DeclLaws.{decl_ends}
use Rattle.parse_decl.proofs.laws.completes_declarators.Goals as goal

pub returns : goal.returns
returns c = decl_ends
