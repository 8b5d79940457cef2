use Rattle.stmt_laws.proofs.StmtViable.{body_completes}
use Rattle.stmt_laws.proofs.completes_bodies.Goals as goal

pub returns : goal.returns
returns c = body_completes
