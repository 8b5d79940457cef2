use Rattle.stmt_laws.proofs.StmtComplete.{body_complete}
use Rattle.stmt_laws.proofs.StmtSound.{body_sound}
use Rattle.stmt_laws.proofs.reads_bodies.Goals as goal

pub returns : goal.returns
returns c = record { complete = body_complete; sound = λ n low st p t z a d q. body_sound n low z st p t a d q }
