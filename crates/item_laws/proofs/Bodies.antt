-- The laws of bodies.
use Rattle.parse_item.specs.BodyAnswers.{body_answer}
use Rattle.stmt_laws.proofs.StmtComplete.{body_complete}
use Rattle.stmt_laws.proofs.StmtSound.{body_sound}
use Rattle.stmt_laws.proofs.StmtViable.{body_completes}
use Rattle.item_laws.proofs.UnitLaws.{BodyLaws}

pub bodies : BodyLaws
unfolding body_answer
bodies = record { complete = body_complete; sound = λ n low st p t z a d q. body_sound n low z st p t a d q; ends = body_completes }
