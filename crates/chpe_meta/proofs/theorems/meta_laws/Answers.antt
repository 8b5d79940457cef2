use Rattle.chpe_meta.proofs.ReadAllowed.{read_allowed}
use Rattle.chpe_meta.proofs.Written.{written_is_read}
use Rattle.chpe_meta.proofs.theorems.meta_laws.Goals as goal

pub returns-clause-read : goal.returns-clause-read
returns-clause-read c = λ b at m bytes e. read_allowed b at m bytes e

pub returns-clause-written : goal.returns-clause-written
returns-clause-written c = λ m at allowed room. written_is_read m at allowed room
