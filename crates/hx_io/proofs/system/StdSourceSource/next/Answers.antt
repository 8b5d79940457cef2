-- The first byte of the chunk is the first of those that wait.
use Rattle.std.proofs.Common.{arith}
use Rattle.hx_io.proofs.KnownLaws.{takes_first}
use Rattle.hx_io.proofs.system.StdSourceSource.next.Goals as goal

pub returns-clause-takes : goal.returns-clause-takes
returns-clause-takes g c =
    takes_first _ _ c.refill-answer.new.self.chunk c.refill-answer.new.self.start c.refill-answer.new.self.end (omega arith) c.refill-answer.ensures.within c.refill-answer.ensures.keeps
