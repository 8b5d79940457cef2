-- the tokens so far, and the reading of the rest
use Rattle.std.proofs.Common.{length}
use Rattle.c_lex.proofs.ReadingLaws.{IsReadTo}
use Rattle.c_lex.proofs.reading.read.Given as goal

abbrev pub invariant-loop-rest : goal.invariant-loop-rest
invariant-loop-rest l = IsReadTo l.bytes l.tokens.items l.first l.rest

abbrev pub decreases-loop-rest : goal.decreases-loop-rest
decreases-loop-rest l = length l.rest
