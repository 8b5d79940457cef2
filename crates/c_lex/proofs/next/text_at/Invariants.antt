-- the bytes so far, and the literal that the rest ends
use Rattle.std.proofs.Common.{length}
use Rattle.c_lex.proofs.LiteralLaws.{IsSoFar}
use Rattle.c_lex.proofs.next.text_at.Given as goal

abbrev pub invariant-loop-rest : goal.invariant-loop-rest
invariant-loop-rest l = IsSoFar l.text l.bytes l.rest

abbrev pub decreases-loop-rest : goal.decreases-loop-rest
decreases-loop-rest l = length l.rest
