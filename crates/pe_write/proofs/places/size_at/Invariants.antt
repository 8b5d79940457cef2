use Rattle.pe_write.proofs.BlockWalk.{Walk}
use Rattle.pe_write.proofs.places.size_at.Given as goal

abbrev pub invariant-loop-k : goal.invariant-loop-k
invariant-loop-k l = Walk l.image l.place l.blocks l._k l.end l.left
