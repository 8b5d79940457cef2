-- What was read is what the reader gave, and with what is still wanted it is what was wanted.
use Rattle.hx_io.proofs.KnownLaws.{IsRead}
use Rattle.hx_io.proofs.system.read_whole.Given as goal

abbrev pub invariant-loop-count : goal.invariant-loop-count
invariant-loop-count g l = IsRead (g.R.Read.remaining l.fn.reader) (g.R.Read.remaining l.reader) l.bytes l.room l.most

abbrev pub decreases-loop-count : goal.decreases-loop-count
decreases-loop-count g l = l.room
