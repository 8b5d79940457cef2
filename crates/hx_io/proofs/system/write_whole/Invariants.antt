-- The writer holds what it held and the bytes before the rest. Each write takes at least one byte.
use Rattle.std.proofs.Common.{length}
use Rattle.hx_io.proofs.KnownLaws.{IsWritten}
use Rattle.hx_io.proofs.system.write_whole.Given as goal

abbrev pub invariant-loop-rest : goal.invariant-loop-rest
invariant-loop-rest g l = IsWritten (g.W.Write.contents l.fn.writer) (g.W.Write.contents l.writer) l.bytes l.rest

abbrev pub decreases-loop-rest : goal.decreases-loop-rest
decreases-loop-rest g l = length l.rest
