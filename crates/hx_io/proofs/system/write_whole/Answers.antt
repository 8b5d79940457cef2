-- The writer took the first bytes of the rest.
use Rattle.std.proofs.Common.{arith}
use Rattle.std.proofs.lemmas.Grind.{common_steps}
use Rattle.hx_io.proofs.KnownLaws.{IsWritten-more}
use Rattle.hx_io.proofs.system.write_whole.Goals as goal

pub loop-rest-preserved : goal.loop-rest-preserved
loop-rest-preserved g c =
    IsWritten-more _ _ _ _ _ _ c.in-Ok.count c.loop-rest.invariant c.in-Ok.ensures.bytes (grind (arith, common_steps))
