use Rattle.std.proofs.Common.{length}
use Rattle.first_form.proofs.ParseLaws.{ReadsTo}
use Rattle.first_form.proofs.reading.parse.Given as goal

-- the calls so far begin the unit, and the rest is what follows
abbrev pub invariant-loop-put : goal.invariant-loop-put
invariant-loop-put l = ReadsTo l.puts.items l.rest l.bytes

abbrev pub decreases-loop-put : goal.decreases-loop-put
decreases-loop-put l = length l.rest
