-- The entries so far.
use Rattle.std.proofs.Common.{◌≡◌}
use Rattle.case_gen.specs.Units.{entries_of}
use Rattle.case_gen.proofs.units.entries.Given as goal

abbrev pub invariant-loop-k : goal.invariant-loop-k
invariant-loop-k l = l.text.items ≡ entries_of l.k
