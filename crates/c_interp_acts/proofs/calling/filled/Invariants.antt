use Rattle.std.proofs.Common.{◌≡◌, ◌++◌}
use Rattle.std.specs.Prelude.{replicate}
use Rattle.c_values.specs.Objects.{nothing}
use Rattle.c_interp_acts.proofs.calling.filled.Given as goal

abbrev pub invariant-loop-more : goal.invariant-loop-more
invariant-loop-more l = l.values ≡ l.initial.values ++ replicate l._more nothing
