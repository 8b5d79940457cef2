use Rattle.std.proofs.Common.{◌≡◌, ◌++◌, reverse, length}
use Rattle.check_expr.proofs.arguments.reversed.Given as goal

abbrev pub invariant-loop-value : goal.invariant-loop-value
invariant-loop-value l = l.last_first ++ reverse l.values ≡ reverse l.fn.values

abbrev pub decreases-loop-value : goal.decreases-loop-value
decreases-loop-value l = length l.values
