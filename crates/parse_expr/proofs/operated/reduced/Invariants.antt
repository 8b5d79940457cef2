use Rattle.std.proofs.Common.{◌≡◌, length}
use Rattle.parse_expr.specs.ExprMachine.{reduce}
use Rattle.parse_expr.proofs.operated.reduced.Given as goal

abbrev pub invariant-loop-frame : goal.invariant-loop-frame
invariant-loop-frame l = reduce 256 l.least l.part l.frames ≡ reduce 256 l.least l.initial.part l.initial.frames

abbrev pub decreases-loop-frame : goal.decreases-loop-frame
decreases-loop-frame l = length l.frames
