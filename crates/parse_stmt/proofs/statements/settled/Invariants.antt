use Rattle.std.proofs.Common.{◌≡◌, length}
use Rattle.parse_stmt.specs.StmtMachine.{settle}
use Rattle.parse_stmt.proofs.statements.settled.Given as goal

abbrev pub invariant-loop-frame : goal.invariant-loop-frame
invariant-loop-frame l = settle 256 l.continues l.x l.frames ≡ settle 256 l.continues l.initial.x l.initial.frames

abbrev pub decreases-loop-frame : goal.decreases-loop-frame
decreases-loop-frame l = length l.frames
