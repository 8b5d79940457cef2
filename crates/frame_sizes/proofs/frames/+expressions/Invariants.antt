use Rattle.std.proofs.Common.{◌≡◌, sum_by, take}
use Rattle.c_program.specs.FrameBytes.{expr_bytes}
use Rattle.c_program.specs.Nodes.{small}
use Rattle.frame_sizes.proofs.frames.+expressions.Given as goal

abbrev pub invariant-of_exprs-loop-e : goal.invariant-of_exprs-loop-e
invariant-of_exprs-loop-e l = l.total ≡ small (sum_by (expr_bytes l.types) (take l.e-index l.exprs))
