use Rattle.std.proofs.Common.{◌≡◌, sum_by, take}
use Rattle.c_program.specs.Nodes.{expr_nodes, small}
use Rattle.c_program.proofs.counting.+expressions.Given as goal

abbrev pub invariant-of_exprs-loop-e : goal.invariant-of_exprs-loop-e
invariant-of_exprs-loop-e l = l.total ≡ small (sum_by expr_nodes (take l.e-index l.exprs))
