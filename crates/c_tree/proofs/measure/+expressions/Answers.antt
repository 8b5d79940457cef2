use Rattle.std.proofs.Common.{arith}
use Rattle.c_tree.proofs.Tallest.{tallest_more}
use Rattle.c_tree.specs.Height.{expr_height}
use Rattle.c_tree.proofs.measure.+expressions.Goals as goal

pub of_exprs-loop-e-preserved : goal.of_exprs-loop-e-preserved
of_exprs-loop-e-preserved t c = let m = tallest_more expr_height c.args.exprs.now c.loop-e.e-index c.e-item.result (omega arith) c.e-item.is in omega (arith, m, c.loop-e.invariant, c.of_expr.ensures)
