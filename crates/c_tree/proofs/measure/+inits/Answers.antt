use Rattle.std.proofs.Common.{arith}
use Rattle.c_tree.proofs.Tallest.{tallest_more}
use Rattle.c_tree.specs.Height.{init_height}
use Rattle.c_tree.proofs.measure.+inits.Goals as goal

pub of_inits-loop-init-preserved : goal.of_inits-loop-init-preserved
of_inits-loop-init-preserved t c = let m = tallest_more init_height c.args.inits.now c.loop-init.init-index c.init-item.result (omega arith) c.init-item.is in omega (arith, m, c.loop-init.invariant, c.of_init.ensures)
