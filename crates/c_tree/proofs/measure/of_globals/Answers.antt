use Rattle.std.proofs.Common.{arith}
use Rattle.c_tree.proofs.Tallest.{tallest_more}
use Rattle.c_tree.specs.Height.{global_decl_height}
use Rattle.c_tree.proofs.measure.of_globals.Goals as goal

pub loop-decl-preserved : goal.loop-decl-preserved
loop-decl-preserved c = let m = tallest_more global_decl_height c.args.decls.now c.loop-decl.decl-index c.decl-item.result (omega arith) c.decl-item.is in omega (arith, m, c.loop-decl.invariant, c.of_global.ensures)
