use Rattle.std.proofs.Common.{arith}
use Rattle.c_tree.proofs.Tallest.{tallest_more}
use Rattle.c_tree.specs.Height.{item_height}
use Rattle.c_tree.proofs.measure.height.Goals as goal

pub loop-item-preserved : goal.loop-item-preserved
loop-item-preserved c = let m = tallest_more item_height c.as_slice-item-items.result.now c.loop-item.item-index c.item-item.result (omega arith) c.item-item.is in omega (arith, m, c.loop-item.invariant, c.of_item.ensures)
