use Rattle.std.proofs.Common.{arith}
use Rattle.c_tree.proofs.Tallest.{tallest_more}
use Rattle.c_tree.specs.Height.{block_item_height}
use Rattle.c_tree.proofs.measure.+statements.Goals as goal

pub of_block_items-loop-item-preserved : goal.of_block_items-loop-item-preserved
of_block_items-loop-item-preserved t c = let m = tallest_more block_item_height c.args.items.now c.loop-item.item-index c.item-item.result (omega arith) c.item-item.is in omega (arith, m, c.loop-item.invariant, c.of_block_item.ensures)
