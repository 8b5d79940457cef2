use Rattle.std.proofs.Common.{◌≡◌, map, take}
use Rattle.c_tree.specs.Height.{tallest, block_item_height, small}
use Rattle.c_tree.proofs.measure.+statements.Given as goal

abbrev pub invariant-of_block_items-loop-item : goal.invariant-of_block_items-loop-item
invariant-of_block_items-loop-item l = l.most ≡ small (tallest (map block_item_height (take l.item-index l.items)))
