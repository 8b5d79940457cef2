use Rattle.std.proofs.Common.{◌≡◌, map, take}
use Rattle.c_tree.specs.Height.{tallest, item_height, small}
use Rattle.c_tree.proofs.measure.height.Given as goal

abbrev pub invariant-loop-item : goal.invariant-loop-item
invariant-loop-item l = l.most ≡ small (tallest (map item_height (take l.item-index l.item-items)))
