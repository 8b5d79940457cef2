use Rattle.std.proofs.Common.{◌≡◌, sum_by, take}
use Rattle.c_program.specs.Nodes.{small}
use Rattle.c_typing.specs.Items.{item_nodes}
use Rattle.c_check.proofs.nodes.of_items.Given as goal

abbrev pub invariant-loop-item : goal.invariant-loop-item
invariant-loop-item l = l.total ≡ small (sum_by item_nodes (take l.item-index l.items))
