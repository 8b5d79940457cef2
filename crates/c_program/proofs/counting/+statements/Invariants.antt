use Rattle.std.proofs.Common.{◌≡◌, sum_by, take}
use Rattle.c_program.specs.Nodes.{item_nodes, small}
use Rattle.c_program.proofs.counting.+statements.Given as goal

abbrev pub invariant-of_items-loop-item : goal.invariant-of_items-loop-item
invariant-of_items-loop-item l = l.total ≡ small (sum_by item_nodes (take l.item-index l.items))
