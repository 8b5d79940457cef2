use Rattle.std.proofs.Common.{◌≡◌, sum_by, take}
use Rattle.c_program.specs.FrameBytes.{item_bytes}
use Rattle.c_program.specs.Nodes.{small}
use Rattle.frame_sizes.proofs.frames.+statements.Given as goal

abbrev pub invariant-of_items-loop-item : goal.invariant-of_items-loop-item
invariant-of_items-loop-item l = l.total ≡ small (sum_by (item_bytes l.types) (take l.item-index l.items))
