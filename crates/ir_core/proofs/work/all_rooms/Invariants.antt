use Rattle.std.proofs.Common.{◌≡◌, take}
use Rattle.std.specs.List.{sum_by}
use Rattle.ir_core.specs.Within.{small, room_of}
use Rattle.ir_core.proofs.work.all_rooms.Given as goal

abbrev pub invariant-loop-slot : goal.invariant-loop-slot
invariant-loop-slot l = l.total ≡ small (sum_by room_of (take l.slot-index l.slots))
