use Rattle.std.proofs.Common.{◌≡◌, drop}
use Rattle.std.specs.List.{list_all}
use Rattle.ir_core.specs.Valid.{is_slot}
use Rattle.ir_core.proofs.validity.are_slots.Given as goal

abbrev pub invariant-loop-slot : goal.invariant-loop-slot
invariant-loop-slot l = list_all is_slot (drop l.slot-index l.slots) ≡ list_all is_slot l.slots
