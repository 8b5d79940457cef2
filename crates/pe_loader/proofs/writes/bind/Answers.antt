use Rattle.std.proofs.Common.{arith}
use Rattle.pe_loader.proofs.Shapes.{slot_now, bound_then, slots_then}
use Rattle.pe_loader.proofs.writes.bind.Goals as goal

pub bind_slot-requires-clause-slot : goal.bind_slot-requires-clause-slot
bind_slot-requires-clause-slot c = slot_now c.args.base c.loop-slot.slot-index c.args.imports.now c.slot-item.result c.loop-slot.regions (omega arith) c.slot-item.is c.loop-slot.invariant.slots

pub loop-slot-preserved : goal.loop-slot-preserved
loop-slot-preserved c = record {
  bound = bound_then c.args.base c.loop-slot.slot-index c.args.imports.now c.slot-item.result c.loop-slot.regions (omega arith) c.slot-item.is _ _ c.bind_slot.ensures c.loop-slot.invariant.bound;
  slots = slots_then c.args.base c.loop-slot.slot-index c.args.imports.now c.slot-item.result c.loop-slot.regions (omega arith) c.slot-item.is _ c.bind_slot.ensures c.loop-slot.invariant.slots;
}
