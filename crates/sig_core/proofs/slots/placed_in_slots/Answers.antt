use Rattle.std.proofs.Common.{get_or, ap, ◌∙◌, arith}
use Rattle.sig_core.specs.declared.classes.Class.TheVariants.{Void}
use Rattle.sig_core.specs.Places.{with_place}
use Rattle.sig_core.specs.Slots.{slot_place, argument_place}
use Rattle.sig_core.proofs.Steps.{placed_more}
use Rattle.sig_core.proofs.slots.placed_in_slots.Goals as goal

pub loop-class-preserved : goal.loop-class-preserved
loop-class-preserved c = record {
  slot = omega arith;
  placed =
      c.in_ok-add_place.ensures ∙
      (ap (λ p. with_place p c.slot_place.result) c.loop-class.invariant.placed ∙
      placed_more (argument_place c.args.first c.args.args.now c.args.hidden) c.args.back c.loop-class.class-index c.slot_place.result
      (c.slot_place.ensures ∙ ap (slot_place c.args.first (get_or c.args.args.now c.loop-class.class-index Void)) c.loop-class.invariant.slot));
}
