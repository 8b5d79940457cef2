-- The places so far.
use Rattle.std.proofs.Common.{◌≡◌, ◌+◌}
use Rattle.sig_core.specs.Places.{placed_by}
use Rattle.sig_core.specs.Slots.{argument_place}
use Rattle.sig_core.proofs.slots.placed_in_slots.Given as goal

abbrev pub invariant-loop-class : goal.invariant-loop-class
invariant-loop-class l = record {
  slot : l.slot ≡ l.hidden + l.class-index;
  placed : l.placed ≡ placed_by (argument_place l.first l.args l.hidden) l.fn.back l.class-index;
}
