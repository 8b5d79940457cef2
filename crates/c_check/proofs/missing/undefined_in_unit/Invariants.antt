use Rattle.std.proofs.Common.{◌≡◌, drop}
use Rattle.c_typing.specs.Units.{items_undefined}
use Rattle.c_check.proofs.missing.undefined_in_unit.Given as goal

abbrev pub invariant-loop-item : goal.invariant-loop-item
invariant-loop-item l = items_undefined l.state (drop l.item-index l.items) ≡ items_undefined l.state l.items
