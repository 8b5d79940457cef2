use Rattle.std.proofs.Common.{◌≡◌, drop}
use Rattle.c_typing.specs.Items.{visit_items}
use Rattle.c_check.proofs.items.type_items_of.Given as goal

abbrev pub invariant-loop-item : goal.invariant-loop-item
invariant-loop-item l = visit_items l.unit (drop l.item-index l.items) l.state ≡ visit_items l.unit l.items l.initial.state
