use Rattle.std.proofs.Common.{◌≡◌, map, take}
use Rattle.c_tree.specs.Height.{tallest, field_height, small}
use Rattle.c_tree.proofs.measure.of_fields.Given as goal

abbrev pub invariant-loop-field : goal.invariant-loop-field
invariant-loop-field l = l.most ≡ small (tallest (map field_height (take l.field-index l.fields)))
