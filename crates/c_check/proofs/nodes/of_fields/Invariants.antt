use Rattle.std.proofs.Common.{◌≡◌, sum_by, take}
use Rattle.c_program.specs.Nodes.{small}
use Rattle.c_typing.specs.Items.{field_nodes}
use Rattle.c_check.proofs.nodes.of_fields.Given as goal

abbrev pub invariant-loop-field : goal.invariant-loop-field
invariant-loop-field l = l.total ≡ small (sum_by field_nodes (take l.field-index l.fields))
