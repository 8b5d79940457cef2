use Rattle.std.proofs.Common.{arith}
use Rattle.c_tree.proofs.Tallest.{tallest_more}
use Rattle.c_tree.specs.Height.{field_height}
use Rattle.c_tree.proofs.measure.of_fields.Goals as goal

pub loop-field-preserved : goal.loop-field-preserved
loop-field-preserved c = let m = tallest_more field_height c.args.fields.now c.loop-field.field-index c.field-item.result (omega arith) c.field-item.is in omega (arith, m, c.loop-field.invariant, c.of_field.ensures)
