-- One more field of a known type.
use Rattle.measured_types.proofs.MeasureLaws.{fields_step}
use Rattle.measured_types.proofs.measure.fields_measure.Goals as goal

pub loop-field-preserved : goal.loop-field-preserved
loop-field-preserved c = record {
  rest = fields_step c.args.types.now c.args.fields.now c.loop-field.field-index c.loop-field.so_far c.in_ok-own.own c.in_ok-so_far.so_far c.field-item.result c.loop-field-test.true c.field-item.is c.in_ok-own.ensures c.in_ok-so_far.ensures.extent c.in_ok-so_far.ensures.height c.loop-field.invariant.rest;
  small = c.in_ok-so_far.ensures.small;
}
