-- A type without parts has height 1.
use Rattle.std.proofs.Common.{sym}
use Rattle.measured_types.proofs.MeasureLaws.{leaf}
use Rattle.measured_types.proofs.measure.measure_of.Goals as goal

pub returns-in-Some : goal.returns-in-Some
returns-in-Some c = leaf c.args.types.now c.args.ty c.in-Some.extent (sym c.in-Some.ensures.value) c.in-Some.ensures.small
