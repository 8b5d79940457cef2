-- One more entry is none.
use Rattle.measured_types.proofs.MeasureLaws.{forgotten}
use Rattle.measured_types.proofs.table.forget.Goals as goal

pub loop-entry-preserved : goal.loop-entry-preserved
loop-entry-preserved c = forgotten c.loop-entry.entries c.loop-entry.entry-index c.loop-entry.invariant
