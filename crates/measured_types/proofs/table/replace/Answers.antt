-- The struct at the place was incomplete: what is known stays so, and the new struct is measured by it.
use Rattle.std.proofs.Common.{◌≡◌, false, slice_get, sym, ◌∙◌}
use Rattle.measured_types.specs.Measures.{complete_in}
use Rattle.measured_types.proofs.MeasureLaws.{struct_completed, struct_measure_completed}
use Rattle.measured_types.proofs.table.replace.Goals as goal

pub returns-clause-known : goal.returns-clause-known
returns-clause-known c =
    let incomplete : complete_in (slice_get c.args.types.now.structs c.args.place) ≡ false = sym c.is_complete.ensures ∙ c.if-is_complete.false in
    struct_completed c.args.types.now c.args.elements.now.items c.args.structs.now.items c.args.place c.args.definition.now incomplete c.requires

pub returns-clause-measure : goal.returns-clause-measure
returns-clause-measure c =
    let incomplete : complete_in (slice_get c.args.types.now.structs c.args.place) ≡ false = sym c.is_complete.ensures ∙ c.if-is_complete.false in
    struct_measure_completed c.args.types.now c.args.place c.args.definition.now c.struct_measure.result incomplete c.struct_measure.ensures
