-- One more struct is known, or still is not.
use Rattle.std.proofs.Common.{refl, sym}
use Rattle.measured_types.proofs.MeasureLaws.{along, struct_noted}
use Rattle.type_sizes.proofs.sizes.Sizes.note_struct.Goals as goal

pub returns-in-Some : goal.returns-in-Some
returns-in-Some c =
    along _ _ _ _ _ _ refl refl (sym c.put_at.ensures)
    (struct_noted c.args.types.now c.args.self.now.elements.items c.args.self.now.structs.items c.args.place c.in-Some.definition.now c.struct_measure-measure.result (sym c.in-Some.ensures.value) c.requires c.struct_measure-measure.ensures)
