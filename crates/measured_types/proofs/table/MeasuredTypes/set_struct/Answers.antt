-- What is still known is right of the changed types, and so is the struct's own measure.
use Rattle.std.proofs.Common.{IfSome, refl, sym, subst}
use Rattle.c_types.specs.declared.types.Types.{Types}
use Rattle.measured_types.specs.Measures.{AreMeasures, IsStructMeasure, with_struct}
use Rattle.measured_types.proofs.MeasureLaws.{along, struct_measured}
use Rattle.measured_types.proofs.table.MeasuredTypes.set_struct.Goals as goal

pub invariant_of-self : goal.invariant_of-self
invariant_of-self c =
    let known : AreMeasures (with_struct c.self.inside.types c.args.place c.args.definition) c.replace-measure.new.elements.items c.replace-measure.new.structs.items =
    subst (λ (t : Types). AreMeasures (with_struct t c.args.place c.args.definition) c.replace-measure.new.elements.items c.replace-measure.new.structs.items) c.as_types.ensures c.replace-measure.ensures.known in
    let measure : IfSome c.replace-measure.result (λ m. IsStructMeasure (with_struct c.self.inside.types c.args.place c.args.definition) c.args.definition m) =
    subst (λ (t : Types). IfSome c.replace-measure.result (λ m. IsStructMeasure (with_struct t c.args.place c.args.definition) c.args.definition m)) c.as_types.ensures c.replace-measure.ensures.measure in
    along _ _ _ _ _ _ (sym c.set_struct.ensures) refl (sym c.put_at.ensures)
    (struct_measured c.self.inside.types c.replace-measure.new.elements.items c.replace-measure.new.structs.items c.args.place c.args.definition c.replace-measure.result known measure)
