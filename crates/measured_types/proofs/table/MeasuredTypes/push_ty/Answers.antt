-- The type at the end is known as it was measured before.
use Rattle.std.proofs.Common.{List, Option, ◌∷◌, ◌++◌, [], refl, sym, ap, ◌∙◌}
use Rattle.measured_types.specs.declared.measure.Measured.{Measured}
use Rattle.measured_types.proofs.MeasureLaws.{along, along_measure, ty_pushed}
use Rattle.measured_types.proofs.table.MeasuredTypes.push_ty.Goals as goal

pub invariant_of-self-2 : goal.invariant_of-self-2
invariant_of-self-2 c =
    along _ _ _ _ _ _
    (sym c.in_ok-push_ty.ensures.ok)
    (sym (c.put_last.ensures ∙ ap (λ (xs : List (Option Measured)). xs ++ c.measure_of-measure.result ∷ []) c.reserve.ensures.items))
    refl
    (ty_pushed c.self.inside.types c.self.inside.elements.items c.self.inside.structs.items c.args.ty c.measure_of-measure.result c.self.invariant
    (along_measure c.as_types.result.now c.self.inside.types c.args.ty c.measure_of-measure.result c.as_types.ensures c.measure_of-measure.ensures))
