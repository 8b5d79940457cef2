-- No extent stands on a function's type.
use Rattle.std.proofs.Common.{refl, sym}
use Rattle.measured_types.proofs.MeasureLaws.{along, fun_pushed}
use Rattle.measured_types.proofs.table.MeasuredTypes.push_fun.Goals as goal

pub invariant_of-self-2 : goal.invariant_of-self-2
invariant_of-self-2 c =
    along _ _ _ _ _ _ (sym c.in_ok-push_fun.ensures.ok) refl refl
    (fun_pushed c.self.inside.types c.self.inside.elements.items c.self.inside.structs.items c.args.f c.self.invariant)
