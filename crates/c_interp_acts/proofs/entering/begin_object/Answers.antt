use Rattle.std.proofs.Common.{◌∙◌, refl, arith}
use Rattle.c_interp_steps.specs.declared.work.Now.TheVariants as now
use Rattle.c_state.specs.Seen.{state_of}
use Rattle.c_interp_laws.proofs.StepLaws.{object_goes, object_stops}
use Rattle.c_interp_acts.proofs.MachineLaws.{put_goes}
use Rattle.c_interp_acts.proofs.entering.begin_object.Goals as goal

pub returns-clause-same : goal.returns-clause-same
returns-clause-same c m h =
    let x = c.args.machine.now in let w = c.in-Some.ensures 1 refl in
    put_goes m (now.Place c.args.place) _ x (record x { left = c.in-Some.left }) c.put.new.self _ h c.in_ok-next.ensures.goes c.put.ensures.store c.put.ensures.left
    (c.enter_place.ensures.gives m x.stack.items (state_of x.store h) c.in-Some.left ∙ object_goes m x.stack.items (state_of x.store h) x.left c.args.place c.in-Some.left w.0 w.1)

pub returns-in_default-clause-same : goal.returns-in_default-clause-same
returns-in_default-clause-same c m h =
    let x = c.args.machine.now in
    object_stops m x.stack.items (state_of x.store h) x.left c.args.place (c.in_default.ensures 1 refl)

pub returns-clause-less : goal.returns-clause-less
returns-clause-less c = λ going. let w = c.in-Some.ensures 1 refl in omega (arith, w.0, w.1, c.put.ensures.left, c.in_ok-next.ensures.less, c.enter_place.ensures.within)

pub returns-clause-left : goal.returns-clause-left
returns-clause-left c = let w = c.in-Some.ensures 1 refl in omega (arith, w.0, w.1, c.put.ensures.left)

pub returns-in_err-next-clause-left : goal.returns-in_err-next-clause-left
returns-in_err-next-clause-left c = let w = c.in-Some.ensures 1 refl in omega (arith, w.0, w.1, c.put.ensures.left)
