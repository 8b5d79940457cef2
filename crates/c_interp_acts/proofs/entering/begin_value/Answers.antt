use Rattle.std.proofs.Common.{◌∙◌, refl}
use Rattle.c_meaning.specs.Start.{setting_of}
use Rattle.c_interp_steps.specs.declared.work.Now.TheVariants as now
use Rattle.c_state.specs.Seen.{state_of}
use Rattle.c_interp_laws.proofs.StepLaws.{value_goes, value_stops}
use Rattle.c_interp_acts.proofs.MachineLaws.{put_goes}
use Rattle.c_interp_acts.proofs.entering.begin_value.Goals as goal

pub returns-clause-same : goal.returns-clause-same
returns-clause-same c h =
    let m = setting_of c.args.p.now in let x = c.args.machine.now in let w = c.in-Some.ensures _ c.expr_cost.ensures in
    put_goes m (now.Value c.args.e) _ x (record x { left = c.in-Some.left }) c.put.new.self _ h c.in_ok-next.ensures.goes c.put.ensures.store c.put.ensures.left
    (c.enter_value.ensures.gives m x.stack.items (state_of x.store h) c.in-Some.left ∙ value_goes m x.stack.items (state_of x.store h) x.left c.args.e _ c.in-Some.left refl w.0 w.1)

pub returns-in_default-clause-same : goal.returns-in_default-clause-same
returns-in_default-clause-same c h =
    let m = setting_of c.args.p.now in let x = c.args.machine.now in
    value_stops m x.stack.items (state_of x.store h) x.left c.args.e (c.in_default.ensures _ c.expr_cost.ensures)
