use Rattle.std.proofs.Common.{ap, ◌∙◌}
use Rattle.c_state.specs.Seen.{state_of}
use Rattle.c_interp_steps.specs.declared.work.Now.TheVariants as now
use Rattle.c_interp_steps.specs.Stack.{total}
use Rattle.c_interp_laws.proofs.StepLaws.{pointed_goes, pointed_stops}
use Rattle.c_interp.proofs.waking.call_pointed.Goals as goal

pub returns-in_ok-push-in-Some-clause-same : goal.returns-in_ok-push-in-Some-clause-same
returns-in_ok-push-in-Some-clause-same c m h = let x = c.args.machine.now in let s = state_of x.store h in
    ap (λ l. total m (now.Call c.in-Some.t c.args.arguments) l s x.left) c.in_ok-push-in-Some.ensures.items
    ∙ pointed_goes m x.stack.items s x.left c.args.v.now c.in-Some.t c.args.arguments (c.in-Some.ensures s x.left)

pub returns-in-None-clause-same : goal.returns-in-None-clause-same
returns-in-None-clause-same c m h = let x = c.args.machine.now in let s = state_of x.store h in
    pointed_stops m x.stack.items s x.left c.args.v.now c.args.arguments (c.in-None.ensures s x.left)
