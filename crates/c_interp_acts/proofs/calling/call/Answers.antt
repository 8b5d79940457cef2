use Rattle.std.proofs.Common.{refl, ap, sym, ◌∙◌}
use Rattle.c_program.specs.declared.expressions.Target.TheVariants as to
use Rattle.c_meaning.specs.Start.{setting_of, callee_in}
use Rattle.c_state.specs.Seen.{state_of, walking}
use Rattle.c_interp_steps.specs.declared.work.Now.TheVariants as now
use Rattle.c_interp_laws.proofs.StepLaws.{nowhere_stops}
use Rattle.c_interp_acts.specs.Going.{stands}
use Rattle.c_interp_acts.proofs.calling.call.Goals as goal

pub returns-in_ok-next-in-Some-clause-same : goal.returns-in_ok-next-in-Some-clause-same
returns-in_ok-next-in-Some-clause-same c h = let m = setting_of c.args.p.now in let x = c.args.machine.now in
    ((walking (to.Function c.in-Function.k) h).walk, c.in_ok-next-in-Some.ensures.same h ∙ ap (λ t. stands m (now.Call t c.args.arguments) x h) (sym c.in-Function.is))

pub returns-in-None-clause-same : goal.returns-in-None-clause-same
returns-in-None-clause-same c h = let m = setting_of c.args.p.now in let x = c.args.machine.now in
    (h.walk, nowhere_stops m x.stack.items (state_of x.store h) x.left c.args.target c.args.arguments (ap (callee_in c.args.p.now) c.in-Function.is ∙ c.in-None.ensures) refl)

pub returns-in_ok-next-in-Some-adjustor_of-clause-same : goal.returns-in_ok-next-in-Some-adjustor_of-clause-same
returns-in_ok-next-in-Some-adjustor_of-clause-same c h = let m = setting_of c.args.p.now in let x = c.args.machine.now in
    let w = c.in_ok-next-in-Some-adjustor_of.ensures.same h in
    (w.0, w.1 ∙ ap (λ t. stands m (now.Call t c.args.arguments) x h) (sym c.in-Adjustor.is))

pub returns-in-None-adjustor_of-clause-same : goal.returns-in-None-adjustor_of-clause-same
returns-in-None-adjustor_of-clause-same c h = let m = setting_of c.args.p.now in let x = c.args.machine.now in
    (h.walk, nowhere_stops m x.stack.items (state_of x.store h) x.left c.args.target c.args.arguments (ap (callee_in c.args.p.now) c.in-Adjustor.is ∙ c.in-None-adjustor_of.ensures) refl)
