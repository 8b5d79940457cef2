use Rattle.std.proofs.Common.{◌≡◌}
use Rattle.c_program.specs.Nodes.{small}
use Rattle.c_meaning.specs.Costs.{call_cost}
use Rattle.c_meaning.specs.Start.{setting_of}
use Rattle.c_state.specs.Seen.{state_of, walking}
use Rattle.c_interp_laws.proofs.StepLaws.{adjustor_stops}
use Rattle.c_interp_acts.proofs.CallLaws.{adjustor_begins}
use Rattle.c_interp_acts.proofs.calling.call_adjustor.Goals as goal

pub returns-in_default-clause-same : goal.returns-in_default-clause-same
returns-in_default-clause-same c h =
    let m = setting_of c.args.p.now in let x = c.args.machine.now in let vs = c.args.arguments in
    let cost : c.call_cost-cost.result ≡ small (call_cost vs) = cc (c.call_cost-cost.ensures, c.as_slice.ensures) in
    (h.walk, adjustor_stops m x.stack.items (state_of x.store h) x.left c.args.target vs c.args.callee.0.now c.args.callee.1.now c.requires.callee (c.in_default.ensures (call_cost vs) cost))

pub returns-clause-same : goal.returns-clause-same
returns-clause-same c h =
    let m = setting_of c.args.p.now in let x = c.args.machine.now in let vs = c.args.arguments in let t = c.args.target in
    let cost : c.call_cost-cost.result ≡ small (call_cost vs) = cc (c.call_cost-cost.ensures, c.as_slice.ensures) in
    let w = c.in-Some.ensures (call_cost vs) cost in (
      (walking t h).walk,
      adjustor_begins m t vs x (record x { store = c.open.new.self; stack = c.push.new.self; left = c.in-Some.left }) h c.args.callee.0.now c.args.callee.1.now c.adjusted.result c.in_ok-charge.charge c.new-locals.result c.new-extras.result
          c.requires.callee c.adjusted.ensures c.in_ok-charge.ensures c.new-locals.ensures c.new-extras.ensures (c.in_ok-open.ensures h) c.in_ok-push.ensures.items w.0 w.1,
    )
