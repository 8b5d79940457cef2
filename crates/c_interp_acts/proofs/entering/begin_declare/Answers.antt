use Rattle.c_meaning.specs.Start.{setting_of}
use Rattle.c_state.specs.Seen.{state_of}
use Rattle.c_interp_laws.proofs.StepLaws.{declare_stops}
use Rattle.c_interp_acts.proofs.MachineLaws.{declare_init, declare_plain}
use Rattle.c_interp_acts.proofs.entering.begin_declare.Goals as goal

pub returns-in_default-clause-same : goal.returns-in_default-clause-same
returns-in_default-clause-same c h = let m = setting_of c.args.p.now in let x = c.args.machine.now in
    declare_stops m x.stack.items (state_of x.store h) x.left c.args.d (c.in_default.ensures _ c.declarator_cost.ensures)

pub returns-in-Some-init-clause-same : goal.returns-in-Some-init-clause-same
returns-in-Some-init-clause-same c h =
    let m = setting_of c.args.p.now in let x = c.args.machine.now in let w = c.in-Some.ensures _ c.declarator_cost.ensures in
    declare_init m x.stack.items (state_of x.store h) (state_of c.write.new.self h) x.left c.in-Some.left c.args.d c.own_local-local.result c.in_ok-zero.zero
    w.0 w.1 c.in_ok-zero.ensures (c.own_local-local.ensures h) (c.write.ensures h)
    c.push.new.self.items c.get.result _ c.get.ensures c.in-Some-init.is c.in_ok-push-in-Some-init.ensures.items

pub returns-clause-same : goal.returns-clause-same
returns-clause-same c h =
    let m = setting_of c.args.p.now in let x = c.args.machine.now in let w = c.in-Some.ensures _ c.declarator_cost.ensures in
    declare_plain m x.stack.items (state_of x.store h) (state_of c.write.new.self h) x.left c.in-Some.left c.args.d c.own_local-local.result c.in_ok-zero.zero
    w.0 w.1 c.in_ok-zero.ensures (c.own_local-local.ensures h) (c.write.ensures h) c.in-None.is
