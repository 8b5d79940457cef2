use Rattle.std.proofs.Common.{◌≡◌, length, refl, subst, arith}
use Rattle.c_interp_steps.specs.declared.work.Now.TheVariants as now
use Rattle.c_meaning.specs.Start.{setting_of}
use Rattle.c_interp_acts.specs.Going.{IsGoing}
use Rattle.c_interp.proofs.WakingLaws.{gives_flow, gives_leave, within_less, last_flow, strays_flow}
use Rattle.c_interp.proofs.waking.ended.Goals as goal

pub returns-in-Flow-clause-same : goal.returns-in-Flow-clause-same
returns-in-Flow-clause-same c = gives_flow c.ended_flow.result c.args.machine.now c.ended_flow.new.machine c.pop.new.self.items c.in-Some.pending c.in-Some.ensures.items (setting_of c.args.p.now) c.args.ending _ c.in-Flow.is c.ended_flow.ensures.same

pub returns-in-Flow-clause-less : goal.returns-in-Flow-clause-less
returns-in-Flow-clause-less c = within_less c.ended_flow.result c.args.machine.now c.ended_flow.new.machine c.pop.new.self.items c.in-Some.pending c.in-Some.ensures.items (now.Ended c.args.ending) refl c.ended_flow.ensures.less

pub returns-in-Leave-clause-same : goal.returns-in-Leave-clause-same
returns-in-Leave-clause-same c = gives_leave c.ended_body.result c.args.machine.now c.ended_body.new.machine c.pop.new.self.items c.in-Some.pending c.in-Some.ensures.items (setting_of c.args.p.now) c.args.ending _ c.in-Leave.is c.ended_body.ensures.same

pub returns-in-Leave-clause-less : goal.returns-in-Leave-clause-less
returns-in-Leave-clause-less c = within_less c.ended_body.result c.args.machine.now c.ended_body.new.machine c.pop.new.self.items c.in-Some.pending c.in-Some.ensures.items (now.Ended c.args.ending) refl c.ended_body.ensures.less

pub returns-in_default-clause-same : goal.returns-in_default-clause-same
returns-in_default-clause-same c h = let x = c.args.machine.now in
    let none : length x.stack.items ≡ 0 = omega (arith, x.stack.ok.0, c.in_default.ensures.cases.0) in
    last_flow (setting_of c.args.p.now) x c.pop.new.self.items h c.args.ending none

pub returns-in_default-pending : goal.returns-in_default-pending
returns-in_default-pending c = record {
  same = λ h. strays_flow (setting_of c.args.p.now) c.args.machine.now c.pop.new.self.items c.in-Some.pending h c.args.ending c.stopped.result c.stopped.ensures c.in-Some.ensures.items c.in_default-pending.not-Flow c.in_default-pending.not-Leave;
  less = λ going. absurd (subst IsGoing c.stopped.ensures going);
  left = omega arith;
}
