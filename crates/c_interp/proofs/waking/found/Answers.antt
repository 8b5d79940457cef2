use Rattle.std.proofs.Common.{◌≡◌, length, refl, subst, arith}
use Rattle.c_interp_steps.specs.declared.work.Now.TheVariants as now
use Rattle.c_interp_acts.specs.Going.{IsGoing}
use Rattle.c_interp.proofs.WakingLaws.{gives_place, gives_use, within_less, last_object, strays_object}
use Rattle.c_interp.proofs.waking.found.Goals as goal

pub returns-in-Place-clause-same : goal.returns-in-Place-clause-same
returns-in-Place-clause-same c = gives_place c.found_place.result c.args.machine.now c.found_place.new.machine c.pop.new.self.items c.in-Some.pending c.in-Some.ensures.items c.args.o _ c.in-Place.is c.found_place.ensures.same

pub returns-in-Place-clause-less : goal.returns-in-Place-clause-less
returns-in-Place-clause-less c = within_less c.found_place.result c.args.machine.now c.found_place.new.machine c.pop.new.self.items c.in-Some.pending c.in-Some.ensures.items (now.Found c.args.o) refl c.found_place.ensures.less

pub returns-in-Use-clause-same : goal.returns-in-Use-clause-same
returns-in-Use-clause-same c = gives_use c.use_object.result c.args.machine.now c.use_object.new.machine c.pop.new.self.items c.in-Some.pending c.in-Some.ensures.items c.args.o _ c.in-Use.is c.use_object.ensures.same

pub returns-in-Use-clause-less : goal.returns-in-Use-clause-less
returns-in-Use-clause-less c = within_less c.use_object.result c.args.machine.now c.use_object.new.machine c.pop.new.self.items c.in-Some.pending c.in-Some.ensures.items (now.Found c.args.o) refl c.use_object.ensures.less

pub returns-in_default-clause-same : goal.returns-in_default-clause-same
returns-in_default-clause-same c m h = let x = c.args.machine.now in
    let none : length x.stack.items ≡ 0 = omega (arith, x.stack.ok.0, c.in_default.ensures.cases.0) in
    last_object m x c.pop.new.self.items h c.args.o none

pub returns-in_default-pending : goal.returns-in_default-pending
returns-in_default-pending c = record {
  same = λ m h. strays_object m c.args.machine.now c.pop.new.self.items c.in-Some.pending h c.args.o c.stopped.result c.stopped.ensures c.in-Some.ensures.items c.in_default-pending.not-Place c.in_default-pending.not-Use;
  less = λ going. absurd (subst IsGoing c.stopped.ensures going);
  left = omega arith;
}
