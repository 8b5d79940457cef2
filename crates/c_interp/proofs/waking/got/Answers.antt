use Rattle.std.proofs.Common.{◌≡◌, length, refl, arith}
use Rattle.c_interp_steps.specs.declared.work.Now.TheVariants as now
use Rattle.c_state.specs.Seen.{going_back}
use Rattle.c_interp.proofs.WakingLaws.{gives_value, gives_find, gives_run, within_less, strays_value, backs, last_value}
use Rattle.c_interp.proofs.waking.got.Goals as goal

pub returns-in_default-clause-same : goal.returns-in_default-clause-same
returns-in_default-clause-same c m h = let x = c.args.machine.now in
    let none : length x.stack.items ≡ 0 = omega (arith, x.stack.ok.0, c.in_default.ensures.cases.0) in
    (h.walk, last_value m x c.pop.new.self.items h c.args.v c.low_byte.result none c.low_byte.ensures)

pub returns-in-Back-clause-same : goal.returns-in-Back-clause-same
returns-in-Back-clause-same c m h = ((going_back c.args.machine.now.store h).walk, backs m c.args.machine.now c.pop.new.self.items c.in-Some.pending h c.in-Some.ensures.items c.args.v c.in-Back.is)

pub returns-in-Value-clause-same : goal.returns-in-Value-clause-same
returns-in-Value-clause-same c = gives_value c.got_value.result c.args.machine.now c.got_value.new.machine c.pop.new.self.items c.in-Some.pending c.in-Some.ensures.items c.args.v _ c.in-Value.is c.got_value.ensures.same

pub returns-in-Value-clause-less : goal.returns-in-Value-clause-less
returns-in-Value-clause-less c = within_less c.got_value.result c.args.machine.now c.got_value.new.machine c.pop.new.self.items c.in-Some.pending c.in-Some.ensures.items (now.Got c.args.v) refl c.got_value.ensures.less

pub returns-in-Find-clause-same : goal.returns-in-Find-clause-same
returns-in-Find-clause-same c = gives_find c.got_find.result c.args.machine.now c.got_find.new.machine c.pop.new.self.items c.in-Some.pending c.in-Some.ensures.items c.args.v _ c.in-Find.is c.got_find.ensures.same

pub returns-in-Find-clause-less : goal.returns-in-Find-clause-less
returns-in-Find-clause-less c = within_less c.got_find.result c.args.machine.now c.got_find.new.machine c.pop.new.self.items c.in-Some.pending c.in-Some.ensures.items (now.Got c.args.v) refl c.got_find.ensures.less

pub returns-in-Run-clause-same : goal.returns-in-Run-clause-same
returns-in-Run-clause-same c = gives_run c.got_run.result c.args.machine.now c.got_run.new.machine c.pop.new.self.items c.in-Some.pending c.in-Some.ensures.items c.args.v _ c.in-Run.is c.got_run.ensures.same

pub returns-in-Run-clause-less : goal.returns-in-Run-clause-less
returns-in-Run-clause-less c = within_less c.got_run.result c.args.machine.now c.got_run.new.machine c.pop.new.self.items c.in-Some.pending c.in-Some.ensures.items (now.Got c.args.v) refl c.got_run.ensures.less

pub returns-clause-same : goal.returns-clause-same
returns-clause-same c m h = let d = c.in_default-pending in
    (h.walk, strays_value m c.args.machine.now c.pop.new.self.items c.in-Some.pending h c.args.v c.stopped.result c.stopped.ensures c.in-Some.ensures.items d.not-Value d.not-Find d.not-Run d.not-Back)
