use Rattle.std.proofs.Common.{sym, ap}
use Rattle.c_meaning.specs.Start.{setting_of}
use Rattle.c_state.specs.Seen.{state_of}
use Rattle.c_interp_steps.specs.Stack.{total}
use Rattle.c_interp.proofs.RunLaws.{walks_all, walks_one, walks_at, walks_each, walks_put, walk_all}
use Rattle.c_interp.proofs.running.turn.Goals as goal

pub returns-in-Value-clause-same : goal.returns-in-Value-clause-same
returns-in-Value-clause-same c = walks_one (setting_of c.args.p.now) _ _ c.args.machine.now c.begin_value.new.machine c.in-Value.is c.begin_value.result c.begin_value.ensures.same

pub returns-in-Place-clause-same : goal.returns-in-Place-clause-same
returns-in-Place-clause-same c = walks_all (setting_of c.args.p.now) _ _ c.args.machine.now c.begin_object.new.machine c.in-Place.is c.begin_object.result c.begin_object.ensures.same

pub returns-in-Statement-clause-same : goal.returns-in-Statement-clause-same
returns-in-Statement-clause-same c = walks_all (setting_of c.args.p.now) _ _ c.args.machine.now c.begin_statement.new.machine c.in-Statement.is c.begin_statement.result c.begin_statement.ensures.same

pub returns-in-Item-clause-same : goal.returns-in-Item-clause-same
returns-in-Item-clause-same c = walks_one (setting_of c.args.p.now) _ _ c.args.machine.now c.begin_item.new.machine c.in-Item.is c.begin_item.result c.begin_item.ensures.same

pub returns-in-Declare-clause-same : goal.returns-in-Declare-clause-same
returns-in-Declare-clause-same c = walks_one (setting_of c.args.p.now) _ _ c.args.machine.now c.begin_declare.new.machine c.in-Declare.is c.begin_declare.result c.begin_declare.ensures.same

pub returns-in-Store-clause-same : goal.returns-in-Store-clause-same
returns-in-Store-clause-same c = walks_all (setting_of c.args.p.now) _ _ c.args.machine.now c.store.new.machine c.in-Store.is c.store.result c.store.ensures.same

pub returns-in-Call-clause-same : goal.returns-in-Call-clause-same
returns-in-Call-clause-same c = walks_at (setting_of c.args.p.now) _ _ c.args.machine.now c.call.new.machine c.in-Call.is c.call.result c.call.ensures.same

pub returns-in-Got-clause-same : goal.returns-in-Got-clause-same
returns-in-Got-clause-same c = walks_each (setting_of c.args.p.now) _ _ c.args.machine.now c.got.new.machine c.in-Got.is c.got.result c.got.ensures.same

pub returns-in-Found-clause-same : goal.returns-in-Found-clause-same
returns-in-Found-clause-same c = walks_all (setting_of c.args.p.now) _ _ c.args.machine.now c.found.new.machine c.in-Found.is c.found.result c.found.ensures.same

pub returns-in-Ended-clause-same : goal.returns-in-Ended-clause-same
returns-in-Ended-clause-same c = walks_one (setting_of c.args.p.now) _ _ c.args.machine.now c.ended.new.machine c.in-Ended.is c.ended.result c.ended.ensures.same

pub returns-in-Paid-clause-same : goal.returns-in-Paid-clause-same
unfolding total
returns-in-Paid-clause-same c = let m = setting_of c.args.p.now in let x = c.args.machine.now in
    walks_put m _ _ x c.put.new.self c.in-Paid.is c.enter_place.result c.put.result c.put.ensures.goes c.put.ensures.store c.put.ensures.left (λ h. c.enter_place.ensures.gives m x.stack.items (state_of x.store h) x.left)

pub returns-in-Begin-clause-same : goal.returns-in-Begin-clause-same
unfolding total
returns-in-Begin-clause-same c = let m = setting_of c.args.p.now in let x = c.args.machine.now in
    walks_put m _ _ x c.put-in-Begin.new.self c.in-Begin.is c.enter_begin.result c.put-in-Begin.result c.put-in-Begin.ensures.goes c.put-in-Begin.ensures.store c.put-in-Begin.ensures.left (λ h. c.enter_begin.ensures.gives m x.stack.items (state_of x.store h) x.left)

pub returns-in-Loop-clause-same : goal.returns-in-Loop-clause-same
unfolding total
returns-in-Loop-clause-same c = let m = setting_of c.args.p.now in let x = c.args.machine.now in
    walks_put m _ _ x c.put-in-Loop.new.self c.in-Loop.is c.enter_loop.result c.put-in-Loop.result c.put-in-Loop.ensures.goes c.put-in-Loop.ensures.store c.put-in-Loop.ensures.left (λ h. c.enter_loop.ensures.gives m x.stack.items (state_of x.store h) x.left)

pub returns-in-Local-clause-same : goal.returns-in-Local-clause-same
returns-in-Local-clause-same c = walk_all (setting_of c.args.p.now) _ _ c.args.machine.now c.args.machine.now c.in-Local.is c.local.result c.local.ensures.same

pub returns-in-Extra-clause-same : goal.returns-in-Extra-clause-same
returns-in-Extra-clause-same c = walk_all (setting_of c.args.p.now) _ _ c.args.machine.now c.extra.new.machine c.in-Extra.is c.extra.result c.extra.ensures.same

pub returns-in-Extras-clause-same : goal.returns-in-Extras-clause-same
returns-in-Extras-clause-same c = walk_all (setting_of c.args.p.now) _ _ c.args.machine.now c.extras.new.machine c.in-Extras.is c.extras.result c.extras.ensures.same

pub returns-in-SetLocal-clause-same : goal.returns-in-SetLocal-clause-same
returns-in-SetLocal-clause-same c = walk_all (setting_of c.args.p.now) _ _ c.args.machine.now c.set_local.new.machine c.in-SetLocal.is c.set_local.result c.set_local.ensures.same

pub returns-in-Close-clause-same : goal.returns-in-Close-clause-same
returns-in-Close-clause-same c = walk_all (setting_of c.args.p.now) _ _ c.args.machine.now c.close.new.machine c.in-Close.is c.close.result c.close.ensures.same

pub returns-in-Stopped-clause-same : goal.returns-in-Stopped-clause-same
returns-in-Stopped-clause-same c h = let x = c.args.machine.now in let m = setting_of c.args.p.now in
    (h.walk, ap (λ n. total m n x.stack.items (state_of x.store h) x.left) (sym c.in-Stopped.is))
