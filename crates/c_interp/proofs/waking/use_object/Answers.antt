use Rattle.c_interp.proofs.WakingLaws.{use_load, use_address, use_before, use_after, use_assign, use_update}
use Rattle.c_interp.proofs.waking.use_object.Goals as goal

pub returns-in-Load-clause-same : goal.returns-in-Load-clause-same
returns-in-Load-clause-same c m h = use_load m c.args.machine.now h c.args.o c.args.work c.in_ok-v-in-Load.v c.in-Load.is (c.in_ok-v-in-Load.ensures h)

pub returns-in-Address-clause-same : goal.returns-in-Address-clause-same
returns-in-Address-clause-same c m h = use_address m c.args.machine.now h c.args.o c.args.work c.in-Address.is

pub returns-in-Before-clause-same : goal.returns-in-Before-clause-same
returns-in-Before-clause-same c m h = use_before m c.args.machine.now h c.args.o c.args.work _ _ _ _ c.in-Before.is c.stepped.ensures (c.in_ok-old-in-Before.ensures h)

pub returns-in-After-clause-same : goal.returns-in-After-clause-same
returns-in-After-clause-same c m h = use_after m c.args.machine.now h c.args.o c.args.work _ _ _ _ c.write.new.self c.in-After.is c.stepped-in-After.ensures (c.in_ok-old-in-After.ensures h) (c.write.ensures h)

pub returns-in-AssignThen-clause-same : goal.returns-in-AssignThen-clause-same
returns-in-AssignThen-clause-same c m h = use_assign m c.args.machine.now h c.args.o c.args.work _ c.push.new.self.items c.in-AssignThen.is c.in_ok-push-in-AssignThen.ensures.items

pub returns-clause-same : goal.returns-clause-same
returns-clause-same c m h = use_update m c.args.machine.now h c.args.o c.args.work _ _ _ _ _ c.push-in-UpdateThen.new.self.items c.in-UpdateThen.is (c.in_ok-old-in-UpdateThen.ensures h) c.in_ok-push-in-UpdateThen.ensures.items
