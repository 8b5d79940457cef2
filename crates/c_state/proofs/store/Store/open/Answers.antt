use Rattle.std.proofs.Common.{arith}
use Rattle.c_state.specs.Seen.{state_of}
use Rattle.c_state.proofs.FrameLaws.{opens}
use Rattle.c_state.proofs.store.Store.open.Goals as goal

pub returns : goal.returns
returns c h =
    let s = state_of c.args.self.now h in
    let kept = c.keep_below.new.self in
    let act = c.active.ensures h in
    let some = c.in-Some.ensures in
    let added = c.checked_add.ensures in
    let greatest = c.max-self.ensures in
    let swapped = c.replace-caller.ensures in
    let after = c.keep_below.ensures in
    let under = c.in_ok-keep_below.ensures in
    opens c.args.who c.args.charge c.args.locals c.args.extras c.args.self.now.globals kept.globals c.args.self.now.top kept.top c.args.self.now.below.items kept.below.items c.args.self.now.taken kept.taken c.args.self.now.peak c.max-self.result c.in-Some.active h
    (cc) (cc) (cc (under.below, swapped.value)) (cc) (omega (arith, some, act, added)) (omega (arith, greatest, after.peak))
