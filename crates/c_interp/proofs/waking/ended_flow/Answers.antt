use Rattle.c_state.specs.Seen.{state_of}
use Rattle.c_interp.proofs.WakingLaws.{wakes}
use Rattle.c_interp.proofs.waking.ended_flow.Goals as goal

pub returns-clause-same : goal.returns-clause-same
returns-clause-same c m h = let x = c.args.machine.now in
    wakes m c.in_ok-next.next x c.put.new.self c.wake_flow-turn.result x.stack.items h _ c.in_ok-next.ensures.goes c.put.ensures.store c.put.ensures.left (c.wake_flow-turn.ensures.gives m x.stack.items (state_of x.store h) x.left)
