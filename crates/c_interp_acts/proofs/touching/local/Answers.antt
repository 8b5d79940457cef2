use Rattle.std.proofs.Common.{ap}
use Rattle.c_state.specs.Seen.{state_of}
use Rattle.c_interp_steps.specs.Stack.{finish, resume, total}
use Rattle.c_interp_acts.proofs.touching.local.Goals as goal

pub returns-clause-same : goal.returns-clause-same
unfolding total finish
returns-clause-same c m h = let x = c.args.machine.now in ap (λ o. (resume m x.stack.items).object o (state_of x.store h) x.left) (c.own_local.ensures h)
