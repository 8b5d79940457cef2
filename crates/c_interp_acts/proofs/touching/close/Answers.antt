use Rattle.std.proofs.Common.{ap}
use Rattle.c_interp_steps.specs.Stack.{finish, resume, total}
use Rattle.c_interp_acts.proofs.touching.close.Goals as goal

pub returns-clause-same : goal.returns-clause-same
unfolding total finish
returns-clause-same c m h = let x = c.args.machine.now in ap (λ z. (resume m x.stack.items).value c.args.v z x.left) (c.close.ensures h)
