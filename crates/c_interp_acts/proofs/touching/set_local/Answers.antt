use Rattle.std.proofs.Common.{ap, ◌∙◌}
use Rattle.c_meaning.specs.States.{written}
use Rattle.c_meaning.specs.Rules.{Normal}
use Rattle.c_state.specs.Seen.{state_of}
use Rattle.c_interp_steps.specs.Stack.{finish, resume, total}
use Rattle.c_interp_acts.proofs.touching.set_local.Goals as goal

pub returns-clause-same : goal.returns-clause-same
unfolding total finish
returns-clause-same c m h = let x = c.args.machine.now in
    ap (λ z. (resume m x.stack.items).flow Normal z x.left) (c.write.ensures h ∙ ap (λ o. written o c.args.v (state_of x.store h)) (c.own_local-local.ensures h))
