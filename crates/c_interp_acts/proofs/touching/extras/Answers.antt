use Rattle.std.proofs.Common.{ap, sym, ◌∙◌}
use Rattle.c_meaning.specs.Rules.{Normal, choose, begin_extras, end_extras}
use Rattle.c_state.specs.Seen.{state_of}
use Rattle.c_interp_steps.specs.Stack.{finish, resume, total}
use Rattle.c_interp_acts.proofs.touching.extras.Goals as goal

pub returns-then-on-clause-same : goal.returns-then-on-clause-same
unfolding total finish
returns-then-on-clause-same c m h = let x = c.args.machine.now in
    ap (λ z. (resume m x.stack.items).flow Normal z x.left) (c.begin_extras.ensures h)
    ∙ ap (λ b. finish (choose b begin_extras end_extras (state_of x.store h) x.left) (resume m x.stack.items).flow) (sym c.if-on.true)

pub returns-else-on-clause-same : goal.returns-else-on-clause-same
unfolding total finish
returns-else-on-clause-same c m h = let x = c.args.machine.now in
    ap (λ z. (resume m x.stack.items).flow Normal z x.left) (c.end_extras.ensures h)
    ∙ ap (λ b. finish (choose b begin_extras end_extras (state_of x.store h) x.left) (resume m x.stack.items).flow) (sym c.if-on.false)
