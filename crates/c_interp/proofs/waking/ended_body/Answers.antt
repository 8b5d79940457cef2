use Rattle.std.proofs.Common.{ap, ◌∙◌}
use Rattle.c_meaning.specs.Start.{setting_of}
use Rattle.c_meaning.specs.States.{closed}
use Rattle.c_state.specs.Seen.{state_of}
use Rattle.c_interp_steps.specs.Rests.{leave_rest}
use Rattle.c_interp_steps.specs.Stack.{finish, resume, total}
use Rattle.c_interp.proofs.waking.ended_body.Goals as goal

pub returns-clause-same : goal.returns-clause-same
unfolding total finish leave_rest
returns-clause-same c h = let m = setting_of c.args.p.now in let x = c.args.machine.now in
    ap (λ t. (resume m x.stack.items).value c.in_ok-v.v t x.left) (c.close.ensures h) ∙ ap (λ v. (resume m x.stack.items).value v (closed (state_of x.store h)) x.left) c.in_ok-v.ensures
