use Rattle.std.proofs.Common.{ap}
use Rattle.c_interp_steps.specs.declared.work.Now.TheVariants as now
use Rattle.c_interp_acts.proofs.TieLaws.{ties_break, on_err}
use Rattle.c_interp.proofs.RunLaws.{ties_at}
use Rattle.c_interp.proofs.running.call_out.Goals as goal

pub returns-in_err-next-in-Service-clause-breaks : goal.returns-in_err-next-in-Service-clause-breaks
returns-in_err-next-in-Service-clause-breaks g c told = on_err c.from_residual.result _ (λ m run whole first t.
    c.in_err-next-in-Service.ensures.breaks told m run whole first (ties_at m run whole _ _ first _ _ _ c.args.machine.now (ap (λ d. now.Calling d c.args.arguments) c.in-Service.is) t))

pub returns-in_default-clause-breaks : goal.returns-in_default-clause-breaks
returns-in_default-clause-breaks g c told m run whole first t = ties_break m run whole _ _ first _ _ c.args.machine.now t

pub returns-in_default-call_pointed-clause-breaks : goal.returns-in_default-call_pointed-clause-breaks
returns-in_default-call_pointed-clause-breaks g c told m run whole first t = ties_break m run whole _ _ first _ _ c.args.machine.now t
