use Rattle.c_interp_acts.proofs.TieLaws.{put_tie, put_break, get_tie, get_break, exit_tie, on_err}
use Rattle.c_interp_acts.proofs.serving.serve.Goals as goal

pub returns-in_default-clause-breaks : goal.returns-in_default-clause-breaks
returns-in_default-clause-breaks g c told m run whole first t =
    put_break m run whole (g.O.Sink.tells c.args.out.now) first c.args.arguments.now c.args.machine.now _ c.args.service _ _ _ c.first_byte.result c.in_default.ensures.told c.in-PutByte.is c.first_byte.ensures c.in_default.ensures.puts t

pub returns-in_err-value-in-GetByte-clause-breaks : goal.returns-in_err-value-in-GetByte-clause-breaks
returns-in_err-value-in-GetByte-clause-breaks g c told = on_err c.from_residual.result _ (λ m run whole first t.
    get_break m run whole (g.O.Sink.tells c.args.out.now) first c.args.arguments.now c.args.machine.now c.args.service _ _ _ c.in-GetByte.is (c.in_err-value-in-GetByte.ensures.takes told) t)

pub returns-in-Ok-clause-ties : goal.returns-in-Ok-clause-ties
returns-in-Ok-clause-ties g c told m run whole first t =
    put_tie m run whole (g.O.Sink.tells c.args.out.now) first c.args.arguments.now c.args.machine.now _ c.args.service _ _ _ c.first_byte.result c.in-Ok.value c.in-Ok.ensures.told c.in-PutByte.is c.in-Ok.ensures.given c.first_byte.ensures c.in-Ok.ensures.puts t

pub returns-in_ok-value-in-GetByte-clause-ties : goal.returns-in_ok-value-in-GetByte-clause-ties
returns-in_ok-value-in-GetByte-clause-ties g c told m run whole first t =
    get_tie m run whole (g.O.Sink.tells c.args.out.now) first c.args.arguments.now c.args.machine.now c.args.service _ _ _ c.in_ok-value-in-GetByte.value c.get_byte.new.store c.in-GetByte.is (c.in_ok-value-in-GetByte.ensures.takes told) t

pub returns-in-Exit-clause-ties : goal.returns-in-Exit-clause-ties
returns-in-Exit-clause-ties g c told m run whole first t =
    exit_tie m run whole (g.O.Sink.tells c.args.out.now) first c.args.arguments.now c.args.machine.now c.args.service _ _ c.first_byte-in-Exit.result c.in-Exit.is c.first_byte-in-Exit.ensures t
