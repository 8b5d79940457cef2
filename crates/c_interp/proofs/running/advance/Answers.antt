use Rattle.std.proofs.Common.{refl, subst, arith}
use Rattle.c_meaning.specs.Start.{setting_of}
use Rattle.c_interp_acts.proofs.TieLaws.{ties_break, on_err}
use Rattle.c_interp.proofs.RunLaws.{ties_at, walk_ties, NoFault}
use Rattle.c_interp.proofs.running.advance.Goals as goal

pub returns-in_err-next-in-Calling-clause-breaks : goal.returns-in_err-next-in-Calling-clause-breaks
returns-in_err-next-in-Calling-clause-breaks g c told = on_err c.from_residual.result _ (λ run whole first t. let m = setting_of c.args.p.now in
    c.in_err-next-in-Calling.ensures.breaks told m run whole first (ties_at m run whole _ _ first _ _ _ c.args.machine.now c.in-Calling.is t))

pub returns-in_default-turn : goal.returns-in_default-turn
returns-in_default-turn g c = record {
  ties = λ told. tt;
  breaks = λ told run whole first t. ties_break (setting_of c.args.p.now) run whole _ _ first _ _ c.args.machine.now t;
  less = tt;
  left = c.turn.ensures.left;
  told = refl;
  sink = refl;
  input_counted = omega arith;
  out_counted = omega arith;
  reads = λ is. absurd (subst NoFault is tt);
  writes = λ is. absurd (subst NoFault is tt);
}

pub returns-in-Ok : goal.returns-in-Ok
returns-in-Ok g c = record {
  ties = λ told run whole first t. walk_ties (setting_of c.args.p.now) run whole _ _ first _ _ c.in-Ok.next c.args.machine.now c.turn.new.machine c.in-Ok.ensures.same t;
  breaks = λ told. tt;
  less = c.in-Ok.ensures.less;
  left = c.turn.ensures.left;
  told = refl;
  sink = refl;
  input_counted = omega arith;
  out_counted = omega arith;
  reads = λ is. absurd (subst NoFault is tt);
  writes = λ is. absurd (subst NoFault is tt);
}
