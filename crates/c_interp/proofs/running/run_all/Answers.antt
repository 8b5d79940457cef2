use Rattle.std.proofs.Common.{refl, ◌∙◌, arith}
use Rattle.c_interp_acts.proofs.TieLaws.{on_err}
use Rattle.c_interp.proofs.running.run_all.Goals as goal

pub loop-outcome-init : goal.loop-outcome-init
loop-outcome-init g c = record { left = omega arith; told = refl; sink = refl; read = omega arith; written = omega arith; ties = λ told run whole first t. t }

pub loop-outcome-preserved : goal.loop-outcome-preserved
loop-outcome-preserved g c = let i = c.loop-outcome.invariant in record {
  left = omega (arith, i.left, c.advance.ensures.left);
  told = c.advance.ensures.told ∙ i.told;
  sink = c.advance.ensures.sink ∙ i.sink;
  read = omega (arith, i.read, c.advance.ensures.input_counted);
  written = omega (arith, i.written, c.advance.ensures.out_counted);
  ties = λ told run whole first t. c.in_ok-next.ensures.ties (i.told ∙ told) run whole first (i.ties told run whole first t);
}

pub returns-in_err-next-clause-breaks : goal.returns-in_err-next-clause-breaks
returns-in_err-next-clause-breaks g c told = let i = c.loop-outcome.invariant in on_err c.from_residual.result _ (λ run whole first t.
    c.in_err-next.ensures.breaks (i.told ∙ told) run whole first (i.ties told run whole first t))
