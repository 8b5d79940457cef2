use Rattle.std.proofs.Common.{◌≡◌, ◌-◌, [], ◌∷◌, ◌++◌, ap, ◌∙◌, arith, length}
use Rattle.std.specs.Prelude.{replicate}
use Rattle.c_values.specs.Objects.{nothing}
use Rattle.c_interp_acts.proofs.MachineLaws.{one_more_filled}
use Rattle.c_interp_acts.proofs.calling.filled.Goals as goal

pub loop-more-preserved : goal.loop-more-preserved
loop-more-preserved c = c.in_ok-push.ensures.ok ∙ ap (λ l. l ++ nothing ∷ []) c.loop-more.invariant ∙ one_more_filled c.args.values c.loop-more._more

pub returns : goal.returns
returns c =
    let e : c.loop-more._more ≡ c.args.count - length c.args.values = omega (arith, c.loop-more-test.false, c.loop-more.auto._more-end, c.saturating_sub-missing.ensures, ap length c.as_slice.ensures) in
    c.loop-more.invariant ∙ ap (λ n. c.args.values ++ replicate n nothing) e
