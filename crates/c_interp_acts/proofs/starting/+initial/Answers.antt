use Rattle.std.proofs.Common.{◌<◌, ap, sym, ◌∙◌, arith, length, take, map}
use Rattle.std.specs.Prelude.{slice_get, slice_set, Some}
use Rattle.std.proofs.lemmas.List.{length-set}
use Rattle.std.proofs.lemmas.Option.{slice_get-get_or}
use Rattle.c_values.specs.declared.value.Value.TheVariants as value
use Rattle.c_meaning.specs.Start.{initial, filled}
use Rattle.c_state.proofs.PartLaws.{part_put}
use Rattle.c_interp_acts.proofs.ConstantLaws.{filled_length, filled_on, filled_all}
use Rattle.c_interp_acts.proofs.starting.+initial.Goals as goal

pub fill-replace-part-requires : goal.fill-replace-part-requires
fill-replace-part-requires t c = omega (arith, c.loop-at-test.true, c.min-count.ensures, ap length c.as_slice.ensures, ap length c.loop-at.invariant, filled_length (map initial (take c.loop-at.at c.args.constants.now)) c.args.zeros)

pub fill-set-requires : goal.fill-set-requires
fill-set-requires t c = omega (arith, c.loop-at-test.true, c.min-count.ensures, ap length c.as_slice.ensures, ap length c.loop-at.invariant, filled_length (map initial (take c.loop-at.at c.args.constants.now)) c.args.zeros, ap length c.replace-part.ensures.new, length-set c.loop-at.parts c.loop-at.at value.Null)

pub fill-loop-at-preserved : goal.fill-loop-at-preserved
fill-loop-at-preserved t c =
    let cs = c.args.constants.now in let vs = c.args.zeros in let i = c.loop-at.at in let part = c.replace-part.result in let v = c.in_ok-initial.field-0 in let d = c.index-constants-at.result in
    let lt : i < length cs = omega (arith, c.loop-at-test.true, c.min-count.ensures) in
    c.set.ensures ∙ ap (λ l. slice_set l i v) c.replace-part.ensures.new ∙ part_put c.loop-at.parts i value.Null v
    ∙ ap (λ l. slice_set l i v) c.loop-at.invariant ∙ ap (slice_set (filled (map initial (take i cs)) vs) i) c.in_ok-initial.ensures
    ∙ filled_on cs vs i d part (slice_get-get_or cs i d lt ∙ ap Some (sym c.index-constants-at.is)) (ap (λ l. slice_get l i) (sym c.loop-at.invariant) ∙ c.replace-part.ensures.old)

pub fill-returns : goal.fill-returns
fill-returns t c = c.loop-at.invariant ∙ filled_all c.args.constants.now c.args.zeros c.loop-at.at (λ lt. omega (arith, lt, c.loop-at-test.false, c.min-count.ensures, ap length c.as_slice.ensures))
