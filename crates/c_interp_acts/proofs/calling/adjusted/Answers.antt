use Rattle.std.proofs.Common.{rules, ap, ◌∙◌, sym, to_z-of_z}
use Rattle.std.specs.Prelude.{slice_set, slice_get}
use mir.Syntax.{w32}
use mir.Val.{SFits}
use Rattle.c_values.specs.declared.value.Value.TheVariants as value
use Rattle.c_state.proofs.PartLaws.{part_put, part_found}
use Rattle.c_meaning.specs.Rules.{shifted}
use Rattle.c_interp_acts.proofs.calling.adjusted.Goals as goal

pub returns : goal.returns
returns c =
    let vs = c.args.arguments in let k = c.args.a.now.parameter in let old = c.replace-old.result in let ps = c.args.f.now.params in
    let fits : SFits w32 c.args.a.now.amount = search rules in
    c.set.ensures ∙ ap (λ l. slice_set l k c.shifted.result) c.replace-old.ensures.new ∙ part_put vs k value.Null c.shifted.result
    ∙ ap (slice_set vs k) (c.shifted.ensures ∙ ap (λ n. shifted c.parameter_type.result n old) (to_z-of_z fits) ∙ ap (λ t. shifted t c.args.a.now.amount old) c.parameter_type.ensures ∙ ap (shifted (slice_get ps k) c.args.a.now.amount) (sym (part_found vs k old c.replace-old.ensures.old)))
