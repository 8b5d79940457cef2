use Rattle.std.proofs.Common.{ap, ◌∙◌, sym}
use Rattle.std.specs.Prelude.{slice_set}
use Rattle.c_values.specs.declared.value.Value.TheVariants as value
use Rattle.c_values.specs.Objects.{write_path}
use Rattle.c_state.proofs.PartLaws.{part_put, part_found}
use Rattle.c_state.proofs.activation.rewrite.Goals as goal

pub returns : goal.returns
returns c = let vs = c.args.parts.now in let k = c.args.at in
    c.set.ensures ∙ ap (λ l. slice_set l k c.write.result) c.replace-part.ensures.new ∙ part_put vs k value.Null c.write.result
    ∙ ap (slice_set vs k) (c.write.ensures ∙ ap (λ v. write_path v c.args.path.now c.args.new) (sym (part_found vs k c.replace-part.result c.replace-part.ensures.old)))
