use Rattle.std.proofs.Common.{ap, ◌∙◌, sym}
use Rattle.std.specs.Prelude.{slice_set}
use Rattle.c_values.specs.declared.value.Value.TheVariants as value
use Rattle.c_values.specs.Objects.{write_path}
use Rattle.c_values.proofs.ValueLaws.{part_put, part_found, write_path-end, no_steps}
use Rattle.c_values.proofs.objects.+write.Goals as goal

pub with_part-returns : goal.with_part-returns
with_part-returns t c = let vs = c.args.parts in let k = c.args.at in
    c.set.ensures ∙ ap (λ l. slice_set l k c.write.result) c.replace-part.ensures.new ∙ part_put vs k value.Null c.write.result
    ∙ ap (slice_set vs k) (c.write.ensures ∙ ap (λ v. write_path v c.args.path.now c.args.new) (sym (part_found vs k c.replace-part.result c.replace-part.ensures.old)))

pub write-returns-in_default : goal.write-returns-in_default
write-returns-in_default t c = sym (ap (λ p. write_path c.args.v p c.args.new) (no_steps c.args.path.now c.in_default.ensures.cases) ∙ write_path-end c.args.v c.args.new)
