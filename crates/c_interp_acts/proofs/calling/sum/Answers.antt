use Rattle.std.proofs.Common.{ap, ◌∙◌, ◌+ℤ◌}
use Rattle.std.specs.Int.{w128}
use Rattle.std.proofs.lemmas.Int.{wrapping_add_is}
use Rattle.c_values.specs.Numbers.{wrapped}
use Rattle.c_interp_acts.proofs.SumLaws.{wrapped_kept}
use Rattle.c_interp_acts.proofs.calling.sum.Goals as goal

pub returns : goal.returns
returns c = ap (wrapped c.args.int) (wrapping_add_is w128 c.args.a c.args.b c.ranges.a c.ranges.b) ∙ wrapped_kept c.args.int (c.args.a +ℤ c.args.b)
