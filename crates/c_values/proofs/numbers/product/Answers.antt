use Rattle.std.proofs.Common.{ap, ◌∙◌, ◌*ℤ◌}
use Rattle.std.specs.Int.{w128}
use Rattle.std.proofs.lemmas.Int.{wrapping_mul_is}
use Rattle.c_values.specs.Numbers.{wrapped}
use Rattle.c_values.proofs.NumberLaws.{wrapped_kept}
use Rattle.c_values.proofs.numbers.product.Goals as goal

pub returns : goal.returns
returns c = ap (wrapped c.args.ty) (wrapping_mul_is w128 c.args.a c.args.b c.ranges.a c.ranges.b) ∙ wrapped_kept c.args.ty (c.args.a *ℤ c.args.b)
