use Rattle.std.proofs.Common.{◌≡◌, map, take}
use Rattle.c_tree.specs.Height.{tallest, expr_height, small}
use Rattle.c_tree.proofs.measure.+expressions.Given as goal

abbrev pub invariant-of_exprs-loop-e : goal.invariant-of_exprs-loop-e
invariant-of_exprs-loop-e l = l.most ≡ small (tallest (map expr_height (take l.e-index l.exprs)))
