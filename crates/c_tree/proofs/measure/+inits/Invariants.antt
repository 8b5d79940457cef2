use Rattle.std.proofs.Common.{◌≡◌, map, take}
use Rattle.c_tree.specs.Height.{tallest, init_height, small}
use Rattle.c_tree.proofs.measure.+inits.Given as goal

abbrev pub invariant-of_inits-loop-init : goal.invariant-of_inits-loop-init
invariant-of_inits-loop-init l = l.most ≡ small (tallest (map init_height (take l.init-index l.inits)))
