use Rattle.std.proofs.Common.{◌≡◌, map, take}
use Rattle.c_tree.specs.Height.{tallest, global_decl_height, small}
use Rattle.c_tree.proofs.measure.of_globals.Given as goal

abbrev pub invariant-loop-decl : goal.invariant-loop-decl
invariant-loop-decl l = l.most ≡ small (tallest (map global_decl_height (take l.decl-index l.decls)))
