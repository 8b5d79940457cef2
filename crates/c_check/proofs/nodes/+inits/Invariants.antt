use Rattle.std.proofs.Common.{◌≡◌, sum_by, take}
use Rattle.c_program.specs.Nodes.{small}
use Rattle.c_typing.specs.Items.{init_nodes}
use Rattle.c_check.proofs.nodes.+inits.Given as goal

abbrev pub invariant-of_inits-loop-init : goal.invariant-of_inits-loop-init
invariant-of_inits-loop-init l = l.total ≡ small (sum_by init_nodes (take l.init-index l.inits))
