use Rattle.std.proofs.Common.{◌≡◌, sum_by, take}
use Rattle.c_program.specs.Nodes.{small}
use Rattle.c_typing.specs.Items.{global_nodes}
use Rattle.c_check.proofs.nodes.of_globals.Given as goal

abbrev pub invariant-loop-global : goal.invariant-loop-global
invariant-loop-global l = l.total ≡ small (sum_by global_nodes (take l.global-index l.globals))
