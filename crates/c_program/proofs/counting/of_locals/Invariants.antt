use Rattle.std.proofs.Common.{◌≡◌, sum_by, take}
use Rattle.c_program.specs.Nodes.{declared_nodes, small}
use Rattle.c_program.proofs.counting.of_locals.Given as goal

abbrev pub invariant-loop-declared : goal.invariant-loop-declared
invariant-loop-declared l = l.total ≡ small (sum_by declared_nodes (take l.declared-index l.locals))
