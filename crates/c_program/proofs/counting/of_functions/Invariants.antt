use Rattle.std.proofs.Common.{◌≡◌, sum_by, take}
use Rattle.c_program.specs.Nodes.{function_nodes, small}
use Rattle.c_program.proofs.counting.of_functions.Given as goal

abbrev pub invariant-loop-f : goal.invariant-loop-f
invariant-loop-f l = l.total ≡ small (sum_by (function_nodes l.funs) (take l.f-index l.functions))
