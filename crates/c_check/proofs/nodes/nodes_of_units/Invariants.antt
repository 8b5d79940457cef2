use Rattle.std.proofs.Common.{◌≡◌, sum_by, take}
use Rattle.c_program.specs.Nodes.{small}
use Rattle.c_typing.specs.Items.{unit_nodes}
use Rattle.c_check.proofs.nodes.nodes_of_units.Given as goal

abbrev pub invariant-loop-unit : goal.invariant-loop-unit
invariant-loop-unit l = l.total ≡ small (sum_by unit_nodes (take l.unit-index l.units))
