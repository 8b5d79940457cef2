use Rattle.std.proofs.Common.{◌≡◌, sum_by, take}
use Rattle.c_types.specs.Layout.{size_of}
use Rattle.c_program.specs.Nodes.{small}
use Rattle.frame_sizes.proofs.frames.of_variables.Given as goal

abbrev pub invariant-loop-ty : goal.invariant-loop-ty
invariant-loop-ty l = l.total ≡ small (sum_by (size_of l.types) (take l.ty-index l.tys))
