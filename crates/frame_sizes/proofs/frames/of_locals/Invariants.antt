use Rattle.std.proofs.Common.{◌≡◌, sum_by, take}
use Rattle.c_program.specs.FrameBytes.{declared_bytes}
use Rattle.c_program.specs.Nodes.{small}
use Rattle.frame_sizes.proofs.frames.of_locals.Given as goal

abbrev pub invariant-loop-declared : goal.invariant-loop-declared
invariant-loop-declared l = l.total ≡ small (sum_by (declared_bytes l.types) (take l.declared-index l.locals))
