use Rattle.std.proofs.Common.{◌≡◌}
use Rattle.c_program.specs.Nodes.{small}
use Rattle.c_program.specs.FrameBytes.{frame_bytes_of}
use Rattle.ec_limits.specs.Limits.{greatest_below}
use Rattle.ec_limits.proofs.limits.greatest_frame.Given as goal

abbrev pub invariant-loop-place : goal.invariant-loop-place
invariant-loop-place l = l.most ≡ small (greatest_below l.place (frame_bytes_of l.p))
