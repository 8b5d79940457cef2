use Rattle.std.proofs.Common.{◌≡◌, take, map}
use Rattle.c_meaning.specs.Start.{initial, filled}
use Rattle.c_interp_acts.proofs.starting.+initial.Given as goal

abbrev pub invariant-fill-loop-at : goal.invariant-fill-loop-at
invariant-fill-loop-at l = l.parts ≡ filled (map initial (take l.at l.constants)) l.fn.zeros
