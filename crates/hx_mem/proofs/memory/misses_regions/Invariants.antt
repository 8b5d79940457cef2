use Rattle.std.proofs.Common.{◌≡◌, drop}
use Rattle.hx_mem.specs.Space.{misses}
use Rattle.hx_mem.proofs.memory.misses_regions.Given as goal

abbrev pub invariant-loop-region : goal.invariant-loop-region
invariant-loop-region l = misses l.fn.regions l.start l.length ≡ misses (drop l.region-index l.regions) l.start l.length
