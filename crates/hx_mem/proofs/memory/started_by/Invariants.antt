use Rattle.std.proofs.Common.{◌≤◌, ◌-◌, length}
use Rattle.hx_mem.specs.Found.{AllStartBy, AllStartPast}
use Rattle.hx_mem.proofs.memory.started_by.Given as goal

abbrev pub invariant-loop-low : goal.invariant-loop-low
invariant-loop-low l = record {
  order : l.low ≤ l.high;
  within : l.high ≤ length l.regions;
  started : AllStartBy l.regions l.at l.low;
  others : AllStartPast l.regions l.at l.high;
}

abbrev pub decreases-loop-low : goal.decreases-loop-low
decreases-loop-low l = l.high - l.low
