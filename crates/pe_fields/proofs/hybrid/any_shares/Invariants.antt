use Rattle.std.proofs.Common.{◌≡◌, ◌||◌, drop, None}
use Rattle.pe_fields.specs.Stages.{walk}
use Rattle.pe_fields.proofs.hybrid.any_shares.Given as goal

abbrev pub invariant-loop-range : goal.invariant-loop-range
invariant-loop-range l = (l.found || walk l.last (drop l.range-index l.ranges)) ≡ walk None l.ranges
