use Rattle.std.proofs.Common.{◌≡◌, ◌++◌, drop}
use Rattle.chpe_meta.specs.Format.{range_rows}
use Rattle.chpe_meta.proofs.writing.put_ranges.Given as goal

abbrev pub invariant-loop-r : goal.invariant-loop-r
invariant-loop-r l = l.out.items ++ range_rows (drop l.r-index l.ranges) ≡ l.initial.out.items ++ range_rows l.ranges
