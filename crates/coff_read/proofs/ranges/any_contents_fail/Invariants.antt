use Rattle.std.proofs.Common.{◌≡◌}
use Rattle.file_words.specs.Below.{any_below}
use Rattle.coff_read.specs.Refusals.{bad_contents}
use Rattle.coff_read.proofs.ranges.any_contents_fail.Given as goal

abbrev pub invariant-loop-i : goal.invariant-loop-i
invariant-loop-i l = l.fails ≡ any_below (bad_contents l.bytes) l.i
