use Rattle.std.proofs.Common.{◌≡◌}
use Rattle.file_words.specs.Below.{any_below}
use Rattle.coff_read.specs.Refusals.{bad_row}
use Rattle.coff_read.proofs.hybrid.any_row_fails.Given as goal

abbrev pub invariant-loop-r : goal.invariant-loop-r
invariant-loop-r l = l.fails ≡ any_below (bad_row l.bytes l.i) l.r
