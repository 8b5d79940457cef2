use Rattle.std.proofs.Common.{◌≡◌}
use Rattle.file_words.specs.Below.{table}
use Rattle.coff_read.specs.Objects.{hybrid_row}
use Rattle.coff_read.proofs.hybrid.rows_of.Given as goal

abbrev pub invariant-loop-r : goal.invariant-loop-r
invariant-loop-r l = l.rows ≡ table (hybrid_row l.bytes l.i) l.r
