use Rattle.std.proofs.Common.{◌≡◌}
use Rattle.file_words.specs.Below.{gathered}
use Rattle.coff_read.specs.Kept.{is_hybrid}
use Rattle.coff_read.specs.Objects.{hybrid_rows}
use Rattle.coff_read.proofs.hybrid.all_rows.Given as goal

abbrev pub invariant-loop-i : goal.invariant-loop-i
invariant-loop-i l = l.rows ≡ gathered (is_hybrid l.bytes) (hybrid_rows l.bytes) l.i
