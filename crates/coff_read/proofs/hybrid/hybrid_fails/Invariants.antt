use Rattle.std.proofs.Common.{◌≡◌}
use Rattle.file_words.specs.Below.{any_below}
use Rattle.coff_read.specs.Refusals.{bad_hybrid}
use Rattle.coff_read.proofs.hybrid.hybrid_fails.Given as goal

abbrev pub invariant-loop-i : goal.invariant-loop-i
invariant-loop-i l = l.fails ≡ any_below (bad_hybrid l.bytes) l.i
