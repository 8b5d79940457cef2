use Rattle.std.proofs.Common.{◌≡◌}
use Rattle.file_words.specs.Below.{table}
use Rattle.coff_read.specs.Kept.{stays}
use Rattle.coff_read.proofs.kept.kept_symbols.Given as goal

abbrev pub invariant-loop-j : goal.invariant-loop-j
invariant-loop-j l = l.kept.items ≡ table (stays l.bytes) l.j
