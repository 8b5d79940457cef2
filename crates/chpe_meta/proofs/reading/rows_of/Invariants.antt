use Rattle.std.proofs.Common.{◌≡◌}
use Rattle.file_words.specs.Below.{table}
use Rattle.chpe_meta.specs.Fields.{row}
use Rattle.chpe_meta.proofs.reading.rows_of.Given as goal

abbrev pub invariant-loop-i : goal.invariant-loop-i
invariant-loop-i l = l.rows ≡ table (row l.bytes l.at) l.i
