use Rattle.std.proofs.Common.{◌≡◌}
use Rattle.file_words.specs.Below.{table}
use Rattle.coff_fields.specs.Fields.{symbol_count}
use Rattle.coff_read.specs.Stages.{named_until}
use Rattle.coff_read.proofs.kept.mark_sites.Given as goal

abbrev pub invariant-loop-r : goal.invariant-loop-r
invariant-loop-r l = l.marks ≡ table (named_until l.bytes l.i l.r) (symbol_count l.bytes)
