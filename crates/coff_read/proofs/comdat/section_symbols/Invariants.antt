use Rattle.std.proofs.Common.{◌≡◌}
use Rattle.file_words.specs.Below.{table}
use Rattle.coff_fields.specs.Fields.{section_count, skip_at}
use Rattle.coff_read.specs.Stages.{start_before}
use Rattle.coff_read.proofs.comdat.section_symbols.Given as goal

abbrev pub invariant-loop-j : goal.invariant-loop-j
invariant-loop-j l = record { skip_is : l.skip ≡ skip_at l.bytes l.j; items_are : l.starts.items ≡ table (start_before l.bytes l.j) (section_count l.bytes) }
