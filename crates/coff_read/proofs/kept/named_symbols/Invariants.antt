use Rattle.std.proofs.Common.{◌≡◌}
use Rattle.file_words.specs.Below.{table}
use Rattle.coff_fields.specs.Fields.{symbol_count}
use Rattle.coff_read.specs.Stages.{named_before}
use Rattle.coff_read.proofs.kept.named_symbols.Given as goal

abbrev pub invariant-loop-i : goal.invariant-loop-i
invariant-loop-i l = l.marks.items ≡ table (named_before l.bytes l.i) (symbol_count l.bytes)
