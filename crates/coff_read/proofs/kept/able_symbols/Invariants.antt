use Rattle.std.proofs.Common.{◌≡◌}
use Rattle.file_words.specs.Below.{table}
use Rattle.coff_fields.specs.Fields.{skip_at}
use Rattle.coff_read.specs.Kept.{may_stay}
use Rattle.coff_read.proofs.kept.able_symbols.Given as goal

abbrev pub invariant-loop-j : goal.invariant-loop-j
invariant-loop-j l = record { skip_is : l.skip ≡ skip_at l.bytes l.j; items_are : l.able.items ≡ table (may_stay l.bytes) l.j }
