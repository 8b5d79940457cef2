use Rattle.std.proofs.Common.{◌≡◌}
use Rattle.file_words.specs.Below.{any_below}
use Rattle.coff_fields.specs.Fields.{skip_at}
use Rattle.coff_read.specs.Refusals.{bad_symbol_name}
use Rattle.coff_read.proofs.kinds.symbol_names_fail.Given as goal

abbrev pub invariant-loop-j : goal.invariant-loop-j
invariant-loop-j l = record { skip_is : l.skip ≡ skip_at l.bytes l.j; fails_is : l.fails ≡ any_below (bad_symbol_name l.bytes) l.j }
