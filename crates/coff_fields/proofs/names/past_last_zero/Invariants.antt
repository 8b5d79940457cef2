use Rattle.std.proofs.Common.{◌≡◌}
use Rattle.file_words.specs.Below.{past_last}
use Rattle.coff_fields.specs.Names.{is_zero}
use Rattle.coff_fields.proofs.names.past_last_zero.Given as goal

abbrev pub invariant-loop-k : goal.invariant-loop-k
invariant-loop-k l = l.end ≡ past_last (is_zero l.text) l.k
