use Rattle.std.proofs.Common.{◌≡◌}
use Rattle.file_words.specs.Below.{past_last}
use Rattle.chpe_meta.specs.Fields.{is_zero}
use Rattle.chpe_meta.proofs.fields.past_last_zero.Given as goal

abbrev pub invariant-loop-k : goal.invariant-loop-k
invariant-loop-k l = l.end ≡ past_last (is_zero l.bytes) l.k
