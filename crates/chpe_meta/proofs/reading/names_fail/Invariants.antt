use Rattle.std.proofs.Common.{◌≡◌}
use Rattle.file_words.specs.Below.{any_below}
use Rattle.chpe_meta.specs.Fields.{open_name}
use Rattle.chpe_meta.proofs.reading.names_fail.Given as goal

abbrev pub invariant-loop-i : goal.invariant-loop-i
invariant-loop-i l = l.fails ≡ any_below (open_name l.bytes l.at) l.i
