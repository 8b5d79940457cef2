use Rattle.std.proofs.Common.{◌≡◌}
use Rattle.file_words.specs.Below.{any_below}
use Rattle.pe_read.specs.Refusals.{bad_use}
use Rattle.pe_read.proofs.directories.any_use_fails.Given as goal

abbrev pub invariant-loop-d : goal.invariant-loop-d
invariant-loop-d l = l.fails ≡ any_below (bad_use l.bytes) l.d
