use Rattle.std.proofs.Common.{◌≡◌}
use Rattle.file_words.specs.Below.{any_below}
use Rattle.pe_read.specs.Refusals.{bad_section}
use Rattle.pe_read.proofs.headers.section_range_fails.Given as goal

abbrev pub invariant-loop-i : goal.invariant-loop-i
invariant-loop-i l = l.fails ≡ any_below (bad_section l.bytes) l.i
