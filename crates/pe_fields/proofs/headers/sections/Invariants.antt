use Rattle.std.proofs.Common.{◌≡◌}
use Rattle.file_words.specs.Below.{table}
use Rattle.pe_fields.specs.Headers.{section}
use Rattle.pe_fields.proofs.headers.sections.Given as goal

abbrev pub invariant-loop-i : goal.invariant-loop-i
invariant-loop-i l = l.sections ≡ table (section l.bytes) l.i
