use Rattle.std.proofs.Common.{◌≡◌}
use Rattle.file_words.specs.Below.{table}
use Rattle.pe_fields.specs.Imports.{slot}
use Rattle.pe_fields.proofs.imports.slots.Given as goal

abbrev pub invariant-loop-k : goal.invariant-loop-k
invariant-loop-k l = l.found ≡ table (slot l.sections l.rva) l.k
