use Rattle.std.proofs.Common.{◌≡◌, None}
use Rattle.file_words.specs.Below.{first_below}
use Rattle.pe_fields.specs.Imports.{is_last}
use Rattle.pe_fields.proofs.imports.entry_count.Given as goal

abbrev pub invariant-loop-k : goal.invariant-loop-k
invariant-loop-k l = None ≡ first_below (is_last l.table) l.k
