use Rattle.std.proofs.Common.{◌≡◌}
use Rattle.file_words.specs.Below.{any_below}
use Rattle.pe_fields.specs.Imports.{bad_name}
use Rattle.pe_fields.proofs.imports.any_name_fails.Given as goal

abbrev pub invariant-loop-k : goal.invariant-loop-k
invariant-loop-k l = l.found ≡ any_below (bad_name l.sections l.table) l.k
