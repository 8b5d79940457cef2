use Rattle.std.proofs.Common.{◌≡◌}
use Rattle.file_words.specs.Below.{any_below}
use Rattle.pe_fields.specs.Imports.{differs}
use Rattle.pe_fields.proofs.imports.any_differs.Given as goal

abbrev pub invariant-loop-k : goal.invariant-loop-k
invariant-loop-k l = l.found ≡ any_below (differs l.table l.other) l.k
