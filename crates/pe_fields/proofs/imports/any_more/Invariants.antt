use Rattle.std.proofs.Common.{◌≡◌}
use Rattle.file_words.specs.Below.{any_below}
use Rattle.pe_fields.specs.Imports.{is_more}
use Rattle.pe_fields.proofs.imports.any_more.Given as goal

abbrev pub invariant-loop-k : goal.invariant-loop-k
invariant-loop-k l = l.more ≡ any_below (is_more l.sections l.rva) l.k
