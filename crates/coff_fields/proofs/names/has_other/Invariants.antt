use Rattle.std.proofs.Common.{◌≡◌, not, get_or}
use Rattle.file_words.specs.Below.{any_below}
use Rattle.coff_fields.specs.Names.{is_digit}
use Rattle.coff_fields.proofs.names.has_other.Given as goal

abbrev pub invariant-loop-c : goal.invariant-loop-c
invariant-loop-c l = l.other ≡ any_below (λ k. not (is_digit (get_or l.text k 0))) l.c-index
