use Rattle.std.proofs.Common.{◌≡◌, ◌≤◌}
use Rattle.file_words.specs.Below.{table, count_below}
use Rattle.coff_read.specs.Kept.{keeps_section}
use Rattle.coff_read.specs.Stages.{section_number}
use Rattle.coff_read.proofs.kept.section_numbers.Given as goal

abbrev pub invariant-loop-i : goal.invariant-loop-i
invariant-loop-i l = record { next_is : l.next ≡ count_below (keeps_section l.bytes) l.i; few : l.next ≤ l.i; items_are : l.numbers.items ≡ table (section_number l.bytes) l.i }
