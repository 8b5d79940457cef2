use Rattle.std.proofs.Common.{◌≡◌, ◌≤◌}
use Rattle.file_words.specs.Below.{table, count_below}
use Rattle.coff_read.specs.Kept.{stays, new_symbol}
use Rattle.coff_read.proofs.kept.symbol_numbers.Given as goal

abbrev pub invariant-loop-j : goal.invariant-loop-j
invariant-loop-j l = record { next_is : l.next ≡ count_below (stays l.bytes) l.j; few : l.next ≤ l.j; items_are : l.numbers.items ≡ table (new_symbol l.bytes) l.j }
