use Rattle.std.proofs.Common.{◌≡◌}
use Rattle.file_words.specs.Below.{chosen}
use Rattle.coff_read.specs.Kept.{stays}
use Rattle.coff_read.specs.Objects.{symbol}
use Rattle.coff_read.proofs.building.symbols_of.Given as goal

abbrev pub invariant-loop-j : goal.invariant-loop-j
invariant-loop-j l = l.symbols ≡ chosen (stays l.bytes) (symbol l.bytes) l.j
