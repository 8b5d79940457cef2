use Rattle.std.proofs.Common.{◌≡◌}
use Rattle.file_words.specs.Below.{chosen}
use Rattle.coff_read.specs.Kept.{keeps_section}
use Rattle.coff_read.specs.Objects.{section}
use Rattle.coff_read.proofs.building.sections_of.Given as goal

abbrev pub invariant-loop-i : goal.invariant-loop-i
invariant-loop-i l = l.sections ≡ chosen (keeps_section l.bytes) (section l.bytes) l.i
