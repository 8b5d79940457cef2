use Rattle.std.proofs.Common.{◌≡◌}
use Rattle.file_words.specs.Below.{table}
use Rattle.coff_read.specs.Objects.{site}
use Rattle.coff_read.proofs.building.sites_of.Given as goal

abbrev pub invariant-loop-r : goal.invariant-loop-r
invariant-loop-r l = l.sites ≡ table (site l.bytes l.i) l.r
