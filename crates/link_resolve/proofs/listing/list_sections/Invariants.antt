use Rattle.std.proofs.Common.{◌≡◌, ◌≤◌, ◌++◌, drop}
use Rattle.link_resolve.specs.Symbols.{sections_from, section_total}
use Rattle.link_resolve.proofs.listing.list_sections.Given as goal

abbrev pub invariant-loop-o : goal.invariant-loop-o
invariant-loop-o l = record { items : l.list.items ++ sections_from l.o (drop l.o l.objects) ≡ sections_from 0 l.objects; total : section_total (drop l.o l.objects) ≤ section_total l.objects }
