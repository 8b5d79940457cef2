use Rattle.std.proofs.Common.{◌≡◌, ◌+◌, ◌++◌, drop}
use Rattle.link_resolve.specs.Symbols.{symbols_from, section_total}
use Rattle.link_resolve.proofs.listing.list_symbols.Given as goal

abbrev pub invariant-loop-o : goal.invariant-loop-o
invariant-loop-o l = record { items : l.list.items ++ symbols_from l.o l.before (drop l.o l.objects) ≡ symbols_from 0 0 l.objects; total : l.before + section_total (drop l.o l.objects) ≡ section_total l.objects }
