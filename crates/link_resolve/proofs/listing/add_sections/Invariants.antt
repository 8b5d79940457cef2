use Rattle.std.proofs.Common.{◌≡◌, ◌++◌, drop}
use Rattle.link_resolve.specs.Symbols.{sections_in}
use Rattle.link_resolve.proofs.listing.add_sections.Given as goal

abbrev pub invariant-loop-k : goal.invariant-loop-k
invariant-loop-k l = l.list.items ++ sections_in l.number l.k (drop l.k l.sections) ≡ l.fn.list.items ++ sections_in l.number 0 l.sections
