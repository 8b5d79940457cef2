use Rattle.std.proofs.Common.{◌≡◌, ◌++◌, drop}
use Rattle.link_resolve.specs.Symbols.{symbols_in}
use Rattle.link_resolve.proofs.listing.add_symbols.Given as goal

abbrev pub invariant-loop-k : goal.invariant-loop-k
invariant-loop-k l = l.list.items ++ symbols_in l.number l.before l.object l.k (drop l.k l.object.symbols) ≡ l.fn.list.items ++ symbols_in l.number l.before l.object 0 l.object.symbols
