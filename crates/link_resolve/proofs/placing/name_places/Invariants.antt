use Rattle.std.proofs.Common.{◌≡◌, ◌++◌, drop}
use Rattle.link_resolve.specs.Resolution.{entries_from}
use Rattle.link_resolve.proofs.placing.name_places.Given as goal

abbrev pub invariant-loop-symbol : goal.invariant-loop-symbol
invariant-loop-symbol l = l.names ++ entries_from l.table (drop l.symbol-index l.table) ≡ entries_from l.table l.table
