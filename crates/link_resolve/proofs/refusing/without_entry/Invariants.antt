use Rattle.std.proofs.Common.{◌≡◌, drop}
use Rattle.std.specs.Prelude.{find}
use Rattle.link_resolve.specs.Refusals.{lacks_entry}
use Rattle.link_resolve.proofs.refusing.without_entry.Given as goal

abbrev pub invariant-loop-symbol : goal.invariant-loop-symbol
invariant-loop-symbol l = find (lacks_entry l.left) (drop l.symbol-index l.table) ≡ find (lacks_entry l.left) l.table
