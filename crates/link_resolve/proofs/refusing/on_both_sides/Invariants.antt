use Rattle.std.proofs.Common.{◌≡◌, drop}
use Rattle.std.specs.Prelude.{find}
use Rattle.link_resolve.specs.Refusals.{is_on_both_sides}
use Rattle.link_resolve.proofs.refusing.on_both_sides.Given as goal

abbrev pub invariant-loop-symbol : goal.invariant-loop-symbol
invariant-loop-symbol l = find (is_on_both_sides l.table) (drop l.symbol-index l.table) ≡ find (is_on_both_sides l.table) l.table
