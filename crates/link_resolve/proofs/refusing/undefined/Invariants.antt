use Rattle.std.proofs.Common.{◌≡◌, drop}
use Rattle.std.specs.Prelude.{find}
use Rattle.link_resolve.specs.Refusals.{is_undefined}
use Rattle.link_resolve.proofs.refusing.undefined.Given as goal

abbrev pub invariant-loop-symbol : goal.invariant-loop-symbol
invariant-loop-symbol l = find (is_undefined l.table) (drop l.symbol-index l.table) ≡ find (is_undefined l.table) l.table
