use Rattle.std.proofs.Common.{◌≡◌, drop}
use Rattle.std.specs.Prelude.{find}
use Rattle.link_resolve.specs.Refusals.{is_duplicate}
use Rattle.link_resolve.proofs.refusing.duplicate.Given as goal

abbrev pub invariant-loop-symbol : goal.invariant-loop-symbol
invariant-loop-symbol l = find (is_duplicate l.table) (drop l.symbol-index l.table) ≡ find (is_duplicate l.table) l.table
