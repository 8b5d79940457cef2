use Rattle.std.proofs.Common.{◌≡◌, ◌++◌, drop}
use Rattle.link_resolve.specs.Refusals.{left_from}
use Rattle.link_resolve.proofs.keeping.left_out.Given as goal

abbrev pub invariant-loop-n : goal.invariant-loop-n
invariant-loop-n l = l.left.items ++ left_from l.table l.n (drop l.n l.sections) ≡ left_from l.table 0 l.sections
