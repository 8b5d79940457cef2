use Rattle.std.proofs.Common.{◌≡◌, ◌++◌, drop}
use Rattle.link_resolve.specs.Resolution.{kept_from}
use Rattle.link_resolve.proofs.keeping.kept_sections.Given as goal

abbrev pub invariant-loop-n : goal.invariant-loop-n
invariant-loop-n l = l.kept ++ kept_from l.left l.n (drop l.n l.sections) ≡ kept_from l.left 0 l.sections
