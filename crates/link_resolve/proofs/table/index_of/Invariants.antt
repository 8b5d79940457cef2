use Rattle.std.proofs.Common.{take}
use Rattle.link_resolve.specs.Index.{Indexes}
use Rattle.link_resolve.proofs.table.index_of.Given as goal

abbrev pub invariant-loop-i : goal.invariant-loop-i
invariant-loop-i l = Indexes l.index (take l.i l.list)
