use Rattle.std.proofs.Common.{◌≡◌, ◌++◌, drop}
use Rattle.coff_write.specs.Format.{hybrid_rows}
use Rattle.coff_write.proofs.writing.put_hybrid_rows.Given as goal

abbrev pub invariant-loop-r : goal.invariant-loop-r
invariant-loop-r l = l.out.items ++ hybrid_rows l.records (drop l.r-index l.rows) ≡ l.initial.out.items ++ hybrid_rows l.records l.rows
