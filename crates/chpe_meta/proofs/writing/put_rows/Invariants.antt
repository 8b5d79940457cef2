use Rattle.std.proofs.Common.{◌≡◌, ◌++◌, ◌+◌, ◌<◌, drop}
use Rattle.chpe_meta.specs.Format.{function_rows, names_size}
use Rattle.chpe_meta.proofs.writing.put_rows.Given as goal

abbrev pub invariant-loop-r : goal.invariant-loop-r
invariant-loop-r l = record {
  items : l.out.items ++ function_rows l.name (drop l.r-index l.rows) ≡ l.initial.out.items ++ function_rows l.names l.rows;
  room : l.name + names_size (drop l.r-index l.rows) < 4294967296;
}
