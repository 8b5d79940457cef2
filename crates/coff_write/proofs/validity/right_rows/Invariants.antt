use Rattle.std.proofs.Common.{◌≡◌, drop}
use Rattle.coff_write.specs.Valid.{valid_rows}
use Rattle.coff_write.proofs.validity.right_rows.Given as goal

abbrev pub invariant-loop-r : goal.invariant-loop-r
invariant-loop-r l = valid_rows l.symbols (drop l.r-index l.rows) ≡ valid_rows l.symbols l.rows
