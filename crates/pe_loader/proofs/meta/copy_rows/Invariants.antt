use Rattle.std.proofs.Common.{◌≡◌, ◌++◌, drop}
use Rattle.pe_loader.proofs.meta.copy_rows.Given as goal

abbrev pub invariant-loop-row : goal.invariant-loop-row
invariant-loop-row l = l.copies ++ drop l.row-index l.rows ≡ l.fn.rows
