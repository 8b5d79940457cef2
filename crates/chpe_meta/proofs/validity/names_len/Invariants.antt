use Rattle.std.proofs.Common.{◌≡◌, ◌+◌, ◌≤◌, drop}
use Rattle.std.specs.Prelude.{min}
use Rattle.chpe_meta.specs.Format.{names_size}
use Rattle.chpe_meta.proofs.validity.names_len.Given as goal

abbrev pub invariant-loop-row : goal.invariant-loop-row
invariant-loop-row l = record { sum : min (l.total + names_size (drop l.row-index l.rows)) 4294967296 ≡ min (names_size l.rows) 4294967296; bound : l.total ≤ 4294967296 }
