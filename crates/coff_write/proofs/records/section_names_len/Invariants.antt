use Rattle.std.proofs.Common.{◌≡◌, ◌+◌, ◌≤◌, drop}
use Rattle.std.specs.Prelude.{min}
use Rattle.coff_write.specs.Format.{section_names_size, cap}
use Rattle.coff_write.proofs.records.section_names_len.Given as goal

abbrev pub invariant-loop-s : goal.invariant-loop-s
invariant-loop-s l = record { sum : min (l.total + section_names_size (drop l.s-index l.sections)) cap ≡ min (section_names_size l.sections) cap; bound : l.total ≤ cap }
