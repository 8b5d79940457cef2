use Rattle.std.proofs.Common.{◌≡◌, ◌++◌, drop}
use Rattle.coff_write.specs.Format.{section_relocations}
use Rattle.coff_write.proofs.writing.put_all_relocations.Given as goal

abbrev pub invariant-loop-s : goal.invariant-loop-s
invariant-loop-s l = l.out.items ++ section_relocations l.machine l.records (drop l.s-index l.sections) ≡ l.initial.out.items ++ section_relocations l.machine l.records l.sections
