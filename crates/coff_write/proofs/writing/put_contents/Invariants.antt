use Rattle.std.proofs.Common.{◌≡◌, ◌++◌, drop}
use Rattle.coff_write.specs.Format.{section_contents}
use Rattle.coff_write.proofs.writing.put_contents.Given as goal

abbrev pub invariant-loop-s : goal.invariant-loop-s
invariant-loop-s l = l.out.items ++ section_contents (drop l.s-index l.sections) ≡ l.initial.out.items ++ section_contents l.sections
