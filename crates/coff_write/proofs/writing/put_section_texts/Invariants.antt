use Rattle.std.proofs.Common.{◌≡◌, ◌++◌, drop}
use Rattle.coff_write.specs.Format.{section_texts}
use Rattle.coff_write.proofs.writing.put_section_texts.Given as goal

abbrev pub invariant-loop-s : goal.invariant-loop-s
invariant-loop-s l = l.out.items ++ section_texts (drop l.s-index l.sections) ≡ l.initial.out.items ++ section_texts l.sections
