use Rattle.std.proofs.Common.{◌≡◌, ◌++◌, ◌+◌, ◌<◌, drop}
use Rattle.pe_write_laws.specs.Format.{section_rows, contents_size}
use Rattle.pe_write.proofs.sections.put_section_rows.Given as goal

abbrev pub invariant-loop-s : goal.invariant-loop-s
invariant-loop-s l = record {
  items : l.out.items ++ section_rows l.place (drop l.s-index l.sections) ≡ l.initial.out.items ++ section_rows l.start l.sections;
  room : l.place + contents_size (drop l.s-index l.sections) < 4294967296;
}
