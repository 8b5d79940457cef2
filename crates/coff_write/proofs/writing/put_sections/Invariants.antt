use Rattle.std.proofs.Common.{◌≡◌, ◌+◌, ◌≤◌, ◌*◌, ◌++◌, drop}
use Rattle.coff_write.specs.Format.{section_headers, section_names_size, contents_size, rows_count, cap}
use Rattle.coff_write.proofs.writing.put_sections.Given as goal

abbrev pub invariant-loop-s : goal.invariant-loop-s
invariant-loop-s l = record {
  items : l.out.items ++ section_headers l.at.name l.at.contents l.at.rows (drop l.s-index l.sections) ≡ l.initial.out.items ++ section_headers l.fn.start.name l.fn.start.contents l.fn.start.rows l.sections;
  name : l.at.name + section_names_size (drop l.s-index l.sections) ≤ cap;
  contents : l.at.contents + contents_size (drop l.s-index l.sections) ≤ cap;
  rows : l.at.rows + 10 * rows_count (drop l.s-index l.sections) ≤ cap;
}
