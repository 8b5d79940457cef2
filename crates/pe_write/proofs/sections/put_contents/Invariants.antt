use Rattle.std.proofs.Common.{◌≡◌, ◌++◌, ◌<◌, drop}
use Rattle.pe_write_laws.specs.Format.{contents, contents_size}
use Rattle.pe_write.proofs.sections.put_contents.Given as goal

abbrev pub invariant-loop-s : goal.invariant-loop-s
invariant-loop-s l = record {
  items : l.out.items ++ contents (drop l.s-index l.sections) ≡ l.initial.out.items ++ contents l.sections;
  room : contents_size (drop l.s-index l.sections) < 4294967296;
}
