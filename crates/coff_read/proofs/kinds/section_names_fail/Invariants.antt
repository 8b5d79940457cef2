use Rattle.std.proofs.Common.{◌≡◌}
use Rattle.file_words.specs.Below.{any_below}
use Rattle.coff_fields.specs.Names.{bad_section_name}
use Rattle.coff_read.proofs.kinds.section_names_fail.Given as goal

abbrev pub invariant-loop-i : goal.invariant-loop-i
invariant-loop-i l = l.fails ≡ any_below (bad_section_name l.bytes) l.i
