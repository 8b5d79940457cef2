use Rattle.std.proofs.Common.{◌≡◌, ◌++◌, drop}
use Rattle.chpe_meta.specs.Format.{name_texts}
use Rattle.chpe_meta.proofs.writing.put_names.Given as goal

abbrev pub invariant-loop-r : goal.invariant-loop-r
invariant-loop-r l = l.out.items ++ name_texts (drop l.r-index l.rows) ≡ l.initial.out.items ++ name_texts l.rows
