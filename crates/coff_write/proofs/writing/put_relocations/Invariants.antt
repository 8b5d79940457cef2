use Rattle.std.proofs.Common.{◌≡◌, ◌++◌, drop}
use Rattle.coff_write.specs.Format.{relocations}
use Rattle.coff_write.proofs.writing.put_relocations.Given as goal

abbrev pub invariant-loop-t : goal.invariant-loop-t
invariant-loop-t l = l.out.items ++ relocations l.machine l.records (drop l.t-index l.sites) ≡ l.initial.out.items ++ relocations l.machine l.records l.sites
