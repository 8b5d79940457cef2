use Rattle.std.proofs.Common.{◌≡◌, drop}
use Rattle.coff_write.specs.Valid.{is_named}
use Rattle.coff_write.proofs.validity.named.Given as goal

abbrev pub invariant-loop-s : goal.invariant-loop-s
invariant-loop-s l = is_named l.j (drop l.s-index l.sections) ≡ is_named l.j l.sections
