use Rattle.std.proofs.Common.{◌≡◌, drop}
use Rattle.coff_write.specs.Valid.{any_names}
use Rattle.coff_write.proofs.validity.names_symbol.Given as goal

abbrev pub invariant-loop-t : goal.invariant-loop-t
invariant-loop-t l = any_names l.j (drop l.t-index l.sites) ≡ any_names l.j l.sites
