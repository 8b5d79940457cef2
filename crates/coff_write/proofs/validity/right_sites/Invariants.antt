use Rattle.std.proofs.Common.{◌≡◌, drop}
use Rattle.coff_write.specs.Valid.{valid_sites}
use Rattle.coff_write.proofs.validity.right_sites.Given as goal

abbrev pub invariant-loop-t : goal.invariant-loop-t
invariant-loop-t l = valid_sites l.machine l.bytes l.symbols (drop l.t-index l.sites) ≡ valid_sites l.machine l.bytes l.symbols l.sites
