use Rattle.std.proofs.Common.{◌≡◌, drop}
use Rattle.machine_rules.specs.Loads.{relocated}
use Rattle.pe_loader.proofs.writes.relocate.Given as goal

abbrev pub invariant-loop-site : goal.invariant-loop-site
invariant-loop-site l = relocated l.base l.delta (drop l.site-index l.sites) l.regions ≡ relocated l.base l.delta l.fn.sites l.fn.regions
