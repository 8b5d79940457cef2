use Rattle.std.proofs.Common.{◌≡◌, drop}
use Rattle.pe_loader.specs.Refusals.{bad_site}
use Rattle.pe_loader.proofs.regions.bad_site.Given as goal

abbrev pub invariant-loop-site : goal.invariant-loop-site
invariant-loop-site l = bad_site l.sections l.fn.sites ≡ bad_site l.sections (drop l.site-index l.sites)
