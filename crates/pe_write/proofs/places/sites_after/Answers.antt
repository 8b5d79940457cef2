use Rattle.std.proofs.Common.{◌∙◌, sym}
use Rattle.pe_write.proofs.SiteLaws.{front_some}
use Rattle.pe_write.proofs.places.sites_after.Goals as goal

pub returns-clause-some : goal.returns-clause-some
returns-clause-some c = front_some c.args.left.now c.args.found.now (sym c.if-not-are_same_sites.false ∙ c.are_same_sites.ensures)
