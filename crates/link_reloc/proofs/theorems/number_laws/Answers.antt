use Rattle.link_reloc.proofs.Leads.{address, place, relative}
use Rattle.link_reloc.proofs.theorems.number_laws.Goals as goal

pub returns : goal.returns
returns c = record {
  address = address;
  place = place;
  relative = relative;
}
