use Rattle.link_reloc.proofs.Leads.{branch, page_base, offset, access, near}
use Rattle.link_reloc.proofs.theorems.instruction_laws.Goals as goal

pub returns : goal.returns
returns c = record {
  branch = branch;
  page_base = page_base;
  offset = offset;
  access = access;
  near = near;
}
