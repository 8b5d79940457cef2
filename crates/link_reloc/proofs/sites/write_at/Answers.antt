use Rattle.hx_bits.specs.Widths.{bytes_in}
use Rattle.link_reloc.proofs.Writes.{written}
use Rattle.link_reloc.proofs.sites.write_at.Goals as goal

pub returns : goal.returns
returns c = written c.args.bytes.now c.write_number.new.bytes c.args.at (bytes_in c.args.w) c.args.v c.requires c.write_number.ensures
