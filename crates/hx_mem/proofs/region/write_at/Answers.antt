use Rattle.hx_bits.specs.Widths.{bytes_in}
use Rattle.hx_mem.proofs.Stored.{spliced}
use Rattle.hx_mem.proofs.region.write_at.Goals as goal

pub returns : goal.returns
returns c = spliced c.args.bytes.now c.write_number.new.bytes c.args.from (bytes_in c.args.w) c.args.v c.requires c.write_number.ensures
