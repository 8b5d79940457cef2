use Rattle.hx_mem.proofs.Stored.{spliced}
use Rattle.pe_loader.proofs.writes.write_at.Goals as goal

pub returns : goal.returns
returns c = spliced c.args.bytes.now c.write_number.new.bytes c.args.from 8 c.args.v c.requires c.write_number.ensures
