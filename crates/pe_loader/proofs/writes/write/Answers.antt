use Rattle.std.proofs.Common.{sym, ap, ◌∙◌, set}
use Rattle.hx_words.specs.LittleEndian.{bytes_of}
use Rattle.hx_mem.proofs.First.{region_none, found_in}
use Rattle.pe_loader.proofs.Found.{overwritten_at, overwritten_none}
use Rattle.pe_loader.proofs.Shapes.{fits_at}
use Rattle.pe_loader.proofs.writes.write.Goals as goal

pub write_in-requires-clause-from : goal.write_in-requires-clause-from
write_in-requires-clause-from c = (found_in _ _ _ c.in-Some.ensures _).0

pub write_in-requires-clause-fits : goal.write_in-requires-clause-fits
write_in-requires-clause-fits c = fits_at _ _ _ _ c.in-Some.ensures c.requires

pub returns-in-Some : goal.returns-in-Some
returns-in-Some c = ap (set c.args.regions.now c.in-Some.i) c.write_in.ensures ∙ sym (overwritten_at _ _ _ _ _ c.in-Some.ensures)

pub returns-in_default : goal.returns-in_default
returns-in_default c = sym (overwritten_none c.args.regions.now c.args.at (bytes_of 8 c.args.v) (region_none _ _ c.in_default.ensures))
