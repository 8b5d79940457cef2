use Rattle.coff_read.proofs.PlaceLaws.{home_counted, kept_main}
use Rattle.coff_read.proofs.building.symbol_of.Goals as goal

pub new_section-section-requires-clause-counted : goal.new_section-section-requires-clause-counted
new_section-section-requires-clause-counted c = home_counted c.args.bytes.now c.args.j c.symbol_section.result c.requires.good c.requires.counted (kept_main c.args.bytes.now c.args.j c.requires.kept) c.symbol_section.ensures
