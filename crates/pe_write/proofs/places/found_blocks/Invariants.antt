use Rattle.std.proofs.Common.{◌≡◌, None}
use Rattle.file_words.specs.Below.{first_below}
use Rattle.pe_write_laws.specs.Places.{is_blocks_place}
use Rattle.pe_write.proofs.places.found_blocks.Given as goal

abbrev pub invariant-loop-start : goal.invariant-loop-start
invariant-loop-start l = None ≡ first_below (is_blocks_place l.image) l.start
