use Rattle.std.proofs.Common.{◌≡◌, None}
use Rattle.file_words.specs.Below.{first_below}
use Rattle.pe_write_laws.specs.Places.{is_config_place}
use Rattle.pe_write.proofs.places.config_place.Given as goal

abbrev pub invariant-loop-place : goal.invariant-loop-place
invariant-loop-place l = None ≡ first_below (is_config_place l.image) l.place
