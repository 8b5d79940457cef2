use Rattle.std.proofs.Common.{◌≡◌, None}
use Rattle.file_words.specs.Below.{first_below}
use Rattle.pe_write_laws.specs.Places.{is_import_place}
use Rattle.pe_write.proofs.places.found_imports.Given as goal

abbrev pub invariant-loop-place : goal.invariant-loop-place
invariant-loop-place l = None ≡ first_below (is_import_place l.image) l.place
