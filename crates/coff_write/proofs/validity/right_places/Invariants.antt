use Rattle.std.proofs.Common.{◌≡◌, ◌+◌, ◌≤◌, drop}
use Rattle.coff_write.specs.Format.{cap, section_names_size}
use Rattle.coff_write.specs.Valid.{short_places}
use Rattle.coff_write.proofs.validity.right_places.Given as goal

abbrev pub invariant-loop-s : goal.invariant-loop-s
invariant-loop-s l = record { places : short_places l.place (drop l.s-index l.sections) ≡ short_places 4 l.sections; room : l.place + section_names_size (drop l.s-index l.sections) ≤ cap + 4 }
