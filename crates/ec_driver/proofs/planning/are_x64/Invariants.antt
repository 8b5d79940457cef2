use Rattle.std.proofs.Common.{◌≡◌, drop}
use Rattle.std.specs.List.{list_all}
use Rattle.ec_driver.specs.Courses.{is_x64}
use Rattle.ec_driver.proofs.planning.are_x64.Given as goal

abbrev pub invariant-loop-side : goal.invariant-loop-side
invariant-loop-side l = list_all is_x64 (drop l.side-index l.sides) ≡ list_all is_x64 l.sides
