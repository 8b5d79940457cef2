use Rattle.std.proofs.Common.{◌≡◌, ◌-◌, ◌++◌, map}
use Rattle.ec_driver.specs.Definitions.{most_definitions, names_from, defined_names}
use Rattle.ec_driver.proofs.definitions.defined_names.Given as goal

abbrev pub invariant-loop-number : goal.invariant-loop-number
invariant-loop-number l = map (λ name. name.now) l.names.items ++ names_from l.program l.number (most_definitions - l.number) ≡ defined_names l.program
