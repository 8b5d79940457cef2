use Rattle.std.proofs.Common.{◌≡◌, drop}
use Rattle.ec_driver.specs.Definitions.{adjustor_name, first_name}
use Rattle.ec_driver.proofs.definitions.among_adjustors.Given as goal

abbrev pub invariant-loop-a : goal.invariant-loop-a
invariant-loop-a l = first_name (adjustor_name l.number) (drop l.a-index l.adjustors) ≡ first_name (adjustor_name l.number) l.adjustors
