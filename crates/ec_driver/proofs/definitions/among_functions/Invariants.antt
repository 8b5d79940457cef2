use Rattle.std.proofs.Common.{◌≡◌, drop}
use Rattle.ec_driver.specs.Definitions.{function_name, first_name}
use Rattle.ec_driver.proofs.definitions.among_functions.Given as goal

abbrev pub invariant-loop-f : goal.invariant-loop-f
invariant-loop-f l = first_name (function_name l.number) (drop l.f-index l.functions) ≡ first_name (function_name l.number) l.functions
