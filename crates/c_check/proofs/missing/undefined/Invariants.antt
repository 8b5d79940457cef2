use Rattle.std.proofs.Common.{◌≡◌, drop}
use Rattle.c_typing.specs.Units.{first_undefined}
use Rattle.c_check.proofs.missing.undefined.Given as goal

abbrev pub invariant-loop-unit : goal.invariant-loop-unit
invariant-loop-unit l = first_undefined l.state l.unit (drop l.unit l.units) ≡ first_undefined l.state 0 l.units
