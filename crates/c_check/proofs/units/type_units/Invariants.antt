use Rattle.std.proofs.Common.{◌≡◌, drop}
use Rattle.c_typing.specs.Units.{visit_units}
use Rattle.c_check.proofs.units.type_units.Given as goal

abbrev pub invariant-loop-k : goal.invariant-loop-k
invariant-loop-k l = visit_units l.k (drop l.k l.units) l.state ≡ visit_units 0 l.units l.initial.state
