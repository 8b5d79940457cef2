use Rattle.std.proofs.Common.{◌≡◌, take}
use Rattle.std.specs.Prelude.{map}
use Rattle.c_meaning.specs.Start.{global_value}
use Rattle.c_interp_acts.proofs.starting.globals.Given as goal

abbrev pub invariant-loop-g : goal.invariant-loop-g
invariant-loop-g l = l.values ≡ map (global_value l.p.types) (take l.g-index l.g-items)
