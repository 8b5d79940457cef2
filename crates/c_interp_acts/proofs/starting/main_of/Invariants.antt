use Rattle.std.proofs.Common.{◌≡◌, drop}
use Rattle.std.specs.Prelude.{codes}
use Rattle.c_meaning.specs.Start.{named}
use Rattle.c_interp_acts.proofs.starting.main_of.Given as goal

-- the function is among those from here on
abbrev pub invariant-loop-f : goal.invariant-loop-f
invariant-loop-f l = named (codes "main") 0 l.p.functions ≡ named (codes "main") l.at (drop l.f-index l.p.functions)
