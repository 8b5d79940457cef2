-- Steps that keep how a run stands but for the functions that were innermost, which aren't kept.
use Rattle.std.specs.Prelude.{◌≡◌, List}
use Rattle.c_program.specs.declared.expressions.Target.{Target}
use Rattle.c_meaning.specs.Rules.{Setting}
use Rattle.c_state.specs.Seen.{Unseen}
use Rattle.c_interp_steps.specs.declared.work.Now.{Now}
use Rattle.c_interp_steps.specs.declared.work.Now.TheVariants as now
use Rattle.c_interp_acts.specs.declared.machine.Machine.{Machine}
use Rattle.c_interp_acts.specs.Going.{stands, with_walk}

abbrev pub Walks : Setting → Now → Machine → Now → Machine → Type 0
Walks m n x n' x' = (h : Unseen) → (w : List Target) × (stands m n' x' (with_walk w h) ≡ stands m n x h)

-- whether what is done next is no call whose arguments are there
abbrev pub IsNoCall : Now → Type 0
IsNoCall (now.Calling c vs) = ⊥
IsNoCall _ = Unit {0}
