-- The charge of an active call by the place of what is called in the program's lists, functions first
-- and then adjustors (this project's own).
use Rattle.std.specs.Prelude.{ℕ, ◌-◌, length, slice_get, Option, Some, None}
use Rattle.c_program.specs.declared.expressions.Target.{Target}
use Rattle.c_program.specs.declared.expressions.Target.TheVariants as to
use Rattle.c_program.specs.declared.program.FunDef.{FunDef}
use Rattle.c_program.specs.declared.program.Program.{Program}
use Rattle.c_meaning.specs.Charge.{charge_of}

abbrev pub target_by : Program → ℕ → Option FunDef → Target
target_by p f None = to.Adjustor (f - length p.functions)
target_by p f (Some d) = to.Function f

abbrev pub target_at : Program → ℕ → Target
target_at p f = target_by p f (slice_get p.functions f)

abbrev pub charge_at : Program → ℕ → ℕ
charge_at p f = charge_of p (target_at p f)
