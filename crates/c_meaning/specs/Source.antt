-- A run of a whole program.
use Rattle.std.specs.Prelude.{ℕ, ◌+◌, ◌-◌, List, [], map, reverse, slice_get, Option, Some, None}
use Rattle.c_program.specs.declared.expressions.Target.{Target}
use Rattle.c_program.specs.declared.expressions.Target.TheVariants as to
use Rattle.c_program.specs.declared.program.FunDef.{FunDef}
use Rattle.c_program.specs.declared.program.AdjustDef.{AdjustDef}
use Rattle.c_program.specs.declared.program.Program.{Program}
use Rattle.c_values.specs.declared.value.Value.{Value}
use Rattle.c_values.specs.Numbers.{low_bits}
use Rattle.c_values.specs.Objects.{number_in}
use Rattle.c_meaning.specs.declared.outcome.SourceEnd.{SourceEnd}
use Rattle.c_meaning.specs.declared.outcome.SourceEnd.TheVariants as ends
use Rattle.c_meaning.specs.States.{State}
use Rattle.c_meaning.specs.Rules.{End, Exits, Traps, Asks, Res, Done, Stop, Spent, meaning}
use Rattle.c_meaning.specs.Start.{setting_of, start, main_of}

-- how a run stands: its end, the state it came to, and the units left
pub record Stand : Type 0 where
  pub outcome : SourceEnd
  pub state : State
  pub left : ℕ

-- a call of what isn't there ends a run too; no program that is well typed and whole makes one
abbrev pub ended : End → SourceEnd
ended (Exits c) = ends.Exit c
ended (Traps c) = ends.Trap c
ended (Asks q) = ends.Trap 0

-- the end of `main` exits with the low 8 bits of its value
abbrev pub stand : Res Value → Stand
stand (Done v s k) = record { outcome = ends.Exit (low_bits 8 (number_in v)); state = s; left = k }
stand (Stop o s k) = record { outcome = ended o; state = s; left = k }
stand (Spent s k) = record { outcome = ends.Running; state = s; left = k }

-- from the entry of `main` on, which is free, with so many units
unfoldable pub stand_of : Program → List ℕ → ℕ → Stand
stand_of p input n = stand ((meaning (setting_of p)).call (main_of p) [] (start p input) n)

abbrev pub function_name : Option FunDef → List ℕ
function_name None = []
function_name (Some f) = f.name

abbrev pub adjustor_name : Option AdjustDef → List ℕ
adjustor_name None = []
adjustor_name (Some a) = a.name

abbrev pub name_of : Program → Target → List ℕ
name_of p (to.Function k) = function_name (slice_get p.functions k)
name_of p (to.Adjustor k) = adjustor_name (slice_get p.adjustors k)

-- the output, how the run stands, the bytes taken of the input, the units paid, the peak in bytes, and
-- the names of the functions that were innermost in turn
pub record Run : Type 0 where
  pub output : List ℕ
  pub outcome : SourceEnd
  pub taken : ℕ
  pub units : ℕ
  pub peak : ℕ
  pub walk : List (List ℕ)

abbrev pub run_of : Program → ℕ → Stand → Run
run_of p n r = record {
  output = r.state.world.output;
  outcome = r.outcome;
  taken = r.state.world.taken;
  units = n - r.left;
  peak = 4096 + r.state.peak;
  walk = map (name_of p) (reverse r.state.walk);
}

abbrev pub source : Program → List ℕ → ℕ → Run
source p input n = run_of p n (stand_of p input n)
