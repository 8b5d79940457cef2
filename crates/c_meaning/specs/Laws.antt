-- Laws of the definition.
use Rattle.std.specs.Prelude.{◌≡◌, ℕ, ◌+◌, ◌≤◌, List, ◌++◌, Option}
use Rattle.hx_words.specs.Prefixes.{IsPrefix}
use Rattle.c_program.specs.declared.expressions.Target.{Target}
use Rattle.c_program.specs.declared.expressions.Place.{Place}
use Rattle.c_program.specs.declared.expressions.TypedExpr.{TypedExpr}
use Rattle.c_program.specs.declared.statements.TypedStmt.{TypedStmt}
use Rattle.c_program.specs.declared.program.Program.{Program}
use Rattle.c_values.specs.declared.value.Value.{Value}
use Rattle.c_meaning.specs.declared.outcome.SourceEnd.{SourceEnd}
use Rattle.c_meaning.specs.declared.outcome.SourceEnd.TheVariants as ends
use Rattle.c_meaning.specs.States.{State}
use Rattle.c_meaning.specs.Rules.{Setting, Meanings, rules, meanings, depth, meaning}
use Rattle.c_meaning.specs.Source.{source, Run}

-- two meanings that are the same from so many units
pub record SameMeanings (k : ℕ) (r r' : Meanings) : Type 0 where
  pub value : (e : TypedExpr) (s : State) → r.value e s k ≡ r'.value e s k
  pub object : (p : Place) (s : State) → r.object p s k ≡ r'.object p s k
  pub statement : (x : TypedStmt) (s : State) → r.statement x s k ≡ r'.statement x s k
  pub loop : (c n : Option TypedExpr) (x : TypedStmt) (s : State) → r.loop c n x s k ≡ r'.loop c n x s k
  pub call : (t : Target) (vs : List Value) (s : State) → r.call t vs s k ≡ r'.call t vs s k

-- the meaning is what its rules say over it
abbrev pub IsFixpoint : Type 0
IsFixpoint = (m : Setting) (k : ℕ) → SameMeanings k (meaning m) (rules m (meaning m))

-- past what is enough for the units, the depth changes nothing
abbrev pub DepthIsEnough : Type 0
DepthIsEnough = (m : Setting) (d k : ℕ) → depth k ≤ d → SameMeanings k (meanings m d) (meaning m)

abbrev pub IsOver : SourceEnd → Type 0
IsOver (ends.Exit c) = Unit {0}
IsOver (ends.Trap c) = Unit {0}
IsOver ends.Running = ⊥

-- a run that is over stays so with more units
abbrev pub StaysOver : Type 0
StaysOver = (p : Program) (input : List ℕ) (n more : ℕ) → IsOver (source p input n).outcome → source p input (n + more) ≡ source p input n

-- what a run has done, one with more units has done too
pub record Continues (a b : Run) : Type 0 where
  pub output : IsPrefix a.output b.output
  pub taken : a.taken ≤ b.taken
  pub units : a.units ≤ b.units
  pub peak : a.peak ≤ b.peak
  pub walk : (rest : List (List ℕ)) × (b.walk ≡ a.walk ++ rest)

abbrev pub GoesOn : Type 0
GoesOn = (p : Program) (input : List ℕ) (n more : ℕ) → Continues (source p input n) (source p input (n + more))
