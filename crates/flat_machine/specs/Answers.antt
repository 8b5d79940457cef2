-- What calls of the code answer and leave, against the definition.
use Rattle.std.specs.Prelude.{◌≡◌, ℕ, List, [], ◌++◌, Option, Some, None, Result, Ok, Err}
use Rattle.hx_io.specs.Streams.{AppendsPrefix}
use Rattle.flat_machine.specs.declared.ends.RunEnd.{RunEnd}
use Rattle.flat_machine.specs.declared.ends.RunEnd.TheVariants.{Exit, Trap, Budget, StackSpent, Stuck, WriteFault}
use Rattle.flat_machine.specs.Steps.{Guest, After, Goes, Ends}

-- a step went on to the state, or ended so; where the sink failed, the definition's step isn't done
abbrev pub Moves : Option RunEnd → After → Guest → Type 0
Moves None after new = after ≡ Goes new
Moves (Some WriteFault) after new = Unit {0}
Moves (Some (Exit k)) after new = after ≡ Ends (Exit k)
Moves (Some (Trap k)) after new = after ≡ Ends (Trap k)
Moves (Some Budget) after new = ⊥
Moves (Some StackSpent) after new = after ≡ Ends StackSpent
Moves (Some (Stuck why pc)) after new = after ≡ Ends (Stuck why pc)

-- how a run ended: as the definition's, or its steps were spent, or the sink failed
abbrev pub EndsAs : RunEnd → After → Type 0
EndsAs WriteFault after = Unit {0}
EndsAs Budget after = (g : Guest) × (after ≡ Goes g)
EndsAs (Exit k) after = after ≡ Ends (Exit k)
EndsAs (Trap k) after = after ≡ Ends (Trap k)
EndsAs StackSpent after = after ≡ Ends StackSpent
EndsAs (Stuck why pc) after = after ≡ Ends (Stuck why pc)

-- what a sink holds that held some bytes: the output too, or a prefix of it where the sink failed
abbrev pub PutsAs : RunEnd → List ℕ → List ℕ → List ℕ → Type 0
PutsAs WriteFault old output new = AppendsPrefix old output new
PutsAs Budget old output new = new ≡ old ++ output
PutsAs (Exit k) old output new = new ≡ old ++ output
PutsAs (Trap k) old output new = new ≡ old ++ output
PutsAs StackSpent old output new = new ≡ old ++ output
PutsAs (Stuck why pc) old output new = new ≡ old ++ output

-- the same of a step, which goes on or ends
abbrev pub StepPuts : Option RunEnd → List ℕ → List ℕ → List ℕ → Type 0
StepPuts None old put new = new ≡ old ++ put
StepPuts (Some end) old put new = PutsAs end old put new

-- the same of a run that may have had no memory to start with
abbrev pub RunPuts : {E : Type 0} → Result RunEnd E → List ℕ → List ℕ → List ℕ → Type 0
RunPuts (Ok end) old output new = PutsAs end old output new
RunPuts (Err e) old output new = new ≡ old
