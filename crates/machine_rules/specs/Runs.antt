-- Runs of the machine.
use Rattle.std.specs.Prelude.{ℕ, zero, suc, ◌-◌, List, [], ◌∷◌, ◌++◌, length}
use Rattle.chpe_types.specs.declared.image.Image.{Image}
use Rattle.machine_rules.specs.State.{Machine, Code, After, Goes, Ends, Act, silent}
use Rattle.machine_rules.specs.Steps.{step_of}
use Rattle.machine_rules.specs.Loads.{code_in, start}

-- a step, where the machine goes on; after an end nothing changes
abbrev pub act_of : Code → After → Act
act_of code (Goes m) = step_of code m
act_of code (Ends end m) = silent (Ends end m)

-- a run: all that was put, pc at each step, and what it came to
pub record Run : Type 0 where
  pub output : List ℕ
  pub places : List ℕ
  pub after : After

abbrev pub no_step : After → Run
no_step after = record { output = []; places = []; after = after }

abbrev pub first_step : ℕ → List ℕ → Run → Run
first_step pc put r = record { output = put ++ r.output; places = pc ∷ r.places; after = r.after }

abbrev pub then_run : Code → After → (After → Run) → Run
then_run code (Goes m) rest = first_step m.guest.cpu.pc (step_of code m).put (rest (step_of code m).after)
then_run code (Ends end m) rest = no_step (Ends end m)

-- at most n steps
unfoldable pub run_from : Code → ℕ → After → Run
run_from code zero after = no_step after
run_from code (suc n) after = then_run code after (run_from code n)

-- the machine that a run comes to, and how many bytes of the input were taken on the way
abbrev pub machine_of : After → Machine
machine_of (Goes m) = m
machine_of (Ends end m) = m

abbrev pub taken : List ℕ → Run → ℕ
taken input r = length input - length (machine_of r.after).input

-- at most n steps of an image that is loaded at a base, over an input
abbrev pub machine : Image → ℕ → List ℕ → ℕ → Run
machine image base input n = run_from (code_in image base) n (Goes (start image base input))
