-- Runs of the flat machine.
use Rattle.std.specs.Prelude.{ℕ, zero, suc, List, [], ◌++◌, length}
use Rattle.flat_machine.specs.Layout.{start_memory, start_registers}
use Rattle.flat_machine.specs.Steps.{Guest, After, Goes, Ends, Act, step_of}
use Rattle.flat_machine.specs.declared.ends.RunEnd.{RunEnd}

-- a run: all that was put, and what it came to
pub record Run : Type 0 where
  pub output : List ℕ
  pub after : After

abbrev pub before : List ℕ → Run → Run
before put r = record { output = put ++ r.output; after = r.after }

-- a step, and then the rest where the run goes on
abbrev pub then_run : List ℕ → After → (Guest → Run) → Run
then_run put (Goes g) rest = before put (rest g)
then_run put (Ends e) rest = record { output = put; after = Ends e }

-- at most n steps from a state, in an image of so many bytes
unfoldable pub run_from : ℕ → ℕ → Guest → Run
run_from size zero g = record { output = []; after = Goes g }
run_from size (suc n) g = then_run (step_of size g).put (step_of size g).after (run_from size n)

abbrev pub start_of : List ℕ → Guest
start_of image = record { cpu = start_registers; mem = start_memory image }

-- at most n steps of the image
abbrev pub flat_run : List ℕ → ℕ → Run
flat_run image n = run_from (length image) n (start_of image)
