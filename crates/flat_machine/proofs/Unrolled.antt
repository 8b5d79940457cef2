-- Runs by their first steps.
use Rattle.std.proofs.Common.{◌≡◌, ℕ, suc, List, [], ◌∷◌, ◌++◌, ap, ◌∙◌}
use Rattle.flat_machine.specs.declared.ends.RunEnd.{RunEnd}
use Rattle.flat_machine.specs.Steps.{Guest, After, Goes, Ends, Act, quiet, step_of}
use Rattle.flat_machine.specs.Runs.{Run, before, then_run, run_from}
use Rattle.flat_machine.proofs.Running.{run_from-step}

pub run_goes : (size n : ℕ) (g next : Guest) → step_of size g ≡ quiet (Goes next) → run_from size (suc n) g ≡ run_from size n next
run_goes size n g next step = run_from-step size n g ∙ ap (λ (a : Act). then_run a.put a.after (run_from size n)) step

pub run_puts : (size n : ℕ) (g next : Guest) (put : List ℕ) → step_of size g ≡ record { put = put; after = Goes next } → run_from size (suc n) g ≡ before put (run_from size n next)
run_puts size n g next put step = run_from-step size n g ∙ ap (λ (a : Act). then_run a.put a.after (run_from size n)) step

pub run_ends : (size n : ℕ) (g : Guest) (e : RunEnd) → step_of size g ≡ quiet (Ends e) → run_from size (suc n) g ≡ record { output = []; after = Ends e }
run_ends size n g e step = run_from-step size n g ∙ ap (λ (a : Act). then_run a.put a.after (run_from size n)) step
