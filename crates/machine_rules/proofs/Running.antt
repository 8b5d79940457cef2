-- Runs go on, and end once.
use Rattle.std.proofs.Common.{◌≡◌, ℕ, zero, suc, ◌+◌, List, ◌∷◌, ◌++◌, append_assoc, zero-add, arith, refl, sym, ap, ◌∙◌}
use Rattle.machine_rules.specs.declared.ends.GuestEnd.{GuestEnd}
use Rattle.machine_rules.specs.State.{Machine, Code, After, Goes, Ends}
use Rattle.machine_rules.specs.Steps.{step_of}
use Rattle.machine_rules.specs.Runs.{Run, no_step, first_step, then_run, run_from}
use Rattle.machine_rules.specs.Laws.{joined}

pub run_from-none : (code : Code) (a : After) → run_from code zero a ≡ no_step a
unfolding run_from
run_from-none code a = refl

pub run_from-step : (code : Code) (n : ℕ) (a : After) → run_from code (suc n) a ≡ then_run code a (run_from code n)
unfolding run_from
run_from-step code n a = refl

pub ended : (code : Code) (n : ℕ) (end : GuestEnd) (m : Machine) → run_from code n (Ends end m) ≡ no_step (Ends end m)
unfolding run_from
ended code zero end m = refl
ended code (suc n) end m = refl

put_first : (pc : ℕ) (put : List ℕ) (r s : Run) → first_step pc put (joined r s) ≡ joined (first_step pc put r) s
put_first pc put r s = ap (λ (o : List ℕ). record { output = o; places = pc ∷ (r.places ++ s.places); after = s.after }) (sym (append_assoc put r.output s.output))

pub joined_runs : (code : Code) (n k : ℕ) (a : After) → run_from code (n + k) a ≡ joined (run_from code n a) (run_from code k (run_from code n a).after)
unfolding run_from
joined_runs code zero k a = ap (λ i. run_from code i a) (zero-add k)
joined_runs code (suc n) k (Ends end m) = ended code (suc n + k) end m ∙ ap (joined (no_step (Ends end m))) (sym (ended code k end m))
joined_runs code (suc n) k (Goes m) =
    let next : After = (step_of code m).after in
    let e : suc n + k ≡ suc (n + k) = omega arith in
    ap (λ i. run_from code i (Goes m)) e
    ∙ ap (first_step m.guest.cpu.pc (step_of code m).put) (joined_runs code n k next)
    ∙ put_first m.guest.cpu.pc (step_of code m).put (run_from code n next) (run_from code k (run_from code n next).after)
