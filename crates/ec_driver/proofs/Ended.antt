-- A run that ended stays as it is with more steps.
use Rattle.std.proofs.Common.{◌≡◌, ℕ, zero, suc, ◌+◌, ◌*◌, ◌%◌, ◌≤◌, List, length, refl, sym, ap, subst, ◌∙◌, arith}
use Rattle.flat_machine.specs.declared.ends.RunEnd.{RunEnd}
use Rattle.flat_machine.specs.declared.ends.RunEnd.TheVariants.{Exit, Trap, StackSpent, Stuck}
use Rattle.flat_machine.specs.declared.ends.StuckWhy.{StuckWhy}
use Rattle.flat_machine.specs.Answers.{EndsAs}
use Rattle.flat_machine.specs.Steps.{Guest, After, Goes, Ends, step_of}
use Rattle.flat_machine.specs.Runs.{Run, before, then_run, run_from, flat_run, start_of}
use Rattle.flat_machine.proofs.Running.{run_from-step, run_from-none}
use Rattle.ec_driver.specs.Answers.{output_of, IsImage}

then_stays : (put : List ℕ) (after : After) (few many : Guest → Run) (e : RunEnd) → ((g : Guest) → (few g).after ≡ Ends e → many g ≡ few g) → (then_run put after few).after ≡ Ends e → then_run put after many ≡ then_run put after few
then_stays put (Goes g) few many e same is = ap (before put) (same g is)
then_stays put (Ends end) few many e same is = refl

pub run_stays : (size n m : ℕ) (g : Guest) (e : RunEnd) → n ≤ m → (run_from size n g).after ≡ Ends e → run_from size m g ≡ run_from size n g
run_stays size zero m g e h is = let ends : Goes g ≡ Ends e = sym (ap (λ (r : Run). r.after) (run_from-none size g)) ∙ is in absurd (cc)
run_stays size (suc n) zero g e h is = absurd (omega arith)
run_stays size (suc n) (suc m) g e h is =
    let few : (then_run (step_of size g).put (step_of size g).after (run_from size n)).after ≡ Ends e = sym (ap (λ (r : Run). r.after) (run_from-step size n g)) ∙ is in
    run_from-step size m g
    ∙ then_stays (step_of size g).put (step_of size g).after (run_from size n) (run_from size m) e (λ next ends. run_stays size n m next e (omega arith) ends) few
    ∙ sym (run_from-step size n g)

abbrev done : List ℕ → ℕ → Run
done puts status = record { output = output_of puts; after = Ends (Exit (status % 256)) }

-- the run of a unit's image ends, if it does, as the unit says
pub image_ends : (image puts : List ℕ) (status fuel : ℕ) (e : RunEnd) → IsImage image puts status → (flat_run image fuel).after ≡ Ends e → flat_run image fuel ≡ done puts status
image_ends image puts status fuel e runs is =
    sym (run_stays (length image) fuel (fuel + 8 * (length puts + 1)) (start_of image) e (omega arith) is)
    ∙ runs (fuel + 8 * (length puts + 1)) (omega arith)

pub image_exits : (image puts : List ℕ) (status fuel : ℕ) (e : RunEnd) → IsImage image puts status → (flat_run image fuel).after ≡ Ends e → e ≡ Exit (status % 256)
image_exits image puts status fuel e runs is =
    let same : Ends e ≡ Ends (Exit (status % 256)) = sym is ∙ ap (λ (r : Run). r.after) (image_ends image puts status fuel e runs is) in cc

-- so no run of an image ends otherwise

pub no_trap : (image puts : List ℕ) (status fuel k : ℕ) (end : RunEnd) → end ≡ Trap k → EndsAs end (flat_run image fuel).after → IsImage image puts status → ⊥
no_trap image puts status fuel k end is ends runs =
    let here : (flat_run image fuel).after ≡ Ends (Trap k) = subst (λ (e : RunEnd). EndsAs e (flat_run image fuel).after) is ends in
    let other : Trap k ≡ Exit (status % 256) = image_exits image puts status fuel (Trap k) runs here in cc

pub no_spent : (image puts : List ℕ) (status fuel : ℕ) (end : RunEnd) → end ≡ StackSpent → EndsAs end (flat_run image fuel).after → IsImage image puts status → ⊥
no_spent image puts status fuel end is ends runs =
    let here : (flat_run image fuel).after ≡ Ends StackSpent = subst (λ (e : RunEnd). EndsAs e (flat_run image fuel).after) is ends in
    let other : StackSpent ≡ Exit (status % 256) = image_exits image puts status fuel StackSpent runs here in cc

pub no_stuck : (image puts : List ℕ) (status fuel pc : ℕ) (why : StuckWhy) (end : RunEnd) → end ≡ Stuck why pc → EndsAs end (flat_run image fuel).after → IsImage image puts status → ⊥
no_stuck image puts status fuel pc why end is ends runs =
    let here : (flat_run image fuel).after ≡ Ends (Stuck why pc) = subst (λ (e : RunEnd). EndsAs e (flat_run image fuel).after) is ends in
    let other : Stuck why pc ≡ Exit (status % 256) = image_exits image puts status fuel (Stuck why pc) runs here in cc
