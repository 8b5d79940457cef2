-- A run as its steps go on.
use Rattle.std.proofs.Common.{◌≡◌, ℕ, zero, suc, ◌+◌, ◌-◌, ◌<◌, ◌≤◌, Bool, List, [], ◌∷◌, ◌++◌, length, append_assoc, append-nil, refl, sym, ap, ap₂, subst, ◌∙◌, arith, IsTrue, Option, Some, None, Result, Ok, Err}
use Rattle.hx_words.specs.Prefixes.{IsPrefix}
use Rattle.hx_io.specs.Streams.{AppendsPrefix}
use Rattle.flat_machine.specs.declared.ends.RunEnd.{RunEnd}
use Rattle.flat_machine.specs.declared.ends.RunEnd.TheVariants.{Exit, Trap, Budget, StackSpent, Stuck, WriteFault}
use Rattle.flat_machine.specs.Steps.{Guest, After, Goes, Ends, Act, step_of}
use Rattle.flat_machine.specs.Runs.{Run, before, then_run, run_from, start_of, flat_run}
use Rattle.flat_machine.specs.Answers.{Moves, EndsAs, PutsAs, StepPuts}

-- the whole run is some output and then the rest; a sink that held the start has this output too
pub record Progress (whole rest : Run) (tells : Bool) (start now : List ℕ) : Type 0 where
  pub output : List ℕ
  pub ran : whole ≡ before output rest
  pub put : IsTrue tells → now ≡ start ++ output

pub run_from-step : (size n : ℕ) (g : Guest) → run_from size (suc n) g ≡ then_run (step_of size g).put (step_of size g).after (run_from size n)
unfolding run_from
run_from-step size n g = refl

pub run_from-none : (size : ℕ) (g : Guest) → run_from size zero g ≡ record { output = []; after = Goes g }
unfolding run_from
run_from-none size g = refl

pub begins : (image : List ℕ) (n turn size : ℕ) (g : Guest) (tells : Bool) (bytes : List ℕ) → turn ≡ 0 → size ≡ length image → g ≡ start_of image → Progress (flat_run image n) (run_from size (n - turn) g) tells bytes bytes
begins image n turn size g tells bytes at long is = record {
  output = [];
  ran = ap₂ (λ s (h : Guest). run_from s n h) (sym long) (sym is) ∙ ap (λ k. run_from size k g) (let e : n ≡ n - turn = omega arith in e);
  put = λ t. sym (append-nil bytes);
}

-- the rest after one more step
abbrev next : ℕ → ℕ → Guest → Run
next size n g = then_run (step_of size g).put (step_of size g).after (run_from size n)

unrolled : (size n turn : ℕ) (g : Guest) → turn < n → run_from size (n - turn) g ≡ next size (n - (turn + 1)) g
unrolled size n turn g h = ap (λ k. run_from size k g) (let e : n - turn ≡ suc (n - (turn + 1)) = omega arith in e) ∙ run_from-step size (n - (turn + 1)) g

pub goes_on : (whole : Run) (size n turn : ℕ) (g new : Guest) (tells : Bool) (start old now : List ℕ) → turn < n → Progress whole (run_from size (n - turn) g) tells start old → Moves None (step_of size g).after new → (IsTrue tells → StepPuts None old (step_of size g).put now) → Progress whole (run_from size (n - (turn + 1)) new) tells start now
goes_on whole size n turn g new tells start old now h p moves puts =
    let put : List ℕ = (step_of size g).put in
    let rest : Run = run_from size (n - (turn + 1)) new in
    let step : next size (n - (turn + 1)) g ≡ before put rest = ap (λ (a : After). then_run put a (run_from size (n - (turn + 1)))) moves in
    record {
      output = p.output ++ put;
      ran = p.ran ∙ ap (before p.output) (unrolled size n turn g h ∙ step) ∙ ap (λ (o : List ℕ). record { output = o; after = rest.after }) (sym (append_assoc p.output put rest.output));
      put = λ t. puts t ∙ ap (λ (o : List ℕ). o ++ put) (p.put t) ∙ append_assoc start p.output put;
    }

-- where a step ends the run
ended : (whole : Run) (size n turn : ℕ) (g : Guest) (tells : Bool) (start old : List ℕ) (e : RunEnd) → turn < n → (p : Progress whole (run_from size (n - turn) g) tells start old) → (step_of size g).after ≡ Ends e → whole ≡ record { output = p.output ++ (step_of size g).put; after = Ends e }
ended whole size n turn g tells start old e h p moves =
    p.ran ∙ ap (before p.output) (unrolled size n turn g h ∙ ap (λ (a : After). then_run (step_of size g).put a (run_from size (n - (turn + 1)))) moves)

abbrev after_of : Run → After
after_of r = r.after

abbrev output_of : Run → List ℕ
output_of r = r.output

pub ends : (whole : Run) (size n turn : ℕ) (g new : Guest) (tells : Bool) (start old : List ℕ) (e : RunEnd) → turn < n → Progress whole (run_from size (n - turn) g) tells start old → Moves (Some e) (step_of size g).after new → EndsAs e whole.after
ends whole size n turn g new tells start old (Exit k) h p moves = ap after_of (ended whole size n turn g tells start old _ h p moves)
ends whole size n turn g new tells start old (Trap k) h p moves = ap after_of (ended whole size n turn g tells start old _ h p moves)
ends whole size n turn g new tells start old Budget h p moves = absurd moves
ends whole size n turn g new tells start old StackSpent h p moves = ap after_of (ended whole size n turn g tells start old _ h p moves)
ends whole size n turn g new tells start old (Stuck why pc) h p moves = ap after_of (ended whole size n turn g tells start old _ h p moves)
ends whole size n turn g new tells start old WriteFault h p moves = tt

whole_put : (whole : Run) (size n turn : ℕ) (g : Guest) (tells : Bool) (start old now : List ℕ) (e : RunEnd) → turn < n → (p : Progress whole (run_from size (n - turn) g) tells start old) → (step_of size g).after ≡ Ends e → IsTrue tells → now ≡ old ++ (step_of size g).put → now ≡ start ++ whole.output
whole_put whole size n turn g tells start old now e h p moves t put =
    put ∙ ap (λ (o : List ℕ). o ++ (step_of size g).put) (p.put t) ∙ append_assoc start p.output (step_of size g).put
    ∙ ap (λ (o : List ℕ). start ++ o) (sym (ap output_of (ended whole size n turn g tells start old e h p moves)))

-- a step's output begins what follows it
begun : (put : List ℕ) (after : After) (rest : Guest → Run) → (more : List ℕ) × ((then_run put after rest).output ≡ put ++ more)
begun put (Goes g) rest = ((rest g).output, refl)
begun put (Ends e) rest = ([], sym (append-nil put))

part_put : (whole : Run) (size n turn : ℕ) (g : Guest) (tells : Bool) (start old now : List ℕ) → turn < n → (p : Progress whole (run_from size (n - turn) g) tells start old) → IsTrue tells → AppendsPrefix old (step_of size g).put now → AppendsPrefix start whole.output now
part_put whole size n turn g tells start old now h p t (kept, (tail, front), is) =
    let put : List ℕ = (step_of size g).put in
    let b : (more : List ℕ) × ((next size (n - (turn + 1)) g).output ≡ put ++ more) = begun put (step_of size g).after (run_from size (n - (turn + 1))) in
    let all : whole.output ≡ (p.output ++ kept) ++ (tail ++ b.0) =
    ap output_of p.ran ∙ ap (λ (r : Run). p.output ++ r.output) (unrolled size n turn g h) ∙ ap (λ (o : List ℕ). p.output ++ o) (b.1 ∙ ap (λ (o : List ℕ). o ++ b.0) front ∙ append_assoc kept tail b.0)
    ∙ sym (append_assoc p.output kept (tail ++ b.0)) in
    (p.output ++ kept, (tail ++ b.0, all), is ∙ ap (λ (o : List ℕ). o ++ kept) (p.put t) ∙ append_assoc start p.output kept)

pub ends_put : (whole : Run) (size n turn : ℕ) (g new : Guest) (tells : Bool) (start old now : List ℕ) (e : RunEnd) → turn < n → Progress whole (run_from size (n - turn) g) tells start old → Moves (Some e) (step_of size g).after new → IsTrue tells → StepPuts (Some e) old (step_of size g).put now → PutsAs e start whole.output now
ends_put whole size n turn g new tells start old now (Exit k) h p moves t put = whole_put whole size n turn g tells start old now _ h p moves t put
ends_put whole size n turn g new tells start old now (Trap k) h p moves t put = whole_put whole size n turn g tells start old now _ h p moves t put
ends_put whole size n turn g new tells start old now Budget h p moves t put = absurd moves
ends_put whole size n turn g new tells start old now StackSpent h p moves t put = whole_put whole size n turn g tells start old now _ h p moves t put
ends_put whole size n turn g new tells start old now (Stuck why pc) h p moves t put = whole_put whole size n turn g tells start old now _ h p moves t put
ends_put whole size n turn g new tells start old now WriteFault h p moves t put = part_put whole size n turn g tells start old now h p t put

-- where the steps are spent
pub spent : (whole : Run) (size n turn : ℕ) (g : Guest) (tells : Bool) (start now : List ℕ) → n ≤ turn → Progress whole (run_from size (n - turn) g) tells start now → EndsAs Budget whole.after
spent whole size n turn g tells start now h p = (g, ap after_of p.ran ∙ ap (λ k. (run_from size k g).after) (let e : n - turn ≡ 0 = omega arith in e) ∙ ap after_of (run_from-none size g))

pub spent_put : (whole : Run) (size n turn : ℕ) (g : Guest) (tells : Bool) (start now : List ℕ) → n ≤ turn → Progress whole (run_from size (n - turn) g) tells start now → IsTrue tells → now ≡ start ++ whole.output
spent_put whole size n turn g tells start now h p t =
    let none : run_from size (n - turn) g ≡ record { output = []; after = Goes g } = ap (λ k. run_from size k g) (let e : n - turn ≡ 0 = omega arith in e) ∙ run_from-none size g in
    p.put t ∙ ap (λ (o : List ℕ). start ++ o) (sym (ap output_of p.ran ∙ ap (λ (r : Run). p.output ++ r.output) none ∙ append-nil p.output))

-- the size of the image is that of every state
pub resized : (whole : Run) (size other n : ℕ) (g : Guest) (tells : Bool) (start now : List ℕ) → other ≡ size → Progress whole (run_from size n g) tells start now → Progress whole (run_from other n g) tells start now
resized whole size other n g tells start now e p = subst (λ s. Progress whole (run_from s n g) tells start now) (sym e) p

pub tells_on : (a b : Bool) → a ≡ b → IsTrue b → IsTrue a
tells_on a b e t = subst IsTrue (sym e) t
