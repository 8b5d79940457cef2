-- What a run of the interpreter tells of the meaning's run.
use Rattle.std.specs.Prelude.{◌≡◌, ℕ, ◌≤◌, List, ◌++◌, length, Result, Ok, Err}
use Rattle.hx_words.specs.Prefixes.{IsPrefix}
use Rattle.c_meaning.specs.Source.{Run}
use Rattle.c_interp_acts.specs.declared.meant.Meant.{Meant}
use Rattle.c_interp_acts.specs.declared.meant.MeanFail.{MeanFail}

-- the outcome, the units paid, the peak and the bytes taken are the run's
pub record SameRun (r : Run) (m : Meant) : Type 0 where
  pub outcome : m.outcome ≡ r.outcome
  pub units : m.units ≡ r.units
  pub peak : m.peak ≡ r.peak
  pub taken : m.taken ≡ r.taken

abbrev pub Means : Run → Result Meant MeanFail → Type 0
Means r (Ok m) = SameRun r m
Means r (Err e) = Unit {0}

-- what was put before is there, and then all of the run's output, or after a failure a prefix of it
abbrev pub PutsRun : Run → (old : List ℕ) → Result Meant MeanFail → (new : List ℕ) → Type 0
PutsRun r old (Ok m) new = new ≡ old ++ r.output
PutsRun r old (Err e) new = (kept : List ℕ) × IsPrefix kept r.output × (new ≡ old ++ kept)

-- no more bytes of the input are taken than the run takes, and after a success exactly so many
abbrev pub TakesRun : Run → (old : List ℕ) → Result Meant MeanFail → (new : List ℕ) → Type 0
TakesRun r old (Ok m) new = (gone : List ℕ) × (old ≡ gone ++ new) × (length gone ≡ r.taken)
TakesRun r old (Err e) new = (gone : List ℕ) × (old ≡ gone ++ new) × (length gone ≤ r.taken)
