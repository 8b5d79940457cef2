-- How the steps of an interpreter go on with a run.
use Rattle.std.specs.Prelude.{◌≡◌, ℕ, ◌+◌, ◌*◌, ◌<◌, ◌≤◌, Bool, IsTrue, List, [], ◌∷◌, ◌++◌, length, ◌⊎◌, Result, Ok, Err}
use Rattle.hx_words.specs.Prefixes.{IsPrefix}
use Rattle.c_program.specs.declared.expressions.Target.{Target}
use Rattle.c_values.specs.declared.value.Value.{Value}
use Rattle.c_values.specs.declared.value.Value.TheVariants as value
use Rattle.std.specs.Prelude.{pos, negsuc}
use Rattle.c_meaning.specs.Rules.{Setting, with_input}
use Rattle.c_meaning.specs.Source.{Stand}
use Rattle.c_state.specs.declared.store.Store.{Store}
use Rattle.c_state.specs.Seen.{Unseen, state_of, with_left}
use Rattle.c_interp_steps.specs.declared.work.Called.{Called}
use Rattle.c_interp_steps.specs.declared.work.Called.TheVariants as called
use Rattle.c_interp_steps.specs.declared.work.Now.{Now}
use Rattle.c_interp_steps.specs.declared.work.Now.TheVariants as now
use Rattle.c_interp_steps.specs.Stack.{total, load}
use Rattle.c_interp_acts.specs.declared.machine.Machine.{Machine}
use Rattle.c_interp_acts.specs.declared.meant.MeanFail.{MeanFail}

-- how the run stands in the end, by what is to be done next and the machine
abbrev pub stands : Setting → Now → Machine → Unseen → Stand
stands m n x h = total m n x.stack.items (state_of x.store h) x.left

-- how much is left to do: a unit pays for less than 16 steps
abbrev pub measure : Now → Machine → ℕ
measure n x = 16 * x.left + load n x.stack.items

-- the run stands as it did
abbrev pub Same : Setting → Now → Machine → Now → Machine → Type 0
Same m n x n' x' = (h : Unseen) → stands m n' x' h ≡ stands m n x h

-- whether the run goes on
abbrev pub IsGoing : Now → Type 0
IsGoing (now.Stopped o) = ⊥
IsGoing _ = Unit {0}

-- where the run goes on, less is left to do
abbrev pub Less : Now → Machine → Now → Machine → Type 0
Less n x n' x' = IsGoing n' → measure n' x' < measure n x

abbrev pub with_walk : List Target → Unseen → Unseen
with_walk w h = record h { walk = w }

-- a step that touches neither the input nor the output: the run stands as it did, but for the
-- functions that were innermost, which aren't kept, and less is left to do
pub record Steps (m : Setting) (n : Now) (x : Machine) (n' : Now) (x' : Machine) : Type 0 where
  pub same : (h : Unseen) → (w : List Target) × (stands m n' x' (with_walk w h) ≡ stands m n x h)
  pub less : Less n x n' x'
  pub left : x'.left ≤ x.left

-- so for a call of a target with these arguments
abbrev pub CallsFrom : Setting → Target → List Value → Machine → Now → Machine → Type 0
CallsFrom m t vs x n' x' = (h : Unseen) → (w : List Target) × (stands m n' x' (with_walk w h) ≡ stands m (now.Call t vs) x h)

-- a call that takes the next byte of the input and gives it, or gives -1 at the end. Want of memory
-- can come after the byte was taken
abbrev pub TakesByte : List ℕ → Store → Result Value MeanFail → List ℕ → Store → Type 0
TakesByte before x (Ok v) after y =
    ((b : ℕ) × (before ≡ b ∷ after) × (v ≡ value.Number (pos b)) × ((h : Unseen) → state_of y (with_left after h) ≡ with_input after (state_of x h)))
    ⊎ ((before ≡ []) × (after ≡ []) × (v ≡ value.Number (negsuc 0)) × (y ≡ x))
TakesByte before x (Err e) after y = ((b : ℕ) × (before ≡ b ∷ after)) ⊎ (after ≡ before)

-- the bytes of the whole input that a run takes
abbrev pub Took : List ℕ → Stand → Type 0
Took whole run = (gone : List ℕ) × (whole ≡ gone ++ run.state.world.input) × (run.state.world.taken ≡ length gone)

-- the run that a machine is on the way of, and what it has done: the whole input and what is left of
-- it; whether the output is told, what it held first, and what it holds
pub record Ties (m : Setting) (run : Stand) (whole left : List ℕ) (told : Bool) (first bytes : List ℕ) (n : Now) (x : Machine) : Type 0 where
  pub unseen : Unseen
  pub same : stands m n x unseen ≡ run
  pub input : unseen.input ≡ left
  pub gone : List ℕ
  pub split : whole ≡ gone ++ left
  pub put : IsTrue told → bytes ≡ first ++ unseen.output
  pub took : Took whole run

-- what was done before a run was broken off
pub record Broke (run : Stand) (whole left : List ℕ) (told : Bool) (first bytes : List ℕ) : Type 0 where
  pub gone : List ℕ
  pub split : whole ≡ gone ++ left
  pub taken : length gone ≤ run.state.world.taken
  pub kept : List ℕ
  pub prefix : IsPrefix kept run.state.world.output
  pub put : IsTrue told → bytes ≡ first ++ kept

-- whether a step touches neither the input nor the output
abbrev pub IsOwnCall : Called → Type 0
IsOwnCall (called.Named t) = Unit {0}
IsOwnCall (called.Pointed v) = Unit {0}
IsOwnCall (called.Service s) = ⊥

abbrev pub IsOwnStep : Now → Type 0
IsOwnStep (now.Calling c vs) = IsOwnCall c
IsOwnStep _ = Unit {0}
