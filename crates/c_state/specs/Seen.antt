-- Which state of the meaning an interpreter's state stands for.
use Rattle.std.specs.Prelude.{ℕ, ◌+◌, false, List, [], ◌∷◌, ◌++◌, length, map, reverse, get_or, slice_get, slice_set, nat_eq, if◌then◌else◌, Option, Some, None}
use Rattle.c_program.specs.declared.expressions.Target.{Target}
use Rattle.c_program.specs.declared.program.PathStep.{PathStep}
use Rattle.c_values.specs.declared.value.Value.{Value}
use Rattle.c_values.specs.Objects.{nothing, write_path}
use Rattle.c_meaning.specs.States.{State, Frame, walked, walk_back}
use Rattle.c_state.specs.declared.activation.Activation.{Activation}
use Rattle.c_state.specs.declared.store.Store.{Store}
use Rattle.c_state.specs.Extras.{rest_of}

-- what isn't kept: the input left, the output, and the functions that were innermost in turn
pub record Unseen : Type 0 where
  pub input : List ℕ
  pub output : List ℕ
  pub walk : List Target

abbrev pub frame_of : Activation → Frame
frame_of a = record { who = a.who; locals = a.locals; extras = a.extras; rest = rest_of a.begun a.extras; active = a.active }

-- of a vector, whose last is the innermost: the innermost first
unfoldable pub frames_of : List Activation → List Frame
frames_of as' = map frame_of (reverse as')

-- of the innermost call and those below it
abbrev pub frames_in : Option Activation → List Activation → List Frame
frames_in None below = []
frames_in (Some a) below = frame_of a ∷ frames_of below

abbrev pub stood : List Value → List Frame → (taken peak : ℕ) → Unseen → State
stood globals frames taken peak h = record {
  globals = globals;
  frames = frames;
  world = record { input = h.input; taken = taken; output = h.output; asks = false; replies = [] };
  peak = peak;
  walk = h.walk;
}

abbrev pub state_of : Store → Unseen → State
state_of s h = stood s.globals (frames_in s.top s.below.items) s.taken s.peak h

-- before any call
abbrev pub fresh : List Value → Unseen → State
fresh globals h = stood globals [] 0 0 h

abbrev pub with_frames : List Frame → State → State
with_frames frames s = record s { frames = frames }

-- the active call at a place from the outermost on
abbrev pub activation_in : Option Activation → List Activation → ℕ → Option Activation
activation_in None below n = None
activation_in (Some a) below n = if nat_eq (length below) n then Some a else slice_get below n

-- an active call with another value where a path leads in a local
abbrev pub rewritten : Activation → ℕ → List PathStep → Value → Activation
rewritten a l path v = record a { locals = slice_set a.locals l (write_path (get_or a.locals l nothing) path v) }

abbrev pub top_rewritten : Option Activation → ℕ → List PathStep → Value → Option Activation
top_rewritten None l path v = None
top_rewritten (Some a) l path v = Some (rewritten a l path v)

-- active calls, of which the one at a place, if it is there, is rewritten
abbrev pub below_rewritten : Option Activation → List Activation → (n l : ℕ) → List PathStep → Value → List Activation
below_rewritten None xs n l path v = xs
below_rewritten (Some a) xs n l path v = slice_set xs n (rewritten a l path v)

-- a local of an active call
abbrev pub local_at : Option Activation → ℕ → Value
local_at None l = nothing
local_at (Some a) l = get_or a.locals l nothing

-- a call of `who` becomes the innermost
abbrev pub walking : Target → Unseen → Unseen
walking who h = record h { walk = walked who h.walk }

-- the innermost call goes on after a call that it made
abbrev pub going_back : Store → Unseen → Unseen
going_back s h = record h { walk = walk_back (frames_in s.top s.below.items) h.walk }

abbrev pub with_left : List ℕ → Unseen → Unseen
with_left left h = record h { input = left }

-- one more byte is put
abbrev pub with_put : ℕ → Unseen → Unseen
with_put byte h = record h { output = h.output ++ byte ∷ [] }
