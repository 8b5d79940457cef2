-- The state of a run: the globals, the frames of the active calls, and the outside.
use Rattle.std.specs.Prelude.{ℕ, ◌+◌, ◌-◌, max, Bool, nat_eq, if◌then◌else◌, List, [], ◌∷◌, ◌++◌, length, replicate, get_or, slice_set, Option, None}
use Rattle.c_program.specs.declared.expressions.Target.{Target}
use Rattle.c_values.specs.declared.value.Root.{Root}
use Rattle.c_values.specs.declared.value.Root.TheVariants as root
use Rattle.c_values.specs.declared.value.Object.{Object}
use Rattle.c_values.specs.declared.value.Value.{Value}
use Rattle.c_values.specs.Objects.{nothing, read_path, write_path, same_target}

-- what a function or a service that isn't part of the program did: its value, and the globals after it
pub record Reply : Type 0 where
  pub value : Value
  pub globals : List Value

-- the outside: the input left and the bytes taken of it, the output, and the answers to come of
-- functions that aren't here; where `asks` is true, services are answered so too
pub record World : Type 0 where
  pub input : List ℕ
  pub taken : ℕ
  pub output : List ℕ
  pub asks : Bool
  pub replies : List Reply

-- an active call: of which function or adjustor, the values of its locals with its parameters first,
-- its extra arguments, and those that `va_arg` has yet to take, where `va_start` is in force; and what
-- it and the calls below it are charged with
pub record Frame : Type 0 where
  pub who : Target
  pub locals : List Value
  pub extras : List Value
  pub rest : Option (List Value)
  pub active : ℕ

-- the frames stand with the innermost call's first, and so does the walk: the functions that were
-- innermost in turn, without equal neighbours. The peak is the greatest sum of charges so far
pub record State : Type 0 where
  pub globals : List Value
  pub frames : List Frame
  pub world : World
  pub peak : ℕ
  pub walk : List Target

abbrev pub active_in : List Frame → ℕ
active_in [] = 0
active_in (f ∷ fs) = f.active

-- how many frames stand below the innermost
abbrev pub below : List Frame → ℕ
below [] = 0
below (f ∷ fs) = length fs

abbrev pub walked : Target → List Target → List Target
walked t [] = t ∷ []
walked t (u ∷ us) = if same_target t u then u ∷ us else t ∷ u ∷ us

-- a call begins: it is active from here on
abbrev pub opened : Target → ℕ → (locals extras : List Value) → State → State
opened t charge locals extras s = record s {
  frames = record { who = t; locals = locals; extras = extras; rest = None; active = active_in s.frames + charge } ∷ s.frames;
  peak = max s.peak (active_in s.frames + charge);
  walk = walked t s.walk;
}

abbrev pub without_first : List Frame → List Frame
without_first [] = []
without_first (f ∷ fs) = fs

-- and ends
abbrev pub closed : State → State
closed s = record s { frames = without_first s.frames }

abbrev pub walk_back : List Frame → List Target → List Target
walk_back [] w = w
walk_back (f ∷ fs) w = walked f.who w

-- the innermost call goes on after a call that it made
abbrev pub resumed : State → State
resumed s = record s { walk = walk_back s.frames s.walk }

-- the locals of a call: the arguments that have parameters, and then those whose declarators are to come
abbrev pub padded : ℕ → List Value → List Value
padded n vs = vs ++ replicate (n - length vs) nothing

abbrev pub local_in : List Frame → (number local : ℕ) → Value
local_in [] n l = nothing
local_in (f ∷ fs) n l = if nat_eq (length fs) n then get_or f.locals l nothing else local_in fs n l

abbrev pub with_local : List Frame → (number local : ℕ) → Value → List Frame
with_local [] n l v = []
with_local (f ∷ fs) n l v = if nat_eq (length fs) n then record f { locals = slice_set f.locals l v } ∷ fs else f ∷ with_local fs n l v

abbrev pub read_root : Root → State → Value
read_root (root.Global g) s = get_or s.globals g nothing
read_root (root.Local n l) s = local_in s.frames n l

abbrev pub write_root : Root → Value → State → State
write_root (root.Global g) v s = record s { globals = slice_set s.globals g v }
write_root (root.Local n l) v s = record s { frames = with_local s.frames n l v }

-- what an object holds
unfoldable pub read : Object → State → Value
read o s = read_path (read_root o.root s) o.path

-- the state in which an object holds a value, and all else is as it was
unfoldable pub written : Object → Value → State → State
written o v s = write_root o.root (write_path (read_root o.root s) o.path v) s

-- a local of the innermost call
abbrev pub own_local : ℕ → State → Object
own_local l s = record { root = root.Local (below s.frames) l; path = [] }

abbrev pub with_rest : Option (List Value) → List Frame → List Frame
with_rest r [] = []
with_rest r (f ∷ fs) = record f { rest = r } ∷ fs

abbrev pub rest_in : List Frame → Option (List Value)
rest_in [] = None
rest_in (f ∷ fs) = f.rest

abbrev pub extras_in : List Frame → List Value
extras_in [] = []
extras_in (f ∷ fs) = f.extras
