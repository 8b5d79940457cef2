-- What a step leaves: the whole still comes to what the rules make of what was to be done.
use Rattle.std.specs.Prelude.{◌≡◌, ℕ, List, Option, Some, None}
use Rattle.c_program.specs.declared.expressions.Target.{Target}
use Rattle.c_values.specs.declared.value.Object.{Object}
use Rattle.c_values.specs.declared.value.Value.{Value}
use Rattle.c_meaning.specs.States.{State}
use Rattle.c_meaning.specs.Rules.{Act, Flow, Setting, pure, trap}
use Rattle.c_interp_steps.specs.declared.work.Pending.{Pending}
use Rattle.c_interp_steps.specs.declared.work.Turn.{Turn}
use Rattle.c_interp_steps.specs.Stack.{finish, resume, turned}

-- with the state as it is, whatever it is

abbrev pub GivesValue : (Setting → Act Value) → Turn → Type 0
GivesValue f t = (m : Setting) (ps : List Pending) (s : State) (k : ℕ) → turned m t ps s k ≡ finish (f m s k) (resume m ps).value

abbrev pub GivesObject : (Setting → Act Object) → Turn → Type 0
GivesObject f t = (m : Setting) (ps : List Pending) (s : State) (k : ℕ) → turned m t ps s k ≡ finish (f m s k) (resume m ps).object

abbrev pub GivesFlow : (Setting → Act Flow) → Turn → Type 0
GivesFlow f t = (m : Setting) (ps : List Pending) (s : State) (k : ℕ) → turned m t ps s k ≡ finish (f m s k) (resume m ps).flow

-- what a test of a value comes to

abbrev pub index_answer : Option ℕ → Act ℕ
index_answer None = trap 241
index_answer (Some i) = pure i

abbrev pub object_answer : Option Object → Act Object
object_answer None = trap 242
object_answer (Some o) = pure o

abbrev pub target_answer : Option Target → Act Target
target_answer None = trap 242
target_answer (Some t) = pure t
