-- What the work that waits comes to, and how much it is.
use Rattle.std.specs.Prelude.{ℕ, ◌+◌, ◌*◌, List, [], ◌∷◌, ◌++◌, length, reverse}
use Rattle.c_values.specs.declared.value.Object.{Object}
use Rattle.c_values.specs.declared.value.Value.{Value}
use Rattle.c_meaning.specs.declared.outcome.SourceEnd.{SourceEnd}
use Rattle.c_meaning.specs.declared.outcome.SourceEnd.TheVariants as ends
use Rattle.c_meaning.specs.States.{State, resumed, own_local}
use Rattle.c_meaning.specs.Rules.{Res, Done, Stop, Spent, choose, Flow, Setting, store, set_local, leave_adjustor, next_extra, begin_extras, end_extras}
use Rattle.c_meaning.specs.Source.{Stand, stand, ended}
use Rattle.c_interp_steps.specs.declared.work.Pending.{Pending}
use Rattle.c_interp_steps.specs.declared.work.Pending.TheVariants as wait
use Rattle.c_interp_steps.specs.declared.work.Now.{Now}
use Rattle.c_interp_steps.specs.declared.work.Now.TheVariants as now
use Rattle.c_interp_steps.specs.declared.work.Turn.{Turn}
use Rattle.c_interp_steps.specs.declared.work.Turn.TheVariants as turn
use Rattle.c_interp_steps.specs.Parts.{value_of, object_of, statement_of, item_of, declare_of, call_of, begin_of, paid_object}
use Rattle.c_interp_steps.specs.Rests.{flow_of, called_of, loop_in, value_rest, find_rest, run_rest, place_rest, use_rest, flow_rest, leave_rest}

-- what is made of a value
abbrev pub Last : Type 0 → Type 0
Last A = A → State → ℕ → Stand

abbrev pub stopped : SourceEnd → State → ℕ → Stand
stopped o s k = record { outcome = o; state = s; left = k }

-- how a run stands where an evaluation and what follows it are all that is left
unfoldable pub finish : {A : Type 0} → Res A → Last A → Stand
finish (Done a s k) go = go a s k
finish (Stop o s k) go = stopped (ended o) s k
finish (Spent s k) go = stopped ends.Running s k

-- what the waiting work makes of a value, of an object and of a statement's end
pub record Next : Type 0 where
  pub value : Last Value
  pub object : Last Object
  pub flow : Last Flow

-- what comes to work that waits for something else; no work does
abbrev pub astray : {A : Type 0} → Last A
astray a s k = stopped (ends.Trap 0) s k

abbrev pub woken : Setting → Pending → Next → Next
woken m (wait.Value w) c = record { value = λ v s k. finish (value_rest m w v s k) c.value; object = astray; flow = astray }
woken m (wait.Find w) c = record { value = λ v s k. finish (find_rest w v s k) c.object; object = astray; flow = astray }
woken m (wait.Run w) c = record { value = λ v s k. finish (run_rest m w v s k) c.flow; object = astray; flow = astray }
woken m (wait.Place w) c = record { value = astray; object = λ o s k. finish (place_rest m w o s k) c.object; flow = astray }
woken m (wait.Use w) c = record { value = astray; object = λ o s k. finish (use_rest m w o s k) c.value; flow = astray }
woken m (wait.Flow w) c = record { value = astray; object = astray; flow = λ f s k. finish (flow_rest m w f s k) c.flow }
woken m (wait.Leave a) c = record { value = astray; object = astray; flow = λ f s k. finish (leave_rest m a f s k) c.value }
woken m wait.Back c = record { value = λ v s k. c.value v (resumed s) k; object = astray; flow = astray }

-- where nothing waits, a value is that of `main`
abbrev pub at_end : Next
at_end = record { value = λ v s k. stand (Done v s k); object = astray; flow = astray }

abbrev pub resume_from : Setting → List Pending → Next
resume_from m [] = at_end
resume_from m (p ∷ ps) = woken m p (resume_from m ps)

-- of the work as it stands in a vector, the last first
unfoldable pub resume : Setting → List Pending → Next
resume m ps = resume_from m (reverse ps)

-- how the run stands in the end
unfoldable pub total : Setting → Now → List Pending → State → ℕ → Stand
total m (now.Value e) ps s k = finish (value_of m e.now s k) (resume m ps).value
total m (now.Place p) ps s k = finish (object_of m p.now s k) (resume m ps).object
total m (now.Statement x) ps s k = finish (statement_of m x.now s k) (resume m ps).flow
total m (now.Item x) ps s k = finish (item_of m x.now s k) (resume m ps).flow
total m (now.Declare d) ps s k = finish (declare_of m d.now s k) (resume m ps).flow
total m (now.Paid p) ps s k = finish (paid_object m p.now s k) (resume m ps).object
total m (now.Begin b) ps s k = finish (begin_of m b.now s k) (resume m ps).flow
total m (now.Local l) ps s k = (resume m ps).object (own_local l s) s k
total m (now.Extra i) ps s k = finish (next_extra i s k) (resume m ps).value
total m (now.Extras on) ps s k = finish (choose on begin_extras end_extras s k) (resume m ps).flow
total m (now.Store o v) ps s k = finish (store o v s k) (resume m ps).value
total m (now.SetLocal l v) ps s k = finish (set_local l v s k) (resume m ps).flow
total m (now.Close v) ps s k = finish (leave_adjustor v s k) (resume m ps).value
total m (now.Loop l) ps s k = finish (loop_in m l s k) (resume m ps).flow
total m (now.Calling c vs) ps s k = finish (called_of m c vs s k) (resume m ps).value
total m (now.Call t vs) ps s k = finish (call_of m t vs s k) (resume m ps).value
total m (now.Got v) ps s k = (resume m ps).value v s k
total m (now.Found o) ps s k = (resume m ps).object o s k
total m (now.Ended f) ps s k = (resume m ps).flow (flow_of f) s k
total m (now.Stopped o) ps s k = stopped o s k

-- how much is to be done before units are paid again
abbrev pub kind : Now → ℕ
kind (now.Value e) = 0
kind (now.Place p) = 0
kind (now.Statement x) = 0
kind (now.Item x) = 0
kind (now.Declare d) = 0
kind (now.Paid p) = 12
kind (now.Begin b) = 11
kind (now.Loop l) = 4
kind (now.Local l) = 11
kind (now.Extra i) = 11
kind (now.Extras on) = 11
kind (now.Store o v) = 11
kind (now.SetLocal l v) = 11
kind (now.Close v) = 11
kind (now.Calling c vs) = 11
kind (now.Call t vs) = 0
kind (now.Got v) = 10
kind (now.Found o) = 10
kind (now.Ended f) = 10
kind (now.Stopped o) = 0

abbrev pub load : Now → List Pending → ℕ
load n ps = 3 * length ps + kind n

-- after a step, with what is to wait put on the stack
unfoldable pub turned : Setting → Turn → List Pending → State → ℕ → Stand
turned m (turn.Go n) ps s k = total m n ps s k
turned m (turn.Await p n) ps s k = total m n (ps ++ p ∷ []) s k

abbrev pub turn_load : Turn → ℕ
turn_load (turn.Go n) = kind n
turn_load (turn.Await p n) = 3 + kind n
