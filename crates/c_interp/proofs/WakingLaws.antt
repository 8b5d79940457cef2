-- What waits has what it waited for: the run stands as it did.
use Rattle.std.proofs.Common.{◌≡◌, ℕ, ◌+◌, ◌*◌, ◌≤◌, List, [], ◌∷◌, ◌++◌, length, length-append, sym, ap, ◌∙◌, arith}
use Rattle.c_types.specs.declared.types.IntTy.{IntTy}
use Rattle.c_types.specs.declared.types.Ty.{Ty}
use Rattle.std.specs.Borrow.{Bor}
use Rattle.c_program.specs.declared.expressions.Arithmetic.{Arithmetic}
use Rattle.c_program.specs.declared.expressions.TypedExpr.{TypedExpr}
use Rattle.std.specs.Prelude.{Bool, Result, Ok, Err, IfOk}
use Rattle.c_values.specs.declared.value.Object.{Object}
use Rattle.c_values.specs.declared.value.Value.{Value}
use Rattle.c_values.specs.declared.value.Value.TheVariants as value
use Rattle.c_values.specs.Numbers.{low_bits, stepped}
use Rattle.c_values.specs.Objects.{number_in}
use Rattle.c_meaning.specs.declared.outcome.SourceEnd.TheVariants as ends
use Rattle.c_meaning.specs.States.{State, resumed, read, written}
use Rattle.c_meaning.specs.Rules.{Setting, ◌>>=◌, store, computed, updated}
use Rattle.c_meaning.specs.Source.{Stand}
use Rattle.c_state.specs.declared.store.Store.{Store}
use Rattle.c_state.specs.Seen.{Unseen, state_of}
use Rattle.c_interp_steps.specs.declared.work.Ending.{Ending}
use Rattle.c_interp_steps.specs.declared.work.Pending.{Pending}
use Rattle.c_interp_steps.specs.declared.work.Pending.TheVariants as wait
use Rattle.c_interp_steps.specs.declared.work.ValueWork.{ValueWork}
use Rattle.c_interp_steps.specs.declared.work.ValueWork.TheVariants as vw
use Rattle.c_interp_steps.specs.declared.work.FindWork.{FindWork}
use Rattle.c_interp_steps.specs.declared.work.RunWork.{RunWork}
use Rattle.c_interp_steps.specs.declared.work.PlaceWork.{PlaceWork}
use Rattle.c_interp_steps.specs.declared.work.UseWork.{UseWork}
use Rattle.c_interp_steps.specs.declared.work.UseWork.TheVariants as uw
use Rattle.c_interp_steps.specs.declared.work.FlowWork.{FlowWork}
use Rattle.c_interp_steps.specs.declared.work.Now.{Now}
use Rattle.c_interp_steps.specs.declared.work.Now.TheVariants as now
use Rattle.c_interp_steps.specs.declared.work.Turn.{Turn}
use Rattle.c_interp_steps.specs.Parts.{value_of}
use Rattle.c_interp_steps.specs.Rests.{flow_of, value_rest, find_rest, run_rest, place_rest, use_rest, flow_rest, leave_rest}
use Rattle.c_interp_steps.specs.Stack.{finish, kind, resume, total, turned}
use Rattle.c_interp_steps.proofs.StackLaws.{on_value, no_items}
use Rattle.c_interp_laws.proofs.StepLaws.{got_back, got_value, got_find, got_run, found_place, found_use, ended_flow, ended_leave, got_astray, found_astray, ended_astray, got_last, found_last, ended_last}
use Rattle.c_interp_acts.specs.declared.machine.Machine.{Machine}
use Rattle.c_interp_acts.specs.Going.{stands, measure, Same, Less}
use Rattle.c_interp.specs.Walked.{Walks}

-- what is put on the stack goes on as the turn says
pub wakes : (m : Setting) (n : Now) (x z : Machine) (turn : Turn) (ps : List Pending) (h : Unseen) (r : Stand) → ((m : Setting) (s : State) (k : ℕ) → total m n z.stack.items s k ≡ turned m turn ps s k) → z.store ≡ x.store → z.left ≡ x.left → turned m turn ps (state_of x.store h) x.left ≡ r → stands m n z h ≡ r
wakes m n x z turn ps h r goes st le is =
    ap (λ w. total m n z.stack.items (state_of w h) z.left) st ∙ ap (λ k. total m n z.stack.items (state_of x.store h) k) le ∙ goes m (state_of x.store h) x.left ∙ is

-- a body's end leaves its call
leave_step : (m : Setting) (ps : List Pending) (s : State) (k : ℕ) (f : Ending) (a : Ty) → finish (leave_rest m a (flow_of f) s k) (resume m ps).value ≡ total m (now.Ended f) (ps ++ wait.Leave a ∷ []) s k
unfolding total leave_rest finish
leave_step m ps s k f a = ended_leave m ps s k f a

-- what waited is taken off the stack, and has what it waited for
module _ {E : Type 0} (r : Result Now E) (x z : Machine) (ps : List Pending) (p : Pending) (iq : x.stack.items ≡ ps ++ p ∷ []) where
  pub gives_value : (v : Value) (w : ValueWork) → p ≡ wait.Value w → IfOk r (λ n. (m : Setting) (h : Unseen) → stands m n z h ≡ finish (value_rest m w v (state_of x.store h) x.left) (resume m ps).value) → IfOk r (λ n. (m : Setting) → Walks m (now.Got v) x n z)
  gives_value v w ip is = by r is
    where
      by : (r : Result Now E) → IfOk r (λ n. (m : Setting) (h : Unseen) → stands m n z h ≡ finish (value_rest m w v (state_of x.store h) x.left) (resume m ps).value) → IfOk r (λ n. (m : Setting) → Walks m (now.Got v) x n z)
      by (Ok n) is = λ m h. (h.walk, is m h ∙ got_value m ps (state_of x.store h) x.left v w ∙ ap (λ q. total m (now.Got v) (ps ++ q ∷ []) (state_of x.store h) x.left) (sym ip) ∙ ap (λ l. total m (now.Got v) l (state_of x.store h) x.left) (sym iq))
      by (Err e) is = tt

  pub gives_find : (v : Value) (w : FindWork) → p ≡ wait.Find w → IfOk r (λ n. (m : Setting) (h : Unseen) → stands m n z h ≡ finish (find_rest w v (state_of x.store h) x.left) (resume m ps).object) → IfOk r (λ n. (m : Setting) → Walks m (now.Got v) x n z)
  gives_find v w ip is = by r is
    where
      by : (r : Result Now E) → IfOk r (λ n. (m : Setting) (h : Unseen) → stands m n z h ≡ finish (find_rest w v (state_of x.store h) x.left) (resume m ps).object) → IfOk r (λ n. (m : Setting) → Walks m (now.Got v) x n z)
      by (Ok n) is = λ m h. (h.walk, is m h ∙ got_find m ps (state_of x.store h) x.left v w ∙ ap (λ q. total m (now.Got v) (ps ++ q ∷ []) (state_of x.store h) x.left) (sym ip) ∙ ap (λ l. total m (now.Got v) l (state_of x.store h) x.left) (sym iq))
      by (Err e) is = tt

  pub gives_run : (v : Value) (w : RunWork) → p ≡ wait.Run w → IfOk r (λ n. (m : Setting) (h : Unseen) → stands m n z h ≡ finish (run_rest m w v (state_of x.store h) x.left) (resume m ps).flow) → IfOk r (λ n. (m : Setting) → Walks m (now.Got v) x n z)
  gives_run v w ip is = by r is
    where
      by : (r : Result Now E) → IfOk r (λ n. (m : Setting) (h : Unseen) → stands m n z h ≡ finish (run_rest m w v (state_of x.store h) x.left) (resume m ps).flow) → IfOk r (λ n. (m : Setting) → Walks m (now.Got v) x n z)
      by (Ok n) is = λ m h. (h.walk, is m h ∙ got_run m ps (state_of x.store h) x.left v w ∙ ap (λ q. total m (now.Got v) (ps ++ q ∷ []) (state_of x.store h) x.left) (sym ip) ∙ ap (λ l. total m (now.Got v) l (state_of x.store h) x.left) (sym iq))
      by (Err e) is = tt

  pub gives_place : (o : Object) (w : PlaceWork) → p ≡ wait.Place w → IfOk r (λ n. (m : Setting) (h : Unseen) → stands m n z h ≡ finish (place_rest m w o (state_of x.store h) x.left) (resume m ps).object) → IfOk r (λ n. (m : Setting) → Same m (now.Found o) x n z)
  gives_place o w ip is = by r is
    where
      by : (r : Result Now E) → IfOk r (λ n. (m : Setting) (h : Unseen) → stands m n z h ≡ finish (place_rest m w o (state_of x.store h) x.left) (resume m ps).object) → IfOk r (λ n. (m : Setting) → Same m (now.Found o) x n z)
      by (Ok n) is = λ m h. is m h ∙ found_place m ps (state_of x.store h) x.left o w ∙ ap (λ q. total m (now.Found o) (ps ++ q ∷ []) (state_of x.store h) x.left) (sym ip) ∙ ap (λ l. total m (now.Found o) l (state_of x.store h) x.left) (sym iq)
      by (Err e) is = tt

  pub gives_use : (o : Object) (w : UseWork) → p ≡ wait.Use w → IfOk r (λ n. (m : Setting) (h : Unseen) → stands m n z h ≡ finish (use_rest m w o (state_of x.store h) x.left) (resume m ps).value) → IfOk r (λ n. (m : Setting) → Same m (now.Found o) x n z)
  gives_use o w ip is = by r is
    where
      by : (r : Result Now E) → IfOk r (λ n. (m : Setting) (h : Unseen) → stands m n z h ≡ finish (use_rest m w o (state_of x.store h) x.left) (resume m ps).value) → IfOk r (λ n. (m : Setting) → Same m (now.Found o) x n z)
      by (Ok n) is = λ m h. is m h ∙ found_use m ps (state_of x.store h) x.left o w ∙ ap (λ q. total m (now.Found o) (ps ++ q ∷ []) (state_of x.store h) x.left) (sym ip) ∙ ap (λ l. total m (now.Found o) l (state_of x.store h) x.left) (sym iq)
      by (Err e) is = tt

  pub gives_flow : (m : Setting) (f : Ending) (w : FlowWork) → p ≡ wait.Flow w → IfOk r (λ n. (m : Setting) (h : Unseen) → stands m n z h ≡ finish (flow_rest m w (flow_of f) (state_of x.store h) x.left) (resume m ps).flow) → IfOk r (λ n. Same m (now.Ended f) x n z)
  gives_flow m f w ip is = by r is
    where
      by : (r : Result Now E) → IfOk r (λ n. (m : Setting) (h : Unseen) → stands m n z h ≡ finish (flow_rest m w (flow_of f) (state_of x.store h) x.left) (resume m ps).flow) → IfOk r (λ n. Same m (now.Ended f) x n z)
      by (Ok n) is = λ h. is m h ∙ ended_flow m ps (state_of x.store h) x.left f w ∙ ap (λ q. total m (now.Ended f) (ps ++ q ∷ []) (state_of x.store h) x.left) (sym ip) ∙ ap (λ l. total m (now.Ended f) l (state_of x.store h) x.left) (sym iq)
      by (Err e) is = tt

  pub gives_leave : (m : Setting) (f : Ending) (w : Ty) → p ≡ wait.Leave w → IfOk r (λ n. (h : Unseen) → stands m n z h ≡ finish (leave_rest m w (flow_of f) (state_of x.store h) x.left) (resume m ps).value) → IfOk r (λ n. Same m (now.Ended f) x n z)
  gives_leave m f w ip is = by r is
    where
      by : (r : Result Now E) → IfOk r (λ n. (h : Unseen) → stands m n z h ≡ finish (leave_rest m w (flow_of f) (state_of x.store h) x.left) (resume m ps).value) → IfOk r (λ n. Same m (now.Ended f) x n z)
      by (Ok n) is = λ h. is h ∙ leave_step m ps (state_of x.store h) x.left f w ∙ ap (λ q. total m (now.Ended f) (ps ++ q ∷ []) (state_of x.store h) x.left) (sym ip) ∙ ap (λ l. total m (now.Ended f) l (state_of x.store h) x.left) (sym iq)
      by (Err e) is = tt

  pub within_less : (n0 : Now) → kind n0 ≡ 10 → IfOk r (λ n. measure n z ≤ 16 * x.left + 3 * length ps + 12) → IfOk r (λ n. Less n0 x n z)
  within_less n0 ik is = by r is
    where
      by : (r : Result Now E) → IfOk r (λ n. measure n z ≤ 16 * x.left + 3 * length ps + 12) → IfOk r (λ n. Less n0 x n z)
      by (Ok n) l = λ going. omega (arith, l, ap length iq, length-append ps (p ∷ []), ik)
      by (Err e) l = tt

-- what waits for something else
module _ (m : Setting) (x : Machine) (ps : List Pending) (p : Pending) (h : Unseen) where
  pub strays_value : (v : Value) (n : Now) → n ≡ now.Stopped (ends.Trap 0) → x.stack.items ≡ ps ++ p ∷ [] → ((w : ValueWork) → p ≡ wait.Value w → ⊥) → ((w : FindWork) → p ≡ wait.Find w → ⊥) → ((w : RunWork) → p ≡ wait.Run w → ⊥) → (p ≡ wait.Back → ⊥) → total m n ps (state_of x.store h) x.left ≡ stands m (now.Got v) x h
  strays_value v n is iq a b c d = let s = state_of x.store h in
      ap (λ n. total m n ps s x.left) is ∙ got_astray m ps s x.left v p a b c d ∙ ap (λ l. total m (now.Got v) l s x.left) (sym iq)

  pub strays_object : (o : Object) (n : Now) → n ≡ now.Stopped (ends.Trap 0) → x.stack.items ≡ ps ++ p ∷ [] → ((w : PlaceWork) → p ≡ wait.Place w → ⊥) → ((w : UseWork) → p ≡ wait.Use w → ⊥) → total m n ps (state_of x.store h) x.left ≡ stands m (now.Found o) x h
  strays_object o n is iq a b = let s = state_of x.store h in
      ap (λ n. total m n ps s x.left) is ∙ found_astray m ps s x.left o p a b ∙ ap (λ l. total m (now.Found o) l s x.left) (sym iq)

  pub strays_flow : (f : Ending) (n : Now) → n ≡ now.Stopped (ends.Trap 0) → x.stack.items ≡ ps ++ p ∷ [] → ((w : FlowWork) → p ≡ wait.Flow w → ⊥) → ((t : Ty) → p ≡ wait.Leave t → ⊥) → total m n ps (state_of x.store h) x.left ≡ stands m (now.Ended f) x h
  strays_flow f n is iq a b = let s = state_of x.store h in
      ap (λ n. total m n ps s x.left) is ∙ ended_astray m ps s x.left f p a b ∙ ap (λ l. total m (now.Ended f) l s x.left) (sym iq)

-- nothing waits
pub last_value : (m : Setting) (x : Machine) (ps : List Pending) (h : Unseen) (v : Value) (b : ℕ) → length x.stack.items ≡ 0 → b ≡ low_bits 8 (number_in v) → total m (now.Stopped (ends.Exit b)) ps (state_of x.store h) x.left ≡ stands m (now.Got v) x h
unfolding total
last_value m x ps h v b none is = let s = state_of x.store h in
    ap (λ b. total m (now.Stopped (ends.Exit b)) [] s x.left) is ∙ got_last m v s x.left ∙ ap (λ l. total m (now.Got v) l s x.left) (sym (no_items x.stack.items none))

pub last_object : (m : Setting) (x : Machine) (ps : List Pending) (h : Unseen) (o : Object) → length x.stack.items ≡ 0 → total m (now.Stopped (ends.Trap 0)) ps (state_of x.store h) x.left ≡ stands m (now.Found o) x h
unfolding total
last_object m x ps h o none = let s = state_of x.store h in found_last m o s x.left ∙ ap (λ l. total m (now.Found o) l s x.left) (sym (no_items x.stack.items none))

pub last_flow : (m : Setting) (x : Machine) (ps : List Pending) (h : Unseen) (f : Ending) → length x.stack.items ≡ 0 → total m (now.Stopped (ends.Trap 0)) ps (state_of x.store h) x.left ≡ stands m (now.Ended f) x h
unfolding total
last_flow m x ps h f none = let s = state_of x.store h in ended_last m f s x.left ∙ ap (λ l. total m (now.Ended f) l s x.left) (sym (no_items x.stack.items none))

-- what an object is used for, once it is found
module _ (m : Setting) (x : Machine) (h : Unseen) (o : Object) where
  pub use_load : (w : UseWork) (v : Value) → w ≡ uw.Load → v ≡ read o (state_of x.store h) → stands m (now.Got v) x h ≡ finish (use_rest m w o (state_of x.store h) x.left) (resume m x.stack.items).value
  unfolding total finish use_rest
  use_load w v ew is = let s = state_of x.store h in let last = (resume m x.stack.items).value in
      ap (λ v. last v s x.left) is ∙ ap (λ w. finish (use_rest m w o s x.left) last) (sym ew)

  pub use_address : (w : UseWork) → w ≡ uw.Address → stands m (now.Got (value.Pointer o)) x h ≡ finish (use_rest m w o (state_of x.store h) x.left) (resume m x.stack.items).value
  unfolding total finish use_rest
  use_address w ew = ap (λ w. finish (use_rest m w o (state_of x.store h) x.left) (resume m x.stack.items).value) (sym ew)

  pub use_before : (w : UseWork) (i : IntTy) (up : Bool) (v old : Value) → w ≡ uw.Before i up → v ≡ value.Number (stepped i up (number_in old)) → old ≡ read o (state_of x.store h) → stands m (now.Store o v) x h ≡ finish (use_rest m w o (state_of x.store h) x.left) (resume m x.stack.items).value
  unfolding total finish use_rest ◌>>=◌
  use_before w i up v old ew iv io = let s = state_of x.store h in let last = (resume m x.stack.items).value in
      ap (λ v. finish (store o v s x.left) last) (iv ∙ ap (λ a. value.Number (stepped i up (number_in a))) io) ∙ ap (λ w. finish (use_rest m w o s x.left) last) (sym ew)

  pub use_after : (w : UseWork) (i : IntTy) (up : Bool) (v old : Value) (y : Store) → w ≡ uw.After i up → v ≡ value.Number (stepped i up (number_in old)) → old ≡ read o (state_of x.store h) → state_of y h ≡ written o v (state_of x.store h) → stands m (now.Got old) (record x { store = y }) h ≡ finish (use_rest m w o (state_of x.store h) x.left) (resume m x.stack.items).value
  unfolding total finish use_rest ◌>>=◌
  use_after w i up v old y ew iv io iw = let s = state_of x.store h in let last = (resume m x.stack.items).value in
      ap (λ t. last old t x.left) iw ∙ ap (λ v. last old (written o v s) x.left) iv
      ∙ ap (λ a. last a (written o (value.Number (stepped i up (number_in a))) s) x.left) io ∙ ap (λ w. finish (use_rest m w o s x.left) last) (sym ew)

  pub use_assign : (w : UseWork) (e : Bor TypedExpr) (ys : List Pending) → w ≡ uw.AssignThen e → ys ≡ x.stack.items ++ wait.Value (vw.StoreAt o) ∷ [] → total m (now.Value e) ys (state_of x.store h) x.left ≡ finish (use_rest m w o (state_of x.store h) x.left) (resume m x.stack.items).value
  unfolding total use_rest value_rest
  use_assign w e ys ew iq = let s = state_of x.store h in let last = (resume m x.stack.items).value in
      on_value m x.stack.items ys s x.left (vw.StoreAt o) (value_of m e.now) iq ∙ ap (λ w. finish (use_rest m w o s x.left) last) (sym ew)

  pub use_update : (w : UseWork) (op : Arithmetic) (i j : IntTy) (e : Bor TypedExpr) (old : Value) (ys : List Pending) → w ≡ uw.UpdateThen op i j e → old ≡ read o (state_of x.store h) → ys ≡ x.stack.items ++ wait.Value (vw.UpdateAt op i j o old) ∷ [] → total m (now.Value e) ys (state_of x.store h) x.left ≡ finish (use_rest m w o (state_of x.store h) x.left) (resume m x.stack.items).value
  unfolding total use_rest value_rest ◌>>=◌
  use_update w op i j e old ys ew io iq = let s = state_of x.store h in let last = (resume m x.stack.items).value in
      on_value m x.stack.items ys s x.left (vw.UpdateAt op i j o old) (value_of m e.now) iq
      ∙ ap (λ a. finish ((value_of m e.now >>= (λ b. computed (updated op i j a b) >>= store o)) s x.left) last) io
      ∙ ap (λ w. finish (use_rest m w o s x.left) last) (sym ew)

-- a call's caller goes on
module _ (m : Setting) (x : Machine) (ps : List Pending) (p : Pending) (h : Unseen) (iq : x.stack.items ≡ ps ++ p ∷ []) where
  pub backs : (v : Value) → p ≡ wait.Back → total m (now.Got v) ps (resumed (state_of x.store h)) x.left ≡ stands m (now.Got v) x h
  backs v ip = let s = state_of x.store h in
      got_back m ps s x.left v ∙ ap (λ q. total m (now.Got v) (ps ++ q ∷ []) s x.left) (sym ip) ∙ ap (λ l. total m (now.Got v) l s x.left) (sym iq)
