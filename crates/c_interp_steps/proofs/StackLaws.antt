-- What a stack makes of work that is put on it.
use Rattle.std.proofs.Common.{◌≡◌, ℕ, List, [], ◌∷◌, ◌++◌, length, refl, sym, ap, ◌∙◌, arith}
use Rattle.std.specs.Borrow.{Bor}
use Rattle.std.proofs.lemmas.List.{reverse-append}
use Rattle.c_types.specs.declared.types.Ty.{Ty}
use Rattle.c_program.specs.declared.expressions.Place.{Place}
use Rattle.c_program.specs.declared.expressions.TypedExpr.{TypedExpr}
use Rattle.c_program.specs.declared.statements.Declared.{Declared}
use Rattle.c_program.specs.declared.statements.ForBegin.{ForBegin}
use Rattle.c_program.specs.declared.statements.TypedItem.{TypedItem}
use Rattle.c_program.specs.declared.statements.TypedStmt.{TypedStmt}
use Rattle.c_values.specs.declared.value.Object.{Object}
use Rattle.c_values.specs.declared.value.Value.{Value}
use Rattle.c_meaning.specs.States.{State}
use Rattle.c_meaning.specs.Rules.{Res, Done, Stop, Spent, Act, after, pure, ◌>>=◌, Flow, Setting}
use Rattle.c_interp_steps.specs.declared.work.Pending.{Pending}
use Rattle.c_interp_steps.specs.declared.work.Pending.TheVariants as wait
use Rattle.c_interp_steps.specs.declared.work.ValueWork.{ValueWork}
use Rattle.c_interp_steps.specs.declared.work.FindWork.{FindWork}
use Rattle.c_interp_steps.specs.declared.work.RunWork.{RunWork}
use Rattle.c_interp_steps.specs.declared.work.PlaceWork.{PlaceWork}
use Rattle.c_interp_steps.specs.declared.work.UseWork.{UseWork}
use Rattle.c_interp_steps.specs.declared.work.FlowWork.{FlowWork}
use Rattle.c_interp_steps.specs.declared.work.Now.TheVariants as now
use Rattle.c_interp_steps.specs.declared.work.Turn.TheVariants as turn
use Rattle.c_interp_steps.specs.Parts.{value_of, object_of, statement_of, item_of, declare_of, begin_of, paid_object}
use Rattle.c_interp_steps.specs.Rests.{value_rest, find_rest, run_rest, place_rest, use_rest, flow_rest, leave_rest}
use Rattle.c_interp_steps.specs.Stack.{Last, finish, woken, resume_from, resume, total, turned}

finish_after : {A B : Type 0} (r : Res A) (go : A → Act B) (last : Last B) → finish (after r go) last ≡ finish r (λ a s k. finish (go a s k) last)
unfolding finish
finish_after (Done a s k) go last = refl
finish_after (Stop o s k) go last = refl
finish_after (Spent s k) go last = refl

-- what an evaluation and what follows it come to
pub bind_finish : {A B : Type 0} (f : Act A) (go : A → Act B) (last : Last B) (s : State) (k : ℕ) → finish ((f >>= go) s k) last ≡ finish (f s k) (λ a s k. finish (go a s k) last)
unfolding ◌>>=◌
bind_finish f go last s k = finish_after (f s k) go last

pub pure_finish : {A : Type 0} (a : A) (last : Last A) (s : State) (k : ℕ) → finish (pure a s k) last ≡ last a s k
unfolding finish
pure_finish a last s k = refl

pub top_wakes : (m : Setting) (xs : List Pending) (p : Pending) → resume m (xs ++ p ∷ []) ≡ woken m p (resume m xs)
unfolding resume
top_wakes m xs p = ap (resume_from m) (reverse-append xs (p ∷ []))

module _ (m : Setting) (xs ys : List Pending) (s : State) (k : ℕ) where
  pub on_value : (w : ValueWork) (f : Act Value) → ys ≡ xs ++ wait.Value w ∷ [] → finish (f s k) (resume m ys).value ≡ finish ((f >>= value_rest m w) s k) (resume m xs).value
  on_value w f e = ap (λ l. finish (f s k) (resume m l).value) e ∙ ap (λ c. finish (f s k) c.value) (top_wakes m xs (wait.Value w)) ∙ sym (bind_finish f (value_rest m w) (resume m xs).value s k)

  pub on_find : (w : FindWork) (f : Act Value) → ys ≡ xs ++ wait.Find w ∷ [] → finish (f s k) (resume m ys).value ≡ finish ((f >>= find_rest w) s k) (resume m xs).object
  on_find w f e = ap (λ l. finish (f s k) (resume m l).value) e ∙ ap (λ c. finish (f s k) c.value) (top_wakes m xs (wait.Find w)) ∙ sym (bind_finish f (find_rest w) (resume m xs).object s k)

  pub on_run : (w : RunWork) (f : Act Value) → ys ≡ xs ++ wait.Run w ∷ [] → finish (f s k) (resume m ys).value ≡ finish ((f >>= run_rest m w) s k) (resume m xs).flow
  on_run w f e = ap (λ l. finish (f s k) (resume m l).value) e ∙ ap (λ c. finish (f s k) c.value) (top_wakes m xs (wait.Run w)) ∙ sym (bind_finish f (run_rest m w) (resume m xs).flow s k)

  pub on_place : (w : PlaceWork) (f : Act Object) → ys ≡ xs ++ wait.Place w ∷ [] → finish (f s k) (resume m ys).object ≡ finish ((f >>= place_rest m w) s k) (resume m xs).object
  on_place w f e = ap (λ l. finish (f s k) (resume m l).object) e ∙ ap (λ c. finish (f s k) c.object) (top_wakes m xs (wait.Place w)) ∙ sym (bind_finish f (place_rest m w) (resume m xs).object s k)

  pub on_use : (w : UseWork) (f : Act Object) → ys ≡ xs ++ wait.Use w ∷ [] → finish (f s k) (resume m ys).object ≡ finish ((f >>= use_rest m w) s k) (resume m xs).value
  on_use w f e = ap (λ l. finish (f s k) (resume m l).object) e ∙ ap (λ c. finish (f s k) c.object) (top_wakes m xs (wait.Use w)) ∙ sym (bind_finish f (use_rest m w) (resume m xs).value s k)

  pub on_flow : (w : FlowWork) (f : Act Flow) → ys ≡ xs ++ wait.Flow w ∷ [] → finish (f s k) (resume m ys).flow ≡ finish ((f >>= flow_rest m w) s k) (resume m xs).flow
  on_flow w f e = ap (λ l. finish (f s k) (resume m l).flow) e ∙ ap (λ c. finish (f s k) c.flow) (top_wakes m xs (wait.Flow w)) ∙ sym (bind_finish f (flow_rest m w) (resume m xs).flow s k)

  pub on_leave : (a : Ty) (f : Act Flow) → ys ≡ xs ++ wait.Leave a ∷ [] → finish (f s k) (resume m ys).flow ≡ finish ((f >>= leave_rest m a) s k) (resume m xs).value
  on_leave a f e = ap (λ l. finish (f s k) (resume m l).flow) e ∙ ap (λ c. finish (f s k) c.flow) (top_wakes m xs (wait.Leave a)) ∙ sym (bind_finish f (leave_rest m a) (resume m xs).value s k)

-- work that is put on the stack while a part is evaluated
module _ (m : Setting) (ps : List Pending) (s : State) (k : ℕ) where
  pub await_value : (w : ValueWork) (x : Bor TypedExpr) → turned m (turn.Await (wait.Value w) (now.Value x)) ps s k ≡ finish ((value_of m x.now >>= value_rest m w) s k) (resume m ps).value
  unfolding turned total
  await_value w x = on_value m ps (ps ++ wait.Value w ∷ []) s k w (value_of m x.now) refl

  pub await_find : (w : FindWork) (x : Bor TypedExpr) → turned m (turn.Await (wait.Find w) (now.Value x)) ps s k ≡ finish ((value_of m x.now >>= find_rest w) s k) (resume m ps).object
  unfolding turned total
  await_find w x = on_find m ps (ps ++ wait.Find w ∷ []) s k w (value_of m x.now) refl

  pub await_run : (w : RunWork) (x : Bor TypedExpr) → turned m (turn.Await (wait.Run w) (now.Value x)) ps s k ≡ finish ((value_of m x.now >>= run_rest m w) s k) (resume m ps).flow
  unfolding turned total
  await_run w x = on_run m ps (ps ++ wait.Run w ∷ []) s k w (value_of m x.now) refl

  pub await_place : (w : PlaceWork) (x : Bor Place) → turned m (turn.Await (wait.Place w) (now.Place x)) ps s k ≡ finish ((object_of m x.now >>= place_rest m w) s k) (resume m ps).object
  unfolding turned total
  await_place w x = on_place m ps (ps ++ wait.Place w ∷ []) s k w (object_of m x.now) refl

  pub await_use : (w : UseWork) (x : Bor Place) → turned m (turn.Await (wait.Use w) (now.Place x)) ps s k ≡ finish ((object_of m x.now >>= use_rest m w) s k) (resume m ps).value
  unfolding turned total
  await_use w x = on_use m ps (ps ++ wait.Use w ∷ []) s k w (object_of m x.now) refl

  pub await_paid : (w : UseWork) (x : Bor Place) → turned m (turn.Await (wait.Use w) (now.Paid x)) ps s k ≡ finish ((paid_object m x.now >>= use_rest m w) s k) (resume m ps).value
  unfolding turned total
  await_paid w x = on_use m ps (ps ++ wait.Use w ∷ []) s k w (paid_object m x.now) refl

  pub await_statement : (w : FlowWork) (x : Bor TypedStmt) → turned m (turn.Await (wait.Flow w) (now.Statement x)) ps s k ≡ finish ((statement_of m x.now >>= flow_rest m w) s k) (resume m ps).flow
  unfolding turned total
  await_statement w x = on_flow m ps (ps ++ wait.Flow w ∷ []) s k w (statement_of m x.now) refl

  pub await_item : (w : FlowWork) (x : Bor TypedItem) → turned m (turn.Await (wait.Flow w) (now.Item x)) ps s k ≡ finish ((item_of m x.now >>= flow_rest m w) s k) (resume m ps).flow
  unfolding turned total
  await_item w x = on_flow m ps (ps ++ wait.Flow w ∷ []) s k w (item_of m x.now) refl

  pub await_declare : (w : FlowWork) (x : Bor Declared) → turned m (turn.Await (wait.Flow w) (now.Declare x)) ps s k ≡ finish ((declare_of m x.now >>= flow_rest m w) s k) (resume m ps).flow
  unfolding turned total
  await_declare w x = on_flow m ps (ps ++ wait.Flow w ∷ []) s k w (declare_of m x.now) refl

  pub await_begin : (w : FlowWork) (x : Bor ForBegin) → turned m (turn.Await (wait.Flow w) (now.Begin x)) ps s k ≡ finish ((begin_of m x.now >>= flow_rest m w) s k) (resume m ps).flow
  unfolding turned total
  await_begin w x = on_flow m ps (ps ++ wait.Flow w ∷ []) s k w (begin_of m x.now) refl

pub no_items : {A : Type 0} (xs : List A) → length xs ≡ 0 → xs ≡ []
no_items [] e = refl
no_items (x ∷ xs) e = absurd (omega (arith, e))
