-- The state in which a run ends goes on from that of each step on the way.
use Rattle.std.proofs.Common.{ℕ, List, [], ◌∷◌, ◌++◌}
use Rattle.std.specs.Prelude.{Option, Some, None, reverse, option_copied}
use Rattle.c_types.specs.declared.types.Ty.{Ty}
use Rattle.c_program.specs.declared.expressions.Place.{out-Place}
use Rattle.c_program.specs.declared.expressions.TypedExpr.{TypedExpr}
use Rattle.c_program.specs.declared.statements.TypedItem.{out-TypedItem}
use Rattle.c_values.specs.declared.value.Object.{Object}
use Rattle.c_values.specs.declared.value.Value.{Value, out-Value}
use Rattle.c_values.specs.Objects.{truth, number_in}
use Rattle.c_meaning.specs.States.{State, resumed, own_local}
use Rattle.c_meaning.specs.Rules.{Res, Done, Stop, Spent, Act, Flow, Setting, meaning, values}
use Rattle.c_interp_steps.specs.declared.work.Called.{Called}
use Rattle.c_interp_steps.specs.declared.work.Called.TheVariants as called
use Rattle.c_interp_steps.specs.declared.work.Loop.{Loop}
use Rattle.c_interp_steps.specs.declared.work.ValueWork.{ValueWork}
use Rattle.c_interp_steps.specs.declared.work.ValueWork.TheVariants as vw
use Rattle.c_interp_steps.specs.declared.work.FindWork.{FindWork}
use Rattle.c_interp_steps.specs.declared.work.FindWork.TheVariants as fw
use Rattle.c_interp_steps.specs.declared.work.RunWork.{RunWork}
use Rattle.c_interp_steps.specs.declared.work.RunWork.TheVariants as run
use Rattle.c_interp_steps.specs.declared.work.PlaceWork.{PlaceWork}
use Rattle.c_interp_steps.specs.declared.work.PlaceWork.TheVariants as pw
use Rattle.c_interp_steps.specs.declared.work.UseWork.{UseWork}
use Rattle.c_interp_steps.specs.declared.work.UseWork.TheVariants as uw
use Rattle.c_interp_steps.specs.declared.work.FlowWork.{FlowWork}
use Rattle.c_interp_steps.specs.declared.work.FlowWork.TheVariants as lw
use Rattle.c_interp_steps.specs.declared.work.Pending.{Pending}
use Rattle.c_interp_steps.specs.declared.work.Pending.TheVariants as wait
use Rattle.c_interp_steps.specs.declared.work.Now.{Now}
use Rattle.c_interp_steps.specs.declared.work.Now.TheVariants as now
use Rattle.c_interp_steps.specs.Parts.{value_of, object_of, statement_of, loop_of, call_of, item_of, items_of, declare_of, declares_of, begin_of, paid_object}
use Rattle.c_interp_steps.specs.Rests.{flow_of, called_of, arguments_of, loop_in, step_of, turn_of, value_rest, find_rest, run_rest, place_rest, use_rest, flow_rest, leave_rest}
use Rattle.c_interp_steps.specs.Stack.{Last, Next, finish, astray, woken, resume_from, resume, total}
use Rattle.c_interp_laws.specs.Later.{Later}
use Rattle.c_interp_laws.proofs.Lives.{later_refl, later_trans, later_resumed, state_in, Good, good_bind, good_choose, good_pure, good_pointed, good_function, good_bounded, good_computed, good_load, good_store, good_serve, good_extra, good_set, good_back, good_leave, good_leave_adjustor, good_begin_extras, good_end_extras, good_meaning, good_values, good_place, good_item, good_items, good_declare, good_declare_all, good_begin, good_then, good_again, good_effect}

finish_lives : {A : Type 0} (r : Res A) (last : Last A) (s : State) → Later s (state_in r) → ((a : A) (t : State) (k : ℕ) → Later t (last a t k).state) → Later s (finish r last).state
unfolding finish
finish_lives (Done a t k) last s h g = later_trans s t _ h (g a t k)
finish_lives (Stop o t k) last s h g = h
finish_lives (Spent t k) last s h g = h

module _ (m : Setting) where
  value_good : (e : TypedExpr) → Good (value_of m e)
  unfolding value_of
  value_good e = (good_meaning m).values e

  object_good : (p : _) → Good (object_of m p)
  unfolding object_of
  object_good p = (good_meaning m).objects p

  statement_good : (x : _) → Good (statement_of m x)
  unfolding statement_of
  statement_good x = (good_meaning m).statements x

  loop_good : (c n : Option TypedExpr) (x : _) → Good (loop_of m c n x)
  unfolding loop_of
  loop_good c n x = (good_meaning m).loops c n x

  call_good : (t : _) (vs : List Value) → Good (call_of m t vs)
  unfolding call_of
  call_good t vs = (good_meaning m).calls t vs

  item_good : (x : _) → Good (item_of m x)
  unfolding item_of
  item_good x = good_item m (meaning m) (good_meaning m) (out-TypedItem x)

  items_good : (xs : _) → Good (items_of m xs)
  unfolding items_of
  items_good xs = good_items m (meaning m) (good_meaning m) xs

  declare_good : (d : _) → Good (declare_of m d)
  unfolding declare_of
  declare_good d = good_declare m (meaning m) (good_meaning m) d

  declares_good : (ds : _) → Good (declares_of m ds)
  unfolding declares_of
  declares_good ds = good_declare_all m (meaning m) (good_meaning m) ds

  begin_good : (b : _) → Good (begin_of m b)
  unfolding begin_of
  begin_good b = good_begin m (meaning m) (good_meaning m) b

  paid_good : (p : _) → Good (paid_object m p)
  unfolding paid_object
  paid_good p = good_place m (meaning m) (good_meaning m) (out-Place p)

  values_good : (es : List TypedExpr) → Good (values (value_of m) es)
  unfolding value_of
  values_good es = good_values m (meaning m) (good_meaning m) es

  called_good : (c : Called) (vs : List Value) → Good (called_of m c vs)
  unfolding called_of
  called_good (called.Named t) vs = good_bind (call_good t vs) good_back
  called_good (called.Pointed x) vs = good_bind (good_function (out-Value x)) (λ t. good_bind (call_good t vs) good_back)
  called_good (called.Service x) vs = good_serve x vs

  arguments_good : (c : Called) (done : List Value) (es : List TypedExpr) → Good (arguments_of m c done es)
  unfolding arguments_of
  arguments_good c done es = good_bind (values_good es) (λ vs. called_good c (done ++ vs))

  loop_in_good : (l : Loop) → Good (loop_in m l)
  unfolding loop_in
  loop_in_good l = loop_good (option_copied l.test) (option_copied l.step) l.body.now

  step_good : (l : Loop) → Good (step_of m l)
  unfolding step_of value_of
  step_good l = good_bind (good_effect m (meaning m) (good_meaning m) (option_copied l.step)) (λ flow. loop_in_good l)

  turn_good : (l : Loop) → Good (turn_of m l)
  unfolding turn_of
  turn_good l = good_bind (statement_good l.body.now) (good_again m (meaning m) (good_meaning m) (step_good l))

  value_rest_good : (w : ValueWork) (v : Value) → Good (value_rest m w v)
  unfolding value_rest
  value_rest_good (vw.Negate i) v = good_pure _
  value_rest_good (vw.Complement i) v = good_pure _
  value_rest_good vw.Not v = good_pure _
  value_rest_good (vw.Convert i) v = good_pure _
  value_rest_good (vw.BinaryThen o i b) v = good_bind (value_good b.now) (λ y. good_computed _)
  value_rest_good (vw.BinaryWith o i x) v = good_computed _
  value_rest_good (vw.CompareThen c b) v = good_bind (value_good b.now) (λ y. good_pure _)
  value_rest_good (vw.CompareWith c x) v = good_pure _
  value_rest_good (vw.AndThen b) v = good_choose (truth v) (good_bind (value_good b.now) (λ y. good_pure _)) (good_pure _)
  value_rest_good (vw.OrThen b) v = good_choose (truth v) (good_pure _) (good_bind (value_good b.now) (λ y. good_pure _))
  value_rest_good vw.Truth v = good_pure _
  value_rest_good (vw.Choose a b) v = good_choose (truth v) (value_good a.now) (value_good b.now)
  value_rest_good (vw.StoreAt o) v = good_store o v
  value_rest_good (vw.UpdateAt op i j o x) v = good_bind (good_computed _) (good_store o)
  value_rest_good (vw.FieldOf f) v = good_pure _
  value_rest_good (vw.ElementThen i n) v = good_bind (value_good i.now) (λ y. good_bind (good_bounded n (number_in y)) (λ k. good_pure _))
  value_rest_good (vw.ElementWith x n) v = good_bind (good_bounded n (number_in v)) (λ k. good_pure _)
  value_rest_good (vw.CallThen es) v = arguments_good (called.Pointed v) [] es.now
  value_rest_good (vw.Arguments c done es) v = arguments_good c (done ++ v ∷ []) es.now
  value_rest_good vw.LeaveAdjustor v = good_leave_adjustor v

  find_rest_good : (w : FindWork) (v : Value) → Good (find_rest w v)
  unfolding find_rest
  find_rest_good fw.Target v = good_pointed (out-Value v)
  find_rest_good (fw.Arrow f) v = good_bind (good_pointed (out-Value v)) (λ o. good_pure _)
  find_rest_good (fw.ElementAt o n) v = good_bind (good_bounded n (number_in v)) (λ k. good_pure _)

  run_rest_good : (w : RunWork) (v : Value) → Good (run_rest m w v)
  unfolding run_rest
  run_rest_good run.Discard v = good_pure _
  run_rest_good (run.SetLocal l) v = good_set l v
  run_rest_good (run.If x) v = good_choose (truth v) (statement_good x.now) (good_pure _)
  run_rest_good (run.IfElse x y) v = good_choose (truth v) (statement_good x.now) (statement_good y.now)
  run_rest_good (run.LoopTest l) v = good_choose (truth v) (turn_good l) (good_pure _)
  run_rest_good (run.LoopStep l) v = loop_in_good l
  run_rest_good run.Return v = good_pure _

  place_rest_good : (w : PlaceWork) (o : Object) → Good (place_rest m w o)
  unfolding place_rest
  place_rest_good (pw.Field f) o = good_pure _
  place_rest_good (pw.ElementThen i n) o = good_bind (value_good i.now) (λ v. good_bind (good_bounded n (number_in v)) (λ k. good_pure _))

  use_rest_good : (w : UseWork) (o : Object) → Good (use_rest m w o)
  unfolding use_rest
  use_rest_good uw.Load o = good_load o
  use_rest_good uw.Address o = good_pure _
  use_rest_good (uw.AssignThen e) o = good_bind (value_good e.now) (good_store o)
  use_rest_good (uw.UpdateThen op i j e) o = good_bind (good_load o) (λ x. good_bind (value_good e.now) (λ y. good_bind (good_computed _) (good_store o)))
  use_rest_good (uw.Before i up) o = good_bind (good_load o) (λ x. good_store o _)
  use_rest_good (uw.After i up) o = good_bind (good_load o) (λ x. good_bind (good_store o _) (λ y. good_pure x))

  flow_rest_good : (w : FlowWork) (f : Flow) → Good (flow_rest m w f)
  unfolding flow_rest
  flow_rest_good (lw.Items xs) f = good_then m (meaning m) (good_meaning m) (items_good xs.now) f
  flow_rest_good (lw.Declares ds) f = declares_good ds.now
  flow_rest_good (lw.Begin l) f = loop_in_good l
  flow_rest_good (lw.Again l) f = good_again m (meaning m) (good_meaning m) (step_good l) f
  flow_rest_good (lw.Do c x) f = good_again m (meaning m) (good_meaning m) (loop_good (Some c.now) None x.now) f

  leave_rest_good : (a : Ty) (f : Flow) → Good (leave_rest m a f)
  unfolding leave_rest
  leave_rest_good a f = good_leave m.types a f

  record GoodNext (c : Next) : Type 0 where
    value : (v : Value) (s : State) (k : ℕ) → Later s (c.value v s k).state
    object : (o : Object) (s : State) (k : ℕ) → Later s (c.object o s k).state
    flow : (f : Flow) (s : State) (k : ℕ) → Later s (c.flow f s k).state

  strays : {A : Type 0} (a : A) (s : State) (k : ℕ) → Later s (astray a s k).state
  strays a s k = later_refl s

  wakes : (p : Pending) (c : Next) → GoodNext c → GoodNext (woken m p c)
  wakes (wait.Value w) c h = record { value = λ v s k. finish_lives _ c.value s ((value_rest_good w v).lives s k) h.value; object = strays; flow = strays }
  wakes (wait.Find w) c h = record { value = λ v s k. finish_lives _ c.object s ((find_rest_good w v).lives s k) h.object; object = strays; flow = strays }
  wakes (wait.Run w) c h = record { value = λ v s k. finish_lives _ c.flow s ((run_rest_good w v).lives s k) h.flow; object = strays; flow = strays }
  wakes (wait.Place w) c h = record { value = strays; object = λ o s k. finish_lives _ c.object s ((place_rest_good w o).lives s k) h.object; flow = strays }
  wakes (wait.Use w) c h = record { value = strays; object = λ o s k. finish_lives _ c.value s ((use_rest_good w o).lives s k) h.value; flow = strays }
  wakes (wait.Flow w) c h = record { value = strays; object = strays; flow = λ f s k. finish_lives _ c.flow s ((flow_rest_good w f).lives s k) h.flow }
  wakes (wait.Leave a) c h = record { value = strays; object = strays; flow = λ f s k. finish_lives _ c.value s ((leave_rest_good a f).lives s k) h.value }
  wakes wait.Back c h = record { value = λ v s k. later_trans s (resumed s) _ (later_resumed s) (h.value v (resumed s) k); object = strays; flow = strays }

  resumes_from : (ps : List Pending) → GoodNext (resume_from m ps)
  resumes_from [] = record { value = λ v s k. later_refl s; object = strays; flow = strays }
  resumes_from (p ∷ ps) = wakes p (resume_from m ps) (resumes_from ps)

  resumes : (ps : List Pending) → GoodNext (resume m ps)
  unfolding resume
  resumes ps = resumes_from (reverse ps)

  of_value : (f : Act Value) (ps : List Pending) (s : State) (k : ℕ) → Good f → Later s (finish (f s k) (resume m ps).value).state
  of_value f ps s k h = finish_lives (f s k) (resume m ps).value s (h.lives s k) (resumes ps).value

  of_object : (f : Act Object) (ps : List Pending) (s : State) (k : ℕ) → Good f → Later s (finish (f s k) (resume m ps).object).state
  of_object f ps s k h = finish_lives (f s k) (resume m ps).object s (h.lives s k) (resumes ps).object

  of_flow : (f : Act Flow) (ps : List Pending) (s : State) (k : ℕ) → Good f → Later s (finish (f s k) (resume m ps).flow).state
  of_flow f ps s k h = finish_lives (f s k) (resume m ps).flow s (h.lives s k) (resumes ps).flow

  pub goes_on_to : (n : Now) (ps : List Pending) (s : State) (k : ℕ) → Later s (total m n ps s k).state
  unfolding total
  goes_on_to (now.Value e) ps s k = of_value _ ps s k (value_good e.now)
  goes_on_to (now.Place p) ps s k = of_object _ ps s k (object_good p.now)
  goes_on_to (now.Statement x) ps s k = of_flow _ ps s k (statement_good x.now)
  goes_on_to (now.Item x) ps s k = of_flow _ ps s k (item_good x.now)
  goes_on_to (now.Declare d) ps s k = of_flow _ ps s k (declare_good d.now)
  goes_on_to (now.Paid p) ps s k = of_object _ ps s k (paid_good p.now)
  goes_on_to (now.Begin b) ps s k = of_flow _ ps s k (begin_good b.now)
  goes_on_to (now.Local l) ps s k = (resumes ps).object (own_local l s) s k
  goes_on_to (now.Extra i) ps s k = of_value _ ps s k (good_extra i)
  goes_on_to (now.Extras on) ps s k = of_flow _ ps s k (good_choose on good_begin_extras good_end_extras)
  goes_on_to (now.Store o v) ps s k = of_value _ ps s k (good_store o v)
  goes_on_to (now.SetLocal l v) ps s k = of_flow _ ps s k (good_set l v)
  goes_on_to (now.Close v) ps s k = of_value _ ps s k (good_leave_adjustor v)
  goes_on_to (now.Loop l) ps s k = of_flow _ ps s k (loop_in_good l)
  goes_on_to (now.Calling c vs) ps s k = of_value _ ps s k (called_good c vs)
  goes_on_to (now.Call t vs) ps s k = of_value _ ps s k (call_good t vs)
  goes_on_to (now.Got v) ps s k = (resumes ps).value v s k
  goes_on_to (now.Found o) ps s k = (resumes ps).object o s k
  goes_on_to (now.Ended f) ps s k = (resumes ps).flow (flow_of f) s k
  goes_on_to (now.Stopped o) ps s k = later_refl s
