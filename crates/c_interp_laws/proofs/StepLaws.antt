-- How a run goes on by each step.
use Rattle.std.proofs.Common.{◌≡◌, ℕ, ◌-◌, ◌<◌, ◌≤◌, List, [], ◌∷◌, ◌++◌, length, take, drop, refl, sym, ap, ◌∙◌}
use Rattle.std.specs.Prelude.{Some}
use Rattle.std.specs.Borrow.{Bor}
use Rattle.c_types.specs.declared.types.FunTy.{FunTy}
use Rattle.c_program.specs.declared.expressions.Target.{Target}
use Rattle.c_program.specs.declared.expressions.Place.{Place, out-Place}
use Rattle.c_program.specs.declared.expressions.TypedExpr.{TypedExpr, out-TypedExpr}
use Rattle.c_program.specs.declared.statements.Declared.{Declared}
use Rattle.c_program.specs.declared.statements.TypedItem.{TypedItem, out-TypedItem}
use Rattle.c_program.specs.declared.statements.TypedItem.TheVariants as item
use Rattle.c_program.specs.declared.statements.TypedItem.TheVariants.{outs-Declare, outs-VaList, outs-Stmt}
use Rattle.c_program.specs.declared.statements.TypedStmt.{TypedStmt, out-TypedStmt}
use Rattle.c_program.specs.declared.program.FunctionBody.{FunctionBody}
use Rattle.c_program.specs.declared.program.AdjustDef.{AdjustDef}
use Rattle.c_values.specs.declared.value.Value.{Value}
use Rattle.c_values.specs.declared.value.Value.TheVariants as value
use Rattle.c_values.specs.Objects.{zero_of, number_in}
use Rattle.c_values.specs.Numbers.{low_bits}
use Rattle.c_values.specs.declared.value.Object.{Object}
use Rattle.c_types.specs.declared.types.Ty.{Ty}
use Rattle.c_meaning.specs.declared.outcome.SourceEnd.TheVariants as ends
use Rattle.c_meaning.specs.Costs.{call_cost, expr_cost, declarator_cost}
use Rattle.c_meaning.specs.States.{State, opened, closed, padded, written, own_local, resumed}
use Rattle.c_meaning.specs.Rules.{Res, Done, Stop, Spent, Act, pay, ◌>>=◌, Flow, Callee, Body, Adjusts, Elsewhere, Setting, meaning, place_rule, expr_rule, stmt_rule, call_rule, items_rule, block_rule, leave, adjusted, set_local, initial_value, item_rule, end_extras, leave_adjustor, back, after, function_in, Traps, Calls, ask_in, given}
use Rattle.c_meaning.specs.Source.{stand}
use Rattle.c_meaning.proofs.Steps.{paid, unpaid}
use Rattle.c_meaning.proofs.Steady.{value_is, object_is, statement_is, call_is}
use Rattle.c_interp_steps.specs.declared.work.Called.TheVariants as called
use Rattle.c_interp_steps.specs.declared.work.Ending.TheVariants as ending
use Rattle.c_interp_steps.specs.declared.work.Pending.{Pending}
use Rattle.c_interp_steps.specs.declared.work.Pending.TheVariants as wait
use Rattle.c_interp_steps.specs.declared.work.Ending.{Ending}
use Rattle.c_interp_steps.specs.declared.work.ValueWork.{ValueWork}
use Rattle.c_interp_steps.specs.declared.work.FindWork.{FindWork}
use Rattle.c_interp_steps.specs.declared.work.RunWork.{RunWork}
use Rattle.c_interp_steps.specs.declared.work.PlaceWork.{PlaceWork}
use Rattle.c_interp_steps.specs.declared.work.UseWork.{UseWork}
use Rattle.c_interp_steps.specs.declared.work.FlowWork.{FlowWork}
use Rattle.c_interp_steps.specs.declared.work.ValueWork.TheVariants as vw
use Rattle.c_interp_steps.specs.declared.work.RunWork.TheVariants as run
use Rattle.c_interp_steps.specs.declared.work.Now.TheVariants as now
use Rattle.c_interp_steps.specs.Parts.{value_of, object_of, statement_of, item_of, items_of, declare_of, call_of, paid_value, paid_object, paid_statement}
use Rattle.c_interp_steps.specs.Rests.{flow_of, called_of, value_rest, find_rest, run_rest, place_rest, use_rest, flow_rest, leave_rest}
use Rattle.c_interp_steps.specs.Stack.{Last, finish, stopped, at_end, woken, resume, total}
use Rattle.c_interp_steps.proofs.StackLaws.{bind_finish, on_value, on_run, on_leave, top_wakes}

-- what pays and what doesn't
pay_goes : {A : Type 0} (n : ℕ) (f : Act A) (last : Last A) (s : State) (k j : ℕ) → n ≤ k → j ≡ k - n → finish (f s j) last ≡ finish (pay n f s k) last
pay_goes n f last s k j le at = ap (λ i. finish (f s i) last) at ∙ sym (ap (λ r. finish r last) (paid n f s k le))

pay_stops : {A : Type 0} (n : ℕ) (f : Act A) (last : Last A) (s : State) (k : ℕ) → k < n → stopped ends.Running s k ≡ finish (pay n f s k) last
unfolding finish
pay_stops n f last s k lt = sym (ap (λ r. finish r last) (unpaid n f s k lt))

module _ (m : Setting) (ps : List Pending) (s : State) (k : ℕ) where
  pub value_goes : (e : Bor TypedExpr) (n j : ℕ) → n ≡ expr_cost m.types (out-TypedExpr e.now) → n ≤ k → j ≡ k - n → finish (paid_value m e.now s j) (resume m ps).value ≡ total m (now.Value e) ps s k
  unfolding total value_of paid_value
  value_goes e n j is le at =
      pay_goes n (expr_rule (meaning m) (out-TypedExpr e.now)) (resume m ps).value s k j le at
      ∙ ap (λ c. finish (pay c (expr_rule (meaning m) (out-TypedExpr e.now)) s k) (resume m ps).value) is
      ∙ sym (ap (λ r. finish r (resume m ps).value) (value_is m e.now s k))

  pub value_stops : (e : Bor TypedExpr) → k < expr_cost m.types (out-TypedExpr e.now) → total m (now.Stopped ends.Running) ps s k ≡ total m (now.Value e) ps s k
  unfolding total value_of
  value_stops e lt =
      pay_stops (expr_cost m.types (out-TypedExpr e.now)) (expr_rule (meaning m) (out-TypedExpr e.now)) (resume m ps).value s k lt
      ∙ sym (ap (λ r. finish r (resume m ps).value) (value_is m e.now s k))

  pub object_goes : (p : Bor Place) (j : ℕ) → 1 ≤ k → j ≡ k - 1 → finish (paid_object m p.now s j) (resume m ps).object ≡ total m (now.Place p) ps s k
  unfolding total object_of paid_object
  object_goes p j le at =
      pay_goes 1 (place_rule (meaning m) (out-Place p.now)) (resume m ps).object s k j le at
      ∙ sym (ap (λ r. finish r (resume m ps).object) (object_is m p.now s k))

  pub object_stops : (p : Bor Place) → k < 1 → total m (now.Stopped ends.Running) ps s k ≡ total m (now.Place p) ps s k
  unfolding total object_of
  object_stops p lt =
      pay_stops 1 (place_rule (meaning m) (out-Place p.now)) (resume m ps).object s k lt
      ∙ sym (ap (λ r. finish r (resume m ps).object) (object_is m p.now s k))

  pub statement_goes : (x : Bor TypedStmt) (j : ℕ) → 1 ≤ k → j ≡ k - 1 → finish (paid_statement m x.now s j) (resume m ps).flow ≡ total m (now.Statement x) ps s k
  unfolding total statement_of paid_statement
  statement_goes x j le at =
      pay_goes 1 (stmt_rule m.types (meaning m) (out-TypedStmt x.now)) (resume m ps).flow s k j le at
      ∙ sym (ap (λ r. finish r (resume m ps).flow) (statement_is m x.now s k))

  pub statement_stops : (x : Bor TypedStmt) → k < 1 → total m (now.Stopped ends.Running) ps s k ≡ total m (now.Statement x) ps s k
  unfolding total statement_of
  statement_stops x lt =
      pay_stops 1 (stmt_rule m.types (meaning m) (out-TypedStmt x.now)) (resume m ps).flow s k lt
      ∙ sym (ap (λ r. finish r (resume m ps).flow) (statement_is m x.now s k))

  pub item_Declare : (x : Bor TypedItem) (d : Bor Declared) → x.now ≡ item.Declare d.now → total m (now.Declare d) ps s k ≡ total m (now.Item x) ps s k
  unfolding total item_of declare_of
  item_Declare x d is = sym (ap (λ i. finish (item_rule m.types (meaning m) i s k) (resume m ps).flow) (ap out-TypedItem is ∙ outs-Declare d.now))

  pub item_Stmt : (x : Bor TypedItem) (y : Bor TypedStmt) → x.now ≡ item.Stmt y.now → total m (now.Statement y) ps s k ≡ total m (now.Item x) ps s k
  unfolding total item_of statement_of
  item_Stmt x y is = sym (ap (λ i. finish (item_rule m.types (meaning m) i s k) (resume m ps).flow) (ap out-TypedItem is ∙ outs-Stmt y.now))

  pub item_VaList : (x : Bor TypedItem) (j : ℕ) → x.now ≡ item.VaList → 1 ≤ k → j ≡ k - 1 → finish (end_extras s j) (resume m ps).flow ≡ total m (now.Item x) ps s k
  unfolding total item_of
  item_VaList x j is le at =
      pay_goes 1 end_extras (resume m ps).flow s k j le at
      ∙ sym (ap (λ i. finish (item_rule m.types (meaning m) i s k) (resume m ps).flow) (ap out-TypedItem is ∙ outs-VaList))

  pub item_stops : (x : Bor TypedItem) → x.now ≡ item.VaList → k < 1 → total m (now.Stopped ends.Running) ps s k ≡ total m (now.Item x) ps s k
  unfolding total item_of
  item_stops x is lt =
      pay_stops 1 end_extras (resume m ps).flow s k lt
      ∙ sym (ap (λ i. finish (item_rule m.types (meaning m) i s k) (resume m ps).flow) (ap out-TypedItem is ∙ outs-VaList))

  -- a declarator's local, once it is zero
  zeroed : Declared → State
  zeroed d = written (own_local d.local s) (zero_of m.types d.ty) s

  pub declare_goes : (d : Bor Declared) (j : ℕ) → declarator_cost m.types d.now ≤ k → j ≡ k - declarator_cost m.types d.now → finish (initial_value (value_of m) d.now.local d.now.init (written (own_local d.now.local s) (zero_of m.types d.now.ty) s) j) (resume m ps).flow ≡ total m (now.Declare d) ps s k
  unfolding total declare_of value_of finish ◌>>=◌
  declare_goes d j le at = pay_goes (declarator_cost m.types d.now) (set_local d.now.local (zero_of m.types d.now.ty) >>= (λ flow. initial_value (meaning m).value d.now.local d.now.init)) (resume m ps).flow s k j le at

  pub declare_stops : (d : Bor Declared) → k < declarator_cost m.types d.now → total m (now.Stopped ends.Running) ps s k ≡ total m (now.Declare d) ps s k
  unfolding total declare_of
  declare_stops d lt = pay_stops (declarator_cost m.types d.now) (set_local d.now.local (zero_of m.types d.now.ty) >>= (λ flow. initial_value (meaning m).value d.now.local d.now.init)) (resume m ps).flow s k lt

  -- the initial value, which waits on the stack for the local
  pub init_some : (l : ℕ) (e : Bor TypedExpr) → total m (now.Value e) (ps ++ wait.Run (run.SetLocal l) ∷ []) s k ≡ finish (initial_value (value_of m) l (Some e.now) s k) (resume m ps).flow
  unfolding total run_rest
  init_some l e = on_run m ps (ps ++ wait.Run (run.SetLocal l) ∷ []) s k (run.SetLocal l) (value_of m e.now) refl

  called_is : (t : Target) (vs : List Value) (c : Callee) → m.callee t ≡ c → call_of m t vs s k ≡ call_rule m (meaning m) c t vs s k
  unfolding call_of
  called_is t vs c is = call_is m t vs s k ∙ ap (λ c. call_rule m (meaning m) c t vs s k) is

  -- the frame of a call of a body
  pub body_goes : (t : Target) (vs : List Value) (f : FunTy) (b : FunctionBody) (s' : State) (j : ℕ) → m.callee t ≡ Body f b → s' ≡ opened t (m.charge t) (padded (length b.locals) (take (length f.params) vs)) (drop (length f.params) vs) s → 1 ≤ k → j ≡ k - 1 →
      finish (items_of m b.block s' j) (resume m (ps ++ wait.Leave f.result ∷ [])).flow ≡ total m (now.Call t vs) ps s k
  unfolding total items_of leave_rest
  body_goes t vs f b s' j is at le paid' =
      on_leave m ps (ps ++ wait.Leave f.result ∷ []) s' j f.result (items_rule m.types (meaning m) b.block) refl
      ∙ bind_finish (items_rule m.types (meaning m) b.block) (leave m.types f.result) (resume m ps).value s' j
      ∙ pay_goes 1 (items_rule m.types (meaning m) b.block) (λ flow t' i. finish (leave m.types f.result flow t' i) (resume m ps).value) s' k j le paid'
      ∙ sym (bind_finish (block_rule m.types (meaning m) b.block) (leave m.types f.result) (resume m ps).value s' k)
      ∙ ap (λ z. finish ((block_rule m.types (meaning m) b.block >>= leave m.types f.result) z k) (resume m ps).value) at
      ∙ sym (ap (λ r. finish r (resume m ps).value) (called_is t vs (Body f b) is))

  pub body_stops : (t : Target) (vs : List Value) (f : FunTy) (b : FunctionBody) (s' : State) → m.callee t ≡ Body f b → s' ≡ opened t (m.charge t) (padded (length b.locals) (take (length f.params) vs)) (drop (length f.params) vs) s → k < 1 →
      total m (now.Stopped ends.Running) ps s' k ≡ total m (now.Call t vs) ps s k
  unfolding total
  body_stops t vs f b s' is at lt =
      pay_stops 1 (items_rule m.types (meaning m) b.block) (λ flow t' i. finish (leave m.types f.result flow t' i) (resume m ps).value) s' k lt
      ∙ sym (bind_finish (block_rule m.types (meaning m) b.block) (leave m.types f.result) (resume m ps).value s' k)
      ∙ ap (λ z. finish ((block_rule m.types (meaning m) b.block >>= leave m.types f.result) z k) (resume m ps).value) at
      ∙ sym (ap (λ r. finish r (resume m ps).value) (called_is t vs (Body f b) is))

  pub adjustor_goes : (t : Target) (vs : List Value) (f : FunTy) (a : AdjustDef) (s' : State) (j : ℕ) → m.callee t ≡ Adjusts f a → s' ≡ opened t (m.charge t) [] [] s → call_cost vs ≤ k → j ≡ k - call_cost vs →
      total m (now.Call a.target (adjusted f a vs)) (ps ++ wait.Value vw.LeaveAdjustor ∷ []) s' j ≡ total m (now.Call t vs) ps s k
  unfolding total value_rest call_of
  adjustor_goes t vs f a s' j is at le paid' =
      on_value m ps (ps ++ wait.Value vw.LeaveAdjustor ∷ []) s' j vw.LeaveAdjustor (call_of m a.target (adjusted f a vs)) refl
      ∙ adjusts t vs f a s' j is at le paid'
    where
      adjusts : (t : Target) (vs : List Value) (f : FunTy) (a : AdjustDef) (s' : State) (j : ℕ) → m.callee t ≡ Adjusts f a → s' ≡ opened t (m.charge t) [] [] s → call_cost vs ≤ k → j ≡ k - call_cost vs →
          finish ((call_of m a.target (adjusted f a vs) >>= leave_adjustor) s' j) (resume m ps).value ≡ finish (call_of m t vs s k) (resume m ps).value
      adjusts t vs f a s' j is at le paid' =
          ap (λ z. finish (((meaning m).call a.target (adjusted f a vs) >>= leave_adjustor) z j) (resume m ps).value) at
          ∙ pay_goes (call_cost vs) (λ s. ((meaning m).call a.target (adjusted f a vs) >>= leave_adjustor) (opened t (m.charge t) [] [] s)) (resume m ps).value s k j le paid'
          ∙ sym (ap (λ r. finish r (resume m ps).value) (called_is t vs (Adjusts f a) is))

  pub adjustor_stops : (t : Target) (vs : List Value) (f : FunTy) (a : AdjustDef) → m.callee t ≡ Adjusts f a → k < call_cost vs → total m (now.Stopped ends.Running) ps s k ≡ total m (now.Call t vs) ps s k
  unfolding total
  adjustor_stops t vs f a is lt =
      pay_stops (call_cost vs) (λ s. ((meaning m).call a.target (adjusted f a vs) >>= leave_adjustor) (opened t (m.charge t) [] [] s)) (resume m ps).value s k lt
      ∙ sym (ap (λ r. finish r (resume m ps).value) (called_is t vs (Adjusts f a) is))

  -- a call, after which the calling function goes on
  pub named_goes : (t : Target) (vs : List Value) → total m (now.Call t vs) (ps ++ wait.Back ∷ []) s k ≡ total m (now.Calling (called.Named t) vs) ps s k
  unfolding total called_of finish
  named_goes t vs =
      ap (λ c. finish (call_of m t vs s k) c.value) (top_wakes m ps wait.Back)
      ∙ sym (bind_finish (call_of m t vs) back (resume m ps).value s k)

  pub pointed_goes : (x : Value) (t : Target) (vs : List Value) → function_in x s k ≡ Done t s k → total m (now.Call t vs) (ps ++ wait.Back ∷ []) s k ≡ total m (now.Calling (called.Pointed x) vs) ps s k
  unfolding total called_of finish ◌>>=◌
  pointed_goes x t vs is = named_goes t vs ∙ sym (ap (λ r. finish (after r (λ t. call_of m t vs >>= back)) (resume m ps).value) is)

  pub pointed_stops : (x : Value) (vs : List Value) → function_in x s k ≡ Stop (Traps 242) s k → total m (now.Stopped (ends.Trap 242)) ps s k ≡ total m (now.Calling (called.Pointed x) vs) ps s k
  unfolding total called_of finish ◌>>=◌
  pointed_stops x vs is = sym (ap (λ r. finish (after r (λ t. call_of m t vs >>= back)) (resume m ps).value) is)

  -- a call of what isn't in the program
  pub nowhere_stops : (t : Target) (vs : List Value) → m.callee t ≡ Elsewhere → s.world.replies ≡ [] → total m (now.Stopped (ends.Trap 0)) ps s k ≡ total m (now.Call t vs) ps s k
  unfolding total finish
  nowhere_stops t vs is none = sym (ap (λ r. finish r (resume m ps).value) (called_is t vs Elsewhere is ∙ ap (λ l. ask_in l (Calls t vs) s k) none))

  -- what waits has what it waited for
  pub got_back : (v : Value) → total m (now.Got v) ps (resumed s) k ≡ total m (now.Got v) (ps ++ wait.Back ∷ []) s k
  unfolding total
  got_back v = sym (ap (λ c. c.value v s k) (top_wakes m ps wait.Back))

  pub got_value : (v : Value) (w : ValueWork) → finish (value_rest m w v s k) (resume m ps).value ≡ total m (now.Got v) (ps ++ wait.Value w ∷ []) s k
  unfolding total
  got_value v w = sym (ap (λ c. c.value v s k) (top_wakes m ps (wait.Value w)))

  pub got_find : (v : Value) (w : FindWork) → finish (find_rest w v s k) (resume m ps).object ≡ total m (now.Got v) (ps ++ wait.Find w ∷ []) s k
  unfolding total
  got_find v w = sym (ap (λ c. c.value v s k) (top_wakes m ps (wait.Find w)))

  pub got_run : (v : Value) (w : RunWork) → finish (run_rest m w v s k) (resume m ps).flow ≡ total m (now.Got v) (ps ++ wait.Run w ∷ []) s k
  unfolding total
  got_run v w = sym (ap (λ c. c.value v s k) (top_wakes m ps (wait.Run w)))

  pub found_place : (o : Object) (w : PlaceWork) → finish (place_rest m w o s k) (resume m ps).object ≡ total m (now.Found o) (ps ++ wait.Place w ∷ []) s k
  unfolding total
  found_place o w = sym (ap (λ c. c.object o s k) (top_wakes m ps (wait.Place w)))

  pub found_use : (o : Object) (w : UseWork) → finish (use_rest m w o s k) (resume m ps).value ≡ total m (now.Found o) (ps ++ wait.Use w ∷ []) s k
  unfolding total
  found_use o w = sym (ap (λ c. c.object o s k) (top_wakes m ps (wait.Use w)))

  pub ended_flow : (f : Ending) (w : FlowWork) → finish (flow_rest m w (flow_of f) s k) (resume m ps).flow ≡ total m (now.Ended f) (ps ++ wait.Flow w ∷ []) s k
  unfolding total
  ended_flow f w = sym (ap (λ c. c.flow (flow_of f) s k) (top_wakes m ps (wait.Flow w)))

  pub ended_leave : (f : Ending) (a : Ty) → total m (now.Got (given m.types a (flow_of f))) ps (closed s) k ≡ total m (now.Ended f) (ps ++ wait.Leave a ∷ []) s k
  unfolding total leave_rest finish
  ended_leave f a = sym (ap (λ c. c.flow (flow_of f) s k) (top_wakes m ps (wait.Leave a)))

  -- what comes to work that waits for something else
  pub got_astray : (v : Value) (p : Pending) → ((w : ValueWork) → p ≡ wait.Value w → ⊥) → ((w : FindWork) → p ≡ wait.Find w → ⊥) → ((w : RunWork) → p ≡ wait.Run w → ⊥) → (p ≡ wait.Back → ⊥) → total m (now.Stopped (ends.Trap 0)) ps s k ≡ total m (now.Got v) (ps ++ p ∷ []) s k
  unfolding total
  got_astray v p a b c d = by p a b c d ∙ sym (ap (λ x. x.value v s k) (top_wakes m ps p))
    where
      by : (p : Pending) → ((w : ValueWork) → p ≡ wait.Value w → ⊥) → ((w : FindWork) → p ≡ wait.Find w → ⊥) → ((w : RunWork) → p ≡ wait.Run w → ⊥) → (p ≡ wait.Back → ⊥) → stopped (ends.Trap 0) s k ≡ (woken m p (resume m ps)).value v s k
      by (wait.Value w) a b c d = absurd (a w refl)
      by (wait.Find w) a b c d = absurd (b w refl)
      by (wait.Run w) a b c d = absurd (c w refl)
      by (wait.Place w) a b c d = refl
      by (wait.Use w) a b c d = refl
      by (wait.Flow w) a b c d = refl
      by (wait.Leave t) a b c d = refl
      by wait.Back a b c d = absurd (d refl)

  pub found_astray : (o : Object) (p : Pending) → ((w : PlaceWork) → p ≡ wait.Place w → ⊥) → ((w : UseWork) → p ≡ wait.Use w → ⊥) → total m (now.Stopped (ends.Trap 0)) ps s k ≡ total m (now.Found o) (ps ++ p ∷ []) s k
  unfolding total
  found_astray o p a b = by p a b ∙ sym (ap (λ x. x.object o s k) (top_wakes m ps p))
    where
      by : (p : Pending) → ((w : PlaceWork) → p ≡ wait.Place w → ⊥) → ((w : UseWork) → p ≡ wait.Use w → ⊥) → stopped (ends.Trap 0) s k ≡ (woken m p (resume m ps)).object o s k
      by (wait.Value w) a b = refl
      by (wait.Find w) a b = refl
      by (wait.Run w) a b = refl
      by (wait.Place w) a b = absurd (a w refl)
      by (wait.Use w) a b = absurd (b w refl)
      by (wait.Flow w) a b = refl
      by (wait.Leave t) a b = refl
      by wait.Back a b = refl

  pub ended_astray : (f : Ending) (p : Pending) → ((w : FlowWork) → p ≡ wait.Flow w → ⊥) → ((t : Ty) → p ≡ wait.Leave t → ⊥) → total m (now.Stopped (ends.Trap 0)) ps s k ≡ total m (now.Ended f) (ps ++ p ∷ []) s k
  unfolding total
  ended_astray f p a b = by p a b ∙ sym (ap (λ x. x.flow (flow_of f) s k) (top_wakes m ps p))
    where
      by : (p : Pending) → ((w : FlowWork) → p ≡ wait.Flow w → ⊥) → ((t : Ty) → p ≡ wait.Leave t → ⊥) → stopped (ends.Trap 0) s k ≡ (woken m p (resume m ps)).flow (flow_of f) s k
      by (wait.Value w) a b = refl
      by (wait.Find w) a b = refl
      by (wait.Run w) a b = refl
      by (wait.Place w) a b = refl
      by (wait.Use w) a b = refl
      by (wait.Flow w) a b = absurd (a w refl)
      by (wait.Leave t) a b = absurd (b t refl)
      by wait.Back a b = refl

pub got_last : (m : Setting) (v : Value) (s : State) (k : ℕ) → total m (now.Stopped (ends.Exit (low_bits 8 (number_in v)))) [] s k ≡ total m (now.Got v) [] s k
unfolding total resume
got_last m v s k = refl

pub found_last : (m : Setting) (o : Object) (s : State) (k : ℕ) → total m (now.Stopped (ends.Trap 0)) [] s k ≡ total m (now.Found o) [] s k
unfolding total resume
found_last m o s k = refl

pub ended_last : (m : Setting) (f : Ending) (s : State) (k : ℕ) → total m (now.Stopped (ends.Trap 0)) [] s k ≡ total m (now.Ended f) [] s k
unfolding total resume
ended_last m f s k = refl

-- where nothing waits, a call is all that there is
pub call_alone : (m : Setting) (t : Target) (s : State) (k : ℕ) → total m (now.Call t []) [] s k ≡ stand ((meaning m).call t [] s k)
unfolding total call_of resume finish
call_alone m t s k = ended_so ((meaning m).call t [] s k)
  where
    ended_so : (r : Res Value) → finish r at_end.value ≡ stand r
    ended_so (Done v s k) = refl
    ended_so (Stop o s k) = refl
    ended_so (Spent s k) = refl

pub ruleset pointings = (pointed_goes, pointed_stops)
