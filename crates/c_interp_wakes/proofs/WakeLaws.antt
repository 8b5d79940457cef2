-- What waiting work makes of what it waited for, as the turn that is left.
use Rattle.std.proofs.Common.{◌≡◌, ℕ, List, [], ◌∷◌, ◌++◌, Bool, true, false, not, ap, refl, sym, ◌∙◌, ℤ}
use Rattle.std.specs.Prelude.{Option, Some, None, option_map}
use Rattle.std.specs.Borrow.{Bor}
use Rattle.c_types.specs.declared.types.IntTy.{IntTy}
use Rattle.c_program.specs.declared.expressions.Arithmetic.{Arithmetic}
use Rattle.c_program.specs.declared.expressions.Comparison.{Comparison}
use Rattle.c_program.specs.declared.expressions.TypedExpr.{TypedExpr}
use Rattle.c_program.specs.declared.statements.Declared.{Declared}
use Rattle.c_program.specs.declared.statements.TypedItem.{TypedItem}
use Rattle.c_program.specs.declared.statements.TypedStmt.{TypedStmt}
use Rattle.c_program.specs.declared.program.PathStep.TheVariants as step
use Rattle.c_values.specs.declared.value.Object.{Object}
use Rattle.c_values.specs.declared.value.Value.{Value}
use Rattle.c_values.specs.declared.value.Value.TheVariants as value
use Rattle.c_values.specs.Numbers.{wrapped, arithmetic, negated, complemented}
use Rattle.c_values.specs.Objects.{number_in, truth, int_of, compared, part_of, inner}
use Rattle.c_meaning.specs.declared.outcome.SourceEnd.TheVariants as ends
use Rattle.c_meaning.specs.States.{State}
use Rattle.c_meaning.specs.Rules.{Act, pure, after, ◌>>=◌, choose, Flow, Normal, Setting, store, pointed, bounded, computed, updated, trap, then_run, again}
use Rattle.c_interp_steps.specs.declared.work.Called.{Called}
use Rattle.c_interp_steps.specs.declared.work.Called.TheVariants as called
use Rattle.c_interp_steps.specs.declared.work.Ending.{Ending}
use Rattle.c_interp_steps.specs.declared.work.Ending.TheVariants as ending
use Rattle.c_interp_steps.specs.declared.work.Loop.{Loop}
use Rattle.c_interp_steps.specs.declared.work.Pending.{Pending}
use Rattle.c_interp_steps.specs.declared.work.Pending.TheVariants as wait
use Rattle.c_interp_steps.specs.declared.work.Now.TheVariants as now
use Rattle.c_interp_steps.specs.declared.work.Turn.{Turn}
use Rattle.c_interp_steps.specs.declared.work.Turn.TheVariants as turn
use Rattle.c_interp_steps.specs.declared.work.ValueWork.{ValueWork}
use Rattle.c_interp_steps.specs.declared.work.ValueWork.TheVariants as vw
use Rattle.c_interp_steps.specs.declared.work.FindWork.{FindWork}
use Rattle.c_interp_steps.specs.declared.work.FindWork.TheVariants as fw
use Rattle.c_interp_steps.specs.declared.work.RunWork.{RunWork}
use Rattle.c_interp_steps.specs.declared.work.RunWork.TheVariants as run
use Rattle.c_interp_steps.specs.declared.work.PlaceWork.{PlaceWork}
use Rattle.c_interp_steps.specs.declared.work.PlaceWork.TheVariants as pw
use Rattle.c_interp_steps.specs.declared.work.FlowWork.{FlowWork}
use Rattle.c_interp_steps.specs.declared.work.FlowWork.TheVariants as lw
use Rattle.c_interp_steps.specs.Goes.{index_answer, object_answer}
use Rattle.c_interp_steps.specs.Parts.{value_of, statement_of, loop_of, items_of, declares_of}
use Rattle.c_interp_steps.specs.Rests.{flow_of, value_rest, find_rest, run_rest, place_rest, flow_rest, arguments_of, loop_in, step_of, turn_of}
use Rattle.c_interp_steps.specs.Stack.{finish, resume, total, turned}
use Rattle.c_interp_steps.proofs.StackLaws.{await_value, await_find, await_statement}

abbrev value_answer : Option Value → Act Value
value_answer None = trap 243
value_answer (Some v) = pure v

module _ (m : Setting) (ps : List Pending) (s : State) (k : ℕ) where
  flipped : (b : Bool) → choose b (int_of false) (int_of true) ≡ int_of (not b)
  flipped true = refl
  flipped false = refl

  pub value-Negate : (i : IntTy) (u v : Value) (w : ValueWork) → u ≡ value.Number (negated i (number_in v)) → w ≡ vw.Negate i → turned m (turn.Go (now.Got u)) ps s k ≡ finish (value_rest m w v s k) (resume m ps).value
  unfolding value_rest turned total finish
  value-Negate i u v w e is = ap (λ x. (resume m ps).value x s k) e ∙ ap (λ z. finish (value_rest m z v s k) (resume m ps).value) (sym is)

  pub value-Complement : (i : IntTy) (u v : Value) (w : ValueWork) → u ≡ value.Number (complemented i (number_in v)) → w ≡ vw.Complement i → turned m (turn.Go (now.Got u)) ps s k ≡ finish (value_rest m w v s k) (resume m ps).value
  unfolding value_rest turned total finish
  value-Complement i u v w e is = ap (λ x. (resume m ps).value x s k) e ∙ ap (λ z. finish (value_rest m z v s k) (resume m ps).value) (sym is)

  pub value-Convert : (i : IntTy) (u v : Value) (w : ValueWork) → u ≡ value.Number (wrapped i (number_in v)) → w ≡ vw.Convert i → turned m (turn.Go (now.Got u)) ps s k ≡ finish (value_rest m w v s k) (resume m ps).value
  unfolding value_rest turned total finish
  value-Convert i u v w e is = ap (λ x. (resume m ps).value x s k) e ∙ ap (λ z. finish (value_rest m z v s k) (resume m ps).value) (sym is)

  pub value-CompareWith : (c : Comparison) (x : Value) (u v : Value) (w : ValueWork) → u ≡ int_of (compared c x v) → w ≡ vw.CompareWith c x → turned m (turn.Go (now.Got u)) ps s k ≡ finish (value_rest m w v s k) (resume m ps).value
  unfolding value_rest turned total finish
  value-CompareWith c x u v w e is = ap (λ x. (resume m ps).value x s k) e ∙ ap (λ z. finish (value_rest m z v s k) (resume m ps).value) (sym is)

  pub value-FieldOf : (f : ℕ) (u v : Value) (w : ValueWork) → u ≡ part_of v (step.Field f) → w ≡ vw.FieldOf f → turned m (turn.Go (now.Got u)) ps s k ≡ finish (value_rest m w v s k) (resume m ps).value
  unfolding value_rest turned total finish
  value-FieldOf f u v w e is = ap (λ x. (resume m ps).value x s k) e ∙ ap (λ z. finish (value_rest m z v s k) (resume m ps).value) (sym is)

  pub value-Not : (u v : Value) (w : ValueWork) → u ≡ int_of (not (truth v)) → w ≡ vw.Not → turned m (turn.Go (now.Got u)) ps s k ≡ finish (value_rest m w v s k) (resume m ps).value
  unfolding value_rest turned total finish
  value-Not u v w e is = ap (λ x. (resume m ps).value x s k) (e ∙ sym (flipped (truth v))) ∙ ap (λ z. finish (value_rest m z v s k) (resume m ps).value) (sym is)

  pub value-Truth : (u v : Value) (w : ValueWork) → u ≡ int_of (truth v) → w ≡ vw.Truth → turned m (turn.Go (now.Got u)) ps s k ≡ finish (value_rest m w v s k) (resume m ps).value
  unfolding value_rest turned total finish
  value-Truth u v w e is = ap (λ x. (resume m ps).value x s k) e ∙ ap (λ z. finish (value_rest m z v s k) (resume m ps).value) (sym is)

  pub value-BinaryThen : (o : Arithmetic) (i : IntTy) (x : Bor TypedExpr) (v : Value) (w : ValueWork) (t : Turn) → t ≡ turn.Await (wait.Value (vw.BinaryWith o i v)) (now.Value x) → w ≡ vw.BinaryThen o i x → turned m t ps s k ≡ finish (value_rest m w v s k) (resume m ps).value
  unfolding value_rest
  value-BinaryThen o i x v w t e is = ap (λ z. turned m z ps s k) e ∙ await_value m ps s k (vw.BinaryWith o i v) x ∙ ap (λ z. finish (value_rest m z v s k) (resume m ps).value) (sym is)

  pub value-CompareThen : (c : Comparison) (x : Bor TypedExpr) (v : Value) (w : ValueWork) (t : Turn) → t ≡ turn.Await (wait.Value (vw.CompareWith c v)) (now.Value x) → w ≡ vw.CompareThen c x → turned m t ps s k ≡ finish (value_rest m w v s k) (resume m ps).value
  unfolding value_rest
  value-CompareThen c x v w t e is = ap (λ z. turned m z ps s k) e ∙ await_value m ps s k (vw.CompareWith c v) x ∙ ap (λ z. finish (value_rest m z v s k) (resume m ps).value) (sym is)

  pub value-ElementThen : (n : ℕ) (x : Bor TypedExpr) (v : Value) (w : ValueWork) (t : Turn) → t ≡ turn.Await (wait.Value (vw.ElementWith v n)) (now.Value x) → w ≡ vw.ElementThen x n → turned m t ps s k ≡ finish (value_rest m w v s k) (resume m ps).value
  unfolding value_rest
  value-ElementThen n x v w t e is = ap (λ z. turned m z ps s k) e ∙ await_value m ps s k (vw.ElementWith v n) x ∙ ap (λ z. finish (value_rest m z v s k) (resume m ps).value) (sym is)

  pub value-StoreAt : (o : Object) (v : Value) (w : ValueWork) → w ≡ vw.StoreAt o → turned m (turn.Go (now.Store o v)) ps s k ≡ finish (value_rest m w v s k) (resume m ps).value
  unfolding value_rest turned total
  value-StoreAt o v w is = ap (λ z. finish (value_rest m z v s k) (resume m ps).value) (sym is)

  pub value-LeaveAdjustor : (v : Value) (w : ValueWork) → w ≡ vw.LeaveAdjustor → turned m (turn.Go (now.Close v)) ps s k ≡ finish (value_rest m w v s k) (resume m ps).value
  unfolding value_rest turned total
  value-LeaveAdjustor v w is = ap (λ z. finish (value_rest m z v s k) (resume m ps).value) (sym is)

  pub value-CallThen : (es : Bor (List TypedExpr)) (d : List Value) (v : Value) (w : ValueWork) → d ≡ [] → w ≡ vw.CallThen es → finish (arguments_of m (called.Pointed v) d es.now s k) (resume m ps).value ≡ finish (value_rest m w v s k) (resume m ps).value
  unfolding value_rest
  value-CallThen es d v w e is = ap (λ l. finish (arguments_of m (called.Pointed v) l es.now s k) (resume m ps).value) e ∙ ap (λ z. finish (value_rest m z v s k) (resume m ps).value) (sym is)

  pub value-Arguments : (c : Called) (done d : List Value) (es : Bor (List TypedExpr)) (v : Value) (w : ValueWork) → d ≡ done ++ v ∷ [] → w ≡ vw.Arguments c done es → finish (arguments_of m c d es.now s k) (resume m ps).value ≡ finish (value_rest m w v s k) (resume m ps).value
  unfolding value_rest
  value-Arguments c done d es v w e is = ap (λ l. finish (arguments_of m c l es.now s k) (resume m ps).value) e ∙ ap (λ z. finish (value_rest m z v s k) (resume m ps).value) (sym is)

  pub value-work : (v : Value) (w w1 : ValueWork) → w ≡ w1 → finish (value_rest m w1 v s k) (resume m ps).value ≡ finish (value_rest m w v s k) (resume m ps).value
  value-work v w w1 is = ap (λ z. finish (value_rest m z v s k) (resume m ps).value) (sym is)

  computed_as : (a : Option ℤ) → computed a s k ≡ value_answer (option_map (λ z. value.Number z) a) s k
  computed_as None = refl
  computed_as (Some z) = refl

  pub binary-some : (o : Arithmetic) (i : IntTy) (x v u : Value) → Some u ≡ option_map (λ z. value.Number z) (arithmetic o i (number_in x) (number_in v)) → turned m (turn.Go (now.Got u)) ps s k ≡ finish (value_rest m (vw.BinaryWith o i x) v s k) (resume m ps).value
  unfolding value_rest turned total finish
  binary-some o i x v u e = ap (λ r. finish (value_answer r s k) (resume m ps).value) e ∙ ap (λ r. finish r (resume m ps).value) (sym (computed_as (arithmetic o i (number_in x) (number_in v))))

  pub binary-none : (o : Arithmetic) (i : IntTy) (x v : Value) → None ≡ option_map (λ z. value.Number z) (arithmetic o i (number_in x) (number_in v)) → turned m (turn.Go (now.Stopped (ends.Trap 243))) ps s k ≡ finish (value_rest m (vw.BinaryWith o i x) v s k) (resume m ps).value
  unfolding value_rest turned total finish
  binary-none o i x v e = ap (λ r. finish (value_answer r s k) (resume m ps).value) e ∙ ap (λ r. finish r (resume m ps).value) (sym (computed_as (arithmetic o i (number_in x) (number_in v))))

  pub update-some : (o : Arithmetic) (i j : IntTy) (o1 : Object) (x v u : Value) → Some u ≡ option_map (λ z. value.Number z) (updated o i j x v) → turned m (turn.Go (now.Store o1 u)) ps s k ≡ finish (value_rest m (vw.UpdateAt o i j o1 x) v s k) (resume m ps).value
  unfolding value_rest turned total finish ◌>>=◌
  update-some o i j o1 x v u e = ap (λ r. finish (after (value_answer r s k) (store o1)) (resume m ps).value) e ∙ ap (λ r. finish (after r (store o1)) (resume m ps).value) (sym (computed_as (updated o i j x v)))

  pub update-none : (o : Arithmetic) (i j : IntTy) (o1 : Object) (x v : Value) → None ≡ option_map (λ z. value.Number z) (updated o i j x v) → turned m (turn.Go (now.Stopped (ends.Trap 243))) ps s k ≡ finish (value_rest m (vw.UpdateAt o i j o1 x) v s k) (resume m ps).value
  unfolding value_rest turned total finish ◌>>=◌
  update-none o i j o1 x v e = ap (λ r. finish (after (value_answer r s k) (store o1)) (resume m ps).value) e ∙ ap (λ r. finish (after r (store o1)) (resume m ps).value) (sym (computed_as (updated o i j x v)))

  pub element-some : (x v u : Value) (n i : ℕ) → bounded n (number_in v) s k ≡ index_answer (Some i) s k → u ≡ part_of x (step.Element i) → turned m (turn.Go (now.Got u)) ps s k ≡ finish (value_rest m (vw.ElementWith x n) v s k) (resume m ps).value
  unfolding value_rest turned total finish ◌>>=◌
  element-some x v u n i e h = ap (λ q. (resume m ps).value q s k) h ∙ ap (λ r. finish (after r (λ i. pure (part_of x (step.Element i)))) (resume m ps).value) (sym e)

  pub element-none : (x v : Value) (n : ℕ) → bounded n (number_in v) s k ≡ index_answer None s k → turned m (turn.Go (now.Stopped (ends.Trap 241))) ps s k ≡ finish (value_rest m (vw.ElementWith x n) v s k) (resume m ps).value
  unfolding value_rest turned total finish ◌>>=◌
  element-none x v n e = ap (λ r. finish (after r (λ i. pure (part_of x (step.Element i)))) (resume m ps).value) (sym e)

  pub and-goes : (b : Bor TypedExpr) (v : Value) (t0 : Turn) → truth v ≡ true → t0 ≡ turn.Await (wait.Value vw.Truth) (now.Value b) → turned m t0 ps s k ≡ finish (value_rest m (vw.AndThen b) v s k) (resume m ps).value
  unfolding value_rest
  and-goes b v t0 e h = ap (λ z. turned m z ps s k) h ∙ await_value m ps s k vw.Truth b ∙ ap (λ t. finish ((choose t (value_of m b.now >>= (λ y. pure (int_of (truth y)))) (pure (int_of false))) s k) (resume m ps).value) (sym e)

  pub and-ends : (b : Bor TypedExpr) (v u : Value) → truth v ≡ false → u ≡ int_of false → turned m (turn.Go (now.Got u)) ps s k ≡ finish (value_rest m (vw.AndThen b) v s k) (resume m ps).value
  unfolding value_rest turned total finish
  and-ends b v u e h = ap (λ q. (resume m ps).value q s k) h ∙ ap (λ t. finish ((choose t (value_of m b.now >>= (λ y. pure (int_of (truth y)))) (pure (int_of false))) s k) (resume m ps).value) (sym e)

  pub or-goes : (b : Bor TypedExpr) (v : Value) (t0 : Turn) → truth v ≡ false → t0 ≡ turn.Await (wait.Value vw.Truth) (now.Value b) → turned m t0 ps s k ≡ finish (value_rest m (vw.OrThen b) v s k) (resume m ps).value
  unfolding value_rest
  or-goes b v t0 e h = ap (λ z. turned m z ps s k) h ∙ await_value m ps s k vw.Truth b ∙ ap (λ t. finish ((choose t (pure (int_of true)) (value_of m b.now >>= (λ y. pure (int_of (truth y))))) s k) (resume m ps).value) (sym e)

  pub or-ends : (b : Bor TypedExpr) (v u : Value) → truth v ≡ true → u ≡ int_of true → turned m (turn.Go (now.Got u)) ps s k ≡ finish (value_rest m (vw.OrThen b) v s k) (resume m ps).value
  unfolding value_rest turned total finish
  or-ends b v u e h = ap (λ q. (resume m ps).value q s k) h ∙ ap (λ t. finish ((choose t (pure (int_of true)) (value_of m b.now >>= (λ y. pure (int_of (truth y))))) s k) (resume m ps).value) (sym e)

  pub choose-true : (a b : Bor TypedExpr) (v : Value) → truth v ≡ true → turned m (turn.Go (now.Value a)) ps s k ≡ finish (value_rest m (vw.Choose a b) v s k) (resume m ps).value
  unfolding value_rest turned total
  choose-true a b v e = ap (λ t. finish (choose t (value_of m a.now) (value_of m b.now) s k) (resume m ps).value) (sym e)

  pub choose-false : (a b : Bor TypedExpr) (v : Value) → truth v ≡ false → turned m (turn.Go (now.Value b)) ps s k ≡ finish (value_rest m (vw.Choose a b) v s k) (resume m ps).value
  unfolding value_rest turned total
  choose-false a b v e = ap (λ t. finish (choose t (value_of m a.now) (value_of m b.now) s k) (resume m ps).value) (sym e)

  pub run-work : (v : Value) (w w1 : RunWork) → w ≡ w1 → finish (run_rest m w1 v s k) (resume m ps).flow ≡ finish (run_rest m w v s k) (resume m ps).flow
  run-work v w w1 is = ap (λ z. finish (run_rest m z v s k) (resume m ps).flow) (sym is)

  pub find-work : (v : Value) (w w1 : FindWork) → w ≡ w1 → finish (find_rest w1 v s k) (resume m ps).object ≡ finish (find_rest w v s k) (resume m ps).object
  find-work v w w1 is = ap (λ z. finish (find_rest z v s k) (resume m ps).object) (sym is)

  pub run-Discard : (v : Value) (w : RunWork) → w ≡ run.Discard → turned m (turn.Go (now.Ended ending.Normal)) ps s k ≡ finish (run_rest m w v s k) (resume m ps).flow
  unfolding run_rest turned total finish
  run-Discard v w is = ap (λ z. finish (run_rest m z v s k) (resume m ps).flow) (sym is)

  pub run-SetLocal : (l : ℕ) (v : Value) (w : RunWork) → w ≡ run.SetLocal l → turned m (turn.Go (now.SetLocal l v)) ps s k ≡ finish (run_rest m w v s k) (resume m ps).flow
  unfolding run_rest turned total
  run-SetLocal l v w is = ap (λ z. finish (run_rest m z v s k) (resume m ps).flow) (sym is)

  pub run-LoopStep : (l : Loop) (v : Value) (w : RunWork) → w ≡ run.LoopStep l → turned m (turn.Go (now.Loop l)) ps s k ≡ finish (run_rest m w v s k) (resume m ps).flow
  unfolding run_rest turned total
  run-LoopStep l v w is = ap (λ z. finish (run_rest m z v s k) (resume m ps).flow) (sym is)

  pub run-Return : (v : Value) (w : RunWork) → w ≡ run.Return → turned m (turn.Go (now.Ended (ending.Gave v))) ps s k ≡ finish (run_rest m w v s k) (resume m ps).flow
  unfolding run_rest turned total finish
  run-Return v w is = ap (λ z. finish (run_rest m z v s k) (resume m ps).flow) (sym is)

  pub run-If-true : (x : Bor TypedStmt) (v : Value) (w : RunWork) → truth v ≡ true → w ≡ run.If x → turned m (turn.Go (now.Statement x)) ps s k ≡ finish (run_rest m w v s k) (resume m ps).flow
  unfolding run_rest turned total
  run-If-true x v w e is = ap (λ t. finish (choose t (statement_of m x.now) (pure Normal) s k) (resume m ps).flow) (sym e) ∙ ap (λ z. finish (run_rest m z v s k) (resume m ps).flow) (sym is)

  pub run-If-false : (x : Bor TypedStmt) (v : Value) (w : RunWork) → truth v ≡ false → w ≡ run.If x → turned m (turn.Go (now.Ended ending.Normal)) ps s k ≡ finish (run_rest m w v s k) (resume m ps).flow
  unfolding run_rest turned total finish
  run-If-false x v w e is = ap (λ t. finish (choose t (statement_of m x.now) (pure Normal) s k) (resume m ps).flow) (sym e) ∙ ap (λ z. finish (run_rest m z v s k) (resume m ps).flow) (sym is)

  pub run-IfElse-true : (x y : Bor TypedStmt) (v : Value) (w : RunWork) → truth v ≡ true → w ≡ run.IfElse x y → turned m (turn.Go (now.Statement x)) ps s k ≡ finish (run_rest m w v s k) (resume m ps).flow
  unfolding run_rest turned total
  run-IfElse-true x y v w e is = ap (λ t. finish (choose t (statement_of m x.now) (statement_of m y.now) s k) (resume m ps).flow) (sym e) ∙ ap (λ z. finish (run_rest m z v s k) (resume m ps).flow) (sym is)

  pub run-IfElse-false : (x y : Bor TypedStmt) (v : Value) (w : RunWork) → truth v ≡ false → w ≡ run.IfElse x y → turned m (turn.Go (now.Statement y)) ps s k ≡ finish (run_rest m w v s k) (resume m ps).flow
  unfolding run_rest turned total
  run-IfElse-false x y v w e is = ap (λ t. finish (choose t (statement_of m x.now) (statement_of m y.now) s k) (resume m ps).flow) (sym e) ∙ ap (λ z. finish (run_rest m z v s k) (resume m ps).flow) (sym is)

  pub run-LoopTest-true : (l : Loop) (v : Value) (w : RunWork) → truth v ≡ true → w ≡ run.LoopTest l → turned m (turn.Await (wait.Flow (lw.Again l)) (now.Statement l.body)) ps s k ≡ finish (run_rest m w v s k) (resume m ps).flow
  unfolding run_rest turn_of flow_rest
  run-LoopTest-true l v w e is = await_statement m ps s k (lw.Again l) l.body ∙ ap (λ t. finish (choose t (turn_of m l) (pure Normal) s k) (resume m ps).flow) (sym e) ∙ ap (λ z. finish (run_rest m z v s k) (resume m ps).flow) (sym is)

  pub run-LoopTest-false : (l : Loop) (v : Value) (w : RunWork) → truth v ≡ false → w ≡ run.LoopTest l → turned m (turn.Go (now.Ended ending.Normal)) ps s k ≡ finish (run_rest m w v s k) (resume m ps).flow
  unfolding run_rest turned total finish
  run-LoopTest-false l v w e is = ap (λ t. finish (choose t (turn_of m l) (pure Normal) s k) (resume m ps).flow) (sym e) ∙ ap (λ z. finish (run_rest m z v s k) (resume m ps).flow) (sym is)

  pub find-Target : (o : Object) (v : Value) (w : FindWork) → pointed v s k ≡ object_answer (Some o) s k → w ≡ fw.Target → turned m (turn.Go (now.Found o)) ps s k ≡ finish (find_rest w v s k) (resume m ps).object
  unfolding find_rest turned total finish
  find-Target o v w e is = ap (λ r. finish r (resume m ps).object) (sym e) ∙ ap (λ z. finish (find_rest z v s k) (resume m ps).object) (sym is)

  pub find-Target-null : (v : Value) (w : FindWork) → pointed v s k ≡ object_answer None s k → w ≡ fw.Target → turned m (turn.Go (now.Stopped (ends.Trap 242))) ps s k ≡ finish (find_rest w v s k) (resume m ps).object
  unfolding find_rest turned total finish
  find-Target-null v w e is = ap (λ r. finish r (resume m ps).object) (sym e) ∙ ap (λ z. finish (find_rest z v s k) (resume m ps).object) (sym is)

  pub find-Arrow : (f : ℕ) (o q : Object) (v : Value) (w : FindWork) → pointed v s k ≡ object_answer (Some o) s k → q ≡ inner o (step.Field f) → w ≡ fw.Arrow f → turned m (turn.Go (now.Found q)) ps s k ≡ finish (find_rest w v s k) (resume m ps).object
  unfolding find_rest turned total finish ◌>>=◌
  find-Arrow f o q v w e h is = ap (λ x. (resume m ps).object x s k) h ∙ ap (λ r. finish (after r (λ o. pure (inner o (step.Field f)))) (resume m ps).object) (sym e) ∙ ap (λ z. finish (find_rest z v s k) (resume m ps).object) (sym is)

  pub find-Arrow-null : (f : ℕ) (v : Value) (w : FindWork) → pointed v s k ≡ object_answer None s k → w ≡ fw.Arrow f → turned m (turn.Go (now.Stopped (ends.Trap 242))) ps s k ≡ finish (find_rest w v s k) (resume m ps).object
  unfolding find_rest turned total finish ◌>>=◌
  find-Arrow-null f v w e is = ap (λ r. finish (after r (λ o. pure (inner o (step.Field f)))) (resume m ps).object) (sym e) ∙ ap (λ z. finish (find_rest z v s k) (resume m ps).object) (sym is)

  pub find-ElementAt : (o q : Object) (n i : ℕ) (v : Value) (w : FindWork) → bounded n (number_in v) s k ≡ index_answer (Some i) s k → q ≡ inner o (step.Element i) → w ≡ fw.ElementAt o n → turned m (turn.Go (now.Found q)) ps s k ≡ finish (find_rest w v s k) (resume m ps).object
  unfolding find_rest turned total finish ◌>>=◌
  find-ElementAt o q n i v w e h is = ap (λ x. (resume m ps).object x s k) h ∙ ap (λ r. finish (after r (λ i. pure (inner o (step.Element i)))) (resume m ps).object) (sym e) ∙ ap (λ z. finish (find_rest z v s k) (resume m ps).object) (sym is)

  pub find-ElementAt-none : (o : Object) (n : ℕ) (v : Value) (w : FindWork) → bounded n (number_in v) s k ≡ index_answer None s k → w ≡ fw.ElementAt o n → turned m (turn.Go (now.Stopped (ends.Trap 241))) ps s k ≡ finish (find_rest w v s k) (resume m ps).object
  unfolding find_rest turned total finish ◌>>=◌
  find-ElementAt-none o n v w e is = ap (λ r. finish (after r (λ i. pure (inner o (step.Element i)))) (resume m ps).object) (sym e) ∙ ap (λ z. finish (find_rest z v s k) (resume m ps).object) (sym is)

  pub place-Field : (f : ℕ) (o q : Object) (w : PlaceWork) → q ≡ inner o (step.Field f) → w ≡ pw.Field f → turned m (turn.Go (now.Found q)) ps s k ≡ finish (place_rest m w o s k) (resume m ps).object
  unfolding place_rest turned total finish
  place-Field f o q w h is = ap (λ x. (resume m ps).object x s k) h ∙ ap (λ z. finish (place_rest m z o s k) (resume m ps).object) (sym is)

  pub place-ElementThen : (x : Bor TypedExpr) (n : ℕ) (o : Object) (w : PlaceWork) → w ≡ pw.ElementThen x n → turned m (turn.Await (wait.Find (fw.ElementAt o n)) (now.Value x)) ps s k ≡ finish (place_rest m w o s k) (resume m ps).object
  unfolding place_rest find_rest
  place-ElementThen x n o w is = await_find m ps s k (fw.ElementAt o n) x ∙ ap (λ z. finish (place_rest m z o s k) (resume m ps).object) (sym is)

  pub items-Normal : (xs : List TypedItem) (f : Ending) → f ≡ ending.Normal → finish (items_of m xs s k) (resume m ps).flow ≡ finish (then_run (items_of m xs) (flow_of f) s k) (resume m ps).flow
  items-Normal xs f is = ap (λ f. finish (then_run (items_of m xs) (flow_of f) s k) (resume m ps).flow) (sym is)

  pub items-Broke : (xs : List TypedItem) (f : Ending) → f ≡ ending.Broke → turned m (turn.Go (now.Ended ending.Broke)) ps s k ≡ finish (then_run (items_of m xs) (flow_of f) s k) (resume m ps).flow
  unfolding turned total finish
  items-Broke xs f is = ap (λ f. finish (then_run (items_of m xs) (flow_of f) s k) (resume m ps).flow) (sym is)

  pub items-Continued : (xs : List TypedItem) (f : Ending) → f ≡ ending.Continued → turned m (turn.Go (now.Ended ending.Continued)) ps s k ≡ finish (then_run (items_of m xs) (flow_of f) s k) (resume m ps).flow
  unfolding turned total finish
  items-Continued xs f is = ap (λ f. finish (then_run (items_of m xs) (flow_of f) s k) (resume m ps).flow) (sym is)

  pub items-Gave : (xs : List TypedItem) (v : Value) (f : Ending) → f ≡ ending.Gave v → turned m (turn.Go (now.Ended (ending.Gave v))) ps s k ≡ finish (then_run (items_of m xs) (flow_of f) s k) (resume m ps).flow
  unfolding turned total finish
  items-Gave xs v f is = ap (λ f. finish (then_run (items_of m xs) (flow_of f) s k) (resume m ps).flow) (sym is)

  pub body-Normal : (l : Loop) (f : Ending) → f ≡ ending.Normal → finish (step_of m l s k) (resume m ps).flow ≡ finish (again (step_of m l) (flow_of f) s k) (resume m ps).flow
  body-Normal l f is = ap (λ f. finish (again (step_of m l) (flow_of f) s k) (resume m ps).flow) (sym is)

  pub first-Normal : (c : Bor TypedExpr) (x : Bor TypedStmt) (f : Ending) → f ≡ ending.Normal → turned m (turn.Go (now.Loop (record { test = Some c; step = None; body = x }))) ps s k ≡ finish (again (loop_of m (Some c.now) None x.now) (flow_of f) s k) (resume m ps).flow
  unfolding turned total loop_in
  first-Normal c x f is = ap (λ f. finish (again (loop_of m (Some c.now) None x.now) (flow_of f) s k) (resume m ps).flow) (sym is)

  pub body-Continued : (l : Loop) (f : Ending) → f ≡ ending.Continued → finish (step_of m l s k) (resume m ps).flow ≡ finish (again (step_of m l) (flow_of f) s k) (resume m ps).flow
  body-Continued l f is = ap (λ f. finish (again (step_of m l) (flow_of f) s k) (resume m ps).flow) (sym is)

  pub first-Continued : (c : Bor TypedExpr) (x : Bor TypedStmt) (f : Ending) → f ≡ ending.Continued → turned m (turn.Go (now.Loop (record { test = Some c; step = None; body = x }))) ps s k ≡ finish (again (loop_of m (Some c.now) None x.now) (flow_of f) s k) (resume m ps).flow
  unfolding turned total loop_in
  first-Continued c x f is = ap (λ f. finish (again (loop_of m (Some c.now) None x.now) (flow_of f) s k) (resume m ps).flow) (sym is)

  pub body-Broke : (l : Loop) (f : Ending) → f ≡ ending.Broke → turned m (turn.Go (now.Ended ending.Normal)) ps s k ≡ finish (again (step_of m l) (flow_of f) s k) (resume m ps).flow
  unfolding turned total finish
  body-Broke l f is = ap (λ f. finish (again (step_of m l) (flow_of f) s k) (resume m ps).flow) (sym is)

  pub first-Broke : (c : TypedExpr) (x : TypedStmt) (f : Ending) → f ≡ ending.Broke → turned m (turn.Go (now.Ended ending.Normal)) ps s k ≡ finish (again (loop_of m (Some c) None x) (flow_of f) s k) (resume m ps).flow
  unfolding turned total finish
  first-Broke c x f is = ap (λ f. finish (again (loop_of m (Some c) None x) (flow_of f) s k) (resume m ps).flow) (sym is)

  pub body-Gave : (l : Loop) (v : Value) (f : Ending) → f ≡ ending.Gave v → turned m (turn.Go (now.Ended (ending.Gave v))) ps s k ≡ finish (again (step_of m l) (flow_of f) s k) (resume m ps).flow
  unfolding turned total finish
  body-Gave l v f is = ap (λ f. finish (again (step_of m l) (flow_of f) s k) (resume m ps).flow) (sym is)

  pub first-Gave : (c : TypedExpr) (x : TypedStmt) (v : Value) (f : Ending) → f ≡ ending.Gave v → turned m (turn.Go (now.Ended (ending.Gave v))) ps s k ≡ finish (again (loop_of m (Some c) None x) (flow_of f) s k) (resume m ps).flow
  unfolding turned total finish
  first-Gave c x v f is = ap (λ f. finish (again (loop_of m (Some c) None x) (flow_of f) s k) (resume m ps).flow) (sym is)

  pub flow-Items : (xs : Bor (List TypedItem)) (f : Flow) (w : FlowWork) → w ≡ lw.Items xs → finish (then_run (items_of m xs.now) f s k) (resume m ps).flow ≡ finish (flow_rest m w f s k) (resume m ps).flow
  unfolding flow_rest
  flow-Items xs f w is = ap (λ z. finish (flow_rest m z f s k) (resume m ps).flow) (sym is)

  pub flow-Declares : (ds : Bor (List Declared)) (f : Flow) (w : FlowWork) → w ≡ lw.Declares ds → finish (declares_of m ds.now s k) (resume m ps).flow ≡ finish (flow_rest m w f s k) (resume m ps).flow
  unfolding flow_rest
  flow-Declares ds f w is = ap (λ z. finish (flow_rest m z f s k) (resume m ps).flow) (sym is)

  pub flow-Begin : (l : Loop) (f : Flow) (w : FlowWork) → w ≡ lw.Begin l → turned m (turn.Go (now.Loop l)) ps s k ≡ finish (flow_rest m w f s k) (resume m ps).flow
  unfolding flow_rest turned total
  flow-Begin l f w is = ap (λ z. finish (flow_rest m z f s k) (resume m ps).flow) (sym is)

  pub flow-Again : (l : Loop) (f : Flow) (w : FlowWork) → w ≡ lw.Again l → finish (again (step_of m l) f s k) (resume m ps).flow ≡ finish (flow_rest m w f s k) (resume m ps).flow
  unfolding flow_rest
  flow-Again l f w is = ap (λ z. finish (flow_rest m z f s k) (resume m ps).flow) (sym is)

  pub flow-Do : (c : Bor TypedExpr) (x : Bor TypedStmt) (f : Flow) (w : FlowWork) → w ≡ lw.Do c x → finish (again (loop_of m (Some c.now) None x.now) f s k) (resume m ps).flow ≡ finish (flow_rest m w f s k) (resume m ps).flow
  unfolding flow_rest
  flow-Do c x f w is = ap (λ z. finish (flow_rest m z f s k) (resume m ps).flow) (sym is)
