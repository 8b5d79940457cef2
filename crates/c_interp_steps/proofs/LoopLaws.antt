-- Lists of parts, and loops: what each step leaves.
use Rattle.std.proofs.Common.{◌≡◌, ℕ, List, [], ◌∷◌, ◌++◌, ap, refl, sym, ◌∙◌, append_assoc}
use Rattle.std.specs.Prelude.{Option, Some, None, option_copied}
use Rattle.std.specs.Borrow.{Bor}
use Rattle.c_program.specs.declared.expressions.TypedExpr.{TypedExpr}
use Rattle.c_program.specs.declared.statements.Declared.{Declared}
use Rattle.c_program.specs.declared.statements.ForBegin.{ForBegin}
use Rattle.c_program.specs.declared.statements.ForBegin.TheVariants as begin
use Rattle.c_program.specs.declared.statements.TypedItem.{TypedItem}
use Rattle.c_values.specs.declared.value.Value.{Value}
use Rattle.c_values.specs.Objects.{truth}
use Rattle.c_meaning.specs.States.{State}
use Rattle.c_meaning.specs.Rules.{Res, Done, Stop, Spent, Act, pure, ◌>>=◌, choose, Normal, Setting, values, effect, holds}
use Rattle.c_meaning.proofs.Steady.{loop_is}
use Rattle.c_interp_steps.specs.declared.work.Called.{Called}
use Rattle.c_interp_steps.specs.declared.work.Ending.TheVariants as ending
use Rattle.c_interp_steps.specs.declared.work.Loop.{Loop}
use Rattle.c_interp_steps.specs.declared.work.Pending.{Pending}
use Rattle.c_interp_steps.specs.declared.work.Pending.TheVariants as wait
use Rattle.c_interp_steps.specs.declared.work.Now.TheVariants as now
use Rattle.c_interp_steps.specs.declared.work.Turn.TheVariants as turn
use Rattle.c_interp_steps.specs.declared.work.ValueWork.TheVariants as vw
use Rattle.c_interp_steps.specs.declared.work.RunWork.TheVariants as run
use Rattle.c_interp_steps.specs.declared.work.FlowWork.TheVariants as lw
use Rattle.c_interp_steps.specs.Parts.{value_of, statement_of, loop_of, item_of, items_of, declare_of, declares_of, begin_of}
use Rattle.c_interp_steps.specs.Rests.{value_rest, run_rest, flow_rest, called_of, arguments_of, loop_in, step_of, turn_of}
use Rattle.c_interp_steps.specs.Stack.{Last, finish, resume, total, turned}
use Rattle.c_interp_steps.proofs.StackLaws.{bind_finish, pure_finish, await_value, await_run, await_statement, await_item, await_declare}

finish_same : {A : Type 0} (r : Res A) (last last' : Last A) → ((a : A) (s : State) (k : ℕ) → last a s k ≡ last' a s k) → finish r last ≡ finish r last'
unfolding finish
finish_same (Done a s k) last last' h = h a s k
finish_same (Stop o s k) last last' h = refl
finish_same (Spent s k) last last' h = refl

-- what is made of a value on the way
bind_pure : {A B C : Type 0} (f : Act A) (g : A → B) (h : B → Act C) (last : Last C) (s : State) (k : ℕ) → finish (((f >>= (λ a. pure (g a))) >>= h) s k) last ≡ finish ((f >>= (λ a. h (g a))) s k) last
bind_pure f g h last s k =
    bind_finish (f >>= (λ a. pure (g a))) h last s k
    ∙ bind_finish f (λ a. pure (g a)) (λ b s k. finish (h b s k) last) s k
    ∙ finish_same (f s k) _ _ (λ a s k. pure_finish (g a) (λ b s k. finish (h b s k) last) s k)
    ∙ sym (bind_finish f (λ a. h (g a)) last s k)

append_nil : {A : Type 0} (xs : List A) → xs ++ [] ≡ xs
append_nil [] = refl
append_nil (x ∷ xs) = ap (λ l. x ∷ l) (append_nil xs)

module _ (m : Setting) (ps : List Pending) (s : State) (k : ℕ) where
  one_more : (c : Called) (done : List Value) (e : TypedExpr) (es : List TypedExpr) (last : Last Value) → finish ((value_of m e >>= (λ v. arguments_of m c (done ++ v ∷ []) es)) s k) last ≡ finish (arguments_of m c done (e ∷ es) s k) last
  unfolding arguments_of
  one_more c done e es last =
      bind_finish (value_of m e) (λ v. arguments_of m c (done ++ v ∷ []) es) last s k
      ∙ finish_same (value_of m e s k) _ _ (λ v s k.
      bind_finish (values (value_of m) es) (λ vs. called_of m c ((done ++ v ∷ []) ++ vs)) last s k
      ∙ finish_same (values (value_of m) es s k) _ _ (λ vs s k. ap (λ l. finish (called_of m c l s k) last) (append_assoc done (v ∷ []) vs) ∙ sym (pure_finish (v ∷ vs) (λ l s k. finish (called_of m c (done ++ l) s k) last) s k))
      ∙ sym (bind_finish (values (value_of m) es) (λ vs. pure (v ∷ vs)) (λ l s k. finish (called_of m c (done ++ l) s k) last) s k))
      ∙ sym (bind_finish (value_of m e) (λ v. values (value_of m) es >>= (λ vs. pure (v ∷ vs))) (λ l s k. finish (called_of m c (done ++ l) s k) last) s k)
      ∙ sym (bind_finish (values (value_of m) (e ∷ es)) (λ vs. called_of m c (done ++ vs)) last s k)

  pub arguments-next : (c : Called) (done : List Value) (e : Bor TypedExpr) (es : Bor (List TypedExpr)) (all : List TypedExpr) → all ≡ e.now ∷ es.now → turned m (turn.Await (wait.Value (vw.Arguments c done es)) (now.Value e)) ps s k ≡ finish (arguments_of m c done all s k) (resume m ps).value
  unfolding value_rest
  arguments-next c done e es all is = await_value m ps s k (vw.Arguments c done es) e ∙ one_more c done e.now es.now (resume m ps).value ∙ ap (λ l. finish (arguments_of m c done l s k) (resume m ps).value) (sym is)

  pub arguments-done : (c : Called) (done : List Value) (all : List TypedExpr) → all ≡ [] → turned m (turn.Go (now.Calling c done)) ps s k ≡ finish (arguments_of m c done all s k) (resume m ps).value
  unfolding turned total arguments_of ◌>>=◌
  arguments-done c done all is = ap (λ l. finish (called_of m c l s k) (resume m ps).value) (sym (append_nil done)) ∙ ap (λ l. finish (arguments_of m c done l s k) (resume m ps).value) (sym is)

  pub items-next : (x : Bor TypedItem) (xs : Bor (List TypedItem)) (all : List TypedItem) → all ≡ x.now ∷ xs.now → turned m (turn.Await (wait.Flow (lw.Items xs)) (now.Item x)) ps s k ≡ finish (items_of m all s k) (resume m ps).flow
  unfolding items_of item_of flow_rest
  items-next x xs all is = await_item m ps s k (lw.Items xs) x ∙ ap (λ l. finish (items_of m l s k) (resume m ps).flow) (sym is)

  pub items-done : (all : List TypedItem) → all ≡ [] → turned m (turn.Go (now.Ended ending.Normal)) ps s k ≡ finish (items_of m all s k) (resume m ps).flow
  unfolding turned total finish items_of
  items-done all is = ap (λ l. finish (items_of m l s k) (resume m ps).flow) (sym is)

  pub declares-next : (d : Bor Declared) (ds : Bor (List Declared)) (all : List Declared) → all ≡ d.now ∷ ds.now → turned m (turn.Await (wait.Flow (lw.Declares ds)) (now.Declare d)) ps s k ≡ finish (declares_of m all s k) (resume m ps).flow
  unfolding declares_of declare_of flow_rest
  declares-next d ds all is = await_declare m ps s k (lw.Declares ds) d ∙ ap (λ l. finish (declares_of m l s k) (resume m ps).flow) (sym is)

  pub declares-done : (all : List Declared) → all ≡ [] → turned m (turn.Go (now.Ended ending.Normal)) ps s k ≡ finish (declares_of m all s k) (resume m ps).flow
  unfolding turned total finish declares_of
  declares-done all is = ap (λ l. finish (declares_of m l s k) (resume m ps).flow) (sym is)

  pub begin-Locals : (ds ds1 : List Declared) (b : ForBegin) → ds ≡ ds1 → b ≡ begin.Locals ds1 → finish (declares_of m ds s k) (resume m ps).flow ≡ finish (begin_of m b s k) (resume m ps).flow
  unfolding begin_of declares_of
  begin-Locals ds ds1 b e is = ap (λ l. finish (declares_of m l s k) (resume m ps).flow) e ∙ ap (λ z. finish (begin_of m z s k) (resume m ps).flow) (sym is)

  pub begin-Effect : (a : Bor TypedExpr) (a1 : TypedExpr) (b : ForBegin) → a.now ≡ a1 → b ≡ begin.Effect a1 → turned m (turn.Await (wait.Run run.Discard) (now.Value a)) ps s k ≡ finish (begin_of m b s k) (resume m ps).flow
  unfolding begin_of value_of run_rest
  begin-Effect a a1 b e is = await_run m ps s k run.Discard a ∙ ap (λ z. finish ((value_of m z >>= run_rest m run.Discard) s k) (resume m ps).flow) e ∙ ap (λ z. finish (begin_of m z s k) (resume m ps).flow) (sym is)

  pub begin-Nothing : (b : ForBegin) → b ≡ begin.Nothing → turned m (turn.Go (now.Ended ending.Normal)) ps s k ≡ finish (begin_of m b s k) (resume m ps).flow
  unfolding turned total finish begin_of
  begin-Nothing b is = ap (λ z. finish (begin_of m z s k) (resume m ps).flow) (sym is)

  loop_opens : (l : Loop) (test : Option TypedExpr) → option_copied l.test ≡ test → finish (loop_in m l s k) (resume m ps).flow ≡ finish ((holds (value_of m) test >>= (λ go. choose go (turn_of m l) (pure Normal))) s k) (resume m ps).flow
  unfolding loop_in loop_of turn_of step_of value_of statement_of
  loop_opens l test e = ap (λ r. finish r (resume m ps).flow) (loop_is m (option_copied l.test) (option_copied l.step) l.body.now s k)
      ∙ ap (λ c. finish ((holds (value_of m) c >>= (λ go. choose go (turn_of m l) (pure Normal))) s k) (resume m ps).flow) e

  pub loop-test : (l : Loop) (e : Bor TypedExpr) → l.test ≡ Some e → turned m (turn.Await (wait.Run (run.LoopTest l)) (now.Value e)) ps s k ≡ finish (loop_in m l s k) (resume m ps).flow
  unfolding run_rest
  loop-test l e is = await_run m ps s k (run.LoopTest l) e
      ∙ sym (bind_pure (value_of m e.now) truth (λ go. choose go (turn_of m l) (pure Normal)) (resume m ps).flow s k)
      ∙ sym (loop_opens l (Some e.now) (ap option_copied is))

  pub loop-always : (l : Loop) → l.test ≡ None → turned m (turn.Await (wait.Flow (lw.Again l)) (now.Statement l.body)) ps s k ≡ finish (loop_in m l s k) (resume m ps).flow
  unfolding flow_rest turn_of ◌>>=◌
  loop-always l is = await_statement m ps s k (lw.Again l) l.body ∙ sym (loop_opens l None (ap option_copied is))

  pub step-some : (l : Loop) (e : Bor TypedExpr) → l.step ≡ Some e → turned m (turn.Await (wait.Run (run.LoopStep l)) (now.Value e)) ps s k ≡ finish (step_of m l s k) (resume m ps).flow
  unfolding run_rest step_of
  step-some l e is = await_run m ps s k (run.LoopStep l) e
      ∙ sym (bind_pure (value_of m e.now) (λ v. Normal) (λ flow. loop_in m l) (resume m ps).flow s k)
      ∙ ap (λ c. finish ((effect (value_of m) c >>= (λ flow. loop_in m l)) s k) (resume m ps).flow) (sym (ap option_copied is))

  pub step-none : (l : Loop) → l.step ≡ None → turned m (turn.Go (now.Loop l)) ps s k ≡ finish (step_of m l s k) (resume m ps).flow
  unfolding turned total step_of ◌>>=◌
  step-none l is = ap (λ c. finish ((effect (value_of m) c >>= (λ flow. loop_in m l)) s k) (resume m ps).flow) (sym (ap option_copied is))
