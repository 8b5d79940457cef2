-- What each form of a statement comes to, once its unit is paid.
use Rattle.std.proofs.Common.{◌≡◌, ℕ, List, ap, refl}
use Rattle.std.specs.Prelude.{Some, None, true, false, option_copied}
use Rattle.std.specs.Borrow.{Bor}
use Rattle.c_program.specs.declared.expressions.TypedExpr.{TypedExpr}
use Rattle.c_program.specs.declared.statements.Declared.{Declared}
use Rattle.c_program.specs.declared.statements.ForBegin.{ForBegin}
use Rattle.c_program.specs.declared.statements.ForBegin.TheVariants as begin
use Rattle.c_program.specs.declared.statements.TypedItem.{TypedItem}
use Rattle.c_program.specs.declared.statements.TypedStmt.{TypedStmt}
use Rattle.c_program.specs.declared.statements.TypedStmt.TheVariants as stmt
use Rattle.c_program.specs.declared.statements.TypedStmt.TheVariants.{outs-Block, outs-Empty, outs-Effect, outs-Break, outs-Continue, outs-If, outs-IfElse, outs-While, outs-Do, outs-For, outs-Return, outs-VaStart, outs-VaEnd}
use Rattle.c_values.specs.Objects.{nothing}
use Rattle.c_meaning.specs.States.{State}
use Rattle.c_meaning.specs.Rules.{◌>>=◌, stmt_rule, Setting, meaning}
use Rattle.c_interp_steps.specs.declared.work.Ending.TheVariants as ending
use Rattle.c_interp_steps.specs.declared.work.Loop.{Loop}
use Rattle.c_interp_steps.specs.declared.work.Pending.{Pending}
use Rattle.c_interp_steps.specs.declared.work.Now.TheVariants as now
use Rattle.c_interp_steps.specs.declared.work.RunWork.TheVariants as run
use Rattle.c_interp_steps.specs.declared.work.FlowWork.TheVariants as lw
use Rattle.c_interp_steps.specs.Parts.{value_of, statement_of, loop_of, items_of, declares_of, begin_of, paid_statement}
use Rattle.c_interp_steps.specs.Rests.{run_rest, flow_rest, loop_in}
use Rattle.c_interp_steps.specs.Stack.{finish, resume, total}

module _ (m : Setting) (xs : List Pending) (s : State) (k : ℕ) where
  pub enters-Block : (is : List TypedItem) → finish (paid_statement m (stmt.Block is) s k) (resume m xs).flow ≡ finish (items_of m is s k) (resume m xs).flow
  unfolding paid_statement items_of
  enters-Block is = ap (λ f. finish (stmt_rule m.types (meaning m) f s k) (resume m xs).flow) (outs-Block is)

  pub enters-Empty : finish (paid_statement m (stmt.Empty) s k) (resume m xs).flow ≡ total m (now.Ended ending.Normal) xs s k
  unfolding paid_statement total finish
  enters-Empty = ap (λ f. finish (stmt_rule m.types (meaning m) f s k) (resume m xs).flow) outs-Empty

  pub enters-Effect : (e : TypedExpr) → finish (paid_statement m (stmt.Effect e) s k) (resume m xs).flow ≡ finish ((value_of m e >>= run_rest m run.Discard) s k) (resume m xs).flow
  unfolding paid_statement value_of run_rest
  enters-Effect e = ap (λ f. finish (stmt_rule m.types (meaning m) f s k) (resume m xs).flow) (outs-Effect e)

  pub enters-Break : finish (paid_statement m (stmt.Break) s k) (resume m xs).flow ≡ total m (now.Ended ending.Broke) xs s k
  unfolding paid_statement total finish
  enters-Break = ap (λ f. finish (stmt_rule m.types (meaning m) f s k) (resume m xs).flow) outs-Break

  pub enters-Continue : finish (paid_statement m (stmt.Continue) s k) (resume m xs).flow ≡ total m (now.Ended ending.Continued) xs s k
  unfolding paid_statement total finish
  enters-Continue = ap (λ f. finish (stmt_rule m.types (meaning m) f s k) (resume m xs).flow) outs-Continue

  pub enters-If : (c : TypedExpr) (x : Bor TypedStmt) → finish (paid_statement m (stmt.If c x.now) s k) (resume m xs).flow ≡ finish ((value_of m c >>= run_rest m (run.If x)) s k) (resume m xs).flow
  unfolding paid_statement value_of statement_of run_rest
  enters-If c x = ap (λ f. finish (stmt_rule m.types (meaning m) f s k) (resume m xs).flow) (outs-If c x.now)

  pub enters-IfElse : (c : TypedExpr) (x y : Bor TypedStmt) → finish (paid_statement m (stmt.IfElse c x.now y.now) s k) (resume m xs).flow ≡ finish ((value_of m c >>= run_rest m (run.IfElse x y)) s k) (resume m xs).flow
  unfolding paid_statement value_of statement_of run_rest
  enters-IfElse c x y = ap (λ f. finish (stmt_rule m.types (meaning m) f s k) (resume m xs).flow) (outs-IfElse c x.now y.now)

  pub enters-Do : (x2 : Bor TypedStmt) (c : Bor TypedExpr) → finish (paid_statement m (stmt.Do x2.now c.now) s k) (resume m xs).flow ≡ finish ((statement_of m x2.now >>= flow_rest m (lw.Do c x2)) s k) (resume m xs).flow
  unfolding paid_statement statement_of loop_of flow_rest
  enters-Do x2 c = ap (λ f. finish (stmt_rule m.types (meaning m) f s k) (resume m xs).flow) (outs-Do x2.now c.now)

  pub enters-While : (c : Bor TypedExpr) (x : Bor TypedStmt) → finish (paid_statement m (stmt.While c.now x.now) s k) (resume m xs).flow ≡ total m (now.Loop (record { test = Some c; step = None; body = x })) xs s k
  unfolding paid_statement total loop_in loop_of
  enters-While c x = ap (λ f. finish (stmt_rule m.types (meaning m) f s k) (resume m xs).flow) (outs-While c.now x.now)

  pub enters-For : (b : ForBegin) (l : Loop) → finish (paid_statement m (stmt.For b (option_copied l.test) (option_copied l.step) l.body.now) s k) (resume m xs).flow ≡ finish ((begin_of m b >>= flow_rest m (lw.Begin l)) s k) (resume m xs).flow
  unfolding paid_statement begin_of flow_rest loop_in loop_of
  enters-For b l = ap (λ f. finish (stmt_rule m.types (meaning m) f s k) (resume m xs).flow) (outs-For b (option_copied l.test) (option_copied l.step) l.body.now)

  pub enters-Return : (e : TypedExpr) → finish (paid_statement m (stmt.Return (Some e)) s k) (resume m xs).flow ≡ finish ((value_of m e >>= run_rest m run.Return) s k) (resume m xs).flow
  unfolding paid_statement value_of run_rest
  enters-Return e = ap (λ f. finish (stmt_rule m.types (meaning m) f s k) (resume m xs).flow) (outs-Return (Some e))

  pub enters-ReturnNone : finish (paid_statement m (stmt.Return None) s k) (resume m xs).flow ≡ total m (now.Ended (ending.Gave nothing)) xs s k
  unfolding paid_statement total finish
  enters-ReturnNone = ap (λ f. finish (stmt_rule m.types (meaning m) f s k) (resume m xs).flow) (outs-Return None)

  pub enters-VaStart : finish (paid_statement m stmt.VaStart s k) (resume m xs).flow ≡ total m (now.Extras true) xs s k
  unfolding paid_statement total
  enters-VaStart = ap (λ f. finish (stmt_rule m.types (meaning m) f s k) (resume m xs).flow) outs-VaStart

  pub enters-VaEnd : finish (paid_statement m stmt.VaEnd s k) (resume m xs).flow ≡ total m (now.Extras false) xs s k
  unfolding paid_statement total
  enters-VaEnd = ap (λ f. finish (stmt_rule m.types (meaning m) f s k) (resume m xs).flow) outs-VaEnd

module _ (m : Setting) (xs : List Pending) (s : State) (k : ℕ) where
  pub begins-Locals : (ds : List Declared) → finish (begin_of m (begin.Locals ds) s k) (resume m xs).flow ≡ finish (declares_of m ds s k) (resume m xs).flow
  unfolding begin_of declares_of
  begins-Locals ds = refl

  pub begins-Effect : (e : TypedExpr) → finish (begin_of m (begin.Effect e) s k) (resume m xs).flow ≡ finish ((value_of m e >>= run_rest m run.Discard) s k) (resume m xs).flow
  unfolding begin_of value_of run_rest
  begins-Effect e = refl

  pub begins-Nothing : finish (begin_of m begin.Nothing s k) (resume m xs).flow ≡ total m (now.Ended ending.Normal) xs s k
  unfolding begin_of total finish
  begins-Nothing = refl
