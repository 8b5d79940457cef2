-- Single steps of the meaning.
use Rattle.std.proofs.Common.{◌≡◌, ℕ, ◌-◌, ◌<◌, ◌≤◌, ap, ◌∙◌, arith}
use Rattle.std.specs.Prelude.{if◌then◌else◌}
use Rattle.std.proofs.lemmas.Bool.{le-leb, lt-leb}
use Rattle.c_program.specs.declared.expressions.Place.{Place}
use Rattle.c_program.specs.declared.expressions.TypedExpr.{TypedExpr, out-TypedExpr}
use Rattle.c_program.specs.declared.expressions.Place.TheOpen.{TypedExpr-F}
use Rattle.c_program.specs.declared.statements.TypedStmt.{TypedStmt, out-TypedStmt}
use Rattle.c_meaning.specs.Costs.{expr_cost}
use Rattle.c_meaning.specs.States.{State}
use Rattle.c_meaning.specs.Rules.{End, Done, Stop, Spent, Act, after, ◌>>=◌, pay, Setting, expr_rule, stmt_rule, meaning}
use Rattle.c_meaning.proofs.Steady.{value_is, statement_is}

pub paid : {A : Type 0} (n : ℕ) (f : Act A) (s : State) (k : ℕ) → n ≤ k → pay n f s k ≡ f s (k - n)
unfolding pay
paid n f s k le = ap (λ b. if b then f s (k - n) else Spent s k) (le-leb n k le)

pub unpaid : {A : Type 0} (n : ℕ) (f : Act A) (s : State) (k : ℕ) → k < n → pay n f s k ≡ Spent s k
unfolding pay
unpaid n f s k lt = ap (λ b. if b then f s (k - n) else Spent s k) (lt-leb n k lt)

pub bind_done : {A B : Type 0} (m : Act A) (go : A → Act B) {a : A} {s t : State} {k j : ℕ} → m s k ≡ Done a t j → (m >>= go) s k ≡ go a t j
unfolding ◌>>=◌
bind_done m go e = ap (λ r. after r go) e

pub bind_stop : {A B : Type 0} (m : Act A) (go : A → Act B) {o : End} {s t : State} {k j : ℕ} → m s k ≡ Stop o t j → (m >>= go) s k ≡ Stop o t j
unfolding ◌>>=◌
bind_stop m go e = ap (λ r. after r go) e

pub bind_spent : {A B : Type 0} (m : Act A) (go : A → Act B) {s t : State} {k j : ℕ} → m s k ≡ Spent t j → (m >>= go) s k ≡ Spent t j
unfolding ◌>>=◌
bind_spent m go e = ap (λ r. after r go) e

module _ (m : Setting) where
  -- an expression of a form that is known, whose units are there
  pub value_step : (e : TypedExpr) (f : TypedExpr-F Place TypedExpr) → out-TypedExpr e ≡ f → (s : State) (k : ℕ) → expr_cost m.types f ≤ k → (meaning m).value e s k ≡ expr_rule (meaning m) f s (k - expr_cost m.types f)
  value_step e f is s k le = value_is m e s k ∙ ap (λ g. pay (expr_cost m.types g) (expr_rule (meaning m) g) s k) is ∙ paid (expr_cost m.types f) (expr_rule (meaning m) f) s k le

  pub statement_step : (x : TypedStmt) (f : _) → out-TypedStmt x ≡ f → (s : State) (k : ℕ) → 1 ≤ k → (meaning m).statement x s k ≡ stmt_rule m.types (meaning m) f s (k - 1)
  statement_step x f is s k le = statement_is m x s k ∙ ap (λ g. pay 1 (stmt_rule m.types (meaning m) g) s k) is ∙ paid 1 (stmt_rule m.types (meaning m) f) s k le

  pub statement_unpaid : (x : TypedStmt) (s : State) → (meaning m).statement x s 0 ≡ Spent s 0
  statement_unpaid x s = statement_is m x s 0 ∙ unpaid 1 _ s 0 (omega arith)

  pub value_unpaid : (e : TypedExpr) (f : TypedExpr-F Place TypedExpr) → out-TypedExpr e ≡ f → (s : State) (k : ℕ) → k < expr_cost m.types f → (meaning m).value e s k ≡ Spent s k
  value_unpaid e f is s k lt = value_is m e s k ∙ ap (λ g. pay (expr_cost m.types g) (expr_rule (meaning m) g) s k) is ∙ unpaid (expr_cost m.types f) (expr_rule (meaning m) f) s k lt
