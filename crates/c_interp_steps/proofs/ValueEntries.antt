-- What each form of an expression comes to, once its units are paid.
use Rattle.std.proofs.Common.{◌≡◌, ℕ, List, [], ap, ℤ, pos}
use Rattle.std.specs.Prelude.{Bool}
use Rattle.std.specs.Borrow.{Bor}
use Rattle.c_types.specs.declared.types.IntTy.{IntTy}
use Rattle.c_types.specs.declared.types.Ty.{Ty}
use Rattle.c_program.specs.declared.expressions.Arithmetic.{Arithmetic}
use Rattle.c_program.specs.declared.expressions.Comparison.{Comparison}
use Rattle.c_program.specs.declared.expressions.Service.{Service}
use Rattle.c_program.specs.declared.expressions.Target.{Target}
use Rattle.c_program.specs.declared.expressions.Place.{Place}
use Rattle.c_program.specs.declared.expressions.TypedExpr.{TypedExpr}
use Rattle.c_program.specs.declared.expressions.TypedExpr.TheVariants as expr
use Rattle.c_program.specs.declared.expressions.TypedExpr.TheVariants.{outs-Number, outs-Char, outs-Null, outs-Function, outs-Load, outs-Address, outs-Same, outs-Negate, outs-Complement, outs-Not, outs-Convert, outs-Binary, outs-Compare, outs-And, outs-Or, outs-Conditional, outs-Assign, outs-Update, outs-Before, outs-After, outs-Call, outs-CallPointer, outs-CallService, outs-VaArg, outs-FieldOf, outs-ElementOf}
use Rattle.c_values.specs.declared.value.Value.TheVariants as value
use Rattle.c_values.specs.Numbers.{wrapped}
use Rattle.c_meaning.specs.States.{State}
use Rattle.c_meaning.specs.Rules.{◌>>=◌, expr_rule, Setting, meaning, next_extra}
use Rattle.c_interp_steps.specs.declared.work.Called.TheVariants as called
use Rattle.c_interp_steps.specs.declared.work.Pending.{Pending}
use Rattle.c_interp_steps.specs.declared.work.Now.TheVariants as now
use Rattle.c_interp_steps.specs.declared.work.ValueWork.TheVariants as vw
use Rattle.c_interp_steps.specs.declared.work.UseWork.TheVariants as uw
use Rattle.c_interp_steps.specs.Parts.{value_of, object_of, call_of, paid_object, paid_value}
use Rattle.c_interp_steps.specs.Rests.{value_rest, use_rest, called_of, arguments_of}
use Rattle.c_interp_steps.specs.Stack.{finish, resume, total}

module _ (m : Setting) (xs : List Pending) (s : State) (k : ℕ) where
  pub enters-Number : (i : IntTy) (n : ℕ) → finish (paid_value m (expr.Number i n) s k) (resume m xs).value ≡ total m (now.Got (value.Number (wrapped i (pos n)))) xs s k
  unfolding paid_value total finish
  enters-Number i n = ap (λ f. finish (expr_rule (meaning m) f s k) (resume m xs).value) (outs-Number i n)

  pub enters-Char : (z : ℤ) → finish (paid_value m (expr.Char z) s k) (resume m xs).value ≡ total m (now.Got (value.Number z)) xs s k
  unfolding paid_value total finish
  enters-Char z = ap (λ f. finish (expr_rule (meaning m) f s k) (resume m xs).value) (outs-Char z)

  pub enters-Null : (a : Ty) → finish (paid_value m (expr.Null a) s k) (resume m xs).value ≡ total m (now.Got (value.Null)) xs s k
  unfolding paid_value total finish
  enters-Null a = ap (λ f. finish (expr_rule (meaning m) f s k) (resume m xs).value) (outs-Null a)

  pub enters-Function : (a : Ty) (t : Target) → finish (paid_value m (expr.Function a t) s k) (resume m xs).value ≡ total m (now.Got (value.Function t)) xs s k
  unfolding paid_value total finish
  enters-Function a t = ap (λ f. finish (expr_rule (meaning m) f s k) (resume m xs).value) (outs-Function a t)

  pub enters-Load : (a : Ty) (p : Place) → finish (paid_value m (expr.Load a p) s k) (resume m xs).value ≡ finish ((paid_object m p >>= use_rest m uw.Load) s k) (resume m xs).value
  unfolding paid_value paid_object use_rest
  enters-Load a p = ap (λ f. finish (expr_rule (meaning m) f s k) (resume m xs).value) (outs-Load a p)

  pub enters-Address : (a : Ty) (p : Place) → finish (paid_value m (expr.Address a p) s k) (resume m xs).value ≡ finish ((object_of m p >>= use_rest m uw.Address) s k) (resume m xs).value
  unfolding paid_value object_of use_rest
  enters-Address a p = ap (λ f. finish (expr_rule (meaning m) f s k) (resume m xs).value) (outs-Address a p)

  pub enters-Same : (e : TypedExpr) → finish (paid_value m (expr.Same e) s k) (resume m xs).value ≡ finish (value_of m e s k) (resume m xs).value
  unfolding paid_value value_of
  enters-Same e = ap (λ f. finish (expr_rule (meaning m) f s k) (resume m xs).value) (outs-Same e)

  pub enters-Negate : (i : IntTy) (e : TypedExpr) → finish (paid_value m (expr.Negate i e) s k) (resume m xs).value ≡ finish ((value_of m e >>= value_rest m (vw.Negate i)) s k) (resume m xs).value
  unfolding paid_value value_of value_rest
  enters-Negate i e = ap (λ f. finish (expr_rule (meaning m) f s k) (resume m xs).value) (outs-Negate i e)

  pub enters-Complement : (i : IntTy) (e : TypedExpr) → finish (paid_value m (expr.Complement i e) s k) (resume m xs).value ≡ finish ((value_of m e >>= value_rest m (vw.Complement i)) s k) (resume m xs).value
  unfolding paid_value value_of value_rest
  enters-Complement i e = ap (λ f. finish (expr_rule (meaning m) f s k) (resume m xs).value) (outs-Complement i e)

  pub enters-Not : (e : TypedExpr) → finish (paid_value m (expr.Not e) s k) (resume m xs).value ≡ finish ((value_of m e >>= value_rest m vw.Not) s k) (resume m xs).value
  unfolding paid_value value_of value_rest
  enters-Not e = ap (λ f. finish (expr_rule (meaning m) f s k) (resume m xs).value) (outs-Not e)

  pub enters-Convert : (i : IntTy) (e : TypedExpr) → finish (paid_value m (expr.Convert i e) s k) (resume m xs).value ≡ finish ((value_of m e >>= value_rest m (vw.Convert i)) s k) (resume m xs).value
  unfolding paid_value value_of value_rest
  enters-Convert i e = ap (λ f. finish (expr_rule (meaning m) f s k) (resume m xs).value) (outs-Convert i e)

  pub enters-Binary : (o : Arithmetic) (i : IntTy) (a : TypedExpr) (b : Bor TypedExpr) → finish (paid_value m (expr.Binary o i a b.now) s k) (resume m xs).value ≡ finish ((value_of m a >>= value_rest m (vw.BinaryThen o i b)) s k) (resume m xs).value
  unfolding paid_value value_of value_rest
  enters-Binary o i a b = ap (λ f. finish (expr_rule (meaning m) f s k) (resume m xs).value) (outs-Binary o i a b.now)

  pub enters-Compare : (c : Comparison) (t : Ty) (a : TypedExpr) (b : Bor TypedExpr) → finish (paid_value m (expr.Compare c t a b.now) s k) (resume m xs).value ≡ finish ((value_of m a >>= value_rest m (vw.CompareThen c b)) s k) (resume m xs).value
  unfolding paid_value value_of value_rest
  enters-Compare c t a b = ap (λ f. finish (expr_rule (meaning m) f s k) (resume m xs).value) (outs-Compare c t a b.now)

  pub enters-And : (a : TypedExpr) (b : Bor TypedExpr) → finish (paid_value m (expr.And a b.now) s k) (resume m xs).value ≡ finish ((value_of m a >>= value_rest m (vw.AndThen b)) s k) (resume m xs).value
  unfolding paid_value value_of value_rest
  enters-And a b = ap (λ f. finish (expr_rule (meaning m) f s k) (resume m xs).value) (outs-And a b.now)

  pub enters-Or : (a : TypedExpr) (b : Bor TypedExpr) → finish (paid_value m (expr.Or a b.now) s k) (resume m xs).value ≡ finish ((value_of m a >>= value_rest m (vw.OrThen b)) s k) (resume m xs).value
  unfolding paid_value value_of value_rest
  enters-Or a b = ap (λ f. finish (expr_rule (meaning m) f s k) (resume m xs).value) (outs-Or a b.now)

  pub enters-Conditional : (t : Ty) (c : TypedExpr) (a b : Bor TypedExpr) → finish (paid_value m (expr.Conditional t c a.now b.now) s k) (resume m xs).value ≡ finish ((value_of m c >>= value_rest m (vw.Choose a b)) s k) (resume m xs).value
  unfolding paid_value value_of value_rest
  enters-Conditional t c a b = ap (λ f. finish (expr_rule (meaning m) f s k) (resume m xs).value) (outs-Conditional t c a.now b.now)

  pub enters-Assign : (t : Ty) (p : Place) (e : Bor TypedExpr) → finish (paid_value m (expr.Assign t p e.now) s k) (resume m xs).value ≡ finish ((object_of m p >>= use_rest m (uw.AssignThen e)) s k) (resume m xs).value
  unfolding paid_value value_of object_of use_rest
  enters-Assign t p e = ap (λ f. finish (expr_rule (meaning m) f s k) (resume m xs).value) (outs-Assign t p e.now)

  pub enters-Update : (o : Arithmetic) (i j : IntTy) (p : Place) (e : Bor TypedExpr) → finish (paid_value m (expr.Update o i j p e.now) s k) (resume m xs).value ≡ finish ((object_of m p >>= use_rest m (uw.UpdateThen o i j e)) s k) (resume m xs).value
  unfolding paid_value value_of object_of use_rest
  enters-Update o i j p e = ap (λ f. finish (expr_rule (meaning m) f s k) (resume m xs).value) (outs-Update o i j p e.now)

  pub enters-Before : (i : IntTy) (up : Bool) (p : Place) → finish (paid_value m (expr.Before i up p) s k) (resume m xs).value ≡ finish ((object_of m p >>= use_rest m (uw.Before i up)) s k) (resume m xs).value
  unfolding paid_value object_of use_rest
  enters-Before i up p = ap (λ f. finish (expr_rule (meaning m) f s k) (resume m xs).value) (outs-Before i up p)

  pub enters-After : (i : IntTy) (up : Bool) (p : Place) → finish (paid_value m (expr.After i up p) s k) (resume m xs).value ≡ finish ((object_of m p >>= use_rest m (uw.After i up)) s k) (resume m xs).value
  unfolding paid_value object_of use_rest
  enters-After i up p = ap (λ f. finish (expr_rule (meaning m) f s k) (resume m xs).value) (outs-After i up p)

  pub enters-Call : (t : Ty) (f : Target) (es : List TypedExpr) → finish (paid_value m (expr.Call t f es) s k) (resume m xs).value ≡ finish (arguments_of m (called.Named f) [] es s k) (resume m xs).value
  unfolding paid_value value_of call_of arguments_of called_of
  enters-Call t f es = ap (λ f. finish (expr_rule (meaning m) f s k) (resume m xs).value) (outs-Call t f es)

  pub enters-CallPointer : (t : Ty) (a : ℕ) (e : TypedExpr) (es : Bor (List TypedExpr)) → finish (paid_value m (expr.CallPointer t a e es.now) s k) (resume m xs).value ≡ finish ((value_of m e >>= value_rest m (vw.CallThen es)) s k) (resume m xs).value
  unfolding paid_value value_of call_of value_rest arguments_of called_of
  enters-CallPointer t a e es = ap (λ f. finish (expr_rule (meaning m) f s k) (resume m xs).value) (outs-CallPointer t a e es.now)

  pub enters-CallService : (x : Service) (es : List TypedExpr) → finish (paid_value m (expr.CallService x es) s k) (resume m xs).value ≡ finish (arguments_of m (called.Service x) [] es s k) (resume m xs).value
  unfolding paid_value value_of arguments_of called_of
  enters-CallService x es = ap (λ f. finish (expr_rule (meaning m) f s k) (resume m xs).value) (outs-CallService x es)

  pub enters-VaArg : (i : IntTy) → finish (paid_value m (expr.VaArg i) s k) (resume m xs).value ≡ finish (next_extra i s k) (resume m xs).value
  unfolding paid_value
  enters-VaArg i = ap (λ f. finish (expr_rule (meaning m) f s k) (resume m xs).value) (outs-VaArg i)

  pub enters-FieldOf : (t : Ty) (e : TypedExpr) (st f : ℕ) → finish (paid_value m (expr.FieldOf t e st f) s k) (resume m xs).value ≡ finish ((value_of m e >>= value_rest m (vw.FieldOf f)) s k) (resume m xs).value
  unfolding paid_value value_of value_rest
  enters-FieldOf t e st f = ap (λ f. finish (expr_rule (meaning m) f s k) (resume m xs).value) (outs-FieldOf t e st f)

  pub enters-ElementOf : (t : Ty) (e : TypedExpr) (i : Bor TypedExpr) (n : ℕ) → finish (paid_value m (expr.ElementOf t e i.now n) s k) (resume m xs).value ≡ finish ((value_of m e >>= value_rest m (vw.ElementThen i n)) s k) (resume m xs).value
  unfolding paid_value value_of value_rest
  enters-ElementOf t e i n = ap (λ f. finish (expr_rule (meaning m) f s k) (resume m xs).value) (outs-ElementOf t e i.now n)
