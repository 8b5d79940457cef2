-- What each form of a place comes to, once its unit is paid.
use Rattle.std.proofs.Common.{◌≡◌, ℕ, List, [], ap}
use Rattle.c_types.specs.declared.types.Ty.{Ty}
use Rattle.c_program.specs.declared.expressions.Place.{Place}
use Rattle.c_program.specs.declared.expressions.Place.TheVariants as place
use Rattle.c_program.specs.declared.expressions.Place.TheVariants.{outs-Local, outs-Global, outs-Target, outs-Arrow, outs-Field, outs-Element}
use Rattle.c_program.specs.declared.expressions.TypedExpr.{TypedExpr}
use Rattle.c_values.specs.declared.value.Root.TheVariants as root
use Rattle.c_meaning.specs.States.{State, own_local}
use Rattle.c_meaning.specs.Rules.{◌>>=◌, place_rule, Setting, meaning}
use Rattle.c_interp_steps.specs.declared.work.Pending.{Pending}
use Rattle.c_interp_steps.specs.declared.work.Now.TheVariants as now
use Rattle.c_interp_steps.specs.declared.work.FindWork.TheVariants as fw
use Rattle.c_interp_steps.specs.declared.work.PlaceWork.TheVariants as pw
use Rattle.c_interp_steps.specs.Parts.{value_of, object_of, paid_object}
use Rattle.c_interp_steps.specs.Rests.{find_rest, place_rest}
use Rattle.c_interp_steps.specs.Stack.{finish, resume, total}
use Rattle.std.specs.Borrow.{Bor}

module _ (m : Setting) (xs : List Pending) (s : State) (k : ℕ) where
  pub enters-Local : (l : ℕ) → finish (paid_object m (place.Local l) s k) (resume m xs).object ≡ total m (now.Found (own_local l s)) xs s k
  unfolding paid_object total finish
  enters-Local l = ap (λ f. finish (place_rule (meaning m) f s k) (resume m xs).object) (outs-Local l)

  pub enters-Global : (g : ℕ) → finish (paid_object m (place.Global g) s k) (resume m xs).object ≡ total m (now.Found (record { root = root.Global g; path = [] })) xs s k
  unfolding paid_object total finish
  enters-Global g = ap (λ f. finish (place_rule (meaning m) f s k) (resume m xs).object) (outs-Global g)

  pub enters-Target : (a : Ty) (e : TypedExpr) → finish (paid_object m (place.Target a e) s k) (resume m xs).object ≡ finish ((value_of m e >>= find_rest fw.Target) s k) (resume m xs).object
  unfolding paid_object value_of find_rest
  enters-Target a e = ap (λ f. finish (place_rule (meaning m) f s k) (resume m xs).object) (outs-Target a e)

  pub enters-Arrow : (e : TypedExpr) (st f : ℕ) → finish (paid_object m (place.Arrow e st f) s k) (resume m xs).object ≡ finish ((value_of m e >>= find_rest (fw.Arrow f)) s k) (resume m xs).object
  unfolding paid_object value_of find_rest
  enters-Arrow e st f = ap (λ f. finish (place_rule (meaning m) f s k) (resume m xs).object) (outs-Arrow e st f)

  pub enters-Field : (p : Place) (st f : ℕ) → finish (paid_object m (place.Field p st f) s k) (resume m xs).object ≡ finish ((object_of m p >>= place_rest m (pw.Field f)) s k) (resume m xs).object
  unfolding paid_object object_of place_rest
  enters-Field p st f = ap (λ f. finish (place_rule (meaning m) f s k) (resume m xs).object) (outs-Field p st f)

  pub enters-Element : (a : Ty) (p : Place) (i : Bor TypedExpr) (n : ℕ) → finish (paid_object m (place.Element a p i.now n) s k) (resume m xs).object ≡ finish ((object_of m p >>= place_rest m (pw.ElementThen i n)) s k) (resume m xs).object
  unfolding paid_object object_of value_of place_rest
  enters-Element a p i n = ap (λ f. finish (place_rule (meaning m) f s k) (resume m xs).object) (outs-Element a p i.now n)
