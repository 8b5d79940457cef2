-- Past twice the units the depth changes nothing.
use Rattle.std.proofs.Common.{◌≡◌, ℕ, zero, suc, ◌+◌, ◌-◌, ◌*◌, ◌<◌, ◌≤◌, Bool, true, false, List, [], ◌∷◌, refl, ap, ◌∙◌, arith}
use Rattle.std.specs.Prelude.{nat_le, nat_lt, if◌then◌else◌, Option, Some, None, ℤ, pos, negsuc}
use Rattle.std.proofs.lemmas.Bool.{leb-true}
use Rattle.c_types.specs.declared.types.IntTy.{IntTy}
use Rattle.c_types.specs.declared.types.Types.{Types}
use Rattle.c_program.specs.declared.expressions.Target.{Target}
use Rattle.c_program.specs.declared.expressions.Service.{Service}
use Rattle.c_program.specs.declared.expressions.Service.TheVariants as service
use Rattle.c_program.specs.declared.expressions.Place.{Place, out-Place}
use Rattle.c_program.specs.declared.expressions.TypedExpr.{TypedExpr, out-TypedExpr}
use Rattle.c_program.specs.declared.expressions.Place.TheOpen.{Place-F, TypedExpr-F}
use Rattle.c_program.specs.declared.statements.Declared.{Declared}
use Rattle.c_program.specs.declared.statements.ForBegin.{ForBegin}
use Rattle.c_program.specs.declared.statements.ForBegin.TheVariants as begin
use Rattle.c_program.specs.declared.statements.TypedItem.{TypedItem, out-TypedItem}
use Rattle.c_program.specs.declared.statements.TypedStmt.{TypedStmt, out-TypedStmt}
use Rattle.c_program.specs.declared.statements.TypedItem.TheOpen.{TypedItem-F, TypedStmt-F}
use Rattle.c_values.specs.declared.value.Object.{Object}
use Rattle.c_values.specs.declared.value.Value.{Value, out-Value}
use Rattle.c_values.specs.declared.value.Value.TheOpen.{Value-F}
use Rattle.c_values.specs.Objects.{number_in, truth}
use Rattle.c_values.specs.Numbers.{stepped}
use Rattle.c_values.specs.declared.value.Value.TheVariants as value
use Rattle.c_values.specs.Objects.{zero_of}
use Rattle.c_meaning.specs.Costs.{call_cost, expr_cost, declarator_cost}
use Rattle.c_meaning.specs.Laws.{SameMeanings}
use Rattle.c_meaning.specs.States.{State, Reply, rest_in}
use Rattle.c_meaning.specs.Rules.{Question, Calls, Serves, Res, Done, Stop, Spent, Act, pure, after, ◌>>=◌, pay, trap, choose, Flow, Normal, Broke, Continued, Gave, Callee, Body, Adjusts, Elsewhere, Setting, Meanings, load, store, pointed_at, bounded, place_rule, values, ask, ask_in, serve, service_rule, get_in, function_at, back, leave, leave_adjustor, adjusted, computed, extra_in, next_extra, expr_rule, set_local, initial_value, declare, declare_all, item_rule, then_run, items_rule, block_rule, again, effect, holds, loop_rule, begin_rule, give, stmt_rule, call_rule, rules, meanings, depth, meaning}

-- fewer than m units are left
abbrev Left : {A : Type 0} → ℕ → Res A → Type 0
Left m (Done a s k) = k < m
Left m (Stop o s k) = Unit {0}
Left m (Spent s k) = Unit {0}

-- both are the same
record Steady {A : Type 0} (m : ℕ) (r r' : Res A) : Type 0 where
  same : r ≡ r'
  left : Left m r

steady_after : {A B : Type 0} {m m2 : ℕ} {r' : Res A} (r : Res A) (go go' : A → Act B) → Steady m r r' → ((a : A) (s : State) (k : ℕ) → k < m → Steady m2 (go a s k) (go' a s k)) → Steady m2 (after r go) (after r' go')
steady_after {r' = r'} (Done a s k) go go' h next =
    let n = next a s k h.left in
    record { same = n.same ∙ ap (λ r. after r go') h.same; left = n.left }
steady_after {r' = r'} (Stop o s k) go go' h next = record { same = ap (λ r. after r go') h.same; left = tt }
steady_after {r' = r'} (Spent s k) go go' h next = record { same = ap (λ r. after r go') h.same; left = tt }

steady_bind : {A B : Type 0} (m m2 : ℕ) (r r' : Act A) (go go' : A → Act B) (s : State) (k : ℕ) → Steady m (r s k) (r' s k) → ((a : A) (s : State) (k : ℕ) → k < m → Steady m2 (go a s k) (go' a s k)) → Steady m2 ((r >>= go) s k) ((r' >>= go') s k)
unfolding ◌>>=◌
steady_bind m m2 r r' go go' s k h next = steady_after (r s k) go go' h next

pay_by : {A : Type 0} (n m : ℕ) (f f' : Act A) (s : State) (k : ℕ) → (n ≤ k → Steady m (f s (k - n)) (f' s (k - n))) → (b : Bool) → nat_le n k ≡ b → Steady m (if b then f s (k - n) else Spent s k) (if b then f' s (k - n) else Spent s k)
pay_by n m f f' s k next true e = next (leb-true n k e)
pay_by n m f f' s k next false e = record { same = refl; left = tt }

steady_pay : {A : Type 0} (n m : ℕ) (f f' : Act A) (s : State) (k : ℕ) → (n ≤ k → Steady m (f s (k - n)) (f' s (k - n))) → Steady m (pay n f s k) (pay n f' s k)
unfolding pay
steady_pay n m f f' s k next = pay_by n m f f' s k next (nat_le n k) refl

steady_more : {A : Type 0} (m m2 : ℕ) (r r' : Res A) → m ≤ m2 → Steady m r r' → Steady m2 r r'
steady_more m m2 (Done a s k) r' le x = record { same = x.same; left = omega (arith, x.left) }
steady_more m m2 (Stop o s k) r' le x = record { same = x.same; left = tt }
steady_more m m2 (Spent s k) r' le x = record { same = x.same; left = tt }

-- an action with no parts leaves no more units than it had
abbrev Simple : {A : Type 0} → Act A → Type 0
Simple f = (s : State) (k : ℕ) → Left (suc k) (f s k)

simple : {A : Type 0} (m : ℕ) (f : Act A) → Simple f → (s : State) (k : ℕ) → k < m → Steady m (f s k) (f s k)
simple m f h s k lt = steady_more (suc k) m _ _ (omega arith) (record { same = refl; left = h s k })

simple_pure : {A : Type 0} (a : A) → Simple (pure a)
simple_pure a s k = omega arith

simple_pointed : (v : Value-F Value) → Simple (pointed_at v)
simple_pointed (Value-F.Pointer o) s k = omega arith
simple_pointed Value-F.Null s k = tt
simple_pointed (Value-F.Number z) s k = tt
simple_pointed (Value-F.Function t) s k = tt
simple_pointed (Value-F.Aggregate vs) s k = tt

simple_function : (v : Value-F Value) → Simple (function_at v)
simple_function (Value-F.Function t) s k = omega arith
simple_function Value-F.Null s k = tt
simple_function (Value-F.Number z) s k = tt
simple_function (Value-F.Pointer o) s k = tt
simple_function (Value-F.Aggregate vs) s k = tt

simple_choose : {A : Type 0} (b : Bool) (f g : Act A) → Simple f → Simple g → Simple (choose b f g)
simple_choose true f g hf hg = hf
simple_choose false f g hf hg = hg

simple_bounded : (n : ℕ) (z : ℤ) → Simple (bounded n z)
simple_bounded n (pos i) s k = simple_choose (nat_lt i n) (pure i) (trap 241) (λ s k. omega arith) (λ s k. tt) s k
simple_bounded n (negsuc i) s k = tt

simple_computed : (z : Option ℤ) → Simple (computed z)
simple_computed None s k = tt
simple_computed (Some z) s k = omega arith

simple_load : (o : Object) → Simple (load o)
simple_load o s k = omega arith

simple_store : (o : Object) (v : Value) → Simple (store o v)
simple_store o v s k = omega arith

simple_ask_in : (rs : List Reply) (q : Question) → Simple (ask_in rs q)
simple_ask_in [] q s k = tt
simple_ask_in (r ∷ rs) q s k = omega arith

simple_ask : (q : Question) → Simple (ask q)
simple_ask q s k = simple_ask_in s.world.replies q s k

simple_get : (bs : List ℕ) → Simple (get_in bs)
simple_get [] s k = omega arith
simple_get (b ∷ bs) s k = omega arith

simple_service : (x : Service) (vs : List Value) → Simple (service_rule x vs)
simple_service service.PutByte vs s k = omega arith
simple_service service.GetByte vs s k = simple_get s.world.input s k
simple_service service.Exit vs s k = tt

simple_serve : (x : Service) (vs : List Value) → Simple (serve x vs)
simple_serve x vs s k = simple_choose s.world.asks (ask (Serves x vs)) (service_rule x vs) (simple_ask (Serves x vs)) (simple_service x vs) s k

simple_extra_in : (r : Option (List Value)) (i : IntTy) → Simple (extra_in r i)
simple_extra_in None i s k = tt
simple_extra_in (Some []) i s k = tt
simple_extra_in (Some (v ∷ vs)) i s k = omega arith

simple_extra : (i : IntTy) → Simple (next_extra i)
simple_extra i s k = simple_extra_in (rest_in s.frames) i s k

cost_some : {P E : Type 0} (t : Types) (e : TypedExpr-F P E) → 1 ≤ expr_cost t e
cost_some t (TypedExpr-F.Number i n) = omega arith
cost_some t (TypedExpr-F.Char z) = omega arith
cost_some t (TypedExpr-F.Null a) = omega arith
cost_some t (TypedExpr-F.Function a f) = omega arith
cost_some t (TypedExpr-F.Load a p) = omega arith
cost_some t (TypedExpr-F.Address a p) = omega arith
cost_some t (TypedExpr-F.Same e) = omega arith
cost_some t (TypedExpr-F.Negate i e) = omega arith
cost_some t (TypedExpr-F.Complement i e) = omega arith
cost_some t (TypedExpr-F.Not e) = omega arith
cost_some t (TypedExpr-F.Convert i e) = omega arith
cost_some t (TypedExpr-F.Binary o i l r) = omega arith
cost_some t (TypedExpr-F.Compare c a l r) = omega arith
cost_some t (TypedExpr-F.And l r) = omega arith
cost_some t (TypedExpr-F.Or l r) = omega arith
cost_some t (TypedExpr-F.Conditional a c l r) = omega arith
cost_some t (TypedExpr-F.Assign a p e) = omega arith
cost_some t (TypedExpr-F.Update o i j p e) = omega arith
cost_some t (TypedExpr-F.Before i up p) = omega arith
cost_some t (TypedExpr-F.After i up p) = omega arith
cost_some t (TypedExpr-F.Call a f args) = omega arith
cost_some t (TypedExpr-F.CallPointer a k e args) = omega arith
cost_some t (TypedExpr-F.CallService s args) = omega arith
cost_some t (TypedExpr-F.VaArg i) = omega arith
cost_some t (TypedExpr-F.FieldOf a e s f) = omega arith
cost_some t (TypedExpr-F.ElementOf a e i n) = omega arith

-- the two agree where twice the units are below n
record Agree (n : ℕ) (r r' : Meanings) : Type 0 where
  values : (e : TypedExpr) (s : State) (k : ℕ) → 2 * k < n → Steady k (r.value e s k) (r'.value e s k)
  objects : (p : Place) (s : State) (k : ℕ) → 2 * k < n → Steady k (r.object p s k) (r'.object p s k)
  statements : (x : TypedStmt) (s : State) (k : ℕ) → 2 * k < n → Steady k (r.statement x s k) (r'.statement x s k)
  loops : (c n' : Option TypedExpr) (x : TypedStmt) (s : State) (k : ℕ) → 2 * k + 1 < n → Steady (suc k) (r.loop c n' x s k) (r'.loop c n' x s k)
  calls : (t : Target) (vs : List Value) (s : State) (k : ℕ) → 2 * k < n → Steady (suc k) (r.call t vs s k) (r'.call t vs s k)

module _ (m : Setting) (n : ℕ) (r r' : Meanings) (h : Agree n r r') where
  -- one part, and what follows
  by_value : {B : Type 0} (l : ℕ) (e : TypedExpr) (f f' : Value → Act B) (s : State) (k : ℕ) → 2 * k < n → ((v : Value) (s : State) (k2 : ℕ) → k2 < k → Steady l (f v s k2) (f' v s k2)) → Steady l ((r.value e >>= f) s k) ((r'.value e >>= f') s k)
  by_value l e f f' s k lt next = steady_bind k l (r.value e) (r'.value e) f f' s k (h.values e s k lt) next

  by_object : {B : Type 0} (l : ℕ) (p : Place) (f f' : Object → Act B) (s : State) (k : ℕ) → 2 * k < n → ((v : Object) (s : State) (k2 : ℕ) → k2 < k → Steady l (f v s k2) (f' v s k2)) → Steady l ((r.object p >>= f) s k) ((r'.object p >>= f') s k)
  by_object l p f f' s k lt next = steady_bind k l (r.object p) (r'.object p) f f' s k (h.objects p s k lt) next

  by_simple : {A B : Type 0} (l : ℕ) (g : Act A) (f f' : A → Act B) → Simple g → (s : State) (k : ℕ) → ((v : A) (s : State) (k2 : ℕ) → k2 ≤ k → Steady l (f v s k2) (f' v s k2)) → Steady l ((g >>= f) s k) ((g >>= f') s k)
  by_simple l g f f' hg s k next = steady_bind (suc k) l g g f f' s k (record { same = refl; left = hg s k }) (λ v s k2 lt. next v s k2 (omega arith))

  by_values : (es : List TypedExpr) (s : State) (k : ℕ) → 2 * k < n → Steady (suc k) (values r.value es s k) (values r'.value es s k)
  by_values [] s k lt = record { same = refl; left = omega arith }
  by_values (e ∷ es) s k lt = by_value (suc k) e _ _ s k lt (λ v s k2 l2. steady_bind (suc k2) (suc k) _ _ _ _ s k2 (by_values es s k2 (omega arith)) (λ vs s k3 l3. record { same = refl; left = omega arith }))

  places : (p : Place-F Place TypedExpr) (s : State) (k : ℕ) → 2 * k < n → Steady (suc k) (place_rule r p s k) (place_rule r' p s k)
  places (Place-F.Local l) s k lt = record { same = refl; left = omega arith }
  places (Place-F.Global g) s k lt = record { same = refl; left = omega arith }
  places (Place-F.Target a e) s k lt = by_value (suc k) e _ _ s k lt (λ v s k2 l2. simple (suc k) _ (simple_pointed (out-Value v)) s k2 (omega arith))
  places (Place-F.Arrow e st f) s k lt = by_value (suc k) e _ _ s k lt (λ v s k2 l2. by_simple (suc k) _ _ _ (simple_pointed (out-Value v)) s k2 (λ o s k3 l3. record { same = refl; left = omega arith }))
  places (Place-F.Field p st f) s k lt = by_object (suc k) p _ _ s k lt (λ o s k2 l2. record { same = refl; left = omega arith })
  places (Place-F.Element a p i c) s k lt = by_object (suc k) p _ _ s k lt (λ o s k2 l2. by_value (suc k) i _ _ s k2 (omega arith) (λ v s k3 l3. by_simple (suc k) _ _ _ (simple_bounded c (number_in v)) s k3 (λ z s k4 l4. record { same = refl; left = omega arith })))

  chosen : {A : Type 0} (l : ℕ) (b : Bool) (f g f' g' : Act A) (s : State) (k : ℕ) → Steady l (f s k) (f' s k) → Steady l (g s k) (g' s k) → Steady l (choose b f g s k) (choose b f' g' s k)
  chosen l true f g f' g' s k hf hg = hf
  chosen l false f g f' g' s k hf hg = hg

  value_then : {B : Type 0} (l : ℕ) (e : TypedExpr) (f : Value → Act B) → ((v : Value) → Simple (f v)) → (s : State) (k : ℕ) → 2 * k < n → k < l → Steady l ((r.value e >>= f) s k) ((r'.value e >>= f) s k)
  value_then l e f hf s k lt lk = by_value l e f f s k lt (λ v s k2 l2. simple l (f v) (hf v) s k2 (omega arith))

  called : (t : Target) (vs : List Value) (l : ℕ) (s : State) (k : ℕ) → 2 * k < n → k < l → Steady l ((r.call t vs >>= back) s k) ((r'.call t vs >>= back) s k)
  called t vs l s k lt lk = steady_bind (suc k) l _ _ back back s k (h.calls t vs s k lt) (λ v s k2 l2. record { same = refl; left = omega arith })

  exprs : (e : TypedExpr-F Place TypedExpr) (s : State) (k : ℕ) → 2 * k < n → Steady (suc k) (expr_rule r e s k) (expr_rule r' e s k)
  exprs (TypedExpr-F.Number i v) s k lt = record { same = refl; left = omega arith }
  exprs (TypedExpr-F.Char z) s k lt = record { same = refl; left = omega arith }
  exprs (TypedExpr-F.Null a) s k lt = record { same = refl; left = omega arith }
  exprs (TypedExpr-F.Function a f) s k lt = record { same = refl; left = omega arith }
  exprs (TypedExpr-F.Load a p) s k lt = steady_bind (suc k) (suc k) _ _ load load s k (places (out-Place p) s k lt) (λ o s k2 l2. record { same = refl; left = omega arith })
  exprs (TypedExpr-F.Address a p) s k lt = by_object (suc k) p _ _ s k lt (λ o s k2 l2. record { same = refl; left = omega arith })
  exprs (TypedExpr-F.Same e) s k lt = steady_more k (suc k) _ _ (omega arith) (h.values e s k lt)
  exprs (TypedExpr-F.Negate i e) s k lt = value_then (suc k) e _ (λ v s k. omega arith) s k lt (omega arith)
  exprs (TypedExpr-F.Complement i e) s k lt = value_then (suc k) e _ (λ v s k. omega arith) s k lt (omega arith)
  exprs (TypedExpr-F.Not e) s k lt = value_then (suc k) e _ (λ v s k. omega arith) s k lt (omega arith)
  exprs (TypedExpr-F.Convert i e) s k lt = value_then (suc k) e _ (λ v s k. omega arith) s k lt (omega arith)
  exprs (TypedExpr-F.Binary o i a b) s k lt = by_value (suc k) a _ _ s k lt (λ x s k2 l2. value_then (suc k) b _ (λ y. simple_computed _) s k2 (omega arith) (omega arith))
  exprs (TypedExpr-F.Compare c t a b) s k lt = by_value (suc k) a _ _ s k lt (λ x s k2 l2. value_then (suc k) b _ (λ y s k. omega arith) s k2 (omega arith) (omega arith))
  exprs (TypedExpr-F.And a b) s k lt = by_value (suc k) a _ _ s k lt (λ x s k2 l2. chosen (suc k) (truth x) _ _ _ _ s k2 (value_then (suc k) b _ (λ y s k. omega arith) s k2 (omega arith) (omega arith)) (record { same = refl; left = omega arith }))
  exprs (TypedExpr-F.Or a b) s k lt = by_value (suc k) a _ _ s k lt (λ x s k2 l2. chosen (suc k) (truth x) _ _ _ _ s k2 (record { same = refl; left = omega arith }) (value_then (suc k) b _ (λ y s k. omega arith) s k2 (omega arith) (omega arith)))
  exprs (TypedExpr-F.Conditional t c a b) s k lt = by_value (suc k) c _ _ s k lt (λ x s k2 l2. chosen (suc k) (truth x) _ _ _ _ s k2 (steady_more k2 (suc k) _ _ (omega arith) (h.values a s k2 (omega arith))) (steady_more k2 (suc k) _ _ (omega arith) (h.values b s k2 (omega arith))))
  exprs (TypedExpr-F.Assign t p e) s k lt = by_object (suc k) p _ _ s k lt (λ o s k2 l2. value_then (suc k) e (store o) (λ v s k. omega arith) s k2 (omega arith) (omega arith))
  exprs (TypedExpr-F.Update op i j p e) s k lt = by_object (suc k) p _ _ s k lt (λ o s k2 l2. by_simple (suc k) (load o) _ _ (simple_load o) s k2 (λ x s k3 l3. by_value (suc k) e _ _ s k3 (omega arith) (λ y s k4 l4. by_simple (suc k) _ (store o) (store o) (simple_computed _) s k4 (λ v s k5 l5. record { same = refl; left = omega arith }))))
  exprs (TypedExpr-F.Before i up p) s k lt = by_object (suc k) p _ _ s k lt (λ o s k2 l2. by_simple (suc k) (load o) _ _ (simple_load o) s k2 (λ x s k3 l3. record { same = refl; left = omega arith }))
  exprs (TypedExpr-F.After i up p) s k lt = by_object (suc k) p _ _ s k lt (λ o s k2 l2. by_simple (suc k) (load o) _ _ (simple_load o) s k2 (λ x s k3 l3. by_simple (suc k) _ _ _ (simple_store o (value.Number (stepped i up (number_in x)))) s k3 (λ y s k4 l4. record { same = refl; left = omega arith })))
  exprs (TypedExpr-F.Call t f args) s k lt = steady_bind (suc k) (suc k) _ _ _ _ s k (by_values args s k lt) (λ vs s k2 l2. called f vs (suc k) s k2 (omega arith) (omega arith))
  exprs (TypedExpr-F.CallPointer t c e args) s k lt = by_value (suc k) e _ _ s k lt (λ x s k2 l2. steady_bind (suc k2) (suc k) _ _ _ _ s k2 (by_values args s k2 (omega arith)) (λ vs s k3 l3. by_simple (suc k) _ _ _ (simple_function (out-Value x)) s k3 (λ f s k4 l4. called f vs (suc k) s k4 (omega arith) (omega arith))))
  exprs (TypedExpr-F.CallService x args) s k lt = steady_bind (suc k) (suc k) _ _ (serve x) (serve x) s k (by_values args s k lt) (λ vs s k2 l2. simple (suc k) _ (simple_serve x vs) s k2 (omega arith))
  exprs (TypedExpr-F.VaArg i) s k lt = simple (suc k) _ (simple_extra i) s k (omega arith)
  exprs (TypedExpr-F.FieldOf t e st f) s k lt = value_then (suc k) e _ (λ v s k. omega arith) s k lt (omega arith)
  exprs (TypedExpr-F.ElementOf t e i c) s k lt = by_value (suc k) e _ _ s k lt (λ v s k2 l2. by_value (suc k) i _ _ s k2 (omega arith) (λ y s k3 l3. by_simple (suc k) _ _ _ (simple_bounded c (number_in y)) s k3 (λ z s k4 l4. record { same = refl; left = omega arith })))

  initials : (l : ℕ) (e : Option TypedExpr) (s : State) (k : ℕ) → 2 * k < n → Steady (suc k) (initial_value r.value l e s k) (initial_value r'.value l e s k)
  initials l None s k lt = record { same = refl; left = omega arith }
  initials l (Some e) s k lt = value_then (suc k) e (set_local l) (λ v s k. omega arith) s k lt (omega arith)

  declares : (d : Declared) (s : State) (k : ℕ) → 2 * k < suc n → Steady k (declare m.types r.value d s k) (declare m.types r'.value d s k)
  declares d s k lt = steady_pay (declarator_cost m.types d) k _ _ s k (λ le. by_simple k (set_local d.local (zero_of m.types d.ty)) _ _ (λ s k. omega arith) s (k - declarator_cost m.types d)
      (λ v s k2 l2. steady_more (suc k2) k _ _ (omega arith) (initials d.local d.init s k2 (omega arith))))

  all_declared : (ds : List Declared) (s : State) (k : ℕ) → 2 * k < suc n → Steady (suc k) (declare_all m.types r.value ds s k) (declare_all m.types r'.value ds s k)
  all_declared [] s k lt = record { same = refl; left = omega arith }
  all_declared (d ∷ ds) s k lt = steady_bind k (suc k) _ _ _ _ s k (declares d s k lt) (λ v s k2 l2. steady_more (suc k2) (suc k) _ _ (omega arith) (all_declared ds s k2 (omega arith)))

  items : (x : TypedItem-F TypedItem TypedStmt) (s : State) (k : ℕ) → 2 * k < n → Steady k (item_rule m.types r x s k) (item_rule m.types r' x s k)
  items (TypedItem-F.Declare d) s k lt = declares d s k (omega arith)
  items TypedItem-F.VaList s k lt = steady_pay 1 k _ _ s k (λ le. record { same = refl; left = omega arith })
  items (TypedItem-F.Stmt x) s k lt = h.statements x s k lt

  followed : (l : ℕ) (f f' : Act Flow) (flow : Flow) (s : State) (k : ℕ) → k < l → Steady l (f s k) (f' s k) → Steady l (then_run f flow s k) (then_run f' flow s k)
  followed l f f' Normal s k lt x = x
  followed l f f' Broke s k lt x = record { same = refl; left = lt }
  followed l f f' Continued s k lt x = record { same = refl; left = lt }
  followed l f f' (Gave v) s k lt x = record { same = refl; left = lt }

  all_items : (xs : List TypedItem) (s : State) (k : ℕ) → 2 * k < n → Steady (suc k) (items_rule m.types r xs s k) (items_rule m.types r' xs s k)
  all_items [] s k lt = record { same = refl; left = omega arith }
  all_items (x ∷ xs) s k lt = steady_bind k (suc k) _ _ _ _ s k (items (out-TypedItem x) s k lt) (λ flow s k2 l2. followed (suc k) _ _ flow s k2 (omega arith) (steady_more (suc k2) (suc k) _ _ (omega arith) (all_items xs s k2 (omega arith))))

  blocks : (xs : List TypedItem) (s : State) (k : ℕ) → 2 * k < suc n → Steady k (block_rule m.types r xs s k) (block_rule m.types r' xs s k)
  blocks xs s k lt = steady_pay 1 k _ _ s k (λ le. steady_more (suc (k - 1)) k _ _ (omega arith) (all_items xs s (k - 1) (omega arith)))

  turned : (l : ℕ) (f f' : Act Flow) (flow : Flow) (s : State) (k : ℕ) → k < l → Steady l (f s k) (f' s k) → Steady l (again f flow s k) (again f' flow s k)
  turned l f f' Normal s k lt x = x
  turned l f f' Broke s k lt x = record { same = refl; left = lt }
  turned l f f' Continued s k lt x = x
  turned l f f' (Gave v) s k lt x = record { same = refl; left = lt }

  effects : (e : Option TypedExpr) (s : State) (k : ℕ) → 2 * k < n → Steady (suc k) (effect r.value e s k) (effect r'.value e s k)
  effects None s k lt = record { same = refl; left = omega arith }
  effects (Some e) s k lt = value_then (suc k) e _ (λ v s k. omega arith) s k lt (omega arith)

  conditions : (e : Option TypedExpr) (s : State) (k : ℕ) → 2 * k < n → Steady (suc k) (holds r.value e s k) (holds r'.value e s k)
  conditions None s k lt = record { same = refl; left = omega arith }
  conditions (Some e) s k lt = value_then (suc k) e _ (λ v s k. omega arith) s k lt (omega arith)

  gifts : (e : Option TypedExpr) (s : State) (k : ℕ) → 2 * k < n → Steady (suc k) (give r.value e s k) (give r'.value e s k)
  gifts None s k lt = record { same = refl; left = omega arith }
  gifts (Some e) s k lt = value_then (suc k) e _ (λ v s k. omega arith) s k lt (omega arith)

  begins : (b : ForBegin) (s : State) (k : ℕ) → 2 * k < n → Steady (suc k) (begin_rule m.types r.value b s k) (begin_rule m.types r'.value b s k)
  begins (begin.Locals ds) s k lt = all_declared ds s k (omega arith)
  begins (begin.Effect e) s k lt = effects (Some e) s k lt
  begins begin.Nothing s k lt = record { same = refl; left = omega arith }

  loop_steady : (c n' : Option TypedExpr) (x : TypedStmt) (s : State) (k : ℕ) → 2 * k < n → Steady (suc k) (loop_rule r c n' x s k) (loop_rule r' c n' x s k)
  loop_steady c n' x s k lt = steady_bind (suc k) (suc k) _ _ _ _ s k (conditions c s k lt) (λ go s k2 l2. chosen (suc k) go _ _ _ _ s k2
      (steady_bind k2 (suc k) _ _ _ _ s k2 (h.statements x s k2 (omega arith)) (λ flow s k3 l3. turned (suc k) _ _ flow s k3 (omega arith)
      (steady_bind (suc k3) (suc k) _ _ _ _ s k3 (effects n' s k3 (omega arith)) (λ flow s k4 l4. steady_more (suc k4) (suc k) _ _ (omega arith) (h.loops c n' x s k4 (omega arith))))))
      (record { same = refl; left = omega arith }))

  -- with a unit paid before
  stmts : (x : TypedStmt-F TypedItem TypedStmt) (s : State) (k : ℕ) → 2 * k + 1 < n → Steady (suc k) (stmt_rule m.types r x s k) (stmt_rule m.types r' x s k)
  stmts (TypedStmt-F.Block xs) s k lt = all_items xs s k (omega arith)
  stmts TypedStmt-F.Empty s k lt = record { same = refl; left = omega arith }
  stmts (TypedStmt-F.Effect e) s k lt = effects (Some e) s k (omega arith)
  stmts TypedStmt-F.Break s k lt = record { same = refl; left = omega arith }
  stmts TypedStmt-F.Continue s k lt = record { same = refl; left = omega arith }
  stmts (TypedStmt-F.If c x) s k lt = by_value (suc k) c _ _ s k (omega arith) (λ v s k2 l2. chosen (suc k) (truth v) _ _ _ _ s k2 (steady_more k2 (suc k) _ _ (omega arith) (h.statements x s k2 (omega arith))) (record { same = refl; left = omega arith }))
  stmts (TypedStmt-F.IfElse c x y) s k lt = by_value (suc k) c _ _ s k (omega arith) (λ v s k2 l2. chosen (suc k) (truth v) _ _ _ _ s k2 (steady_more k2 (suc k) _ _ (omega arith) (h.statements x s k2 (omega arith))) (steady_more k2 (suc k) _ _ (omega arith) (h.statements y s k2 (omega arith))))
  stmts (TypedStmt-F.While c x) s k lt = h.loops (Some c) None x s k lt
  stmts (TypedStmt-F.Do x c) s k lt = steady_bind k (suc k) _ _ _ _ s k (h.statements x s k (omega arith)) (λ flow s k2 l2. turned (suc k) _ _ flow s k2 (omega arith) (steady_more (suc k2) (suc k) _ _ (omega arith) (h.loops (Some c) None x s k2 (omega arith))))
  stmts (TypedStmt-F.For b c n' x) s k lt = steady_bind (suc k) (suc k) _ _ _ _ s k (begins b s k (omega arith)) (λ flow s k2 l2. steady_more (suc k2) (suc k) _ _ (omega arith) (h.loops c n' x s k2 (omega arith)))
  stmts (TypedStmt-F.Return e) s k lt = gifts e s k (omega arith)
  stmts TypedStmt-F.VaStart s k lt = record { same = refl; left = omega arith }
  stmts TypedStmt-F.VaEnd s k lt = record { same = refl; left = omega arith }

  call_steady : (c : Callee) (t : Target) (vs : List Value) (s : State) (k : ℕ) → 2 * k < suc n → Steady (suc k) (call_rule m r c t vs s k) (call_rule m r' c t vs s k)
  call_steady (Body f b) t vs s k lt = steady_bind k (suc k) (block_rule m.types r b.block) (block_rule m.types r' b.block) (leave m.types f.result) (leave m.types f.result) _ k (blocks b.block _ k lt) (λ flow s k2 l2. record { same = refl; left = omega arith })
  call_steady (Adjusts f a) t vs s k lt = steady_pay (call_cost vs) (suc k) _ _ s k (λ le. steady_bind (suc (k - call_cost vs)) (suc k) (r.call a.target (adjusted f a vs)) (r'.call a.target (adjusted f a vs)) leave_adjustor leave_adjustor _ (k - call_cost vs) (h.calls a.target (adjusted f a vs) _ (k - call_cost vs) (omega arith)) (λ v s k2 l2. record { same = refl; left = omega arith }))
  call_steady Elsewhere t vs s k lt = simple (suc k) _ (simple_ask (Calls t vs)) s k (omega arith)

  -- the rules over two meanings that agree, agree one unit of depth further
  rules_agree : Agree (suc n) (rules m r) (rules m r')
  rules_agree = record {
    values = λ e s k lt. steady_pay _ k _ _ s k (λ le. let some = cost_some m.types (out-TypedExpr e) in steady_more (suc (k - expr_cost m.types (out-TypedExpr e))) k _ _ (omega arith) (exprs (out-TypedExpr e) s (k - expr_cost m.types (out-TypedExpr e)) (omega arith)));
    objects = λ p s k lt. steady_pay 1 k _ _ s k (λ le. steady_more (suc (k - 1)) k _ _ (omega arith) (places (out-Place p) s (k - 1) (omega arith)));
    statements = λ x s k lt. steady_pay 1 k _ _ s k (λ le. steady_more (suc (k - 1)) k _ _ (omega arith) (stmts (out-TypedStmt x) s (k - 1) (omega arith)));
    loops = λ c n' x s k lt. loop_steady c n' x s k (omega arith);
    calls = λ t vs s k lt. call_steady (m.callee t) t vs s k lt;
  }

module _ (m : Setting) where
  depths_agree : (n d d' : ℕ) → n ≤ d → n ≤ d' → Agree n (meanings m d) (meanings m d')
  depths_agree zero d d' le le' = record {
    values = λ e s k lt. absurd (omega arith);
    objects = λ p s k lt. absurd (omega arith);
    statements = λ x s k lt. absurd (omega arith);
    loops = λ c n' x s k lt. absurd (omega arith);
    calls = λ t vs s k lt. absurd (omega arith);
  }
  depths_agree (suc n) zero d' le le' = absurd (omega arith)
  depths_agree (suc n) (suc d) zero le le' = absurd (omega arith)
  depths_agree (suc n) (suc d) (suc d') le le' = rules_agree m n (meanings m d) (meanings m d') (depths_agree n d d' (omega arith) (omega arith))

  -- at a depth, the meaning is what it is at every depth that is enough
  limit : (n d : ℕ) → n ≤ d → Agree n (meanings m d) (meaning m)
  limit n d le = record {
    values = λ e s k lt. (depths_agree (2 * k + 1) d (depth k) (omega arith) (omega arith)).values e s k (omega arith);
    objects = λ p s k lt. (depths_agree (2 * k + 1) d (depth k) (omega arith) (omega arith)).objects p s k (omega arith);
    statements = λ x s k lt. (depths_agree (2 * k + 1) d (depth k) (omega arith) (omega arith)).statements x s k (omega arith);
    loops = λ c n' x s k lt. (depths_agree (2 * k + 2) d (depth k) (omega arith) (omega arith)).loops c n' x s k (omega arith);
    calls = λ t vs s k lt. (depths_agree (2 * k + 1) d (depth k) (omega arith) (omega arith)).calls t vs s k (omega arith);
  }

  over : (n : ℕ) → Agree (suc n) (rules m (meanings m n)) (rules m (meaning m))
  over n = rules_agree m n (meanings m n) (meaning m) (limit n n (omega arith))

  -- so the meaning is what its rules say over it
  pub value_is : (e : TypedExpr) (s : State) (k : ℕ) → (meaning m).value e s k ≡ (rules m (meaning m)).value e s k
  value_is e s k = ((depths_agree (2 * k + 1) (depth k) (suc (2 * k)) (omega arith) (omega arith)).values e s k (omega arith)).same ∙ ((over (2 * k)).values e s k (omega arith)).same

  pub object_is : (p : Place) (s : State) (k : ℕ) → (meaning m).object p s k ≡ (rules m (meaning m)).object p s k
  object_is p s k = ((depths_agree (2 * k + 1) (depth k) (suc (2 * k)) (omega arith) (omega arith)).objects p s k (omega arith)).same ∙ ((over (2 * k)).objects p s k (omega arith)).same

  pub statement_is : (x : TypedStmt) (s : State) (k : ℕ) → (meaning m).statement x s k ≡ (rules m (meaning m)).statement x s k
  statement_is x s k = ((depths_agree (2 * k + 1) (depth k) (suc (2 * k)) (omega arith) (omega arith)).statements x s k (omega arith)).same ∙ ((over (2 * k)).statements x s k (omega arith)).same

  pub loop_is : (c n : Option TypedExpr) (x : TypedStmt) (s : State) (k : ℕ) → (meaning m).loop c n x s k ≡ (rules m (meaning m)).loop c n x s k
  loop_is c n x s k = ((depths_agree (2 * k + 2) (depth k) (suc (2 * k + 1)) (omega arith) (omega arith)).loops c n x s k (omega arith)).same ∙ ((over (2 * k + 1)).loops c n x s k (omega arith)).same

  pub call_is : (t : Target) (vs : List Value) (s : State) (k : ℕ) → (meaning m).call t vs s k ≡ (rules m (meaning m)).call t vs s k
  call_is t vs s k = ((depths_agree (2 * k + 1) (depth k) (suc (2 * k)) (omega arith) (omega arith)).calls t vs s k (omega arith)).same ∙ ((over (2 * k)).calls t vs s k (omega arith)).same

  -- a greater depth changes nothing
  pub deeper : (d k : ℕ) → depth k ≤ d → SameMeanings k (meanings m d) (meaning m)
  deeper d k le = let h = limit d d (omega arith) in record {
    value = λ e s. (h.values e s k (omega arith)).same;
    object = λ p s. (h.objects p s k (omega arith)).same;
    statement = λ x s. (h.statements x s k (omega arith)).same;
    loop = λ c n x s. (h.loops c n x s k (omega arith)).same;
    call = λ t vs s. (h.calls t vs s k (omega arith)).same;
  }

  pub fixpoint : (k : ℕ) → SameMeanings k (meaning m) (rules m (meaning m))
  fixpoint k = record {
    value = λ e s. value_is e s k;
    object = λ p s. object_is p s k;
    statement = λ x s. statement_is x s k;
    loop = λ c n x s. loop_is c n x s k;
    call = λ t vs s. call_is t vs s k;
  }
