-- What was put and taken stays put and taken: each evaluation comes to a state that goes on from where
-- it began.
use Rattle.std.proofs.Common.{◌≡◌, ℕ, zero, suc, ◌+◌, ◌-◌, Bool, true, false, List, [], ◌∷◌, ◌++◌, refl, sym, ap, ◌∙◌, length, length-append, arith}
use Rattle.std.proofs.Math.Nat.{add-zero}
use Rattle.std.specs.Prelude.{nat_le, nat_lt, if◌then◌else◌, Option, Some, None, ℤ, pos, negsuc}
use Rattle.std.proofs.lemmas.List.{append_assoc}
use Rattle.c_types.specs.declared.types.IntTy.{IntTy}
use Rattle.c_types.specs.declared.types.Ty.{Ty}
use Rattle.c_types.specs.declared.types.Types.{Types}
use Rattle.c_program.specs.declared.expressions.Target.{Target}
use Rattle.c_program.specs.declared.expressions.Service.{Service}
use Rattle.c_program.specs.declared.expressions.Service.TheVariants as service
use Rattle.c_program.specs.declared.expressions.Place.{Place, out-Place}
use Rattle.c_program.specs.declared.expressions.TypedExpr.{TypedExpr, out-TypedExpr}
use Rattle.c_program.specs.declared.expressions.Place.TheOpen.{Place-F, TypedExpr-F}
use Rattle.c_program.specs.declared.statements.Declared.{Declared}
use Rattle.c_program.specs.declared.statements.ForBegin.{ForBegin}
use Rattle.c_program.specs.declared.statements.ForBegin.TheVariants as begin
use Rattle.c_program.specs.declared.statements.TypedItem.{TypedItem, out-TypedItem}
use Rattle.c_program.specs.declared.statements.TypedStmt.{TypedStmt, out-TypedStmt}
use Rattle.c_program.specs.declared.statements.TypedItem.TheOpen.{TypedItem-F, TypedStmt-F}
use Rattle.c_values.specs.declared.value.Root.{Root}
use Rattle.c_values.specs.declared.value.Root.TheVariants as root
use Rattle.c_values.specs.declared.value.Object.{Object}
use Rattle.c_values.specs.declared.value.Value.{Value, out-Value}
use Rattle.c_values.specs.declared.value.Value.TheOpen.{Value-F}
use Rattle.c_values.specs.Objects.{number_in, truth}
use Rattle.c_values.specs.Numbers.{low_bits}
use Rattle.c_interp_laws.specs.Later.{Later}
use Rattle.c_meaning.specs.States.{State, Reply, opened, closed, resumed, write_root, written, rest_in}
use Rattle.c_meaning.specs.Rules.{Question, Serves, End, Res, Done, Stop, Spent, Act, pure, after, ◌>>=◌, pay, stop, choose, Flow, Normal, Broke, Continued, Gave, Callee, Body, Adjusts, Elsewhere, Setting, Meanings, load, store, pointed_at, bounded, place_rule, values, ask, ask_in, serve, service_rule, get_in, function_at, back, leave, leave_adjustor, adjusted, computed, extra_in, next_extra, expr_rule, set_local, initial_value, declare, declare_all, item_rule, then_run, items_rule, again, effect, holds, loop_rule, begin_rule, give, stmt_rule, call_rule, rules, meanings, depth, meaning, begin_extras, end_extras, first_number, with_output, with_input}

append_nil : {A : Type 0} (xs : List A) → xs ++ [] ≡ xs
append_nil [] = refl
append_nil (x ∷ xs) = ap (λ l. x ∷ l) (append_nil xs)

pub later_same : (s t : State) → t.world.output ≡ s.world.output → t.world.input ≡ s.world.input → t.world.taken ≡ s.world.taken → Later s t
later_same s t o i n = record { output = ([], o ∙ sym (append_nil s.world.output)); input = ([], sym i, n ∙ sym (add-zero s.world.taken)) }

pub later_refl : (s : State) → Later s s
later_refl s = later_same s s refl refl refl

pub later_trans : (s t u : State) → Later s t → Later t u → Later s u
later_trans s t u a b = record {
  output = (a.output.0 ++ b.output.0, b.output.1 ∙ ap (λ l. l ++ b.output.0) a.output.1 ∙ append_assoc s.world.output a.output.0 b.output.0);
  input = (a.input.0 ++ b.input.0, a.input.1 ∙ ap (λ l. a.input.0 ++ l) b.input.1 ∙ sym (append_assoc a.input.0 b.input.0 u.world.input), longer s t u a.input.0 b.input.0 a.input.2 b.input.2);
}
  where
    longer : (s t u : State) (xs ys : List ℕ) → t.world.taken ≡ s.world.taken + length xs → u.world.taken ≡ t.world.taken + length ys → u.world.taken ≡ s.world.taken + length (xs ++ ys)
    longer s t u xs ys e f = let g = length-append xs ys in omega (arith, e, f, g)

pub later_put : (b : ℕ) (s : State) → Later s (with_output b s)
later_put b s = record { output = (b ∷ [], refl); input = ([], refl, sym (add-zero s.world.taken)) }

pub later_taken : (b : ℕ) (bs : List ℕ) (s : State) → s.world.input ≡ b ∷ bs → Later s (with_input bs s)
later_taken b bs s e = record { output = ([], sym (append_nil s.world.output)); input = (b ∷ [], e, refl) }

later_opened : (t : Target) (c : ℕ) (ls es : List Value) (s : State) → Later s (opened t c ls es s)
later_opened t c ls es s = later_same s _ refl refl refl

pub later_resumed : (s : State) → Later s (resumed s)
later_resumed s = later_same s _ refl refl refl

later_root : (o : Root) (v : Value) (s : State) → Later s (write_root o v s)
later_root (root.Global g) v s = later_same s _ refl refl refl
later_root (root.Local f l) v s = later_same s _ refl refl refl

later_written : (o : Object) (v : Value) (s : State) → Later s (written o v s)
unfolding written
later_written o v s = later_root o.root _ s

abbrev pub state_in : {A : Type 0} → Res A → State
state_in (Done a s k) = s
state_in (Stop o s k) = s
state_in (Spent s k) = s

pub record Good {A : Type 0} (f : Act A) : Type 0 where
  pub lives : (s : State) (k : ℕ) → Later s (state_in (f s k))

lives_after : {A B : Type 0} (r : Res A) (go : A → Act B) (s : State) → Later s (state_in r) → ((a : A) → Good (go a)) → Later s (state_in (after r go))
lives_after (Done a t j) go s h g = later_trans s t _ h ((g a).lives t j)
lives_after (Stop o t j) go s h g = h
lives_after (Spent t j) go s h g = h

pub good_bind : {A B : Type 0} {m : Act A} {go : A → Act B} → Good m → ((a : A) → Good (go a)) → Good (m >>= go)
unfolding ◌>>=◌
good_bind {m = m} {go = go} h g = record { lives = λ s k. lives_after (m s k) go s (h.lives s k) g }

spent_lives : {A : Type 0} (n : ℕ) (f : Act A) → Good f → (s : State) (k : ℕ) (b : Bool) → Later s (state_in (if b then f s (k - n) else Spent s k))
spent_lives n f h s k true = h.lives s (k - n)
spent_lives n f h s k false = later_refl s

pub good_pay : {A : Type 0} (n : ℕ) {f : Act A} → Good f → Good (pay n f)
unfolding pay
good_pay n {f = f} h = record { lives = λ s k. spent_lives n f h s k (nat_le n k) }

pub good_choose : {A : Type 0} (b : Bool) {f g : Act A} → Good f → Good g → Good (choose b f g)
good_choose true hf hg = hf
good_choose false hf hg = hg

pub good_pure : {A : Type 0} (a : A) → Good (pure a)
good_pure a = record { lives = λ s k. later_refl s }

good_stop : {A : Type 0} (o : End) → Good {A = A} (stop o)
good_stop o = record { lives = λ s k. later_refl s }

-- what only changes the state
good_step : {A : Type 0} (a : State → A) (g : State → State) → ((s : State) → Later s (g s)) → Good (λ s k. Done (a s) (g s) k)
good_step a g h = record { lives = λ s k. h s }

-- what goes on from another state
good_from : {A : Type 0} (g : State → State) {f : Act A} → ((s : State) → Later s (g s)) → Good f → Good (λ s. f (g s))
good_from g {f = f} h hf = record { lives = λ s k. later_trans s (g s) _ (h s) (hf.lives (g s) k) }

-- what goes by the state
good_by : {A B : Type 0} (a : State → B) (f : B → Act A) → ((b : B) → Good (f b)) → Good (λ s k. f (a s) s k)
good_by a f h = record { lives = λ s k. (h (a s)).lives s k }

pub good_pointed : (v : Value-F Value) → Good (pointed_at v)
good_pointed (Value-F.Pointer o) = good_pure o
good_pointed Value-F.Null = good_stop _
good_pointed (Value-F.Number z) = good_stop _
good_pointed (Value-F.Function t) = good_stop _
good_pointed (Value-F.Aggregate vs) = good_stop _

pub good_function : (v : Value-F Value) → Good (function_at v)
good_function (Value-F.Function t) = good_pure t
good_function Value-F.Null = good_stop _
good_function (Value-F.Number z) = good_stop _
good_function (Value-F.Pointer o) = good_stop _
good_function (Value-F.Aggregate vs) = good_stop _

pub good_bounded : (n : ℕ) (z : ℤ) → Good (bounded n z)
good_bounded n (pos i) = good_choose (nat_lt i n) (good_pure i) (good_stop _)
good_bounded n (negsuc i) = good_stop _

pub good_computed : (z : Option ℤ) → Good (computed z)
good_computed None = good_stop _
good_computed (Some z) = good_pure _

pub good_load : (o : Object) → Good (load o)
good_load o = good_step _ (λ s. s) later_refl

pub good_store : (o : Object) (v : Value) → Good (store o v)
good_store o v = good_step _ _ (later_written o v)

good_ask_in : (rs : List Reply) (q : Question) → Good (ask_in rs q)
good_ask_in [] q = good_stop _
good_ask_in (r ∷ rs) q = good_step _ _ (λ s. later_same s _ refl refl refl)

good_ask : (q : Question) → Good (ask q)
good_ask q = good_by (λ s. s.world.replies) (λ rs. ask_in rs q) (λ rs. good_ask_in rs q)

get_lives : (bs : List ℕ) (s : State) (k : ℕ) → s.world.input ≡ bs → Later s (state_in (get_in bs s k))
get_lives [] s k e = later_refl s
get_lives (b ∷ bs) s k e = later_taken b bs s e

good_service : (x : Service) (vs : List Value) → Good (service_rule x vs)
good_service service.PutByte vs = good_step _ _ (later_put (low_bits 8 (first_number vs)))
good_service service.GetByte vs = record { lives = λ s k. get_lives s.world.input s k refl }
good_service service.Exit vs = good_stop _

pub good_serve : (x : Service) (vs : List Value) → Good (serve x vs)
good_serve x vs = good_by (λ s. s.world.asks) (λ b. choose b (ask (Serves x vs)) (service_rule x vs)) (λ b. good_choose b (good_ask _) (good_service x vs))

good_extra_in : (r : Option (List Value)) (i : IntTy) → Good (extra_in r i)
good_extra_in None i = good_stop _
good_extra_in (Some []) i = good_stop _
good_extra_in (Some (v ∷ vs)) i = good_step _ _ (λ s. later_same s _ refl refl refl)

pub good_extra : (i : IntTy) → Good (next_extra i)
good_extra i = good_by (λ s. rest_in s.frames) (λ r. extra_in r i) (λ r. good_extra_in r i)

pub good_set : (l : ℕ) (v : Value) → Good (set_local l v)
good_set l v = good_step _ _ (λ s. later_written _ v s)

pub good_back : (v : Value) → Good (back v)
good_back v = good_step _ _ later_resumed

pub good_leave : (t : Types) (a : Ty) (flow : Flow) → Good (leave t a flow)
good_leave t a flow = good_step _ closed (λ s. later_same s _ refl refl refl)

pub good_leave_adjustor : (v : Value) → Good (leave_adjustor v)
good_leave_adjustor v = good_step _ closed (λ s. later_same s _ refl refl refl)

pub good_begin_extras : Good begin_extras
good_begin_extras = good_step _ _ (λ s. later_same s _ refl refl refl)

pub good_end_extras : Good end_extras
good_end_extras = good_step _ _ (λ s. later_same s _ refl refl refl)

pub record AllGood (r : Meanings) : Type 0 where
  pub values : (e : TypedExpr) → Good (r.value e)
  pub objects : (p : Place) → Good (r.object p)
  pub statements : (x : TypedStmt) → Good (r.statement x)
  pub loops : (c n : Option TypedExpr) (x : TypedStmt) → Good (r.loop c n x)
  pub calls : (t : Target) (vs : List Value) → Good (r.call t vs)

module _ (m : Setting) (r : Meanings) (h : AllGood r) where
  pub good_values : (es : List TypedExpr) → Good (values r.value es)
  good_values [] = good_pure _
  good_values (e ∷ es) = good_bind (h.values e) (λ v. good_bind (good_values es) (λ vs. good_pure _))

  pub good_place : (p : Place-F Place TypedExpr) → Good (place_rule r p)
  good_place (Place-F.Local l) = good_step _ (λ s. s) later_refl
  good_place (Place-F.Global g) = good_pure _
  good_place (Place-F.Target a e) = good_bind (h.values e) (λ v. good_pointed (out-Value v))
  good_place (Place-F.Arrow e s f) = good_bind (h.values e) (λ v. good_bind (good_pointed (out-Value v)) (λ o. good_pure _))
  good_place (Place-F.Field p s f) = good_bind (h.objects p) (λ o. good_pure _)
  good_place (Place-F.Element a p i n) = good_bind (h.objects p) (λ o. good_bind (h.values i) (λ v. good_bind (good_bounded n (number_in v)) (λ k. good_pure _)))

  pub good_call : (t : Target) (vs : List Value) → Good (r.call t vs >>= back)
  good_call t vs = good_bind (h.calls t vs) good_back

  pub good_expr : (e : TypedExpr-F Place TypedExpr) → Good (expr_rule r e)
  good_expr (TypedExpr-F.Number i v) = good_pure _
  good_expr (TypedExpr-F.Char z) = good_pure _
  good_expr (TypedExpr-F.Null a) = good_pure _
  good_expr (TypedExpr-F.Function a f) = good_pure _
  good_expr (TypedExpr-F.Load a p) = good_bind (good_place (out-Place p)) good_load
  good_expr (TypedExpr-F.Address a p) = good_bind (h.objects p) (λ o. good_pure _)
  good_expr (TypedExpr-F.Same e) = h.values e
  good_expr (TypedExpr-F.Negate i e) = good_bind (h.values e) (λ v. good_pure _)
  good_expr (TypedExpr-F.Complement i e) = good_bind (h.values e) (λ v. good_pure _)
  good_expr (TypedExpr-F.Not e) = good_bind (h.values e) (λ v. good_pure _)
  good_expr (TypedExpr-F.Convert i e) = good_bind (h.values e) (λ v. good_pure _)
  good_expr (TypedExpr-F.Binary o i a b) = good_bind (h.values a) (λ x. good_bind (h.values b) (λ y. good_computed _))
  good_expr (TypedExpr-F.Compare c t a b) = good_bind (h.values a) (λ x. good_bind (h.values b) (λ y. good_pure _))
  good_expr (TypedExpr-F.And a b) = good_bind (h.values a) (λ x. good_choose (truth x) (good_bind (h.values b) (λ y. good_pure _)) (good_pure _))
  good_expr (TypedExpr-F.Or a b) = good_bind (h.values a) (λ x. good_choose (truth x) (good_pure _) (good_bind (h.values b) (λ y. good_pure _)))
  good_expr (TypedExpr-F.Conditional t c a b) = good_bind (h.values c) (λ x. good_choose (truth x) (h.values a) (h.values b))
  good_expr (TypedExpr-F.Assign t p e) = good_bind (h.objects p) (λ o. good_bind (h.values e) (good_store o))
  good_expr (TypedExpr-F.Update op i j p e) = good_bind (h.objects p) (λ o. good_bind (good_load o) (λ x. good_bind (h.values e) (λ y. good_bind (good_computed _) (good_store o))))
  good_expr (TypedExpr-F.Before i up p) = good_bind (h.objects p) (λ o. good_bind (good_load o) (λ x. good_store o _))
  good_expr (TypedExpr-F.After i up p) = good_bind (h.objects p) (λ o. good_bind (good_load o) (λ x. good_bind (good_store o _) (λ y. good_pure x)))
  good_expr (TypedExpr-F.Call t f args) = good_bind (good_values args) (good_call f)
  good_expr (TypedExpr-F.CallPointer t k e args) = good_bind (h.values e) (λ x. good_bind (good_values args) (λ vs. good_bind (good_function (out-Value x)) (λ f. good_call f vs)))
  good_expr (TypedExpr-F.CallService x args) = good_bind (good_values args) (good_serve x)
  good_expr (TypedExpr-F.VaArg i) = good_extra i
  good_expr (TypedExpr-F.FieldOf t e s f) = good_bind (h.values e) (λ v. good_pure _)
  good_expr (TypedExpr-F.ElementOf t e i n) = good_bind (h.values e) (λ v. good_bind (h.values i) (λ y. good_bind (good_bounded n (number_in y)) (λ k. good_pure _)))

  pub good_initial : (l : ℕ) (e : Option TypedExpr) → Good (initial_value r.value l e)
  good_initial l None = good_pure _
  good_initial l (Some e) = good_bind (h.values e) (good_set l)

  pub good_declare : (d : Declared) → Good (declare m.types r.value d)
  good_declare d = good_pay _ (good_bind (good_set d.local _) (λ flow. good_initial d.local d.init))

  pub good_declare_all : (ds : List Declared) → Good (declare_all m.types r.value ds)
  good_declare_all [] = good_pure _
  good_declare_all (d ∷ ds) = good_bind (good_declare d) (λ flow. good_declare_all ds)

  pub good_item : (x : TypedItem-F TypedItem TypedStmt) → Good (item_rule m.types r x)
  good_item (TypedItem-F.Declare d) = good_declare d
  good_item TypedItem-F.VaList = good_pay 1 good_end_extras
  good_item (TypedItem-F.Stmt x) = h.statements x

  pub good_then : {next : Act Flow} → Good next → (flow : Flow) → Good (then_run next flow)
  good_then g Normal = g
  good_then g Broke = good_pure _
  good_then g Continued = good_pure _
  good_then g (Gave v) = good_pure _

  pub good_items : (xs : List TypedItem) → Good (items_rule m.types r xs)
  good_items [] = good_pure _
  good_items (x ∷ xs) = good_bind (good_item (out-TypedItem x)) (good_then (good_items xs))

  pub good_again : {next : Act Flow} → Good next → (flow : Flow) → Good (again next flow)
  good_again g Normal = g
  good_again g Broke = good_pure _
  good_again g Continued = g
  good_again g (Gave v) = good_pure _

  pub good_effect : (e : Option TypedExpr) → Good (effect r.value e)
  good_effect None = good_pure _
  good_effect (Some e) = good_bind (h.values e) (λ v. good_pure _)

  pub good_holds : (e : Option TypedExpr) → Good (holds r.value e)
  good_holds None = good_pure _
  good_holds (Some e) = good_bind (h.values e) (λ v. good_pure _)

  pub good_give : (e : Option TypedExpr) → Good (give r.value e)
  good_give None = good_pure _
  good_give (Some e) = good_bind (h.values e) (λ v. good_pure _)

  pub good_begin : (b : ForBegin) → Good (begin_rule m.types r.value b)
  good_begin (begin.Locals ds) = good_declare_all ds
  good_begin (begin.Effect e) = good_effect (Some e)
  good_begin begin.Nothing = good_pure _

  pub good_loop : (c n : Option TypedExpr) (x : TypedStmt) → Good (loop_rule r c n x)
  good_loop c n x = good_bind (good_holds c) (λ go. good_choose go (good_bind (h.statements x) (good_again (good_bind (good_effect n) (λ flow. h.loops c n x)))) (good_pure _))

  pub good_stmt : (x : TypedStmt-F TypedItem TypedStmt) → Good (stmt_rule m.types r x)
  good_stmt (TypedStmt-F.Block xs) = good_items xs
  good_stmt TypedStmt-F.Empty = good_pure _
  good_stmt (TypedStmt-F.Effect e) = good_effect (Some e)
  good_stmt TypedStmt-F.Break = good_pure _
  good_stmt TypedStmt-F.Continue = good_pure _
  good_stmt (TypedStmt-F.If c x) = good_bind (h.values c) (λ v. good_choose (truth v) (h.statements x) (good_pure _))
  good_stmt (TypedStmt-F.IfElse c x y) = good_bind (h.values c) (λ v. good_choose (truth v) (h.statements x) (h.statements y))
  good_stmt (TypedStmt-F.While c x) = h.loops (Some c) None x
  good_stmt (TypedStmt-F.Do x c) = good_bind (h.statements x) (good_again (h.loops (Some c) None x))
  good_stmt (TypedStmt-F.For b c n x) = good_bind (good_begin b) (λ flow. h.loops c n x)
  good_stmt (TypedStmt-F.Return e) = good_give e
  good_stmt TypedStmt-F.VaStart = good_begin_extras
  good_stmt TypedStmt-F.VaEnd = good_end_extras

  pub good_callee : (c : Callee) (t : Target) (vs : List Value) → Good (call_rule m r c t vs)
  good_callee (Body f b) t vs = good_from _ (later_opened t (m.charge t) _ _) (good_bind (good_pay 1 (good_items b.block)) (good_leave m.types f.result))
  good_callee (Adjusts f a) t vs = good_pay _ (good_from _ (later_opened t (m.charge t) [] []) (good_bind (h.calls a.target (adjusted f a vs)) good_leave_adjustor))
  good_callee Elsewhere t vs = good_ask _

  pub good_rules : AllGood (rules m r)
  good_rules = record {
    values = λ e. good_pay _ (good_expr (out-TypedExpr e));
    objects = λ p. good_pay 1 (good_place (out-Place p));
    statements = λ x. good_pay 1 (good_stmt (out-TypedStmt x));
    loops = good_loop;
    calls = λ t vs. good_callee (m.callee t) t vs;
  }

good_spent : {A : Type 0} → Good {A = A} (λ s k. Spent s k)
good_spent = record { lives = λ s k. later_refl s }

good_depth : (m : Setting) (d : ℕ) → AllGood (meanings m d)
good_depth m zero = record { values = λ e. good_spent; objects = λ p. good_spent; statements = λ x. good_spent; loops = λ c n x. good_spent; calls = λ t vs. good_spent }
good_depth m (suc d) = good_rules m (meanings m d) (good_depth m d)

pub good_meaning : (m : Setting) → AllGood (meaning m)
good_meaning m = record {
  values = λ e. record { lives = λ s k. ((good_depth m (depth k)).values e).lives s k };
  objects = λ p. record { lives = λ s k. ((good_depth m (depth k)).objects p).lives s k };
  statements = λ x. record { lives = λ s k. ((good_depth m (depth k)).statements x).lives s k };
  loops = λ c n x. record { lives = λ s k. ((good_depth m (depth k)).loops c n x).lives s k };
  calls = λ t vs. record { lives = λ s k. ((good_depth m (depth k)).calls t vs).lives s k };
}
