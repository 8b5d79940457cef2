-- More units change nothing of what is done with fewer.
use Rattle.std.proofs.Common.{◌≡◌, ℕ, zero, suc, ◌+◌, ◌-◌, ◌≤◌, Bool, true, false, List, [], ◌∷◌, ◌++◌, refl, sym, ap, ◌∙◌, subst, arith}
use Rattle.std.specs.Prelude.{map, reverse, nat_le, nat_lt, if◌then◌else◌, Option, Some, None, ℤ, pos, negsuc}
use Rattle.std.proofs.lemmas.Bool.{leb-true, le-leb}
use Rattle.std.proofs.lemmas.List.{append_assoc, reverse-append}
use Rattle.hx_words.specs.Prefixes.{IsPrefix}
use Rattle.c_types.specs.declared.types.IntTy.{IntTy}
use Rattle.c_types.specs.declared.types.Ty.{Ty}
use Rattle.c_types.specs.declared.types.Types.{Types}
use Rattle.c_program.specs.declared.expressions.Target.{Target}
use Rattle.c_program.specs.declared.expressions.Service.{Service}
use Rattle.c_program.specs.declared.expressions.Service.TheVariants as service
use Rattle.c_program.specs.declared.expressions.Place.{Place, out-Place}
use Rattle.c_program.specs.declared.expressions.TypedExpr.{TypedExpr, out-TypedExpr}
use Rattle.c_program.specs.declared.expressions.Place.TheOpen.{Place-F, TypedExpr-F}
use Rattle.c_program.specs.declared.statements.Declared.{Declared}
use Rattle.c_program.specs.declared.statements.ForBegin.{ForBegin}
use Rattle.c_program.specs.declared.statements.ForBegin.TheVariants as begin
use Rattle.c_program.specs.declared.statements.TypedItem.{TypedItem, out-TypedItem}
use Rattle.c_program.specs.declared.statements.TypedStmt.{TypedStmt, out-TypedStmt}
use Rattle.c_program.specs.declared.statements.TypedItem.TheOpen.{TypedItem-F, TypedStmt-F}
use Rattle.c_values.specs.declared.value.Root.{Root}
use Rattle.c_values.specs.declared.value.Root.TheVariants as root
use Rattle.c_values.specs.declared.value.Object.{Object}
use Rattle.c_values.specs.declared.value.Value.{Value, out-Value}
use Rattle.c_values.specs.declared.value.Value.TheOpen.{Value-F}
use Rattle.c_values.specs.Objects.{number_in, truth, same_target}
use Rattle.c_values.specs.Numbers.{low_bits}
use Rattle.c_program.specs.declared.program.Program.{Program}
use Rattle.c_meaning.specs.Start.{setting_of, start, main_of}
use Rattle.c_meaning.specs.Source.{Run, stand, stand_of, name_of, run_of}
use Rattle.c_meaning.specs.Laws.{IsOver, StaysOver, Continues, GoesOn}
use Rattle.c_meaning.proofs.Steady.{deeper}
use Rattle.c_meaning.specs.States.{State, Reply, Frame, opened, closed, resumed, walked, walk_back, write_root, written, rest_in}
use Rattle.c_meaning.specs.Rules.{Question, Serves, End, Exits, Traps, Asks, Res, Done, Stop, Spent, Act, pure, after, ◌>>=◌, pay, stop, choose, Flow, Normal, Broke, Continued, Gave, Callee, Body, Adjusts, Elsewhere, Setting, Meanings, load, store, pointed_at, bounded, place_rule, values, ask, ask_in, serve, service_rule, get_in, function_at, back, leave, leave_adjustor, adjusted, computed, extra_in, next_extra, expr_rule, set_local, initial_value, declare, declare_all, item_rule, then_run, items_rule, again, effect, holds, loop_rule, begin_rule, give, stmt_rule, call_rule, rules, meanings, depth, meaning, begin_extras, end_extras, first_number}

-- what has been put, taken and walked stays, and the peak doesn't fall
record Later (s t : State) : Type 0 where
  output : IsPrefix s.world.output t.world.output
  taken : s.world.taken ≤ t.world.taken
  peak : s.peak ≤ t.peak
  walk : (more : List Target) × (t.walk ≡ more ++ s.walk)

append_nil : {A : Type 0} (xs : List A) → xs ++ [] ≡ xs
append_nil [] = refl
append_nil (x ∷ xs) = ap (λ l. x ∷ l) (append_nil xs)

later_same : (s t : State) → t.world.output ≡ s.world.output → t.world.taken ≡ s.world.taken → t.peak ≡ s.peak → t.walk ≡ s.walk → Later s t
later_same s t o n p w = record { output = ([], o ∙ sym (append_nil s.world.output)); taken = omega arith; peak = omega arith; walk = ([], w) }

later_refl : (s : State) → Later s s
later_refl s = later_same s s refl refl refl refl

later_trans : (s t u : State) → Later s t → Later t u → Later s u
later_trans s t u a b = let an = a.taken in let bn = b.taken in let ap' = a.peak in let bp = b.peak in record {
  output = (a.output.0 ++ b.output.0, b.output.1 ∙ ap (λ l. l ++ b.output.0) a.output.1 ∙ append_assoc s.world.output a.output.0 b.output.0);
  taken = omega arith;
  peak = omega arith;
  walk = (b.walk.0 ++ a.walk.0, b.walk.1 ∙ ap (λ l. b.walk.0 ++ l) a.walk.1 ∙ sym (append_assoc b.walk.0 a.walk.0 s.walk));
}

walked_more : (t : Target) (w : List Target) → (more : List Target) × (walked t w ≡ more ++ w)
walked_more t [] = (t ∷ [], refl)
walked_more t (u ∷ us) = by (same_target t u)
  where
    by : (b : Bool) → (more : List Target) × ((if b then u ∷ us else t ∷ u ∷ us) ≡ more ++ (u ∷ us))
    by true = ([], refl)
    by false = (t ∷ [], refl)

walk_back_more : (fs : List Frame) (w : List Target) → (more : List Target) × (walk_back fs w ≡ more ++ w)
walk_back_more [] w = ([], refl)
walk_back_more (f ∷ fs) w = walked_more f.who w

later_opened : (t : Target) (c : ℕ) (ls es : List Value) (s : State) → Later s (opened t c ls es s)
later_opened t c ls es s = record { output = ([], sym (append_nil s.world.output)); taken = omega arith; peak = omega arith; walk = walked_more t s.walk }

later_resumed : (s : State) → Later s (resumed s)
later_resumed s = record { output = ([], sym (append_nil s.world.output)); taken = omega arith; peak = omega arith; walk = walk_back_more s.frames s.walk }

later_root : (o : Root) (v : Value) (s : State) → Later s (write_root o v s)
later_root (root.Global g) v s = later_same s _ refl refl refl refl
later_root (root.Local f l) v s = later_same s _ refl refl refl refl

later_written : (o : Object) (v : Value) (s : State) → Later s (written o v s)
unfolding written
later_written o v s = later_root o.root _ s

abbrev state_of : {A : Type 0} → Res A → State
state_of (Done a s k) = s
state_of (Stop o s k) = s
state_of (Spent s k) = s

abbrev left_of : {A : Type 0} → Res A → ℕ
left_of (Done a s k) = k
left_of (Stop o s k) = k
left_of (Spent s k) = k

record Lives {A : Type 0} (s : State) (k : ℕ) (r : Res A) : Type 0 where
  later : Later s (state_of r)
  left : left_of r ≤ k

abbrev Grows : {A : Type 0} → ℕ → Res A → Res A → Type 0
Grows x (Done a s j) r' = r' ≡ Done a s (j + x)
Grows x (Stop o s j) r' = r' ≡ Stop o s (j + x)
Grows x (Spent s j) r' = Lives s (j + x) r'

record Good {A : Type 0} (f : Act A) : Type 0 where
  lives : (s : State) (k : ℕ) → Lives s k (f s k)
  grows : (s : State) (k x : ℕ) → Grows x (f s k) (f s (k + x))

lives_after : {A B : Type 0} (r : Res A) (go : A → Act B) (s : State) (k : ℕ) → Lives s k r → ((a : A) → Good (go a)) → Lives s k (after r go)
lives_after (Done a t j) go s k h g = let w = (g a).lives t j in let l1 = h.left in let l2 = w.left in record { later = later_trans s t _ h.later w.later; left = omega arith }
lives_after (Stop o t j) go s k h g = record { later = h.later; left = h.left }
lives_after (Spent t j) go s k h g = record { later = h.later; left = h.left }

grows_after : {A B : Type 0} (x : ℕ) (r r' : Res A) (go : A → Act B) → Grows x r r' → ((a : A) → Good (go a)) → Grows x (after r go) (after r' go)
grows_after x (Done a t j) r' go h g = let P : Res _ → Type 0 = λ r2. Grows x (go a t j) (after r2 go) in subst P (sym h) ((g a).grows t j x)
grows_after x (Stop o t j) r' go h g = ap (λ r2. after r2 go) h
grows_after x (Spent t j) r' go h g = lives_after r' go t (j + x) h g

good_bind : {A B : Type 0} {m : Act A} {go : A → Act B} → Good m → ((a : A) → Good (go a)) → Good (m >>= go)
unfolding ◌>>=◌
good_bind {m = m} {go = go} h g = record {
  lives = λ s k. lives_after (m s k) go s k (h.lives s k) g;
  grows = λ s k x. grows_after x (m s k) (m s (k + x)) go (h.grows s k x) g;
}

spent_lives : {A : Type 0} (n : ℕ) (f : Act A) → Good f → (s : State) (k : ℕ) (b : Bool) → nat_le n k ≡ b → Lives s k (if b then f s (k - n) else Spent s k)
spent_lives n f h s k true e = let w = h.lives s (k - n) in let l = w.left in record { later = w.later; left = omega arith }
spent_lives n f h s k false e = record { later = later_refl s; left = omega arith }

good_pay : {A : Type 0} (n : ℕ) {f : Act A} → Good f → Good (pay n f)
unfolding pay
good_pay {A = A} n {f = f} h = record {
  lives = λ s k. spent_lives n f h s k (nat_le n k) refl;
  grows = λ s k x. both s k x (nat_le n k) refl;
}
  where
    both : (s : State) (k x : ℕ) (b : Bool) → nat_le n k ≡ b → Grows x (if b then f s (k - n) else Spent s k) (if nat_le n (k + x) then f s (k + x - n) else Spent s (k + x))
    both s k x true e =
        let le : n ≤ k = leb-true n k e in
        let far : nat_le n (k + x) ≡ true = le-leb n (k + x) (omega arith) in
        let shift : k + x - n ≡ k - n + x = omega arith in
        let P : Bool → Type 0 = λ b. Grows x (f s (k - n)) (if b then f s (k + x - n) else Spent s (k + x)) in
        let Q : ℕ → Type 0 = λ j. Grows x (f s (k - n)) (f s j) in
        subst P (sym far) (subst Q (sym shift) (h.grows s (k - n) x))
    both s k x false e = spent_lives n f h s (k + x) (nat_le n (k + x)) refl

good_choose : {A : Type 0} (b : Bool) {f g : Act A} → Good f → Good g → Good (choose b f g)
good_choose true hf hg = hf
good_choose false hf hg = hg

good_pure : {A : Type 0} (a : A) → Good (pure a)
good_pure a = record { lives = λ s k. record { later = later_refl s; left = omega arith }; grows = λ s k x. refl }

good_stop : {A : Type 0} (o : End) → Good {A = A} (stop o)
good_stop o = record { lives = λ s k. record { later = later_refl s; left = omega arith }; grows = λ s k x. refl }

-- what only changes the state
good_step : {A : Type 0} (a : State → A) (g : State → State) → ((s : State) → Later s (g s)) → Good (λ s k. Done (a s) (g s) k)
good_step a g h = record { lives = λ s k. record { later = h s; left = omega arith }; grows = λ s k x. refl }

-- what goes on from another state
good_from : {A : Type 0} (g : State → State) {f : Act A} → ((s : State) → Later s (g s)) → Good f → Good (λ s. f (g s))
good_from g {f = f} h hf = record {
  lives = λ s k. let w = hf.lives (g s) k in record { later = later_trans s (g s) _ (h s) w.later; left = w.left };
  grows = λ s k x. hf.grows (g s) k x;
}

-- what goes by the state
good_by : {A B : Type 0} (a : State → B) (f : B → Act A) → ((b : B) → Good (f b)) → Good (λ s k. f (a s) s k)
good_by a f h = record { lives = λ s k. (h (a s)).lives s k; grows = λ s k x. (h (a s)).grows s k x }

good_pointed : (v : Value-F Value) → Good (pointed_at v)
good_pointed (Value-F.Pointer o) = good_pure o
good_pointed Value-F.Null = good_stop _
good_pointed (Value-F.Number z) = good_stop _
good_pointed (Value-F.Function t) = good_stop _
good_pointed (Value-F.Aggregate vs) = good_stop _

good_function : (v : Value-F Value) → Good (function_at v)
good_function (Value-F.Function t) = good_pure t
good_function Value-F.Null = good_stop _
good_function (Value-F.Number z) = good_stop _
good_function (Value-F.Pointer o) = good_stop _
good_function (Value-F.Aggregate vs) = good_stop _

good_bounded : (n : ℕ) (z : ℤ) → Good (bounded n z)
good_bounded n (pos i) = good_choose (nat_lt i n) (good_pure i) (good_stop _)
good_bounded n (negsuc i) = good_stop _

good_computed : (z : Option ℤ) → Good (computed z)
good_computed None = good_stop _
good_computed (Some z) = good_pure _

good_load : (o : Object) → Good (load o)
good_load o = good_step _ (λ s. s) later_refl

good_store : (o : Object) (v : Value) → Good (store o v)
good_store o v = good_step _ _ (later_written o v)

good_ask_in : (rs : List Reply) (q : Question) → Good (ask_in rs q)
good_ask_in [] q = good_stop _
good_ask_in (r ∷ rs) q = good_step _ _ (λ s. later_same s _ refl refl refl refl)

good_ask : (q : Question) → Good (ask q)
good_ask q = good_by (λ s. s.world.replies) (λ rs. ask_in rs q) (λ rs. good_ask_in rs q)

good_get : (bs : List ℕ) → Good (get_in bs)
good_get [] = good_step _ (λ s. s) later_refl
good_get (b ∷ bs) = good_step _ _ (λ s. record { output = ([], sym (append_nil s.world.output)); taken = omega arith; peak = omega arith; walk = ([], refl) })

good_service : (x : Service) (vs : List Value) → Good (service_rule x vs)
good_service service.PutByte vs = good_step _ _ (λ s. record { output = (low_bits 8 (first_number vs) ∷ [], refl); taken = omega arith; peak = omega arith; walk = ([], refl) })
good_service service.GetByte vs = good_by (λ s. s.world.input) get_in good_get
good_service service.Exit vs = good_stop _

good_serve : (x : Service) (vs : List Value) → Good (serve x vs)
good_serve x vs = good_by (λ s. s.world.asks) (λ b. choose b (ask (Serves x vs)) (service_rule x vs)) (λ b. good_choose b (good_ask _) (good_service x vs))

good_extra_in : (r : Option (List Value)) (i : IntTy) → Good (extra_in r i)
good_extra_in None i = good_stop _
good_extra_in (Some []) i = good_stop _
good_extra_in (Some (v ∷ vs)) i = good_step _ _ (λ s. later_same s _ refl refl refl refl)

good_extra : (i : IntTy) → Good (next_extra i)
good_extra i = good_by (λ s. rest_in s.frames) (λ r. extra_in r i) (λ r. good_extra_in r i)

good_set : (l : ℕ) (v : Value) → Good (set_local l v)
good_set l v = good_step _ _ (λ s. later_written _ v s)

good_back : (v : Value) → Good (back v)
good_back v = good_step _ _ later_resumed

good_leave : (t : Types) (a : Ty) (flow : Flow) → Good (leave t a flow)
good_leave t a flow = good_step _ closed (λ s. later_same s _ refl refl refl refl)

good_leave_adjustor : (v : Value) → Good (leave_adjustor v)
good_leave_adjustor v = good_step _ closed (λ s. later_same s _ refl refl refl refl)

good_begin_extras : Good begin_extras
good_begin_extras = good_step _ _ (λ s. later_same s _ refl refl refl refl)

good_end_extras : Good end_extras
good_end_extras = good_step _ _ (λ s. later_same s _ refl refl refl refl)

record AllGood (r : Meanings) : Type 0 where
  values : (e : TypedExpr) → Good (r.value e)
  objects : (p : Place) → Good (r.object p)
  statements : (x : TypedStmt) → Good (r.statement x)
  loops : (c n : Option TypedExpr) (x : TypedStmt) → Good (r.loop c n x)
  calls : (t : Target) (vs : List Value) → Good (r.call t vs)

module _ (m : Setting) (r : Meanings) (h : AllGood r) where
  good_values : (es : List TypedExpr) → Good (values r.value es)
  good_values [] = good_pure _
  good_values (e ∷ es) = good_bind (h.values e) (λ v. good_bind (good_values es) (λ vs. good_pure _))

  good_place : (p : Place-F Place TypedExpr) → Good (place_rule r p)
  good_place (Place-F.Local l) = good_step _ (λ s. s) later_refl
  good_place (Place-F.Global g) = good_pure _
  good_place (Place-F.Target a e) = good_bind (h.values e) (λ v. good_pointed (out-Value v))
  good_place (Place-F.Arrow e s f) = good_bind (h.values e) (λ v. good_bind (good_pointed (out-Value v)) (λ o. good_pure _))
  good_place (Place-F.Field p s f) = good_bind (h.objects p) (λ o. good_pure _)
  good_place (Place-F.Element a p i n) = good_bind (h.objects p) (λ o. good_bind (h.values i) (λ v. good_bind (good_bounded n (number_in v)) (λ k. good_pure _)))

  good_call : (t : Target) (vs : List Value) → Good (r.call t vs >>= back)
  good_call t vs = good_bind (h.calls t vs) good_back

  good_expr : (e : TypedExpr-F Place TypedExpr) → Good (expr_rule r e)
  good_expr (TypedExpr-F.Number i v) = good_pure _
  good_expr (TypedExpr-F.Char z) = good_pure _
  good_expr (TypedExpr-F.Null a) = good_pure _
  good_expr (TypedExpr-F.Function a f) = good_pure _
  good_expr (TypedExpr-F.Load a p) = good_bind (good_place (out-Place p)) good_load
  good_expr (TypedExpr-F.Address a p) = good_bind (h.objects p) (λ o. good_pure _)
  good_expr (TypedExpr-F.Same e) = h.values e
  good_expr (TypedExpr-F.Negate i e) = good_bind (h.values e) (λ v. good_pure _)
  good_expr (TypedExpr-F.Complement i e) = good_bind (h.values e) (λ v. good_pure _)
  good_expr (TypedExpr-F.Not e) = good_bind (h.values e) (λ v. good_pure _)
  good_expr (TypedExpr-F.Convert i e) = good_bind (h.values e) (λ v. good_pure _)
  good_expr (TypedExpr-F.Binary o i a b) = good_bind (h.values a) (λ x. good_bind (h.values b) (λ y. good_computed _))
  good_expr (TypedExpr-F.Compare c t a b) = good_bind (h.values a) (λ x. good_bind (h.values b) (λ y. good_pure _))
  good_expr (TypedExpr-F.And a b) = good_bind (h.values a) (λ x. good_choose (truth x) (good_bind (h.values b) (λ y. good_pure _)) (good_pure _))
  good_expr (TypedExpr-F.Or a b) = good_bind (h.values a) (λ x. good_choose (truth x) (good_pure _) (good_bind (h.values b) (λ y. good_pure _)))
  good_expr (TypedExpr-F.Conditional t c a b) = good_bind (h.values c) (λ x. good_choose (truth x) (h.values a) (h.values b))
  good_expr (TypedExpr-F.Assign t p e) = good_bind (h.objects p) (λ o. good_bind (h.values e) (good_store o))
  good_expr (TypedExpr-F.Update op i j p e) = good_bind (h.objects p) (λ o. good_bind (good_load o) (λ x. good_bind (h.values e) (λ y. good_bind (good_computed _) (good_store o))))
  good_expr (TypedExpr-F.Before i up p) = good_bind (h.objects p) (λ o. good_bind (good_load o) (λ x. good_store o _))
  good_expr (TypedExpr-F.After i up p) = good_bind (h.objects p) (λ o. good_bind (good_load o) (λ x. good_bind (good_store o _) (λ y. good_pure x)))
  good_expr (TypedExpr-F.Call t f args) = good_bind (good_values args) (good_call f)
  good_expr (TypedExpr-F.CallPointer t k e args) = good_bind (h.values e) (λ x. good_bind (good_values args) (λ vs. good_bind (good_function (out-Value x)) (λ f. good_call f vs)))
  good_expr (TypedExpr-F.CallService x args) = good_bind (good_values args) (good_serve x)
  good_expr (TypedExpr-F.VaArg i) = good_extra i
  good_expr (TypedExpr-F.FieldOf t e s f) = good_bind (h.values e) (λ v. good_pure _)
  good_expr (TypedExpr-F.ElementOf t e i n) = good_bind (h.values e) (λ v. good_bind (h.values i) (λ y. good_bind (good_bounded n (number_in y)) (λ k. good_pure _)))

  good_initial : (l : ℕ) (e : Option TypedExpr) → Good (initial_value r.value l e)
  good_initial l None = good_pure _
  good_initial l (Some e) = good_bind (h.values e) (good_set l)

  good_declare : (d : Declared) → Good (declare m.types r.value d)
  good_declare d = good_pay _ (good_bind (good_set d.local _) (λ flow. good_initial d.local d.init))

  good_declare_all : (ds : List Declared) → Good (declare_all m.types r.value ds)
  good_declare_all [] = good_pure _
  good_declare_all (d ∷ ds) = good_bind (good_declare d) (λ flow. good_declare_all ds)

  good_item : (x : TypedItem-F TypedItem TypedStmt) → Good (item_rule m.types r x)
  good_item (TypedItem-F.Declare d) = good_declare d
  good_item TypedItem-F.VaList = good_pay 1 good_end_extras
  good_item (TypedItem-F.Stmt x) = h.statements x

  good_then : {next : Act Flow} → Good next → (flow : Flow) → Good (then_run next flow)
  good_then g Normal = g
  good_then g Broke = good_pure _
  good_then g Continued = good_pure _
  good_then g (Gave v) = good_pure _

  good_items : (xs : List TypedItem) → Good (items_rule m.types r xs)
  good_items [] = good_pure _
  good_items (x ∷ xs) = good_bind (good_item (out-TypedItem x)) (good_then (good_items xs))

  good_again : {next : Act Flow} → Good next → (flow : Flow) → Good (again next flow)
  good_again g Normal = g
  good_again g Broke = good_pure _
  good_again g Continued = g
  good_again g (Gave v) = good_pure _

  good_effect : (e : Option TypedExpr) → Good (effect r.value e)
  good_effect None = good_pure _
  good_effect (Some e) = good_bind (h.values e) (λ v. good_pure _)

  good_holds : (e : Option TypedExpr) → Good (holds r.value e)
  good_holds None = good_pure _
  good_holds (Some e) = good_bind (h.values e) (λ v. good_pure _)

  good_give : (e : Option TypedExpr) → Good (give r.value e)
  good_give None = good_pure _
  good_give (Some e) = good_bind (h.values e) (λ v. good_pure _)

  good_begin : (b : ForBegin) → Good (begin_rule m.types r.value b)
  good_begin (begin.Locals ds) = good_declare_all ds
  good_begin (begin.Effect e) = good_effect (Some e)
  good_begin begin.Nothing = good_pure _

  good_loop : (c n : Option TypedExpr) (x : TypedStmt) → Good (loop_rule r c n x)
  good_loop c n x = good_bind (good_holds c) (λ go. good_choose go (good_bind (h.statements x) (good_again (good_bind (good_effect n) (λ flow. h.loops c n x)))) (good_pure _))

  good_stmt : (x : TypedStmt-F TypedItem TypedStmt) → Good (stmt_rule m.types r x)
  good_stmt (TypedStmt-F.Block xs) = good_items xs
  good_stmt TypedStmt-F.Empty = good_pure _
  good_stmt (TypedStmt-F.Effect e) = good_effect (Some e)
  good_stmt TypedStmt-F.Break = good_pure _
  good_stmt TypedStmt-F.Continue = good_pure _
  good_stmt (TypedStmt-F.If c x) = good_bind (h.values c) (λ v. good_choose (truth v) (h.statements x) (good_pure _))
  good_stmt (TypedStmt-F.IfElse c x y) = good_bind (h.values c) (λ v. good_choose (truth v) (h.statements x) (h.statements y))
  good_stmt (TypedStmt-F.While c x) = h.loops (Some c) None x
  good_stmt (TypedStmt-F.Do x c) = good_bind (h.statements x) (good_again (h.loops (Some c) None x))
  good_stmt (TypedStmt-F.For b c n x) = good_bind (good_begin b) (λ flow. h.loops c n x)
  good_stmt (TypedStmt-F.Return e) = good_give e
  good_stmt TypedStmt-F.VaStart = good_begin_extras
  good_stmt TypedStmt-F.VaEnd = good_end_extras

  good_callee : (c : Callee) (t : Target) (vs : List Value) → Good (call_rule m r c t vs)
  good_callee (Body f b) t vs = good_from _ (later_opened t (m.charge t) _ _) (good_bind (good_pay 1 (good_items b.block)) (good_leave m.types f.result))
  good_callee (Adjusts f a) t vs = good_pay _ (good_from _ (later_opened t (m.charge t) [] []) (good_bind (h.calls a.target (adjusted f a vs)) good_leave_adjustor))
  good_callee Elsewhere t vs = good_ask _

  good_rules : AllGood (rules m r)
  good_rules = record {
    values = λ e. good_pay _ (good_expr (out-TypedExpr e));
    objects = λ p. good_pay 1 (good_place (out-Place p));
    statements = λ x. good_pay 1 (good_stmt (out-TypedStmt x));
    loops = good_loop;
    calls = λ t vs. good_callee (m.callee t) t vs;
  }

good_spent : {A : Type 0} → Good {A = A} (λ s k. Spent s k)
good_spent = record { lives = λ s k. record { later = later_refl s; left = omega arith }; grows = λ s k x. record { later = later_refl s; left = omega arith } }

good_all : (m : Setting) (d : ℕ) → AllGood (meanings m d)
good_all m zero = record { values = λ e. good_spent; objects = λ p. good_spent; statements = λ x. good_spent; loops = λ c n x. good_spent; calls = λ t vs. good_spent }
good_all m (suc d) = good_rules m (meanings m d) (good_all m d)

-- the depth goes with the units, so the one of more units serves both
call_good : (m : Setting) (t : Target) (vs : List Value) → Good ((meaning m).call t vs)
call_good m t vs = record {
  lives = λ s k. ((good_all m (depth k)).calls t vs).lives s k;
  grows = λ s k x.
      let P : Res Value → Type 0 = λ r. Grows x r ((meanings m (depth (k + x))).call t vs s (k + x)) in
      subst P ((deeper m (depth (k + x)) k (omega arith)).call t vs s) (((good_all m (depth (k + x))).calls t vs).grows s k x);
}

map_append : {A B : Type 0} (f : A → B) (xs ys : List A) → map f (xs ++ ys) ≡ map f xs ++ map f ys
map_append f [] ys = refl
map_append f (x ∷ xs) ys = ap (λ l. f x ∷ l) (map_append f xs ys)

names_on : (p : Program) (s t : State) → Later s t → (rest : List (List ℕ)) × (map (name_of p) (reverse t.walk) ≡ map (name_of p) (reverse s.walk) ++ rest)
names_on p s t h = (map (name_of p) (reverse h.walk.0), ap (λ w. map (name_of p) (reverse w)) h.walk.1 ∙ ap (map (name_of p)) (reverse-append h.walk.0 s.walk) ∙ map_append (name_of p) (reverse s.walk) (reverse h.walk.0))

left_is : (r : Res Value) → (stand r).left ≡ left_of r
left_is (Done a s j) = refl
left_is (Stop o s j) = refl
left_is (Spent s j) = refl

state_is : (r : Res Value) → (stand r).state ≡ state_of r
state_is (Done a s j) = refl
state_is (Stop o s j) = refl
state_is (Spent s j) = refl

-- a run that is over, with more units
over_by : (p : Program) (n x : ℕ) (r r' : Res Value) → left_of r ≤ n → Grows x r r' → IsOver (stand r).outcome → run_of p (n + x) (stand r') ≡ run_of p n (stand r)
over_by p n x (Done a s j) r' le g o = ap (λ q. run_of p (n + x) (stand q)) g ∙ ap (λ u. record { output = s.world.output; outcome = (stand (Done a s j)).outcome; taken = s.world.taken; units = u; peak = 4096 + s.peak; walk = map (name_of p) (reverse s.walk) }) (omega arith)
over_by p n x (Stop e s j) r' le g o = ap (λ q. run_of p (n + x) (stand q)) g ∙ ap (λ u. record { output = s.world.output; outcome = (stand (Stop e s j)).outcome; taken = s.world.taken; units = u; peak = 4096 + s.peak; walk = map (name_of p) (reverse s.walk) }) (omega arith)
over_by p n x (Spent s j) r' le g o = absurd o

same_run : (p : Program) (a b : Run) → a ≡ b → Continues b a
same_run p a b e = let P : Run → Type 0 = λ r. Continues b r in subst P (sym e) (record { output = ([], sym (append_nil b.output)); taken = omega arith; units = omega arith; peak = omega arith; walk = ([], sym (append_nil b.walk)) })

further : (p : Program) (n x : ℕ) (s : State) (j : ℕ) (r' : Res Value) → j ≤ n → Lives s (j + x) r' → Continues (run_of p n (stand (Spent s j))) (run_of p (n + x) (stand r'))
further p n x s j (Done a t i) le h = let l = h.left in let u = h.later.taken in let v = h.later.peak in record { output = h.later.output; taken = u; units = omega arith; peak = omega arith; walk = names_on p s t h.later }
further p n x s j (Stop e t i) le h = let l = h.left in let u = h.later.taken in let v = h.later.peak in record { output = h.later.output; taken = u; units = omega arith; peak = omega arith; walk = names_on p s t h.later }
further p n x s j (Spent t i) le h = let l = h.left in let u = h.later.taken in let v = h.later.peak in record { output = h.later.output; taken = u; units = omega arith; peak = omega arith; walk = names_on p s t h.later }

continues_by : (p : Program) (n x : ℕ) (r r' : Res Value) → left_of r ≤ n → Grows x r r' → Continues (run_of p n (stand r)) (run_of p (n + x) (stand r'))
continues_by p n x (Done a s j) r' le g = same_run p _ _ (over_by p n x (Done a s j) r' le g tt)
continues_by p n x (Stop (Exits c) s j) r' le g = same_run p _ _ (over_by p n x (Stop (Exits c) s j) r' le g tt)
continues_by p n x (Stop (Traps c) s j) r' le g = same_run p _ _ (over_by p n x (Stop (Traps c) s j) r' le g tt)
continues_by p n x (Stop (Asks q) s j) r' le g = same_run p _ _ (over_by p n x (Stop (Asks q) s j) r' le g tt)
continues_by p n x (Spent s j) r' le g = further p n x s j r' le g

pub stays_over : StaysOver
unfolding stand_of
stays_over p input n x o = let g = call_good (setting_of p) (main_of p) [] in over_by p n x _ _ (g.lives (start p input) n).left (g.grows (start p input) n x) o

pub goes_on : GoesOn
unfolding stand_of
goes_on p input n x = let g = call_good (setting_of p) (main_of p) [] in continues_by p n x _ _ (g.lives (start p input) n).left (g.grows (start p input) n x)
