-- What each step leaves, by the form of the part that it goes into.
use Rattle.std.proofs.Common.{◌≡◌, ℕ, List, [], ap, sym, ◌∙◌, ℤ, pos}
use Rattle.std.specs.Prelude.{Bool, true, false, Option, Some, None, option_copied}
use Rattle.std.specs.Borrow.{Bor}
use Rattle.c_types.specs.declared.types.IntTy.{IntTy}
use Rattle.c_types.specs.declared.types.Ty.{Ty}
use Rattle.c_program.specs.declared.expressions.Arithmetic.{Arithmetic}
use Rattle.c_program.specs.declared.expressions.Comparison.{Comparison}
use Rattle.c_program.specs.declared.expressions.Service.{Service}
use Rattle.c_program.specs.declared.expressions.Target.{Target}
use Rattle.c_program.specs.declared.expressions.Place.{Place}
use Rattle.c_program.specs.declared.expressions.Place.TheVariants as place
use Rattle.c_program.specs.declared.program.PathStep.{PathStep}
use Rattle.c_program.specs.declared.expressions.TypedExpr.{TypedExpr}
use Rattle.c_program.specs.declared.expressions.TypedExpr.TheVariants as expr
use Rattle.c_program.specs.declared.statements.ForBegin.{ForBegin}
use Rattle.c_program.specs.declared.statements.TypedItem.{TypedItem}
use Rattle.c_program.specs.declared.statements.TypedStmt.{TypedStmt}
use Rattle.c_program.specs.declared.statements.TypedStmt.TheVariants as stmt
use Rattle.c_values.specs.declared.value.Root.TheVariants as root
use Rattle.c_values.specs.declared.value.Value.{Value}
use Rattle.c_values.specs.declared.value.Value.TheVariants as value
use Rattle.c_values.specs.Numbers.{wrapped}
use Rattle.c_meaning.specs.States.{State}
use Rattle.c_meaning.specs.Rules.{Setting}
use Rattle.c_interp_steps.specs.declared.work.Called.TheVariants as called
use Rattle.c_interp_steps.specs.declared.work.Ending.TheVariants as ending
use Rattle.c_interp_steps.specs.declared.work.Loop.{Loop}
use Rattle.c_interp_steps.specs.declared.work.Pending.{Pending}
use Rattle.c_interp_steps.specs.declared.work.Pending.TheVariants as wait
use Rattle.c_interp_steps.specs.declared.work.Now.TheVariants as now
use Rattle.c_interp_steps.specs.declared.work.Turn.TheVariants as turn
use Rattle.c_interp_steps.specs.declared.work.ValueWork.TheVariants as vw
use Rattle.c_interp_steps.specs.declared.work.FindWork.TheVariants as fw
use Rattle.c_interp_steps.specs.declared.work.RunWork.TheVariants as run
use Rattle.c_interp_steps.specs.declared.work.PlaceWork.TheVariants as pw
use Rattle.c_interp_steps.specs.declared.work.UseWork.TheVariants as uw
use Rattle.c_interp_steps.specs.declared.work.FlowWork.TheVariants as lw
use Rattle.c_interp_steps.specs.Parts.{paid_value, paid_object, paid_statement, items_of}
use Rattle.c_interp_steps.specs.Rests.{arguments_of}
use Rattle.c_interp_steps.specs.Stack.{finish, resume, total, turned}
use Rattle.c_interp_steps.proofs.StackLaws.{await_value, await_find, await_run, await_place, await_use, await_paid, await_statement, await_begin}
use Rattle.c_interp_steps.proofs.PlaceLaws as places
use Rattle.c_interp_steps.proofs.ValueEntries as entries
use Rattle.c_interp_steps.proofs.StatementLaws as statements

module _ (m : Setting) (ps : List Pending) (s : State) (k : ℕ) where
  pub value-Number : (i : IntTy) (n : ℕ) (v : Value) (e0 : TypedExpr) → v ≡ value.Number (wrapped i (pos n)) → e0 ≡ expr.Number i n → turned m (turn.Go (now.Got v)) ps s k ≡ finish (paid_value m e0 s k) (resume m ps).value
  unfolding turned
  value-Number i n v e0 e is = ap (λ z. turned m (turn.Go (now.Got z)) ps s k) e ∙ sym (entries.enters-Number m ps s k i n) ∙ ap (λ z. finish (paid_value m z s k) (resume m ps).value) (sym is)

  pub value-Char : (z : ℤ) (v : Value) (e0 : TypedExpr) → v ≡ value.Number z → e0 ≡ expr.Char z → turned m (turn.Go (now.Got v)) ps s k ≡ finish (paid_value m e0 s k) (resume m ps).value
  unfolding turned
  value-Char z v e0 e is = ap (λ z. turned m (turn.Go (now.Got z)) ps s k) e ∙ sym (entries.enters-Char m ps s k z) ∙ ap (λ z. finish (paid_value m z s k) (resume m ps).value) (sym is)

  pub value-Null : (a : Ty) (e0 : TypedExpr) → e0 ≡ expr.Null a → turned m (turn.Go (now.Got value.Null)) ps s k ≡ finish (paid_value m e0 s k) (resume m ps).value
  unfolding turned
  value-Null a e0 is = sym (entries.enters-Null m ps s k a) ∙ ap (λ z. finish (paid_value m z s k) (resume m ps).value) (sym is)

  pub value-Function : (a : Ty) (t : Target) (e0 : TypedExpr) → e0 ≡ expr.Function a t → turned m (turn.Go (now.Got (value.Function t))) ps s k ≡ finish (paid_value m e0 s k) (resume m ps).value
  unfolding turned
  value-Function a t e0 is = sym (entries.enters-Function m ps s k a t) ∙ ap (λ z. finish (paid_value m z s k) (resume m ps).value) (sym is)

  pub value-VaArg : (i : IntTy) (e0 : TypedExpr) → e0 ≡ expr.VaArg i → turned m (turn.Go (now.Extra i)) ps s k ≡ finish (paid_value m e0 s k) (resume m ps).value
  unfolding turned total
  value-VaArg i e0 is = sym (entries.enters-VaArg m ps s k i) ∙ ap (λ z. finish (paid_value m z s k) (resume m ps).value) (sym is)

  pub value-Same : (a : Bor TypedExpr) (e0 : TypedExpr) (a1 : TypedExpr) → a.now ≡ a1 → e0 ≡ expr.Same a1 → turned m (turn.Go (now.Value a)) ps s k ≡ finish (paid_value m e0 s k) (resume m ps).value
  unfolding turned total
  value-Same a e0 a1 h0 is0 = let is : e0 ≡ expr.Same a.now = cc in sym (entries.enters-Same m ps s k a.now) ∙ ap (λ z. finish (paid_value m z s k) (resume m ps).value) (sym is)

  pub value-Load : (a : Ty) (p : Bor Place) (e0 : TypedExpr) (p1 : Place) → p.now ≡ p1 → e0 ≡ expr.Load a p1 → turned m (turn.Await (wait.Use uw.Load) (now.Paid p)) ps s k ≡ finish (paid_value m e0 s k) (resume m ps).value
  unfolding turned
  value-Load a p e0 p1 h0 is0 = let is : e0 ≡ expr.Load a p.now = cc in await_paid m ps s k uw.Load p ∙ sym (entries.enters-Load m ps s k a p.now) ∙ ap (λ z. finish (paid_value m z s k) (resume m ps).value) (sym is)

  pub value-Address : (a : Ty) (p : Bor Place) (e0 : TypedExpr) (p1 : Place) → p.now ≡ p1 → e0 ≡ expr.Address a p1 → turned m (turn.Await (wait.Use uw.Address) (now.Place p)) ps s k ≡ finish (paid_value m e0 s k) (resume m ps).value
  unfolding turned
  value-Address a p e0 p1 h0 is0 = let is : e0 ≡ expr.Address a p.now = cc in await_use m ps s k uw.Address p ∙ sym (entries.enters-Address m ps s k a p.now) ∙ ap (λ z. finish (paid_value m z s k) (resume m ps).value) (sym is)

  pub value-Negate : (i : IntTy) (a : Bor TypedExpr) (e0 : TypedExpr) (a1 : TypedExpr) → a.now ≡ a1 → e0 ≡ expr.Negate i a1 → turned m (turn.Await (wait.Value (vw.Negate i)) (now.Value a)) ps s k ≡ finish (paid_value m e0 s k) (resume m ps).value
  unfolding turned
  value-Negate i a e0 a1 h0 is0 = let is : e0 ≡ expr.Negate i a.now = cc in await_value m ps s k (vw.Negate i) a ∙ sym (entries.enters-Negate m ps s k i a.now) ∙ ap (λ z. finish (paid_value m z s k) (resume m ps).value) (sym is)

  pub value-Complement : (i : IntTy) (a : Bor TypedExpr) (e0 : TypedExpr) (a1 : TypedExpr) → a.now ≡ a1 → e0 ≡ expr.Complement i a1 → turned m (turn.Await (wait.Value (vw.Complement i)) (now.Value a)) ps s k ≡ finish (paid_value m e0 s k) (resume m ps).value
  unfolding turned
  value-Complement i a e0 a1 h0 is0 = let is : e0 ≡ expr.Complement i a.now = cc in await_value m ps s k (vw.Complement i) a ∙ sym (entries.enters-Complement m ps s k i a.now) ∙ ap (λ z. finish (paid_value m z s k) (resume m ps).value) (sym is)

  pub value-Not : (a : Bor TypedExpr) (e0 : TypedExpr) (a1 : TypedExpr) → a.now ≡ a1 → e0 ≡ expr.Not a1 → turned m (turn.Await (wait.Value vw.Not) (now.Value a)) ps s k ≡ finish (paid_value m e0 s k) (resume m ps).value
  unfolding turned
  value-Not a e0 a1 h0 is0 = let is : e0 ≡ expr.Not a.now = cc in await_value m ps s k vw.Not a ∙ sym (entries.enters-Not m ps s k a.now) ∙ ap (λ z. finish (paid_value m z s k) (resume m ps).value) (sym is)

  pub value-Convert : (i : IntTy) (a : Bor TypedExpr) (e0 : TypedExpr) (a1 : TypedExpr) → a.now ≡ a1 → e0 ≡ expr.Convert i a1 → turned m (turn.Await (wait.Value (vw.Convert i)) (now.Value a)) ps s k ≡ finish (paid_value m e0 s k) (resume m ps).value
  unfolding turned
  value-Convert i a e0 a1 h0 is0 = let is : e0 ≡ expr.Convert i a.now = cc in await_value m ps s k (vw.Convert i) a ∙ sym (entries.enters-Convert m ps s k i a.now) ∙ ap (λ z. finish (paid_value m z s k) (resume m ps).value) (sym is)

  pub value-Binary : (o : Arithmetic) (i : IntTy) (a b : Bor TypedExpr) (e0 : TypedExpr) (a1 : TypedExpr) (b1 : TypedExpr) → a.now ≡ a1 → b.now ≡ b1 → e0 ≡ expr.Binary o i a1 b1 → turned m (turn.Await (wait.Value (vw.BinaryThen o i b)) (now.Value a)) ps s k ≡ finish (paid_value m e0 s k) (resume m ps).value
  unfolding turned
  value-Binary o i a b e0 a1 b1 h0 h1 is0 = let is : e0 ≡ expr.Binary o i a.now b.now = cc in await_value m ps s k (vw.BinaryThen o i b) a ∙ sym (entries.enters-Binary m ps s k o i a.now b) ∙ ap (λ z. finish (paid_value m z s k) (resume m ps).value) (sym is)

  pub value-Compare : (c : Comparison) (t : Ty) (a b : Bor TypedExpr) (e0 : TypedExpr) (a1 : TypedExpr) (b1 : TypedExpr) → a.now ≡ a1 → b.now ≡ b1 → e0 ≡ expr.Compare c t a1 b1 → turned m (turn.Await (wait.Value (vw.CompareThen c b)) (now.Value a)) ps s k ≡ finish (paid_value m e0 s k) (resume m ps).value
  unfolding turned
  value-Compare c t a b e0 a1 b1 h0 h1 is0 = let is : e0 ≡ expr.Compare c t a.now b.now = cc in await_value m ps s k (vw.CompareThen c b) a ∙ sym (entries.enters-Compare m ps s k c t a.now b) ∙ ap (λ z. finish (paid_value m z s k) (resume m ps).value) (sym is)

  pub value-And : (a b : Bor TypedExpr) (e0 : TypedExpr) (a1 : TypedExpr) (b1 : TypedExpr) → a.now ≡ a1 → b.now ≡ b1 → e0 ≡ expr.And a1 b1 → turned m (turn.Await (wait.Value (vw.AndThen b)) (now.Value a)) ps s k ≡ finish (paid_value m e0 s k) (resume m ps).value
  unfolding turned
  value-And a b e0 a1 b1 h0 h1 is0 = let is : e0 ≡ expr.And a.now b.now = cc in await_value m ps s k (vw.AndThen b) a ∙ sym (entries.enters-And m ps s k a.now b) ∙ ap (λ z. finish (paid_value m z s k) (resume m ps).value) (sym is)

  pub value-Or : (a b : Bor TypedExpr) (e0 : TypedExpr) (a1 : TypedExpr) (b1 : TypedExpr) → a.now ≡ a1 → b.now ≡ b1 → e0 ≡ expr.Or a1 b1 → turned m (turn.Await (wait.Value (vw.OrThen b)) (now.Value a)) ps s k ≡ finish (paid_value m e0 s k) (resume m ps).value
  unfolding turned
  value-Or a b e0 a1 b1 h0 h1 is0 = let is : e0 ≡ expr.Or a.now b.now = cc in await_value m ps s k (vw.OrThen b) a ∙ sym (entries.enters-Or m ps s k a.now b) ∙ ap (λ z. finish (paid_value m z s k) (resume m ps).value) (sym is)

  pub value-Conditional : (t : Ty) (c a b : Bor TypedExpr) (e0 : TypedExpr) (c1 : TypedExpr) (a1 : TypedExpr) (b1 : TypedExpr) → c.now ≡ c1 → a.now ≡ a1 → b.now ≡ b1 → e0 ≡ expr.Conditional t c1 a1 b1 → turned m (turn.Await (wait.Value (vw.Choose a b)) (now.Value c)) ps s k ≡ finish (paid_value m e0 s k) (resume m ps).value
  unfolding turned
  value-Conditional t c a b e0 c1 a1 b1 h0 h1 h2 is0 = let is : e0 ≡ expr.Conditional t c.now a.now b.now = cc in await_value m ps s k (vw.Choose a b) c ∙ sym (entries.enters-Conditional m ps s k t c.now a b) ∙ ap (λ z. finish (paid_value m z s k) (resume m ps).value) (sym is)

  pub value-Assign : (t : Ty) (p : Bor Place) (a : Bor TypedExpr) (e0 : TypedExpr) (p1 : Place) (a1 : TypedExpr) → p.now ≡ p1 → a.now ≡ a1 → e0 ≡ expr.Assign t p1 a1 → turned m (turn.Await (wait.Use (uw.AssignThen a)) (now.Place p)) ps s k ≡ finish (paid_value m e0 s k) (resume m ps).value
  unfolding turned
  value-Assign t p a e0 p1 a1 h0 h1 is0 = let is : e0 ≡ expr.Assign t p.now a.now = cc in await_use m ps s k (uw.AssignThen a) p ∙ sym (entries.enters-Assign m ps s k t p.now a) ∙ ap (λ z. finish (paid_value m z s k) (resume m ps).value) (sym is)

  pub value-Update : (o : Arithmetic) (i j : IntTy) (p : Bor Place) (a : Bor TypedExpr) (e0 : TypedExpr) (p1 : Place) (a1 : TypedExpr) → p.now ≡ p1 → a.now ≡ a1 → e0 ≡ expr.Update o i j p1 a1 → turned m (turn.Await (wait.Use (uw.UpdateThen o i j a)) (now.Place p)) ps s k ≡ finish (paid_value m e0 s k) (resume m ps).value
  unfolding turned
  value-Update o i j p a e0 p1 a1 h0 h1 is0 = let is : e0 ≡ expr.Update o i j p.now a.now = cc in await_use m ps s k (uw.UpdateThen o i j a) p ∙ sym (entries.enters-Update m ps s k o i j p.now a) ∙ ap (λ z. finish (paid_value m z s k) (resume m ps).value) (sym is)

  pub value-Before : (i : IntTy) (up : Bool) (p : Bor Place) (e0 : TypedExpr) (p1 : Place) → p.now ≡ p1 → e0 ≡ expr.Before i up p1 → turned m (turn.Await (wait.Use (uw.Before i up)) (now.Place p)) ps s k ≡ finish (paid_value m e0 s k) (resume m ps).value
  unfolding turned
  value-Before i up p e0 p1 h0 is0 = let is : e0 ≡ expr.Before i up p.now = cc in await_use m ps s k (uw.Before i up) p ∙ sym (entries.enters-Before m ps s k i up p.now) ∙ ap (λ z. finish (paid_value m z s k) (resume m ps).value) (sym is)

  pub value-After : (i : IntTy) (up : Bool) (p : Bor Place) (e0 : TypedExpr) (p1 : Place) → p.now ≡ p1 → e0 ≡ expr.After i up p1 → turned m (turn.Await (wait.Use (uw.After i up)) (now.Place p)) ps s k ≡ finish (paid_value m e0 s k) (resume m ps).value
  unfolding turned
  value-After i up p e0 p1 h0 is0 = let is : e0 ≡ expr.After i up p.now = cc in await_use m ps s k (uw.After i up) p ∙ sym (entries.enters-After m ps s k i up p.now) ∙ ap (λ z. finish (paid_value m z s k) (resume m ps).value) (sym is)

  pub value-Call : (t : Ty) (f : Target) (done : List Value) (es : List TypedExpr) (e0 : TypedExpr) (es1 : List TypedExpr) → done ≡ [] → es ≡ es1 → e0 ≡ expr.Call t f es1 → finish (arguments_of m (called.Named f) done es s k) (resume m ps).value ≡ finish (paid_value m e0 s k) (resume m ps).value
  value-Call t f done es e0 es1 e h0 is0 = let is : e0 ≡ expr.Call t f es = cc in ap (λ l. finish (arguments_of m (called.Named f) l es s k) (resume m ps).value) e ∙ sym (entries.enters-Call m ps s k t f es) ∙ ap (λ z. finish (paid_value m z s k) (resume m ps).value) (sym is)

  pub value-CallService : (x : Service) (done : List Value) (es : List TypedExpr) (e0 : TypedExpr) (es1 : List TypedExpr) → done ≡ [] → es ≡ es1 → e0 ≡ expr.CallService x es1 → finish (arguments_of m (called.Service x) done es s k) (resume m ps).value ≡ finish (paid_value m e0 s k) (resume m ps).value
  value-CallService x done es e0 es1 e h0 is0 = let is : e0 ≡ expr.CallService x es = cc in ap (λ l. finish (arguments_of m (called.Service x) l es s k) (resume m ps).value) e ∙ sym (entries.enters-CallService m ps s k x es) ∙ ap (λ z. finish (paid_value m z s k) (resume m ps).value) (sym is)

  pub value-CallPointer : (t : Ty) (g : ℕ) (a : Bor TypedExpr) (es : Bor (List TypedExpr)) (e0 : TypedExpr) (a1 : TypedExpr) (es1 : (List TypedExpr)) → a.now ≡ a1 → es.now ≡ es1 → e0 ≡ expr.CallPointer t g a1 es1 → turned m (turn.Await (wait.Value (vw.CallThen es)) (now.Value a)) ps s k ≡ finish (paid_value m e0 s k) (resume m ps).value
  unfolding turned
  value-CallPointer t g a es e0 a1 es1 h0 h1 is0 = let is : e0 ≡ expr.CallPointer t g a.now es.now = cc in await_value m ps s k (vw.CallThen es) a ∙ sym (entries.enters-CallPointer m ps s k t g a.now es) ∙ ap (λ z. finish (paid_value m z s k) (resume m ps).value) (sym is)

  pub value-FieldOf : (t : Ty) (a : Bor TypedExpr) (st f : ℕ) (e0 : TypedExpr) (a1 : TypedExpr) → a.now ≡ a1 → e0 ≡ expr.FieldOf t a1 st f → turned m (turn.Await (wait.Value (vw.FieldOf f)) (now.Value a)) ps s k ≡ finish (paid_value m e0 s k) (resume m ps).value
  unfolding turned
  value-FieldOf t a st f e0 a1 h0 is0 = let is : e0 ≡ expr.FieldOf t a.now st f = cc in await_value m ps s k (vw.FieldOf f) a ∙ sym (entries.enters-FieldOf m ps s k t a.now st f) ∙ ap (λ z. finish (paid_value m z s k) (resume m ps).value) (sym is)

  pub value-ElementOf : (t : Ty) (a i : Bor TypedExpr) (n : ℕ) (e0 : TypedExpr) (a1 : TypedExpr) (i1 : TypedExpr) → a.now ≡ a1 → i.now ≡ i1 → e0 ≡ expr.ElementOf t a1 i1 n → turned m (turn.Await (wait.Value (vw.ElementThen i n)) (now.Value a)) ps s k ≡ finish (paid_value m e0 s k) (resume m ps).value
  unfolding turned
  value-ElementOf t a i n e0 a1 i1 h0 h1 is0 = let is : e0 ≡ expr.ElementOf t a.now i.now n = cc in await_value m ps s k (vw.ElementThen i n) a ∙ sym (entries.enters-ElementOf m ps s k t a.now i n) ∙ ap (λ z. finish (paid_value m z s k) (resume m ps).value) (sym is)

  pub place-Local : (l : ℕ) (p0 : Place) → p0 ≡ place.Local l → turned m (turn.Go (now.Local l)) ps s k ≡ finish (paid_object m p0 s k) (resume m ps).object
  unfolding turned total
  place-Local l p0 is = sym (places.enters-Local m ps s k l) ∙ ap (λ z. finish (paid_object m z s k) (resume m ps).object) (sym is)

  pub place-Global : (g : ℕ) (path : List PathStep) (p0 : Place) → path ≡ [] → p0 ≡ place.Global g → turned m (turn.Go (now.Found (record { root = root.Global g; path = path }))) ps s k ≡ finish (paid_object m p0 s k) (resume m ps).object
  unfolding turned
  place-Global g path p0 e is = ap (λ z. turned m (turn.Go (now.Found (record { root = root.Global g; path = z }))) ps s k) e ∙ sym (places.enters-Global m ps s k g) ∙ ap (λ z. finish (paid_object m z s k) (resume m ps).object) (sym is)

  pub place-Target : (t : Ty) (a : Bor TypedExpr) (p0 : Place) (a1 : TypedExpr) → a.now ≡ a1 → p0 ≡ place.Target t a1 → turned m (turn.Await (wait.Find fw.Target) (now.Value a)) ps s k ≡ finish (paid_object m p0 s k) (resume m ps).object
  unfolding turned
  place-Target t a p0 a1 h0 is0 = let is : p0 ≡ place.Target t a.now = cc in await_find m ps s k fw.Target a ∙ sym (places.enters-Target m ps s k t a.now) ∙ ap (λ z. finish (paid_object m z s k) (resume m ps).object) (sym is)

  pub place-Arrow : (a : Bor TypedExpr) (st f : ℕ) (p0 : Place) (a1 : TypedExpr) → a.now ≡ a1 → p0 ≡ place.Arrow a1 st f → turned m (turn.Await (wait.Find (fw.Arrow f)) (now.Value a)) ps s k ≡ finish (paid_object m p0 s k) (resume m ps).object
  unfolding turned
  place-Arrow a st f p0 a1 h0 is0 = let is : p0 ≡ place.Arrow a.now st f = cc in await_find m ps s k (fw.Arrow f) a ∙ sym (places.enters-Arrow m ps s k a.now st f) ∙ ap (λ z. finish (paid_object m z s k) (resume m ps).object) (sym is)

  pub place-Field : (a : Bor Place) (st f : ℕ) (p0 : Place) (a1 : Place) → a.now ≡ a1 → p0 ≡ place.Field a1 st f → turned m (turn.Await (wait.Place (pw.Field f)) (now.Place a)) ps s k ≡ finish (paid_object m p0 s k) (resume m ps).object
  unfolding turned
  place-Field a st f p0 a1 h0 is0 = let is : p0 ≡ place.Field a.now st f = cc in await_place m ps s k (pw.Field f) a ∙ sym (places.enters-Field m ps s k a.now st f) ∙ ap (λ z. finish (paid_object m z s k) (resume m ps).object) (sym is)

  pub place-Element : (t : Ty) (a : Bor Place) (i : Bor TypedExpr) (n : ℕ) (p0 : Place) (a1 : Place) (i1 : TypedExpr) → a.now ≡ a1 → i.now ≡ i1 → p0 ≡ place.Element t a1 i1 n → turned m (turn.Await (wait.Place (pw.ElementThen i n)) (now.Place a)) ps s k ≡ finish (paid_object m p0 s k) (resume m ps).object
  unfolding turned
  place-Element t a i n p0 a1 i1 h0 h1 is0 = let is : p0 ≡ place.Element t a.now i.now n = cc in await_place m ps s k (pw.ElementThen i n) a ∙ sym (places.enters-Element m ps s k t a.now i n) ∙ ap (λ z. finish (paid_object m z s k) (resume m ps).object) (sym is)

  pub stmt-Block : (xs : List TypedItem) (x0 : TypedStmt) (xs1 : List TypedItem) → xs ≡ xs1 → x0 ≡ stmt.Block xs1 → finish (items_of m xs s k) (resume m ps).flow ≡ finish (paid_statement m x0 s k) (resume m ps).flow
  stmt-Block xs x0 xs1 h0 is0 = let is : x0 ≡ stmt.Block xs = cc in sym (statements.enters-Block m ps s k xs) ∙ ap (λ z. finish (paid_statement m z s k) (resume m ps).flow) (sym is)

  pub stmt-Empty : (x0 : TypedStmt) → x0 ≡ stmt.Empty → turned m (turn.Go (now.Ended ending.Normal)) ps s k ≡ finish (paid_statement m x0 s k) (resume m ps).flow
  unfolding turned
  stmt-Empty x0 is = sym (statements.enters-Empty m ps s k) ∙ ap (λ z. finish (paid_statement m z s k) (resume m ps).flow) (sym is)

  pub stmt-Break : (x0 : TypedStmt) → x0 ≡ stmt.Break → turned m (turn.Go (now.Ended ending.Broke)) ps s k ≡ finish (paid_statement m x0 s k) (resume m ps).flow
  unfolding turned
  stmt-Break x0 is = sym (statements.enters-Break m ps s k) ∙ ap (λ z. finish (paid_statement m z s k) (resume m ps).flow) (sym is)

  pub stmt-Continue : (x0 : TypedStmt) → x0 ≡ stmt.Continue → turned m (turn.Go (now.Ended ending.Continued)) ps s k ≡ finish (paid_statement m x0 s k) (resume m ps).flow
  unfolding turned
  stmt-Continue x0 is = sym (statements.enters-Continue m ps s k) ∙ ap (λ z. finish (paid_statement m z s k) (resume m ps).flow) (sym is)

  pub stmt-Effect : (a : Bor TypedExpr) (x0 : TypedStmt) (a1 : TypedExpr) → a.now ≡ a1 → x0 ≡ stmt.Effect a1 → turned m (turn.Await (wait.Run run.Discard) (now.Value a)) ps s k ≡ finish (paid_statement m x0 s k) (resume m ps).flow
  unfolding turned
  stmt-Effect a x0 a1 h0 is0 = let is : x0 ≡ stmt.Effect a.now = cc in await_run m ps s k run.Discard a ∙ sym (statements.enters-Effect m ps s k a.now) ∙ ap (λ z. finish (paid_statement m z s k) (resume m ps).flow) (sym is)

  pub stmt-If : (c : Bor TypedExpr) (x : Bor TypedStmt) (x0 : TypedStmt) (c1 : TypedExpr) (x1 : TypedStmt) → c.now ≡ c1 → x.now ≡ x1 → x0 ≡ stmt.If c1 x1 → turned m (turn.Await (wait.Run (run.If x)) (now.Value c)) ps s k ≡ finish (paid_statement m x0 s k) (resume m ps).flow
  unfolding turned
  stmt-If c x x0 c1 x1 h0 h1 is0 = let is : x0 ≡ stmt.If c.now x.now = cc in await_run m ps s k (run.If x) c ∙ sym (statements.enters-If m ps s k c.now x) ∙ ap (λ z. finish (paid_statement m z s k) (resume m ps).flow) (sym is)

  pub stmt-IfElse : (c : Bor TypedExpr) (x y : Bor TypedStmt) (x0 : TypedStmt) (c1 : TypedExpr) (x1 : TypedStmt) (y1 : TypedStmt) → c.now ≡ c1 → x.now ≡ x1 → y.now ≡ y1 → x0 ≡ stmt.IfElse c1 x1 y1 → turned m (turn.Await (wait.Run (run.IfElse x y)) (now.Value c)) ps s k ≡ finish (paid_statement m x0 s k) (resume m ps).flow
  unfolding turned
  stmt-IfElse c x y x0 c1 x1 y1 h0 h1 h2 is0 = let is : x0 ≡ stmt.IfElse c.now x.now y.now = cc in await_run m ps s k (run.IfElse x y) c ∙ sym (statements.enters-IfElse m ps s k c.now x y) ∙ ap (λ z. finish (paid_statement m z s k) (resume m ps).flow) (sym is)

  pub stmt-Do : (x : Bor TypedStmt) (c : Bor TypedExpr) (x0 : TypedStmt) (x1 : TypedStmt) (c1 : TypedExpr) → x.now ≡ x1 → c.now ≡ c1 → x0 ≡ stmt.Do x1 c1 → turned m (turn.Await (wait.Flow (lw.Do c x)) (now.Statement x)) ps s k ≡ finish (paid_statement m x0 s k) (resume m ps).flow
  unfolding turned
  stmt-Do x c x0 x1 c1 h0 h1 is0 = let is : x0 ≡ stmt.Do x.now c.now = cc in await_statement m ps s k (lw.Do c x) x ∙ sym (statements.enters-Do m ps s k x c) ∙ ap (λ z. finish (paid_statement m z s k) (resume m ps).flow) (sym is)

  pub stmt-While : (c : Bor TypedExpr) (x : Bor TypedStmt) (x0 : TypedStmt) (c1 : TypedExpr) (x1 : TypedStmt) → c.now ≡ c1 → x.now ≡ x1 → x0 ≡ stmt.While c1 x1 → turned m (turn.Go (now.Loop (record { test = Some c; step = None; body = x }))) ps s k ≡ finish (paid_statement m x0 s k) (resume m ps).flow
  unfolding turned
  stmt-While c x x0 c1 x1 h0 h1 is0 = let is : x0 ≡ stmt.While c.now x.now = cc in sym (statements.enters-While m ps s k c x) ∙ ap (λ z. finish (paid_statement m z s k) (resume m ps).flow) (sym is)

  pub stmt-For : (b : Bor ForBegin) (l : Loop) (x0 : TypedStmt) (b1 : ForBegin) (c1 n1 : Option TypedExpr) (y1 : TypedStmt) → b.now ≡ b1 → option_copied l.test ≡ c1 → option_copied l.step ≡ n1 → l.body.now ≡ y1 → x0 ≡ stmt.For b1 c1 n1 y1 → turned m (turn.Await (wait.Flow (lw.Begin l)) (now.Begin b)) ps s k ≡ finish (paid_statement m x0 s k) (resume m ps).flow
  stmt-For b l x0 b1 c1 n1 y1 h0 h1 h2 h3 is0 = let is : x0 ≡ stmt.For b.now (option_copied l.test) (option_copied l.step) l.body.now = cc in await_begin m ps s k (lw.Begin l) b ∙ sym (statements.enters-For m ps s k b.now l) ∙ ap (λ z. finish (paid_statement m z s k) (resume m ps).flow) (sym is)

  pub stmt-Return : (a : Bor TypedExpr) (x0 : TypedStmt) (a1 : TypedExpr) → a.now ≡ a1 → x0 ≡ stmt.Return (Some a1) → turned m (turn.Await (wait.Run run.Return) (now.Value a)) ps s k ≡ finish (paid_statement m x0 s k) (resume m ps).flow
  unfolding turned
  stmt-Return a x0 a1 h0 is0 = let is : x0 ≡ stmt.Return (Some a.now) = cc in await_run m ps s k run.Return a ∙ sym (statements.enters-Return m ps s k a.now) ∙ ap (λ z. finish (paid_statement m z s k) (resume m ps).flow) (sym is)

  pub stmt-ReturnNone : (x0 : TypedStmt) → x0 ≡ stmt.Return None → turned m (turn.Go (now.Ended (ending.Gave (value.Number (pos 0))))) ps s k ≡ finish (paid_statement m x0 s k) (resume m ps).flow
  unfolding turned
  stmt-ReturnNone x0 is = sym (statements.enters-ReturnNone m ps s k) ∙ ap (λ z. finish (paid_statement m z s k) (resume m ps).flow) (sym is)

  pub stmt-VaStart : (x0 : TypedStmt) → x0 ≡ stmt.VaStart → turned m (turn.Go (now.Extras true)) ps s k ≡ finish (paid_statement m x0 s k) (resume m ps).flow
  unfolding turned
  stmt-VaStart x0 is = sym (statements.enters-VaStart m ps s k) ∙ ap (λ z. finish (paid_statement m z s k) (resume m ps).flow) (sym is)

  pub stmt-VaEnd : (x0 : TypedStmt) → x0 ≡ stmt.VaEnd → turned m (turn.Go (now.Extras false)) ps s k ≡ finish (paid_statement m x0 s k) (resume m ps).flow
  unfolding turned
  stmt-VaEnd x0 is = sym (statements.enters-VaEnd m ps s k) ∙ ap (λ z. finish (paid_statement m z s k) (resume m ps).flow) (sym is)
