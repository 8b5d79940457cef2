-- What each construct of the language means: one rule a construct, over the meanings of its parts.
--
-- A rule takes a state and the units that are left, and gives a value with the state and the units
-- after it, or how the run stopped. What it pays it pays first: where the units left don't hold it,
-- the run stands there. Parts are evaluated in the order in which they are written down.
use Rattle.std.specs.Prelude.{ℕ, zero, suc, ◌+◌, ◌-◌, ◌*◌, Bool, true, false, nat_le, nat_lt, if◌then◌else◌, List, [], ◌∷◌, ◌++◌, length, take, drop, get_or, slice_get, slice_set, Option, Some, None, ℤ, pos, negsuc, ◌+ℤ◌}
use Rattle.c_types.specs.declared.types.IntTy.{IntTy}
use Rattle.c_types.specs.declared.types.Ty.{Ty}
use Rattle.c_types.specs.declared.types.Ty.TheVariants as ty
use Rattle.c_types.specs.declared.types.FunTy.{FunTy}
use Rattle.c_types.specs.declared.types.Types.{Types}
use Rattle.c_program.specs.declared.expressions.Target.{Target}
use Rattle.c_program.specs.declared.expressions.Arithmetic.{Arithmetic}
use Rattle.c_program.specs.declared.expressions.Service.{Service}
use Rattle.c_program.specs.declared.expressions.Service.TheVariants as service
use Rattle.c_program.specs.declared.expressions.Place.{Place, out-Place}
use Rattle.c_program.specs.declared.expressions.TypedExpr.{TypedExpr, out-TypedExpr}
use Rattle.c_program.specs.declared.expressions.Place.TheOpen.{Place-F, TypedExpr-F}
use Rattle.c_program.specs.declared.statements.Declared.{Declared}
use Rattle.c_program.specs.declared.statements.ForBegin.{ForBegin}
use Rattle.c_program.specs.declared.statements.ForBegin.TheVariants as begin
use Rattle.c_program.specs.declared.statements.TypedItem.{TypedItem, out-TypedItem}
use Rattle.c_program.specs.declared.statements.TypedStmt.{TypedStmt, out-TypedStmt}
use Rattle.c_program.specs.declared.statements.TypedItem.TheOpen.{TypedItem-F, TypedStmt-F}
use Rattle.c_program.specs.declared.program.PathStep.TheVariants as step
use Rattle.c_program.specs.declared.program.FunctionBody.{FunctionBody}
use Rattle.c_program.specs.declared.program.AdjustDef.{AdjustDef}
use Rattle.c_values.specs.declared.value.Root.TheVariants as root
use Rattle.c_values.specs.declared.value.Object.{Object}
use Rattle.c_values.specs.declared.value.Value.{Value, out-Value}
use Rattle.c_values.specs.declared.value.Value.TheOpen.{Value-F}
use Rattle.c_values.specs.declared.value.Value.TheVariants as value
use Rattle.c_values.specs.Numbers.{low_bits, wrapped, wrapped_in, arithmetic, negated, complemented, stepped}
use Rattle.c_values.specs.Objects.{nothing, number_in, truth, int_of, compared, zero_of, part_of, inner}
use Rattle.c_meaning.specs.Costs.{call_cost, expr_cost, declarator_cost}
use Rattle.c_meaning.specs.States.{Reply, State, opened, closed, resumed, padded, read, written, own_local, with_rest, rest_in, extras_in}

-- what a run asks of what isn't here
pub data Question : Type 0 where
  Calls : Target → List Value → Question
  Serves : Service → List Value → Question

-- how a run stops: with a status, with a trap, or at a question that has no answer yet
pub data End : Type 0 where
  Exits : ℕ → End
  Traps : ℕ → End
  Asks : Question → End

-- what an evaluation comes to, each with the units that are left; Spent is where they don't pay what
-- comes next
pub data Res (A : Type 0) : Type 0 where
  Done : A → State → ℕ → Res A
  Stop : End → State → ℕ → Res A
  Spent : State → ℕ → Res A

-- an evaluation, from a state and the units left
abbrev pub Act : Type 0 → Type 0
Act A = State → ℕ → Res A

abbrev pub pure : {A : Type 0} → A → Act A
pure a s k = Done a s k

abbrev pub after : {A B : Type 0} → Res A → (A → Act B) → Res B
after (Done a s k) go = go a s k
after (Stop o s k) go = Stop o s k
after (Spent s k) go = Spent s k

-- one evaluation, and then another over its value
infixr 20 ◌>>=◌
unfoldable pub ◌>>=◌ : {A B : Type 0} → Act A → (A → Act B) → Act B
(m >>= go) s k = after (m s k) go

-- so many units before anything else, all at once or none
unfoldable pub pay : {A : Type 0} → ℕ → Act A → Act A
pay n m s k = if nat_le n k then m s (k - n) else Spent s k

abbrev pub stop : {A : Type 0} → End → Act A
stop o s k = Stop o s k

abbrev pub trap : {A : Type 0} → ℕ → Act A
trap c = stop (Traps c)

-- the first where the test is true, else the second
abbrev pub choose : {A : Type 0} → Bool → A → A → A
choose true a b = a
choose false a b = b

-- how a statement ends
pub data Flow : Type 0 where
  Normal : Flow
  Broke : Flow
  Continued : Flow
  Gave : Value → Flow

-- what a target is: a function with its type and its definition, an adjustor with its type, or
-- something that isn't here
pub data Callee : Type 0 where
  Body : FunTy → FunctionBody → Callee
  Adjusts : FunTy → AdjustDef → Callee
  Elsewhere : Callee

-- what the rules know of the program around: its types, what each target is, and what a call of it is charged with
pub record Setting : Type 0 where
  pub types : Types
  pub callee : Target → Callee
  pub charge : Target → ℕ

-- the meanings of the parts: of an expression, of a place, of a statement, of a loop from its
-- condition on (condition, step and body), and of a call of a target with its arguments
pub record Meanings : Type 0 where
  pub value : TypedExpr → Act Value
  pub object : Place → Act Object
  pub statement : TypedStmt → Act Flow
  pub loop : Option TypedExpr → Option TypedExpr → TypedStmt → Act Flow
  pub call : Target → List Value → Act Value

-- Objects

abbrev pub load : Object → Act Value
load o s k = Done (read o s) s k

abbrev pub store : Object → Value → Act Value
store o v s k = Done v (written o v s) k

-- the object that a pointer points to; 242 for null
abbrev pub pointed_at : Value-F Value → Act Object
pointed_at (Value-F.Pointer o) = pure o
pointed_at Value-F.Null = trap 242
pointed_at (Value-F.Number z) = trap 242
pointed_at (Value-F.Function t) = trap 242
pointed_at (Value-F.Aggregate vs) = trap 242

abbrev pub pointed : Value → Act Object
pointed v = pointed_at (out-Value v)

-- an index into an array of n elements; 241 where it is none
abbrev pub bounded : ℕ → ℤ → Act ℕ
bounded n (pos k) = choose (nat_lt k n) (pure k) (trap 241)
bounded n (negsuc k) = trap 241

-- a place, after its unit is paid
abbrev pub place_rule : Meanings → Place-F Place TypedExpr → Act Object
place_rule r (Place-F.Local l) = λ s. pure (own_local l s) s
place_rule r (Place-F.Global g) = pure (record { root = root.Global g; path = [] })
place_rule r (Place-F.Target a e) = r.value e >>= pointed
place_rule r (Place-F.Arrow e s f) = r.value e >>= (λ v. pointed v >>= (λ o. pure (inner o (step.Field f))))
place_rule r (Place-F.Field p s f) = r.object p >>= (λ o. pure (inner o (step.Field f)))
place_rule r (Place-F.Element a p i n) = r.object p >>= (λ o. r.value i >>= (λ v. bounded n (number_in v) >>= (λ k. pure (inner o (step.Element k)))))

-- Calls

abbrev pub values : (TypedExpr → Act Value) → List TypedExpr → Act (List Value)
values ev [] = pure []
values ev (e ∷ es) = ev e >>= (λ v. values ev es >>= (λ vs. pure (v ∷ vs)))

abbrev pub with_reply : Reply → List Reply → State → State
with_reply r rs s = record s { globals = r.globals; world = record s.world { replies = rs } }

abbrev pub ask_in : List Reply → Question → Act Value
ask_in [] q s k = Stop (Asks q) s k
ask_in (r ∷ rs) q s k = Done r.value (with_reply r rs s) k

-- the next answer of the outside
abbrev pub ask : Question → Act Value
ask q s k = ask_in s.world.replies q s k

abbrev pub first_number : List Value → ℤ
first_number vs = number_in (get_or vs 0 nothing)

abbrev pub with_output : ℕ → State → State
with_output b s = record s { world = record s.world { output = s.world.output ++ b ∷ [] } }

abbrev pub with_input : List ℕ → State → State
with_input bs s = record s { world = record s.world { input = bs; taken = s.world.taken + 1 } }

-- the next byte, or -1 at the end
abbrev pub get_in : List ℕ → Act Value
get_in [] s k = Done (value.Number (negsuc 0)) s k
get_in (b ∷ bs) s k = Done (value.Number (pos b)) (with_input bs s) k

-- `put_byte` puts the low 8 bits, and `exit` ends with them
abbrev pub service_rule : Service → List Value → Act Value
service_rule service.PutByte vs s k = Done nothing (with_output (low_bits 8 (first_number vs)) s) k
service_rule service.GetByte vs s k = get_in s.world.input s k
service_rule service.Exit vs s k = Stop (Exits (low_bits 8 (first_number vs))) s k

abbrev pub serve : Service → List Value → Act Value
serve x vs s k = choose s.world.asks (ask (Serves x vs)) (service_rule x vs) s k

-- the function that a pointer points to; 242 for null
abbrev pub function_at : Value-F Value → Act Target
function_at (Value-F.Function t) = pure t
function_at Value-F.Null = trap 242
function_at (Value-F.Number z) = trap 242
function_at (Value-F.Pointer o) = trap 242
function_at (Value-F.Aggregate vs) = trap 242

abbrev pub function_in : Value → Act Target
function_in v = function_at (out-Value v)

-- back in the calling function
abbrev pub back : Value → Act Value
back v s k = Done v (resumed s) k

-- what a body's end gives: the zero of the result's type where it gave nothing
abbrev pub given : Types → Ty → Flow → Value
given t a Normal = zero_of t a
given t a Broke = zero_of t a
given t a Continued = zero_of t a
given t a (Gave v) = v

abbrev pub leave : Types → Ty → Flow → Act Value
leave t a flow s k = Done (given t a flow) (closed s) k

abbrev pub leave_adjustor : Value → Act Value
leave_adjustor v s k = Done v (closed s) k

-- an adjustor's parameter with its number added, in the parameter's type
abbrev pub shifted : Option Ty → ℤ → Value → Value
shifted None n v = v
shifted (Some ty.Void) n v = v
shifted (Some (ty.Int i)) n v = value.Number (wrapped i (number_in v +ℤ n))
shifted (Some (ty.Ptr k)) n v = v
shifted (Some (ty.Fun k)) n v = v
shifted (Some (ty.Struct k)) n v = v
shifted (Some (ty.Array k m)) n v = v

abbrev pub adjusted : FunTy → AdjustDef → List Value → List Value
adjusted f a vs = slice_set vs a.parameter (shifted (slice_get f.params a.parameter) a.amount (get_or vs a.parameter nothing))

-- Expressions

abbrev pub computed : Option ℤ → Act Value
computed None = trap 243
computed (Some z) = pure (value.Number z)

-- `p op= e`: the operator works in one type, and the result is converted to the place's
abbrev pub updated : Arithmetic → (place work : IntTy) → (old right : Value) → Option ℤ
updated o i j x y = wrapped_in i (arithmetic o j (number_in x) (number_in y))

-- the next extra argument, as a number of the type; 244 where there is none
abbrev pub extra_in : Option (List Value) → IntTy → Act Value
extra_in None i s k = trap 244 s k
extra_in (Some []) i s k = trap 244 s k
extra_in (Some (v ∷ vs)) i s k = Done (value.Number (wrapped i (number_in v))) (record s { frames = with_rest (Some vs) s.frames }) k

abbrev pub next_extra : IntTy → Act Value
next_extra i s k = extra_in (rest_in s.frames) i s k

-- an expression, after its units are paid
abbrev pub expr_rule : Meanings → TypedExpr-F Place TypedExpr → Act Value
expr_rule r (TypedExpr-F.Number i n) = pure (value.Number (wrapped i (pos n)))
expr_rule r (TypedExpr-F.Char z) = pure (value.Number z)
expr_rule r (TypedExpr-F.Null a) = pure value.Null
expr_rule r (TypedExpr-F.Function a f) = pure (value.Function f)
expr_rule r (TypedExpr-F.Load a p) = place_rule r (out-Place p) >>= load
expr_rule r (TypedExpr-F.Address a p) = r.object p >>= (λ o. pure (value.Pointer o))
expr_rule r (TypedExpr-F.Same e) = r.value e
expr_rule r (TypedExpr-F.Negate i e) = r.value e >>= (λ v. pure (value.Number (negated i (number_in v))))
expr_rule r (TypedExpr-F.Complement i e) = r.value e >>= (λ v. pure (value.Number (complemented i (number_in v))))
expr_rule r (TypedExpr-F.Not e) = r.value e >>= (λ v. pure (choose (truth v) (int_of false) (int_of true)))
expr_rule r (TypedExpr-F.Convert i e) = r.value e >>= (λ v. pure (value.Number (wrapped i (number_in v))))
expr_rule r (TypedExpr-F.Binary o i a b) = r.value a >>= (λ x. r.value b >>= (λ y. computed (arithmetic o i (number_in x) (number_in y))))
expr_rule r (TypedExpr-F.Compare c t a b) = r.value a >>= (λ x. r.value b >>= (λ y. pure (int_of (compared c x y))))
expr_rule r (TypedExpr-F.And a b) = r.value a >>= (λ x. choose (truth x) (r.value b >>= (λ y. pure (int_of (truth y)))) (pure (int_of false)))
expr_rule r (TypedExpr-F.Or a b) = r.value a >>= (λ x. choose (truth x) (pure (int_of true)) (r.value b >>= (λ y. pure (int_of (truth y)))))
expr_rule r (TypedExpr-F.Conditional t c a b) = r.value c >>= (λ x. choose (truth x) (r.value a) (r.value b))
expr_rule r (TypedExpr-F.Assign t p e) = r.object p >>= (λ o. r.value e >>= store o)
expr_rule r (TypedExpr-F.Update op i j p e) = r.object p >>= (λ o. load o >>= (λ x. r.value e >>= (λ y. computed (updated op i j x y) >>= store o)))
expr_rule r (TypedExpr-F.Before i up p) = r.object p >>= (λ o. load o >>= (λ x. store o (value.Number (stepped i up (number_in x)))))
expr_rule r (TypedExpr-F.After i up p) = r.object p >>= (λ o. load o >>= (λ x. store o (value.Number (stepped i up (number_in x))) >>= (λ y. pure x)))
expr_rule r (TypedExpr-F.Call t f args) = values r.value args >>= (λ vs. r.call f vs >>= back)
expr_rule r (TypedExpr-F.CallPointer t k e args) = r.value e >>= (λ x. values r.value args >>= (λ vs. function_in x >>= (λ f. r.call f vs >>= back)))
expr_rule r (TypedExpr-F.CallService x args) = values r.value args >>= serve x
expr_rule r (TypedExpr-F.VaArg i) = next_extra i
expr_rule r (TypedExpr-F.FieldOf t e s f) = r.value e >>= (λ v. pure (part_of v (step.Field f)))
expr_rule r (TypedExpr-F.ElementOf t e i n) = r.value e >>= (λ v. r.value i >>= (λ y. bounded n (number_in y) >>= (λ k. pure (part_of v (step.Element k)))))

-- Statements

abbrev pub set_local : ℕ → Value → Act Flow
set_local l v s k = Done Normal (written (own_local l s) v s) k

abbrev pub initial_value : (TypedExpr → Act Value) → ℕ → Option TypedExpr → Act Flow
initial_value ev l None = pure Normal
initial_value ev l (Some e) = ev e >>= set_local l

-- a declarator: its local is made zero, and then its initial value is evaluated and stored
abbrev pub declare : Types → (TypedExpr → Act Value) → Declared → Act Flow
declare t ev d = pay (declarator_cost t d) (set_local d.local (zero_of t d.ty) >>= (λ flow. initial_value ev d.local d.init))

abbrev pub declare_all : Types → (TypedExpr → Act Value) → List Declared → Act Flow
declare_all t ev [] = pure Normal
declare_all t ev (d ∷ ds) = declare t ev d >>= (λ flow. declare_all t ev ds)

-- `va_start` comes in force with all extra arguments, or is no longer in force
abbrev pub begin_extras : Act Flow
begin_extras s k = Done Normal (record s { frames = with_rest (Some (extras_in s.frames)) s.frames }) k

abbrev pub end_extras : Act Flow
end_extras s k = Done Normal (record s { frames = with_rest None s.frames }) k

abbrev pub item_rule : Types → Meanings → TypedItem-F TypedItem TypedStmt → Act Flow
item_rule t r (TypedItem-F.Declare d) = declare t r.value d
item_rule t r TypedItem-F.VaList = pay 1 end_extras
item_rule t r (TypedItem-F.Stmt x) = r.statement x

-- what follows a statement that ended as one does
abbrev pub then_run : Act Flow → Flow → Act Flow
then_run next Normal = next
then_run next Broke = pure Broke
then_run next Continued = pure Continued
then_run next (Gave v) = pure (Gave v)

abbrev pub items_rule : Types → Meanings → List TypedItem → Act Flow
items_rule t r [] = pure Normal
items_rule t r (x ∷ xs) = item_rule t r (out-TypedItem x) >>= then_run (items_rule t r xs)

-- a block, which is a statement
abbrev pub block_rule : Types → Meanings → List TypedItem → Act Flow
block_rule t r xs = pay 1 (items_rule t r xs)

-- what follows a loop's body
abbrev pub again : Act Flow → Flow → Act Flow
again next Normal = next
again next Broke = pure Normal
again next Continued = next
again next (Gave v) = pure (Gave v)

-- an expression for its effect, where there is one
abbrev pub effect : (TypedExpr → Act Value) → Option TypedExpr → Act Flow
effect ev None = pure Normal
effect ev (Some e) = ev e >>= (λ v. pure Normal)

abbrev pub holds : (TypedExpr → Act Value) → Option TypedExpr → Act Bool
holds ev None = pure true
holds ev (Some e) = ev e >>= (λ v. pure (truth v))

-- a loop from its condition on, which holds where there is none
abbrev pub loop_rule : Meanings → Option TypedExpr → Option TypedExpr → TypedStmt → Act Flow
loop_rule r c n x = holds r.value c >>= (λ go. choose go (r.statement x >>= again (effect r.value n >>= (λ flow. r.loop c n x))) (pure Normal))

abbrev pub begin_rule : Types → (TypedExpr → Act Value) → ForBegin → Act Flow
begin_rule t ev (begin.Locals ds) = declare_all t ev ds
begin_rule t ev (begin.Effect e) = effect ev (Some e)
begin_rule t ev begin.Nothing = pure Normal

abbrev pub give : (TypedExpr → Act Value) → Option TypedExpr → Act Flow
give ev None = pure (Gave nothing)
give ev (Some e) = ev e >>= (λ v. pure (Gave v))

-- a statement, after its unit is paid
abbrev pub stmt_rule : Types → Meanings → TypedStmt-F TypedItem TypedStmt → Act Flow
stmt_rule t r (TypedStmt-F.Block xs) = items_rule t r xs
stmt_rule t r TypedStmt-F.Empty = pure Normal
stmt_rule t r (TypedStmt-F.Effect e) = effect r.value (Some e)
stmt_rule t r TypedStmt-F.Break = pure Broke
stmt_rule t r TypedStmt-F.Continue = pure Continued
stmt_rule t r (TypedStmt-F.If c x) = r.value c >>= (λ v. choose (truth v) (r.statement x) (pure Normal))
stmt_rule t r (TypedStmt-F.IfElse c x y) = r.value c >>= (λ v. choose (truth v) (r.statement x) (r.statement y))
stmt_rule t r (TypedStmt-F.While c x) = r.loop (Some c) None x
stmt_rule t r (TypedStmt-F.Do x c) = r.statement x >>= again (r.loop (Some c) None x)
stmt_rule t r (TypedStmt-F.For b c n x) = begin_rule t r.value b >>= (λ flow. r.loop c n x)
stmt_rule t r (TypedStmt-F.Return e) = give r.value e
stmt_rule t r TypedStmt-F.VaStart = begin_extras
stmt_rule t r TypedStmt-F.VaEnd = end_extras

-- a call of a target: a function's block in a new frame; an adjustor's units, and then its target in
-- its place; or a question
abbrev pub call_rule : Setting → Meanings → Callee → Target → List Value → Act Value
call_rule m r (Body f b) t vs = λ s. (block_rule m.types r b.block >>= leave m.types f.result)
    (opened t (m.charge t) (padded (length b.locals) (take (length f.params) vs)) (drop (length f.params) vs) s)
call_rule m r (Adjusts f a) t vs = pay (call_cost vs) (λ s. (r.call a.target (adjusted f a vs) >>= leave_adjustor) (opened t (m.charge t) [] [] s))
call_rule m r Elsewhere t vs = ask (Calls t vs)

-- the meanings of all parts, over those of their own parts
abbrev pub rules : Setting → Meanings → Meanings
rules m r = record {
  value = λ e. pay (expr_cost m.types (out-TypedExpr e)) (expr_rule r (out-TypedExpr e));
  object = λ p. pay 1 (place_rule r (out-Place p));
  statement = λ x. pay 1 (stmt_rule m.types r (out-TypedStmt x));
  loop = loop_rule r;
  call = λ t vs. call_rule m r (m.callee t) t vs;
}

abbrev pub spent : {A : Type 0} → Act A
spent s k = Spent s k

-- the rules, applied in one another to a depth
abbrev pub meanings : Setting → ℕ → Meanings
meanings m zero = record { value = λ e. spent; object = λ p. spent; statement = λ x. spent; loop = λ c n x. spent; call = λ t vs. spent }
meanings m (suc d) = rules m (meanings m d)

-- a depth that is enough for so many units: each evaluation pays at least 1, but for that of a loop,
-- whose parts do. A greater depth changes nothing
abbrev pub depth : ℕ → ℕ
depth k = 2 * k + 2

-- the meaning of each part of a program, which is what the rules say over this very meaning
abbrev pub meaning : Setting → Meanings
meaning m = record {
  value = λ e s k. (meanings m (depth k)).value e s k;
  object = λ p s k. (meanings m (depth k)).object p s k;
  statement = λ x s k. (meanings m (depth k)).statement x s k;
  loop = λ c n x s k. (meanings m (depth k)).loop c n x s k;
  call = λ t vs s k. (meanings m (depth k)).call t vs s k;
}
