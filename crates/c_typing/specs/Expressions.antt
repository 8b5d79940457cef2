-- Expressions (C11, 6.5): what each form designates, from what its parts designate. The place of a
-- fault is that of the form's operator or of a call's `(`, and else its first byte.
use Rattle.std.specs.Prelude.{ℕ, ◌-◌, Bool, true, false, not, ◌==◌, nat_lt, max, List, [], ◌∷◌, map, length, drop, Option, Some, None, option_map, option_and_then, is_some, Result, Ok, Err, slice_get, if◌then◌else◌}
use Rattle.std.specs.List.{list_all}
use Rattle.c_types.specs.declared.types.IntTy.{IntTy}
use Rattle.c_types.specs.declared.types.IntTy.TheVariants.{I32, U64}
use Rattle.c_types.specs.declared.types.Ty.{Ty}
use Rattle.c_types.specs.declared.types.Ty.TheVariants.{Void, Int, Ptr, Fun, Struct, Array}
use Rattle.c_types.specs.declared.types.FunTy.{FunTy}
use Rattle.c_types.specs.declared.types.Types.{Types}
use Rattle.c_types.specs.Layout.{size_of}
use Rattle.c_tree.specs.declared.operators.UnaryOp.{UnaryOp}
use Rattle.c_tree.specs.declared.operators.UnaryOp.TheVariants as prefix
use Rattle.c_tree.specs.declared.operators.BinaryOp.{BinaryOp}
use Rattle.c_tree.specs.declared.operators.BinaryOp.TheVariants as binary
use Rattle.c_tree.specs.declared.operators.AssignOp.{AssignOp}
use Rattle.c_tree.specs.declared.operators.AssignOp.TheVariants as assign
use Rattle.c_tree.specs.declared.operators.Selector.{Selector}
use Rattle.c_tree.specs.declared.operators.Selector.TheVariants as selector
use Rattle.c_tree.specs.declared.expressions.Name.{Name}
use Rattle.c_tree.specs.declared.expressions.Literal.{Literal}
use Rattle.c_tree.specs.declared.expressions.TypeName.{TypeName}
use Rattle.c_tree.specs.declared.expressions.Expr.{Expr, fold-Expr}
use Rattle.c_tree.specs.declared.expressions.Expr.TheOpen.{Expr-F}
use Rattle.c_program.specs.declared.expressions.Arithmetic.{Arithmetic}
use Rattle.c_program.specs.declared.expressions.Arithmetic.TheVariants as arithmetic
use Rattle.c_program.specs.declared.expressions.Comparison.{Comparison}
use Rattle.c_program.specs.declared.expressions.Comparison.TheVariants as comparison
use Rattle.c_program.specs.declared.expressions.Service.{Service}
use Rattle.c_program.specs.declared.expressions.Service.TheVariants.{PutByte, GetByte, Exit}
use Rattle.c_program.specs.declared.expressions.Target.{Target}
use Rattle.c_program.specs.declared.expressions.Place.{Place}
use Rattle.c_program.specs.declared.expressions.Place.TheVariants as place
use Rattle.c_program.specs.declared.expressions.TypedExpr.{TypedExpr}
use Rattle.c_program.specs.declared.expressions.TypedExpr.TheVariants as typed
use Rattle.c_program.specs.ValueTypes.{service_type}
use Rattle.c_typing.specs.declared.faults.Fault.{Fault}
use Rattle.c_typing.specs.declared.faults.TypeKind.TheVariants as kind
use Rattle.c_typing.specs.declared.scopes.UnitScope.{UnitScope}
use Rattle.c_typing.specs.declared.scopes.LocalScope.{LocalScope}
use Rattle.c_typing.specs.declared.operands.Value.{Value}
use Rattle.c_typing.specs.declared.operands.Designated.{Designated}
use Rattle.c_typing.specs.declared.operands.Designated.TheVariants as designated
use Rattle.c_typing.specs.declared.operands.Operand.{Operand}
use Rattle.c_typing.specs.declared.tables.Tables.{Tables}
use Rattle.c_typing.specs.Visits.{Visit, fault, or_fault, and_then, ◌>>=◌, give, refuse, judged, looked, changed, each_in_order}
use Rattle.c_typing.specs.Scopes.{named}
use Rattle.c_typing.specs.TypeForms.{is_array, is_struct, integer_in, ty_at, enter_type, object_type, field_of}
use Rattle.c_typing.specs.Conversions.{promoted, common, converted, as_value, as_scalar, converted_to, joined}

-- a value that a form gives
abbrev pub given : ℕ → Ty → TypedExpr → Operand
given at ty e = record { at = at; what = designated.Value (record { ty = ty; tree = e; literal = None }) }

abbrev pub given_int : ℕ → TypedExpr → Operand
given_int at e = given at (Int I32) e

-- a place that a form finds
abbrev pub found : ℕ → Ty → Place → Bool → Operand
found at ty p local = record { at = at; what = designated.Place ty p local }

-- an operand that must be an integer
abbrev pub integer_of : ℕ → Value → Result IntTy Fault
integer_of at v = or_fault kind.NotInteger at (integer_in v.ty)

-- Prefix operators

-- `-`, `+` and `~` work in the promoted type of an integer (6.5.3.3)
unfoldable pub negated : ℕ → Value → Result Operand Fault
negated at v = and_then (integer_of at v) (λ i. Ok (given at (Int (promoted i)) (typed.Negate (promoted i) (converted (promoted i) i v.tree))))

unfoldable pub kept : ℕ → Value → Result Operand Fault
kept at v = and_then (integer_of at v) (λ i. Ok (given at (Int (promoted i)) (typed.Same (converted (promoted i) i v.tree))))

unfoldable pub complemented : ℕ → Value → Result Operand Fault
complemented at v = and_then (integer_of at v) (λ i. Ok (given at (Int (promoted i)) (typed.Complement (promoted i) (converted (promoted i) i v.tree))))

-- `!` gives an int and converts nothing (6.5.3.3p5)
unfoldable pub denied : ℕ → Value → Result Operand Fault
denied at v = and_then (as_scalar at v) (λ e. Ok (given_int at (typed.Not e)))

abbrev pub address_of_place : ℕ → Ty → Place → Bool → Visit Tables Operand
address_of_place at ty p local =
    if is_array ty then refuse kind.NotPlace at
    else (if local then refuse kind.NoAddress at
    else (enter_type ty >>= (λ k. give (given at (Ptr k) (typed.Address (Ptr k) p)))))

abbrev pub address_of : ℕ → Designated → Visit Tables Operand
address_of at (designated.Value v) = refuse kind.NotPlace at
address_of at (designated.Place ty p local) = address_of_place at ty p local
address_of at (designated.Function k f) = give (given at (Fun k) (typed.Same (typed.Function (Fun k) f)))
address_of at (designated.Service s) = refuse kind.NotPlace at
address_of at designated.Typedef = refuse kind.NotPlace at
address_of at designated.VaList = refuse kind.NotPlace at

-- `&` of a place, which is no array (this project's own) and doesn't begin at a local, or of a
-- function's name (6.5.3.2p3)
unfoldable pub addressed : ℕ → Operand → Visit Tables Operand
addressed at o = address_of at o.what

abbrev pub target_of : ℕ → Value → Types → Ty → Result Operand Fault
target_of at v t Void = Err (fault kind.NotPointer at)
target_of at v t (Int i) = Err (fault kind.NotPointer at)
target_of at v t (Ptr k) = Ok (found at (ty_at t k) (place.Target (ty_at t k) v.tree) false)
target_of at v t (Fun k) = Ok (given at (Fun k) (typed.Same v.tree))
target_of at v t (Struct k) = Err (fault kind.NotPointer at)
target_of at v t (Array k n) = Err (fault kind.NotPointer at)

-- `*` of a pointer finds its target; of a function pointer it gives that pointer (6.5.3.2p4)
unfoldable pub pointed_at : ℕ → Value → Types → Result Operand Fault
pointed_at at v t = target_of at v t v.ty

-- a place that can be assigned (6.3.2.1p1: a modifiable lvalue)
abbrev pub assignable_at : ℕ → Designated → Result (Ty × Place) Fault
assignable_at at (designated.Value v) = Err (fault kind.NotPlace at)
assignable_at at (designated.Place ty p local) = if is_array ty then Err (fault kind.NotPlace at) else Ok (ty, p)
assignable_at at (designated.Function k f) = Err (fault kind.NotPlace at)
assignable_at at (designated.Service s) = Err (fault kind.NotPlace at)
assignable_at at designated.Typedef = Err (fault kind.NotPlace at)
assignable_at at designated.VaList = Err (fault kind.NotPlace at)

unfoldable pub as_place : ℕ → Operand → Result (Ty × Place) Fault
as_place at o = assignable_at at o.what

-- a place of integer type, for `++`, `--` and compound assignments
unfoldable pub integer_place : ℕ → Operand → Result (IntTy × Place) Fault
integer_place at o = and_then (as_place at o) (λ p. and_then (or_fault kind.NotInteger at (integer_in p.0)) (λ i. Ok (i, p.1)))

-- `++` (true) and `--` before an operand (6.5.3.1), and behind one (6.5.2.4)
unfoldable pub stepped_before : ℕ → Bool → Operand → Result Operand Fault
stepped_before at up o = and_then (integer_place at o) (λ p. Ok (given at (Int p.0) (typed.Before p.0 up p.1)))

unfoldable pub stepped_after : ℕ → Bool → Operand → Result Operand Fault
stepped_after at up o = and_then (integer_place at o) (λ p. Ok (given at (Int p.0) (typed.After p.0 up p.1)))

abbrev pub unary : UnaryOp → ℕ → Operand → Visit Tables Operand
unary prefix.Increment at o = judged (stepped_before at true o)
unary prefix.Decrement at o = judged (stepped_before at false o)
unary prefix.Negate at o = judged (and_then (as_value o) (negated at))
unary prefix.Plus at o = judged (and_then (as_value o) (kept at))
unary prefix.Complement at o = judged (and_then (as_value o) (complemented at))
unary prefix.Not at o = judged (and_then (as_value o) (denied at))
unary prefix.Address at o = addressed at o
unary prefix.Indirect at o = looked (λ t. and_then (as_value o) (λ v. pointed_at at v t.types))

-- `( inttype ) e` (6.5.4) is a conversion also where the type stays
unfoldable pub cast : ℕ → IntTy → Value → Result Operand Fault
cast at i v = and_then (integer_of at v) (λ j. Ok (given at (Int i) (typed.Convert i v.tree)))

-- Operators between two operands

abbrev pub both_integers : {A : Type 0} → ℕ → Value → Value → (IntTy → IntTy → Result A Fault) → Result A Fault
both_integers at l r next = and_then (integer_of at l) (λ i. and_then (integer_of at r) (λ j. next i j))

-- `+ - * / % & | ^` work in the common type (6.5.5, 6.5.6, 6.5.10 to 6.5.12)
unfoldable pub computed : Arithmetic → ℕ → Value → Value → Result Operand Fault
computed op at l r = both_integers at l r (λ i j. let c = common i j in Ok (given at (Int c) (typed.Binary op c (converted c i l.tree) (converted c j r.tree))))

-- `<<` and `>>` work in the promoted type of the left operand; each is promoted by itself (6.5.7p3)
unfoldable pub shifted : Arithmetic → ℕ → Value → Value → Result Operand Fault
shifted op at l r = both_integers at l r (λ i j. Ok (given at (Int (promoted i)) (typed.Binary op (promoted i) (converted (promoted i) i l.tree) (converted (promoted j) j r.tree))))

-- `< <= > >=` of integers alone (this project's own), in the common type (6.5.8p3)
unfoldable pub ordered : Comparison → ℕ → Value → Value → Result Operand Fault
ordered op at l r = both_integers at l r (λ i j. let c = common i j in Ok (given_int at (typed.Compare op (Int c) (converted c i l.tree) (converted c j r.tree))))

abbrev pub both_in : {A : Type 0} → Ty → Value → Value → (TypedExpr → TypedExpr → A) → Option A
both_in ty l r make = option_and_then (λ a. option_map (make a) (converted_to ty r)) (converted_to ty l)

abbrev pub compared_in : Comparison → Value → Value → Option Ty → Option TypedExpr
compared_in op l r None = None
compared_in op l r (Some ty) = if is_struct ty then None else both_in ty l r (typed.Compare op ty)

-- `==` and `!=` of two values that meet in a type (6.5.9); structs are never compared
unfoldable pub equated : Comparison → ℕ → Value → Value → Result Operand Fault
equated op at l r = and_then (or_fault kind.Mismatch at (compared_in op l r (joined l r))) (λ e. Ok (given_int at e))

-- `&&` and `||` (6.5.13, 6.5.14)
unfoldable pub both_true : ℕ → Value → Value → Result Operand Fault
both_true at l r = and_then (as_scalar at l) (λ a. and_then (as_scalar at r) (λ b. Ok (given_int at (typed.And a b))))

unfoldable pub either_true : ℕ → Value → Value → Result Operand Fault
either_true at l r = and_then (as_scalar at l) (λ a. and_then (as_scalar at r) (λ b. Ok (given_int at (typed.Or a b))))

abbrev pub operated : BinaryOp → ℕ → Value → Value → Result Operand Fault
operated binary.Or at l r = either_true at l r
operated binary.And at l r = both_true at l r
operated binary.BitOr at l r = computed arithmetic.BitOr at l r
operated binary.BitXor at l r = computed arithmetic.BitXor at l r
operated binary.BitAnd at l r = computed arithmetic.BitAnd at l r
operated binary.Equal at l r = equated comparison.Equal at l r
operated binary.NotEqual at l r = equated comparison.NotEqual at l r
operated binary.Less at l r = ordered comparison.Less at l r
operated binary.LessEqual at l r = ordered comparison.LessEqual at l r
operated binary.Greater at l r = ordered comparison.Greater at l r
operated binary.GreaterEqual at l r = ordered comparison.GreaterEqual at l r
operated binary.ShiftLeft at l r = shifted arithmetic.ShiftLeft at l r
operated binary.ShiftRight at l r = shifted arithmetic.ShiftRight at l r
operated binary.Add at l r = computed arithmetic.Add at l r
operated binary.Subtract at l r = computed arithmetic.Subtract at l r
operated binary.Multiply at l r = computed arithmetic.Multiply at l r
operated binary.Divide at l r = computed arithmetic.Divide at l r
operated binary.Remainder at l r = computed arithmetic.Remainder at l r

abbrev pub conditional_in : TypedExpr → Value → Value → Option Ty → Option (Ty × TypedExpr)
conditional_in c l r None = None
conditional_in c l r (Some ty) = option_map (λ e. (ty, e)) (both_in ty l r (typed.Conditional ty c))

-- `c ? l : r` (6.5.15)
unfoldable pub chosen : ℕ → Value → Value → Value → Result Operand Fault
chosen at c l r = and_then (as_scalar at c) (λ test. and_then (or_fault kind.Mismatch at (conditional_in test l r (joined l r))) (λ e. Ok (given at e.0 e.1)))

-- Assignments (6.5.16)

unfoldable pub stored : ℕ → Operand → Value → Result Operand Fault
stored at o v = and_then (as_place at o) (λ p. and_then (or_fault kind.Mismatch at (converted_to p.0 v)) (λ e. Ok (given at p.0 (typed.Assign p.0 p.1 e))))

-- the type in which a compound assignment works: that of its operator between the two values
abbrev pub work_type : Arithmetic → IntTy → IntTy → IntTy
work_type arithmetic.Add i j = common i j
work_type arithmetic.Subtract i j = common i j
work_type arithmetic.Multiply i j = common i j
work_type arithmetic.Divide i j = common i j
work_type arithmetic.Remainder i j = common i j
work_type arithmetic.BitAnd i j = common i j
work_type arithmetic.BitOr i j = common i j
work_type arithmetic.BitXor i j = common i j
work_type arithmetic.ShiftLeft i j = promoted i
work_type arithmetic.ShiftRight i j = promoted i

-- `p op= e` (6.5.16.2): the right side stands as it is, since the node includes its conversions
unfoldable pub updated : Arithmetic → ℕ → Operand → Value → Result Operand Fault
updated op at o v = and_then (integer_place at o) (λ p. and_then (integer_of at v) (λ j. Ok (given at (Int p.0) (typed.Update op p.0 (work_type op p.0 j) p.1 v.tree))))

abbrev pub assigned : AssignOp → ℕ → Operand → Value → Result Operand Fault
assigned assign.Set at o v = stored at o v
assigned assign.Add at o v = updated arithmetic.Add at o v
assigned assign.Subtract at o v = updated arithmetic.Subtract at o v
assigned assign.Multiply at o v = updated arithmetic.Multiply at o v
assigned assign.Divide at o v = updated arithmetic.Divide at o v
assigned assign.Remainder at o v = updated arithmetic.Remainder at o v
assigned assign.BitAnd at o v = updated arithmetic.BitAnd at o v
assigned assign.BitOr at o v = updated arithmetic.BitOr at o v
assigned assign.BitXor at o v = updated arithmetic.BitXor at o v
assigned assign.ShiftLeft at o v = updated arithmetic.ShiftLeft at o v
assigned assign.ShiftRight at o v = updated arithmetic.ShiftRight at o v

-- Parts of objects

abbrev pub field_at : ℕ → Option (ℕ × Ty) → (ℕ → Ty → Operand) → Result Operand Fault
field_at at None make = Err (fault kind.NoField at)
field_at at (Some f) make = Ok (make f.0 f.1)

abbrev pub field_of_place : ℕ → Types → List ℕ → Place → Bool → Ty → Result Operand Fault
field_of_place at t name p local Void = Err (fault kind.NoField at)
field_of_place at t name p local (Int i) = Err (fault kind.NoField at)
field_of_place at t name p local (Ptr k) = Err (fault kind.NoField at)
field_of_place at t name p local (Fun k) = Err (fault kind.NoField at)
field_of_place at t name p local (Struct s) = field_at at (field_of t s name) (λ f ty. found at ty (place.Field p s f) local)
field_of_place at t name p local (Array k n) = Err (fault kind.NoField at)

abbrev pub field_of_value : ℕ → Types → List ℕ → TypedExpr → Ty → Result Operand Fault
field_of_value at t name e Void = Err (fault kind.NoField at)
field_of_value at t name e (Int i) = Err (fault kind.NoField at)
field_of_value at t name e (Ptr k) = Err (fault kind.NoField at)
field_of_value at t name e (Fun k) = Err (fault kind.NoField at)
field_of_value at t name e (Struct s) = field_at at (field_of t s name) (λ f ty. given at ty (typed.FieldOf ty e s f))
field_of_value at t name e (Array k n) = Err (fault kind.NoField at)

abbrev pub dotted_in : ℕ → Types → List ℕ → Designated → Result Operand Fault
dotted_in at t name (designated.Value v) = field_of_value at t name v.tree v.ty
dotted_in at t name (designated.Place ty p local) = field_of_place at t name p local ty
dotted_in at t name (designated.Function k f) = Err (fault kind.NoField at)
dotted_in at t name (designated.Service s) = Err (fault kind.NoField at)
dotted_in at t name designated.Typedef = Err (fault kind.NoField at)
dotted_in at t name designated.VaList = Err (fault kind.NoField at)

-- `e.f` of a place is a place (6.5.2.3p3)
unfoldable pub dotted : ℕ → Operand → List ℕ → Types → Result Operand Fault
dotted at o name t = dotted_in at t name o.what

abbrev pub field_of_target : ℕ → Types → List ℕ → TypedExpr → Ty → Result Operand Fault
field_of_target at t name e Void = Err (fault kind.NoField at)
field_of_target at t name e (Int i) = Err (fault kind.NoField at)
field_of_target at t name e (Ptr k) = Err (fault kind.NoField at)
field_of_target at t name e (Fun k) = Err (fault kind.NoField at)
field_of_target at t name e (Struct s) = field_at at (field_of t s name) (λ f ty. found at ty (place.Arrow e s f) false)
field_of_target at t name e (Array k n) = Err (fault kind.NoField at)

abbrev pub arrow_in : ℕ → Types → List ℕ → TypedExpr → Ty → Result Operand Fault
arrow_in at t name e Void = Err (fault kind.NotPointer at)
arrow_in at t name e (Int i) = Err (fault kind.NotPointer at)
arrow_in at t name e (Ptr k) = field_of_target at t name e (ty_at t k)
arrow_in at t name e (Fun k) = Err (fault kind.NotPointer at)
arrow_in at t name e (Struct s) = Err (fault kind.NotPointer at)
arrow_in at t name e (Array k n) = Err (fault kind.NotPointer at)

-- `e->f` (6.5.2.3p4)
unfoldable pub arrow : ℕ → Value → List ℕ → Types → Result Operand Fault
arrow at v name t = arrow_in at t name v.tree v.ty

abbrev pub selected : Selector → ℕ → List ℕ → Operand → Visit Tables Operand
selected selector.Dot at name o = looked (λ t. dotted at o name t.types)
selected selector.Arrow at name o = looked (λ t. and_then (as_value o) (λ v. arrow at v name t.types))

abbrev pub element_of_place : ℕ → Types → Value → Place → Bool → Ty → Result Operand Fault
element_of_place at t i p local Void = Err (fault kind.NotArray at)
element_of_place at t i p local (Int j) = Err (fault kind.NotArray at)
element_of_place at t i p local (Ptr k) = Err (fault kind.NotArray at)
element_of_place at t i p local (Fun k) = Err (fault kind.NotArray at)
element_of_place at t i p local (Struct s) = Err (fault kind.NotArray at)
element_of_place at t i p local (Array k n) = and_then (integer_of at i) (λ j. Ok (found at (ty_at t k) (place.Element (ty_at t k) p i.tree n) local))

abbrev pub element_of_value : ℕ → Types → Value → TypedExpr → Ty → Result Operand Fault
element_of_value at t i e Void = Err (fault kind.NotArray at)
element_of_value at t i e (Int j) = Err (fault kind.NotArray at)
element_of_value at t i e (Ptr k) = Err (fault kind.NotArray at)
element_of_value at t i e (Fun k) = Err (fault kind.NotArray at)
element_of_value at t i e (Struct s) = Err (fault kind.NotArray at)
element_of_value at t i e (Array k n) = and_then (integer_of at i) (λ j. Ok (given at (ty_at t k) (typed.ElementOf (ty_at t k) e i.tree n)))

abbrev pub element_in : ℕ → Types → Value → Designated → Result Operand Fault
element_in at t i (designated.Value v) = element_of_value at t i v.tree v.ty
element_in at t i (designated.Place ty p local) = element_of_place at t i p local ty
element_in at t i (designated.Function k f) = Err (fault kind.NotArray at)
element_in at t i (designated.Service s) = Err (fault kind.NotArray at)
element_in at t i designated.Typedef = Err (fault kind.NotArray at)
element_in at t i designated.VaList = Err (fault kind.NotArray at)

-- `a[i]` of an array (6.5.2.1, for arrays alone); the index stays in its own type
unfoldable pub indexed : ℕ → Operand → Value → Types → Result Operand Fault
indexed at o i t = element_in at t i o.what

-- Calls (6.5.2.2)

-- each argument in its parameter's type, up to the end of either list, and the extra ones as they are;
-- nothing where one can't be converted
abbrev pub converted_arguments : List Ty → List Value → Option (List TypedExpr)
converted_arguments [] vs = Some (map (λ v. v.tree) vs)
converted_arguments (ty ∷ tys) [] = Some []
converted_arguments (ty ∷ tys) (v ∷ vs) = option_and_then (λ e. option_map (λ es. e ∷ es) (converted_arguments tys vs)) (converted_to ty v)

-- a number of arguments that fits the parameters (6.5.2.2p2)
abbrev pub is_counted : ℕ → Bool → ℕ → Bool
is_counted parameters variadic arguments = if variadic then not (nat_lt arguments parameters) else arguments == parameters

abbrev pub is_number : ℕ → Option ℕ → Bool
is_number n None = false
is_number n (Some m) = m == n

abbrev pub literal_at : List Value → ℕ → Option ℕ
literal_at vs k = option_and_then (λ (v : Value). v.literal) (slice_get vs k)

-- the last fixed argument is a number as it is written, and equals the number of extra ones (this
-- project's own)
abbrev pub tells_extras : ℕ → List Value → Bool
tells_extras parameters vs = is_number (length vs - parameters) (literal_at vs (parameters - 1))

abbrev pub are_integers : List Value → Bool
are_integers vs = list_all (λ v. is_some (integer_in v.ty)) vs

-- the rules of a call of a variadic function
abbrev pub extras_fit : ℕ → ℕ → List Value → Result (Unit {0}) Fault
extras_fit at parameters vs =
    if not (tells_extras parameters vs) then Err (fault kind.VariadicCount at)
    else (if are_integers (drop parameters vs) then Ok tt else Err (fault kind.Variadic at))

-- the arguments of a call: types, then numbers
unfoldable pub passed : ℕ → List Ty → Bool → List Value → Result (List TypedExpr) Fault
passed at params variadic vs =
    and_then (or_fault kind.Mismatch at (converted_arguments params vs)) (λ es.
    if not (is_counted (length params) variadic (length vs)) then Err (fault kind.ArgumentCount at)
    else (if variadic then and_then (extras_fit at (length params) vs) (λ u. Ok es) else Ok es))

-- the most extra arguments so far
abbrev pub with_extras : ℕ → Tables → Tables
with_extras n t = record t { extras = max t.extras n }

abbrev pub call_of : ℕ → List Value → (List TypedExpr → Ty → TypedExpr) → Option FunTy → Visit Tables Operand
call_of at vs make None = refuse kind.NotFunction at
call_of at vs make (Some f) =
    judged (passed at f.params f.variadic vs) >>= (λ es.
    changed (with_extras (length vs - length f.params)) >>= (λ u.
    give (given at f.result (make es f.result))))

-- a call of a function of the type at a place of the table
abbrev pub call_at : ℕ → ℕ → List Value → (List TypedExpr → Ty → TypedExpr) → Visit Tables Operand
call_at at k vs make t = call_of at vs make (slice_get t.types.funs k) t

unfoldable pub called_by_name : ℕ → ℕ → Target → List Value → Visit Tables Operand
called_by_name at k f vs = call_at at k vs (λ es result. typed.Call result f es)

abbrev pub pointer_call : ℕ → Value → List Value → Ty → Visit Tables Operand
pointer_call at v vs Void = refuse kind.NotFunction at
pointer_call at v vs (Int i) = refuse kind.NotFunction at
pointer_call at v vs (Ptr k) = refuse kind.NotFunction at
pointer_call at v vs (Fun k) = call_at at k vs (λ es result. typed.CallPointer result k v.tree es)
pointer_call at v vs (Struct s) = refuse kind.NotFunction at
pointer_call at v vs (Array k n) = refuse kind.NotFunction at

unfoldable pub called_by_pointer : ℕ → Value → List Value → Visit Tables Operand
called_by_pointer at v vs = pointer_call at v vs v.ty

abbrev pub service_params : Service → List Ty
service_params PutByte = Int I32 ∷ []
service_params GetByte = []
service_params Exit = Int I32 ∷ []

unfoldable pub called_service : ℕ → Service → List Value → Result Operand Fault
called_service at s vs = and_then (passed at (service_params s) false vs) (λ es. Ok (given at (service_type s) (typed.CallService s es)))

abbrev pub pointer_called : ℕ → Result Value Fault → List Value → Visit Tables Operand
pointer_called at (Ok v) vs = called_by_pointer at v vs
pointer_called at (Err e) vs = refuse kind.NotFunction at

abbrev pub called_as : ℕ → Operand → List Value → Designated → Visit Tables Operand
called_as at o vs (designated.Value v) = pointer_called at (as_value o) vs
called_as at o vs (designated.Place ty p local) = pointer_called at (as_value o) vs
called_as at o vs (designated.Function k f) = called_by_name at k f vs
called_as at o vs (designated.Service s) = judged (called_service at s vs)
called_as at o vs designated.Typedef = refuse kind.NotFunction at
called_as at o vs designated.VaList = refuse kind.NotFunction at

-- a call of a name, also one in parentheses, is a call by name; any other is one by pointer
unfoldable pub called : ℕ → Operand → List Value → Visit Tables Operand
called at o vs = called_as at o vs o.what

-- Names, numbers and types

abbrev pub name_of : UnitScope → LocalScope → Name → Result Operand Fault
name_of unit locals n = and_then (or_fault kind.Unknown n.span.start (named unit locals n.text)) (λ d. Ok (record { at = n.span.start; what = d }))

abbrev pub number_of : Literal → Operand
number_of n = record { at = n.span.start; what = designated.Value (record { ty = Int n.ty; tree = typed.Number n.ty n.value; literal = Some n.value }) }

-- `sizeof ( type )` is an unsigned long long (6.5.3.4)
unfoldable pub sized : UnitScope → ℕ → TypeName → Visit Tables Operand
sized unit at ty = object_type unit at ty.base ty.stars >>= (λ a. looked (λ t. Ok (given at (Int U64) (typed.Number U64 (size_of t.types a)))))

abbrev pub is_list : Designated → Bool
is_list (designated.Value v) = false
is_list (designated.Place ty p local) = false
is_list (designated.Function k f) = false
is_list (designated.Service s) = false
is_list designated.Typedef = false
is_list designated.VaList = true

-- a name that must be that of a `va_list` (7.16.1)
abbrev pub list_of : ℕ → Option Designated → Result (Unit {0}) Fault
list_of at None = Err (fault kind.Unknown at)
list_of at (Some d) = if is_list d then Ok tt else Err (fault kind.Mismatch at)

-- `va_arg ( ID , type )` (7.16.1.1), of integers alone
unfoldable pub next_extra : UnitScope → LocalScope → ℕ → Name → TypeName → Visit Tables Operand
next_extra unit locals at n ty =
    judged (or_fault kind.Unknown at (named unit locals n.text)) >>= (λ d.
    object_type unit at ty.base ty.stars >>= (λ a.
    judged (and_then (list_of at (Some d)) (λ u. and_then (or_fault kind.Variadic at (integer_in a)) (λ i. Ok (given at (Int i) (typed.VaArg i)))))))

-- Each form

-- what is visited is used as a value
abbrev pub value : Visit Tables Operand → Visit Tables Value
value v = v >>= (λ o. judged (as_value o))

abbrev pub visit_expr_at : UnitScope → LocalScope → Expr-F (Visit Tables Operand) → Visit Tables Operand
visit_expr_at unit locals (Expr-F.Name n) = judged (name_of unit locals n)
visit_expr_at unit locals (Expr-F.Number n) = give (number_of n)
visit_expr_at unit locals (Expr-F.Char c s) = give (given s.start (Int I32) (typed.Char c))
visit_expr_at unit locals (Expr-F.Paren s e) = e
visit_expr_at unit locals (Expr-F.VaArg s n ty) = next_extra unit locals s.start n ty
visit_expr_at unit locals (Expr-F.Call f s args) = f >>= (λ o. each_in_order (map value args) >>= (λ vs. called s.start o vs))
visit_expr_at unit locals (Expr-F.Index a s i) = a >>= (λ o. value i >>= (λ v. looked (λ t. indexed s.start o v t.types)))
visit_expr_at unit locals (Expr-F.Select e k s n) = e >>= selected k s.start n.text
visit_expr_at unit locals (Expr-F.PostIncrement e s) = e >>= (λ o. judged (stepped_after s.start true o))
visit_expr_at unit locals (Expr-F.PostDecrement e s) = e >>= (λ o. judged (stepped_after s.start false o))
visit_expr_at unit locals (Expr-F.Unary op s e) = e >>= unary op s.start
visit_expr_at unit locals (Expr-F.Cast s i w e) = value e >>= (λ v. judged (cast s.start i v))
visit_expr_at unit locals (Expr-F.SizeOf s ty) = sized unit s.start ty
visit_expr_at unit locals (Expr-F.Binary op s l r) = value l >>= (λ a. value r >>= (λ b. judged (operated op s.start a b)))
visit_expr_at unit locals (Expr-F.Conditional c s l r) = value c >>= (λ t. value l >>= (λ a. value r >>= (λ b. judged (chosen s.start t a b))))
visit_expr_at unit locals (Expr-F.Assign op s l r) = l >>= (λ o. value r >>= (λ v. judged (assigned op s.start o v)))

-- what an expression designates
unfoldable pub visit_expr : UnitScope → LocalScope → Expr → Visit Tables Operand
visit_expr unit locals = fold-Expr (Visit Tables Operand) (visit_expr_at unit locals)

-- expressions that are used as values, in order
unfoldable pub visit_values : UnitScope → LocalScope → List Expr → Visit Tables (List Value)
visit_values unit locals es = each_in_order (map (λ e. value (visit_expr unit locals e)) es)
