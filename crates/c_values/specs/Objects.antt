-- Values, and the parts of them that paths lead to.
use Rattle.std.specs.Prelude.{ℕ, zero, suc, Bool, true, false, not, nat_eq, ◌&&◌, List, [], ◌∷◌, ◌++◌, map, replicate, get_or, slice_get, slice_set, Option, Some, None}
use Rattle.std.specs.Prelude.{ℤ, pos, negsuc, int_le}
use Rattle.c_types.specs.declared.types.Ty.{Ty}
use Rattle.c_types.specs.declared.types.Ty.TheVariants as ty
use Rattle.c_types.specs.declared.types.FieldDef.{FieldDef}
use Rattle.c_types.specs.declared.types.StructDef.{StructDef}
use Rattle.c_types.specs.declared.types.Types.{Types}
use Rattle.c_types.specs.Layout.{depth_of}
use Rattle.c_program.specs.declared.expressions.Target.{Target}
use Rattle.c_program.specs.declared.expressions.Target.TheVariants as to
use Rattle.c_program.specs.declared.expressions.Comparison.{Comparison}
use Rattle.c_program.specs.declared.expressions.Comparison.TheVariants as by
use Rattle.c_program.specs.declared.program.PathStep.{PathStep}
use Rattle.c_program.specs.declared.program.PathStep.TheVariants as step
use Rattle.c_values.specs.declared.value.Root.{Root}
use Rattle.c_values.specs.declared.value.Root.TheVariants as root
use Rattle.c_values.specs.declared.value.Object.{Object}
use Rattle.c_values.specs.declared.value.Value.{Value, out-Value}
use Rattle.c_values.specs.declared.value.Value.TheOpen.{Value-F}
use Rattle.c_values.specs.declared.value.Value.TheVariants as value
use Rattle.c_values.specs.Numbers.{in_order}

-- what stands where no rule of the language gives a value: a void call's value, and each part that isn't there
abbrev pub nothing : Value
nothing = value.Number (pos 0)

-- the number that a value is; 0 for any other
abbrev pub number_at : Value-F Value → ℤ
number_at (Value-F.Number z) = z
number_at Value-F.Null = pos 0
number_at (Value-F.Pointer o) = pos 0
number_at (Value-F.Function t) = pos 0
number_at (Value-F.Aggregate vs) = pos 0

unfoldable pub number_in : Value → ℤ
number_in v = number_at (out-Value v)

-- the parts of an aggregate; no other value has any
abbrev pub parts_at : Value-F Value → List Value
parts_at (Value-F.Number z) = []
parts_at Value-F.Null = []
parts_at (Value-F.Pointer o) = []
parts_at (Value-F.Function t) = []
parts_at (Value-F.Aggregate vs) = vs

unfoldable pub parts_of : Value → List Value
parts_of v = parts_at (out-Value v)

abbrev pub is_zero : ℤ → Bool
is_zero (pos zero) = true
is_zero (pos (suc n)) = false
is_zero (negsuc n) = false

-- a number other than 0, or a pointer other than null
abbrev pub truth_at : Value-F Value → Bool
truth_at (Value-F.Number z) = not (is_zero z)
truth_at Value-F.Null = false
truth_at (Value-F.Pointer o) = true
truth_at (Value-F.Function t) = true
truth_at (Value-F.Aggregate vs) = true

unfoldable pub truth : Value → Bool
truth v = truth_at (out-Value v)

-- an int, 1 for true
abbrev pub int_of : Bool → Value
int_of true = value.Number (pos 1)
int_of false = value.Number (pos 0)

abbrev pub same_step : PathStep → PathStep → Bool
same_step (step.Field a) (step.Field b) = nat_eq a b
same_step (step.Element a) (step.Element b) = nat_eq a b
same_step (step.Field a) (step.Element b) = false
same_step (step.Element a) (step.Field b) = false

abbrev pub same_path : List PathStep → List PathStep → Bool
same_path [] [] = true
same_path (a ∷ as') (b ∷ bs) = same_step a b && same_path as' bs
same_path [] (b ∷ bs) = false
same_path (a ∷ as') [] = false

abbrev pub same_root : Root → Root → Bool
same_root (root.Global a) (root.Global b) = nat_eq a b
same_root (root.Local f a) (root.Local g b) = nat_eq f g && nat_eq a b
same_root (root.Global a) (root.Local g b) = false
same_root (root.Local f a) (root.Global b) = false

abbrev pub same_target : Target → Target → Bool
same_target (to.Function a) (to.Function b) = nat_eq a b
same_target (to.Adjustor a) (to.Adjustor b) = nat_eq a b
same_target (to.Function a) (to.Adjustor b) = false
same_target (to.Adjustor a) (to.Function b) = false

abbrev pub same_number : ℤ → ℤ → Bool
same_number a b = int_le a b && int_le b a

-- numbers, pointers and functions are compared, each with its kind
abbrev pub same_at : Value-F Value → Value-F Value → Bool
same_at (Value-F.Number a) (Value-F.Number b) = same_number a b
same_at Value-F.Null Value-F.Null = true
same_at (Value-F.Pointer a) (Value-F.Pointer b) = same_root a.root b.root && same_path a.path b.path
same_at (Value-F.Function a) (Value-F.Function b) = same_target a b
same_at _ _ = false

unfoldable pub same_value : Value → Value → Bool
same_value a b = same_at (out-Value a) (out-Value b)

unfoldable pub compared : Comparison → Value → Value → Bool
compared by.Equal a b = same_value a b
compared by.NotEqual a b = not (same_value a b)
compared by.Less a b = in_order by.Less (number_in a) (number_in b)
compared by.LessEqual a b = in_order by.LessEqual (number_in a) (number_in b)
compared by.Greater a b = in_order by.Greater (number_in a) (number_in b)
compared by.GreaterEqual a b = in_order by.GreaterEqual (number_in a) (number_in b)

-- the zero of a type whose parts have these: 0, null, or the zeros of all parts (6.7.9, paragraph 10)
abbrev pub zero_field : (Ty → Value) → FieldDef → Value
zero_field zeros f = zeros f.ty

abbrev pub zero_struct : (Ty → Value) → Option StructDef → List Value
zero_struct zeros None = []
zero_struct zeros (Some s) = map (zero_field zeros) s.fields

abbrev pub zero_element : (Ty → Value) → Option Ty → Value
zero_element zeros None = nothing
zero_element zeros (Some t) = zeros t

abbrev pub zero_by : Types → (Ty → Value) → Ty → Value
zero_by t zeros ty.Void = nothing
zero_by t zeros (ty.Int i) = value.Number (pos 0)
zero_by t zeros (ty.Ptr k) = value.Null
zero_by t zeros (ty.Fun k) = value.Null
zero_by t zeros (ty.Struct k) = value.Aggregate (zero_struct zeros (slice_get t.structs k))
zero_by t zeros (ty.Array k n) = value.Aggregate (replicate n (zero_element zeros (slice_get t.tys k)))

-- of a type whose parts are nested less deep than the number
unfoldable pub zero_within : ℕ → Types → Ty → Value
zero_within zero t a = nothing
zero_within (suc d) t a = zero_by t (zero_within d t) a

abbrev pub zero_of : Types → Ty → Value
zero_of t a = zero_within (depth_of t) t a

-- the number of a part
abbrev pub place_in : PathStep → ℕ
place_in (step.Field k) = k
place_in (step.Element k) = k

abbrev pub part_of : Value → PathStep → Value
part_of v p = get_or (parts_of v) (place_in p) nothing

-- what stands where a path leads
unfoldable pub read_path : Value → List PathStep → Value
read_path v [] = v
read_path v (p ∷ ps) = read_path (part_of v p) ps

-- an aggregate with another part; a value without parts stays as it is
abbrev pub with_part : Value-F Value → Value → ℕ → Value → Value
with_part (Value-F.Number z) v k new = v
with_part Value-F.Null v k new = v
with_part (Value-F.Pointer o) v k new = v
with_part (Value-F.Function t) v k new = v
with_part (Value-F.Aggregate vs) v k new = value.Aggregate (slice_set vs k new)

-- the same value but for what stands there, which is new
unfoldable pub write_path : Value → List PathStep → Value → Value
write_path v [] new = new
write_path v (p ∷ ps) new = with_part (out-Value v) v (place_in p) (write_path (part_of v p) ps new)

-- the object one step further in
abbrev pub inner : Object → PathStep → Object
inner o p = record o { path = o.path ++ p ∷ [] }
