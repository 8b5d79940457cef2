-- Initial values of globals (C11, 6.7.9): constants, each of the type of the part that it is for. The
-- values in braces are judged first, and then the braces; a value for which there is no part, and so no
-- type, has the faults that it has for every type.
use Rattle.std.specs.Prelude.{ℕ, ◌+◌, ◌-◌, ◌^◌, ℤ, Bool, true, false, ◌&&◌, ◌||◌, ◌==◌, nat_lt, nat_le, List, [], ◌∷◌, ◌++◌, map, length, Option, Some, None, option_and_then, option_map, is_some, Result, Ok, Err, slice_get, if◌then◌else◌}
use Rattle.hx_words.specs.TwosComplement.{bits_of}
use Rattle.c_types.specs.declared.types.Span.{Span}
use Rattle.c_types.specs.declared.types.IntTy.{IntTy}
use Rattle.c_types.specs.declared.types.Ty.{Ty}
use Rattle.c_types.specs.declared.types.Ty.TheVariants.{Void, Int, Ptr, Fun, Struct, Array}
use Rattle.c_types.specs.declared.types.FieldDef.{FieldDef}
use Rattle.c_types.specs.declared.types.Types.{Types}
use Rattle.c_types.specs.Layout.{bytes_of}
use Rattle.c_tree.specs.declared.expressions.Name.{Name}
use Rattle.c_tree.specs.declared.expressions.Literal.{Literal}
use Rattle.c_tree.specs.declared.declarations.Step.{Step}
use Rattle.c_tree.specs.declared.declarations.Step.TheVariants as step
use Rattle.c_tree.specs.declared.declarations.Init.{Init, fold-Init}
use Rattle.c_tree.specs.declared.declarations.Init.TheOpen.{Init-F}
use Rattle.c_program.specs.declared.expressions.Target.{Target}
use Rattle.c_program.specs.declared.expressions.Target.TheVariants as target
use Rattle.c_program.specs.declared.program.PathStep.{PathStep}
use Rattle.c_program.specs.declared.program.PathStep.TheVariants as path
use Rattle.c_program.specs.declared.program.Constant.{Constant}
use Rattle.c_program.specs.declared.program.Constant.TheVariants as constant
use Rattle.c_typing.specs.declared.faults.Fault.{Fault}
use Rattle.c_typing.specs.declared.faults.TypeKind.TheVariants as kind
use Rattle.c_typing.specs.declared.scopes.Meaning.{Meaning}
use Rattle.c_typing.specs.declared.scopes.Meaning.TheVariants.{Typedef, Function, Adjustor, Global}
use Rattle.c_typing.specs.declared.scopes.UnitScope.{UnitScope}
use Rattle.c_typing.specs.Visits.{fault, and_then}
use Rattle.c_typing.specs.Scopes.{meaning_in, service_named}
use Rattle.c_typing.specs.TypeForms.{same_type, is_array, ty_at, fields_at, field_of}
use Rattle.c_typing.specs.Conversions.{number_in}

-- what an initial value gives to a part of a type
abbrev pub TypedVisit : Type 0
TypedVisit = Ty → Result Constant Fault

-- and to a part that may not be there
abbrev pub InitVisit : Type 0
InitVisit = Option Ty → Result Constant Fault

-- where there is no part nothing hangs on a type
abbrev pub for_type : TypedVisit → InitVisit
for_type visit None = Ok constant.Zero
for_type visit (Some ty) = visit ty

-- a number as it is written, with a `-` before it or not, in 64 bits: `-` works in its type (6.5.3.3p3)
abbrev pub written : Option Span → Literal → ℕ
written None n = n.value
written (Some s) n = number_in n.ty (2 ^ 64 - n.value)

-- the literal 0 as a pointer has no `-`
abbrev pub is_null_literal : Option Span → Literal → Bool
is_null_literal None n = n.value == 0
is_null_literal (Some s) n = false

abbrev pub number_at : ℕ → Option Span → Literal → TypedVisit
number_at at m n Void = Err (fault kind.BadInitial at)
number_at at m n (Int i) = Ok (constant.Number i (number_in i (written m n)))
number_at at m n (Ptr k) = if is_null_literal m n then Ok constant.Zero else Err (fault kind.BadInitial at)
number_at at m n (Fun k) = if is_null_literal m n then Ok constant.Zero else Err (fault kind.BadInitial at)
number_at at m n (Struct s) = Err (fault kind.BadInitial at)
number_at at m n (Array k l) = Err (fault kind.BadInitial at)

-- a number of some integer type alone
abbrev pub char_at : ℕ → ℤ → TypedVisit
char_at at c Void = Err (fault kind.BadInitial at)
char_at at c (Int i) = Ok (constant.Number i (number_in i (bits_of 64 c)))
char_at at c (Ptr k) = Err (fault kind.BadInitial at)
char_at at c (Fun k) = Err (fault kind.BadInitial at)
char_at at c (Struct s) = Err (fault kind.BadInitial at)
char_at at c (Array k l) = Err (fault kind.BadInitial at)

abbrev pub chars : IntTy → List ℕ → List Constant
chars i bytes = map (λ b. constant.Number i (number_in i b)) bytes

abbrev pub text_in : ℕ → List ℕ → ℕ → Ty → Result Constant Fault
text_in at bytes l Void = Err (fault kind.BadInitial at)
text_in at bytes l (Int i) = if bytes_of i == 1 && nat_le (length bytes) l then Ok (constant.List (chars i bytes)) else Err (fault kind.BadInitial at)
text_in at bytes l (Ptr k) = Err (fault kind.BadInitial at)
text_in at bytes l (Fun k) = Err (fault kind.BadInitial at)
text_in at bytes l (Struct s) = Err (fault kind.BadInitial at)
text_in at bytes l (Array k n) = Err (fault kind.BadInitial at)

-- a text is for an array of signed or unsigned chars, whose end may drop the closing zero (6.7.9p14)
abbrev pub text_at : ℕ → Types → List ℕ → TypedVisit
text_at at t bytes Void = Err (fault kind.BadInitial at)
text_at at t bytes (Int i) = Err (fault kind.BadInitial at)
text_at at t bytes (Ptr k) = Err (fault kind.BadInitial at)
text_at at t bytes (Fun k) = Err (fault kind.BadInitial at)
text_at at t bytes (Struct s) = Err (fault kind.BadInitial at)
text_at at t bytes (Array k l) = text_in at bytes l (ty_at t k)

-- Names

-- the part of a global that a name with steps behind it stands for, if each index is inside its array
pub record Part : Type 0 where
  pub ty : Ty
  pub steps : List PathStep
  pub inside : Bool

abbrev pub field_part : ℕ → Option (ℕ × Ty) → Result Part Fault
field_part at None = Err (fault kind.NoField at)
field_part at (Some f) = Ok (record { ty = f.1; steps = path.Field f.0 ∷ []; inside = true })

abbrev pub field_in : ℕ → Types → List ℕ → Ty → Result Part Fault
field_in at t name Void = Err (fault kind.NoField at)
field_in at t name (Int i) = Err (fault kind.NoField at)
field_in at t name (Ptr k) = Err (fault kind.NoField at)
field_in at t name (Fun k) = Err (fault kind.NoField at)
field_in at t name (Struct s) = field_part at (field_of t s name)
field_in at t name (Array k l) = Err (fault kind.NoField at)

abbrev pub element_in : ℕ → Types → ℕ → Ty → Result Part Fault
element_in at t n Void = Err (fault kind.NotArray at)
element_in at t n (Int i) = Err (fault kind.NotArray at)
element_in at t n (Ptr k) = Err (fault kind.NotArray at)
element_in at t n (Fun k) = Err (fault kind.NotArray at)
element_in at t n (Struct s) = Err (fault kind.NotArray at)
element_in at t n (Array k l) = Ok (record { ty = ty_at t k; steps = path.Element n ∷ []; inside = nat_lt n l })

-- `.` finds a field and `[` an element
abbrev pub one_step : Types → Step → Ty → Result Part Fault
one_step t (step.Field s n) ty = field_in s.start t n.text ty
one_step t (step.Index s n) ty = element_in s.start t n.value ty

unfoldable pub part_by_steps : Types → List Step → Ty → Result Part Fault
part_by_steps t [] ty = Ok (record { ty = ty; steps = []; inside = true })
part_by_steps t (x ∷ xs) ty = and_then (one_step t x ty) (λ p. and_then (part_by_steps t xs p.ty) (λ q. Ok (record { ty = q.ty; steps = p.steps ++ q.steps; inside = p.inside && q.inside })))

-- the first step of a path into what has no parts
abbrev pub no_part : List Step → Result (Unit {0}) Fault
no_part [] = Ok tt
no_part (step.Field s n ∷ xs) = Err (fault kind.NoField s.start)
no_part (step.Index s n ∷ xs) = Err (fault kind.NotArray s.start)

-- what has no value, and no address after `&`
abbrev pub valueless : ℕ → Option Span → Result Constant Fault
valueless at None = Err (fault kind.NotValue at)
valueless at (Some a) = Err (fault kind.NotPlace at)

abbrev pub function_at : ℕ → ℕ → Target → TypedVisit
function_at at k f ty = if same_type (Fun k) ty then Ok (constant.Function f) else Err (fault kind.BadInitial at)

abbrev pub address_at : ℕ → ℕ → Types → Part → TypedVisit
address_at at g t p Void = Err (fault kind.BadInitial at)
address_at at g t p (Int i) = Err (fault kind.BadInitial at)
address_at at g t p (Ptr k) = if same_type (ty_at t k) p.ty then Ok (constant.Address g p.steps) else Err (fault kind.BadInitial at)
address_at at g t p (Fun k) = Err (fault kind.BadInitial at)
address_at at g t p (Struct s) = Err (fault kind.BadInitial at)
address_at at g t p (Array k l) = Err (fault kind.BadInitial at)

-- a part of a global: an array has neither a value nor an address here, the value of another part is no
-- constant, and nor is an address past the end of an array
abbrev pub part_at : ℕ → Option Span → ℕ → Types → Part → InitVisit
part_at at a g t p ty =
    if is_array p.ty then valueless at a
    else (if is_some a && p.inside then for_type (address_at at g t p) ty else Err (fault kind.BadInitial at))

-- the names of services mean nothing in a unit
abbrev pub name_means : ℕ → Types → Option Span → List Step → Option Meaning → InitVisit
name_means at t a xs None ty = and_then (no_part xs) (λ u. valueless at a)
name_means at t a xs (Some (Typedef k)) ty = and_then (no_part xs) (λ u. valueless at a)
name_means at t a xs (Some (Function f k)) ty = and_then (no_part xs) (λ u. for_type (function_at at k (target.Function f)) ty)
name_means at t a xs (Some (Adjustor f k)) ty = and_then (no_part xs) (λ u. for_type (function_at at k (target.Adjustor f)) ty)
name_means at t a xs (Some (Global g s)) ty = and_then (part_by_steps t xs s) (λ p. part_at at a g t p ty)

-- the address of a part of a global after `&`, or a function with `&` or without (6.6p9)
abbrev pub name_at : ℕ → UnitScope → Types → Option Span → Name → List Step → InitVisit
name_at at unit t a n xs ty =
    if is_some (meaning_in unit.names n.text) || is_some (service_named n.text) then name_means at t a xs (meaning_in unit.names n.text) ty
    else Err (fault kind.Unknown at)

-- Values in braces

-- the type of the part of a number, from 0: a struct's field, or an array's element
abbrev pub part_in : Types → ℕ → Ty → Option Ty
part_in t n Void = None
part_in t n (Int i) = None
part_in t n (Ptr k) = None
part_in t n (Fun k) = None
part_in t n (Struct s) = option_map (λ (f : FieldDef). f.ty) (slice_get (fields_at t s) n)
part_in t n (Array k l) = if nat_lt n l then Some (ty_at t k) else None

abbrev pub part_type : Types → ℕ → Option Ty → Option Ty
part_type t n ty = option_and_then (part_in t n) ty

-- whether a type has so many parts
abbrev pub has_parts : Types → ℕ → Ty → Bool
has_parts t n Void = false
has_parts t n (Int i) = false
has_parts t n (Ptr k) = false
has_parts t n (Fun k) = false
has_parts t n (Struct s) = nat_le n (length (fields_at t s))
has_parts t n (Array k l) = nat_le n l

abbrev pub listed : Result Constant Fault → Result (List Constant) Fault → Result (List Constant) Fault
listed first rest = and_then first (λ c. and_then rest (λ cs. Ok (c ∷ cs)))

-- values for the parts of a type from a number on
unfoldable pub for_parts : Types → Option Ty → ℕ → List InitVisit → Result (List Constant) Fault
for_parts t ty n [] = Ok []
for_parts t ty n (v ∷ vs) = listed (v (part_type t n ty)) (for_parts t ty (n + 1) vs)

-- the values together, of which there are no more than parts
abbrev pub braced : ℕ → Types → List Constant → TypedVisit
braced at t cs ty = if has_parts t (length cs) ty then Ok (constant.List cs) else Err (fault kind.BadInitial at)

-- braces stand round the values of a struct or an array, and round each part of these that is a struct
-- or an array itself (6.7.9p16, without p20)
abbrev pub list_at : ℕ → Types → List InitVisit → InitVisit
list_at at t vs ty = and_then (for_parts t ty 0 vs) (λ cs. for_type (braced at t cs) ty)

-- where an initial value begins
abbrev pub start_or : Option Span → ℕ → ℕ
start_or None at = at
start_or (Some s) at = s.start

abbrev pub visit_init_at : UnitScope → Types → Init-F InitVisit → InitVisit
visit_init_at unit t (Init-F.Number m n) ty = for_type (number_at (start_or m n.span.start) m n) ty
visit_init_at unit t (Init-F.Char c s) ty = for_type (char_at s.start c) ty
visit_init_at unit t (Init-F.Text bytes s) ty = for_type (text_at s.start t bytes) ty
visit_init_at unit t (Init-F.Name a n xs) ty = name_at (start_or a n.span.start) unit t a n xs ty
visit_init_at unit t (Init-F.List s vs) ty = list_at s.start t vs ty

unfoldable pub visit_init : UnitScope → Types → Init → InitVisit
visit_init unit t = fold-Init InitVisit (visit_init_at unit t)

-- what a global holds where it has no initial value (6.7.9p10)
abbrev pub visit_optional_init : UnitScope → Types → Option Init → TypedVisit
visit_optional_init unit t None ty = Ok constant.Zero
visit_optional_init unit t (Some i) ty = visit_init unit t i (Some ty)
