-- The forms of types (C11, 6.2.5, 6.7.2, 6.7.6): what a base, stars and lengths in brackets name. The
-- types of pointers' targets and arrays' elements stand in a table, and so do those of functions. A
-- type is entered at the end of its table where it isn't there yet, so that types are equal exactly
-- where they are written the same, and the tables are those of the order of visit (this project's own).
use Rattle.std.specs.Prelude.{ℕ, ◌+◌, ◌*◌, Bool, true, false, not, ◌&&◌, ◌==◌, nat_le, nat_lt, List, [], ◌∷◌, ◌++◌, length, Option, Some, None, Ok, slice_get, unwrap_or, position, bytes_eq, if◌then◌else◌}
use Rattle.c_types.specs.declared.types.Span.{Span}
use Rattle.c_types.specs.declared.types.IntTy.{IntTy}
use Rattle.c_types.specs.declared.types.IntTy.TheVariants.{I8, U8, I16, U16, I32, U32, I64, U64}
use Rattle.c_types.specs.declared.types.Ty.{Ty}
use Rattle.c_types.specs.declared.types.Ty.TheVariants.{Void, Int, Ptr, Fun, Struct, Array}
use Rattle.c_types.specs.declared.types.FunTy.{FunTy}
use Rattle.c_types.specs.declared.types.FieldDef.{FieldDef}
use Rattle.c_types.specs.declared.types.StructDef.{StructDef}
use Rattle.c_types.specs.declared.types.Types.{Types}
use Rattle.c_types.specs.declared.parts.Extent.{Extent}
use Rattle.c_types.specs.Layout.{bytes_of, size_of}
use Rattle.c_tree.specs.declared.expressions.Base.{Base}
use Rattle.c_tree.specs.declared.expressions.Base.TheVariants as base
use Rattle.c_tree.specs.declared.expressions.Literal.{Literal}
use Rattle.c_tree.specs.declared.expressions.TypeName.{TypeName}
use Rattle.c_tree.specs.declared.declarations.Decl.{Decl}
use Rattle.c_typing.specs.declared.faults.TypeKind.TheVariants.{Unknown, Incomplete, BadType}
use Rattle.c_typing.specs.declared.scopes.Meaning.{Meaning}
use Rattle.c_typing.specs.declared.scopes.Meaning.TheVariants.{Typedef, Function, Adjustor, Global}
use Rattle.c_typing.specs.declared.scopes.UnitTag.{UnitTag}
use Rattle.c_typing.specs.declared.scopes.UnitScope.{UnitScope}
use Rattle.c_typing.specs.declared.tables.Tables.{Tables}
use Rattle.c_typing.specs.Visits.{Visit, ◌>>=◌, give, refuse}
use Rattle.c_typing.specs.Scopes.{meaning_in, tag_in}

-- plain `char` is signed (6.2.5p15: this project's choice)
abbrev pub is_signed : IntTy → Bool
is_signed I8 = true
is_signed U8 = false
is_signed I16 = true
is_signed U16 = false
is_signed I32 = true
is_signed U32 = false
is_signed I64 = true
is_signed U64 = false

abbrev pub same_bool : Bool → Bool → Bool
same_bool true b = b
same_bool false b = not b

abbrev pub same_int : IntTy → IntTy → Bool
same_int i j = bytes_of i == bytes_of j && same_bool (is_signed i) (is_signed j)

abbrev pub same_type : Ty → Ty → Bool
same_type Void Void = true
same_type (Int i) (Int j) = same_int i j
same_type (Ptr k) (Ptr m) = k == m
same_type (Fun k) (Fun m) = k == m
same_type (Struct k) (Struct m) = k == m
same_type (Array k a) (Array m b) = k == m && a == b
same_type s t = false

abbrev pub same_types : List Ty → List Ty → Bool
same_types [] [] = true
same_types (s ∷ ss) (t ∷ ts) = same_type s t && same_types ss ts
same_types ss ts = false

-- function types are equal where results, parameters and marks are (6.7.6.3p15)
abbrev pub same_function : FunTy → FunTy → Bool
same_function f g = same_type f.result g.result && same_types f.params g.params && same_bool f.variadic g.variadic

abbrev pub is_void : Ty → Bool
is_void Void = true
is_void (Int i) = false
is_void (Ptr k) = false
is_void (Fun k) = false
is_void (Struct k) = false
is_void (Array k n) = false

abbrev pub is_array : Ty → Bool
is_array Void = false
is_array (Int i) = false
is_array (Ptr k) = false
is_array (Fun k) = false
is_array (Struct k) = false
is_array (Array k n) = true

abbrev pub is_struct : Ty → Bool
is_struct Void = false
is_struct (Int i) = false
is_struct (Ptr k) = false
is_struct (Fun k) = false
is_struct (Struct k) = true
is_struct (Array k n) = false

-- a pointer to an object or to a function
abbrev pub is_pointer : Ty → Bool
is_pointer Void = false
is_pointer (Int i) = false
is_pointer (Ptr k) = true
is_pointer (Fun k) = true
is_pointer (Struct k) = false
is_pointer (Array k n) = false

abbrev pub integer_in : Ty → Option IntTy
integer_in Void = None
integer_in (Int i) = Some i
integer_in (Ptr k) = None
integer_in (Fun k) = None
integer_in (Struct k) = None
integer_in (Array k n) = None

-- no array and no struct is greater (this project's own)
abbrev pub most_bytes : ℕ
most_bytes = 33554432

-- Tables of types

-- the type at a place of a table
abbrev pub ty_at : Types → ℕ → Ty
ty_at t k = unwrap_or (slice_get t.tys k) Void

-- the place of a type that is in the table, and else the table's end
abbrev pub place_in : {A : Type 0} → List A → Option ℕ → ℕ
place_in xs None = length xs
place_in xs (Some k) = k

abbrev pub grown : {A : Type 0} → List A → A → Option ℕ → List A
grown xs x None = xs ++ x ∷ []
grown xs x (Some k) = xs

abbrev pub with_tys : List Ty → Tables → Tables
with_tys tys t = record t { types = record t.types { tys = tys } }

abbrev pub with_funs : List FunTy → Tables → Tables
with_funs funs t = record t { types = record t.types { funs = funs } }

-- the place of a pointer's target or an array's element
unfoldable pub enter_type : Ty → Visit Tables ℕ
enter_type ty t = let found = position (same_type ty) t.types.tys in Ok (place_in t.types.tys found, with_tys (grown t.types.tys ty found) t)

-- the place of a function's type
unfoldable pub enter_function : FunTy → Visit Tables ℕ
enter_function f t = let found = position (same_function f) t.types.funs in Ok (place_in t.types.funs found, with_funs (grown t.types.funs f found) t)

-- Types as they are written

-- a type, and whether it is complete (6.2.5p22); a struct is, once its definition has ended
pub record Formed : Type 0 where
  pub ty : Ty
  pub complete : Bool

abbrev pub complete_type : Ty → Formed
complete_type ty = record { ty = ty; complete = true }

abbrev pub of_tag : Option UnitTag → Option Formed
of_tag None = None
of_tag (Some t) = Some (record { ty = Struct t.place; complete = t.complete })

-- a typedef's name is a pointer to functions; a name of another sort is no type
abbrev pub of_typedef : Option Meaning → Option Formed
of_typedef None = None
of_typedef (Some (Typedef k)) = Some (complete_type (Fun k))
of_typedef (Some (Function f k)) = None
of_typedef (Some (Adjustor a k)) = None
of_typedef (Some (Global g ty)) = None

-- what a base names; nothing where its name or tag isn't declared in the unit
abbrev pub base_type : UnitScope → Base → Option Formed
base_type unit (base.Void s) = Some (complete_type Void)
base_type unit (base.Int i s) = Some (complete_type (Int i))
base_type unit (base.Struct s tag) = of_tag (tag_in unit.tags tag.text)
base_type unit (base.Named name) = of_typedef (meaning_in unit.names name.text)

-- a pointer for each star
unfoldable pub pointer_type : List Span → Ty → Visit Tables Ty
pointer_type [] ty = give ty
pointer_type (s ∷ ss) ty = enter_type ty >>= (λ k. pointer_type ss (Ptr k))

-- there is no pointer to void; any other pointer is complete
unfoldable pub starred : ℕ → List Span → Formed → Visit Tables Formed
starred at [] b = give b
starred at (s ∷ ss) b = if is_void b.ty then refuse BadType at else (pointer_type (s ∷ ss) b.ty >>= (λ ty. give (complete_type ty)))

abbrev pub starred_if : ℕ → List Span → Option Formed → Visit Tables Formed
starred_if at stars None = refuse Unknown at
starred_if at stars (Some b) = starred at stars b

-- a base and its stars; a fault lies at the given byte, that of the part whose type this is
unfoldable pub formed_type : UnitScope → ℕ → Base → List Span → Visit Tables Formed
formed_type unit at b stars = starred_if at stars (base_type unit b)

-- what a function may give: a complete type or void
abbrev pub result_of : ℕ → Formed → Visit Tables Ty
result_of at b = if b.complete then give b.ty else refuse Incomplete at

-- what an object may have: a complete type that isn't void
abbrev pub object_of : ℕ → Formed → Visit Tables Ty
object_of at b = if b.complete then (if is_void b.ty then refuse BadType at else give b.ty) else refuse Incomplete at

unfoldable pub result_type : UnitScope → ℕ → TypeName → Visit Tables Ty
result_type unit at t = formed_type unit at t.base t.stars >>= result_of at

unfoldable pub object_type : UnitScope → ℕ → Base → List Span → Visit Tables Ty
object_type unit at b stars = formed_type unit at b stars >>= object_of at

-- so many elements of a type
unfoldable pub array_type : ℕ → ℕ → Ty → Visit Tables Ty
array_type at n ty t =
    (if n == 0 then refuse BadType at
    else (if nat_lt most_bytes (n * size_of t.types ty) then refuse BadType at
    else (enter_type ty >>= (λ k. give (Array k n))))) t

-- lengths in brackets, of which the last is the innermost array's (6.7.6.2)
unfoldable pub array_types : ℕ → List Literal → Ty → Visit Tables Ty
array_types at [] ty = give ty
array_types at (n ∷ ns) ty = array_types at ns ty >>= array_type at n.value

-- the type of a declarator (6.7.6), whose faults lie at its name
unfoldable pub declared_type : UnitScope → Base → Decl → Visit Tables Ty
declared_type unit b d = object_type unit d.name.span.start b d.stars >>= array_types d.name.span.start d.lengths

abbrev pub is_within : ℕ → Option Extent → Bool
is_within most None = false
is_within most (Some e) = nat_le e.size most

-- Fields

-- a field's number and type
abbrev pub field_from : ℕ → List FieldDef → List ℕ → Option (ℕ × Ty)
field_from k [] name = None
field_from k (f ∷ fs) name = if bytes_eq f.name name then Some (k, f.ty) else field_from (k + 1) fs name

abbrev pub fields_in : Option StructDef → List FieldDef
fields_in None = []
fields_in (Some d) = d.fields

abbrev pub fields_at : Types → ℕ → List FieldDef
fields_at t s = fields_in (slice_get t.structs s)

unfoldable pub field_of : Types → ℕ → List ℕ → Option (ℕ × Ty)
field_of t s name = field_from 0 (fields_at t s) name
