-- How types lie in memory: C's natural alignment, as the Microsoft x64 ABI has it ("Types and
-- storage", "Structures"): integers of 1, 2, 4 and 8 bytes, pointers of 8, each at a multiple of its
-- size; an array is its elements in a row; a struct's fields stand in order, each at the next
-- multiple of its alignment, and the size is rounded up to the largest alignment among them.
use Rattle.std.specs.Prelude.{ℕ, zero, suc, ◌+◌, ◌-◌, ◌*◌, ◌/◌, ◌<◌, ◌≤◌, max, min, cond, nat_lt, List, [], ◌∷◌, length, take, Option, Some, None, slice_get}
use Rattle.c_types.specs.declared.types.IntTy.{IntTy}
use Rattle.c_types.specs.declared.types.IntTy.TheVariants.{I8, U8, I16, U16, I32, U32, I64, U64}
use Rattle.c_types.specs.declared.types.Ty.{Ty}
use Rattle.c_types.specs.declared.types.Ty.TheVariants.{Void, Int, Ptr, Fun, Struct, Array}
use Rattle.c_types.specs.declared.types.FieldDef.{FieldDef}
use Rattle.c_types.specs.declared.types.StructDef.{StructDef}
use Rattle.c_types.specs.declared.types.Types.{Types}
use Rattle.c_types.specs.declared.parts.Extent.{Extent}

abbrev pub bytes_of : IntTy → ℕ
bytes_of I8 = 1
bytes_of U8 = 1
bytes_of I16 = 2
bytes_of U16 = 2
bytes_of I32 = 4
bytes_of U32 = 4
bytes_of I64 = 8
bytes_of U64 = 8

-- the extent of a type without parts
abbrev pub leaf_of : Ty → Option Extent
leaf_of Void = None
leaf_of (Int i) = Some (record { size = bytes_of i; align = bytes_of i })
leaf_of (Ptr k) = Some (record { size = 8; align = 8 })
leaf_of (Fun k) = Some (record { size = 8; align = 8 })
leaf_of (Struct k) = None
leaf_of (Array k n) = None

-- up to the next multiple of a
abbrev pub rounded : ℕ → ℕ → ℕ
rounded n a = (n + (a - 1)) / a * a

-- each size on the way is below 2 ^ 62
unfoldable pub below_limit : ℕ → ℕ → Option Extent
below_limit n a = cond (nat_lt n 4611686018427387904) (Some (record { size = n; align = a })) None

-- the part of a struct up to the end of one more field
abbrev pub with_field : Extent → Extent → Option Extent
with_field so e = below_limit (rounded so.size e.align + e.size) (max so.align e.align)

abbrev pub empty_struct : Extent
empty_struct = record { size = 0; align = 1 }

abbrev pub after : Option Extent → (Extent → Option Extent) → Option Extent
after None then = None
after (Some e) then = then e

-- the part of a struct up to the end of the fields, which have these extents
abbrev pub fields_from : (Ty → Option Extent) → Extent → List FieldDef → Option Extent
fields_from extents so [] = Some so
fields_from extents so (x ∷ xs) = after (extents x.ty) (λ e. after (with_field so e) (λ next. fields_from extents next xs))

abbrev pub elements : ℕ → Option Extent → Option Extent
elements n None = None
elements n (Some e) = below_limit (n * e.size) e.align

abbrev pub whole : Extent → Option Extent
whole e = below_limit (rounded e.size e.align) e.align

abbrev pub element_by : (Ty → Option Extent) → Option Ty → Option Extent
element_by extents None = None
element_by extents (Some ty) = extents ty

abbrev pub struct_by : (Ty → Option Extent) → Option StructDef → Option Extent
struct_by extents None = None
struct_by extents (Some s) = cond s.complete (after (fields_from extents empty_struct s.fields) whole) None

-- the extent of a type whose parts have these
abbrev pub extent_by : Types → (Ty → Option Extent) → Ty → Option Extent
extent_by t extents Void = None
extent_by t extents (Int i) = Some (record { size = bytes_of i; align = bytes_of i })
extent_by t extents (Ptr k) = Some (record { size = 8; align = 8 })
extent_by t extents (Fun k) = Some (record { size = 8; align = 8 })
extent_by t extents (Struct k) = struct_by extents (slice_get t.structs k)
extent_by t extents (Array k n) = elements n (element_by extents (slice_get t.tys k))

-- the extent of a type whose parts are nested less deep than the number; none for void, for what is
-- incomplete, for what is nested deeper, and where a size would reach 2 ^ 62
unfoldable pub extent_within : ℕ → Types → Ty → Option Extent
extent_within zero t ty = None
extent_within (suc d) t ty = extent_by t (extent_within d t) ty

-- no type that isn't a part of itself is nested deeper: a place is a number below 2 ^ 32
abbrev pub depth_of : Types → ℕ
depth_of t = min (length t.tys) 4294967296 + min (length t.structs) 4294967296 + 1

abbrev pub extent_of : Types → Ty → Option Extent
extent_of t ty = extent_within (depth_of t) t ty

abbrev pub size_in : Option Extent → ℕ
size_in None = 0
size_in (Some e) = e.size

abbrev pub align_in : Option Extent → ℕ
align_in None = 0
align_in (Some e) = e.align

abbrev pub size_of : Types → Ty → ℕ
size_of t ty = size_in (extent_of t ty)

abbrev pub align_of : Types → Ty → ℕ
align_of t ty = align_in (extent_of t ty)

abbrev pub place_by : Option Extent → Option Extent → Option ℕ
place_by None e = None
place_by (Some so) None = None
place_by (Some so) (Some e) = Some (rounded so.size e.align)

abbrev pub field_by : (Ty → Option Extent) → List FieldDef → ℕ → Option FieldDef → Option ℕ
field_by extents fields k None = None
field_by extents fields k (Some x) = place_by (fields_from extents empty_struct (take k fields)) (extents x.ty)

abbrev pub struct_place_by : (Ty → Option Extent) → ℕ → Option StructDef → Option ℕ
struct_place_by extents k None = None
struct_place_by extents k (Some s) = field_by extents s.fields k (slice_get s.fields k)

-- where the field k of the struct s begins, if both are there and have an extent
abbrev pub field_place_of : Types → ℕ → ℕ → Option ℕ
field_place_of t s k = struct_place_by (extent_within (depth_of t) t) k (slice_get t.structs s)

abbrev pub or_zero : Option ℕ → ℕ
or_zero None = 0
or_zero (Some n) = n

abbrev pub offset_of : Types → ℕ → ℕ → ℕ
offset_of t s k = or_zero (field_place_of t s k)

-- what each extent is
pub record IsSmall (e : Extent) : Type 0 where
  pub below : e.size < 4611686018427387904
  pub some : 0 < e.align
  pub high : e.align ≤ 8
