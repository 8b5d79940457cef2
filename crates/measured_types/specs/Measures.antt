-- What is noted of types: their extents, each with a depth within which the type has it. This is the project's own
-- note beside the layout of types, which stands in c_types with its sources; above it stands that what is found by it
-- is that layout.
use Rattle.std.specs.Prelude.{◌≡◌, ℕ, ◌-◌, ◌<◌, Bool, false, List, length, Option, Some, None, slice_get, slice_set}
use Rattle.c_types.specs.declared.types.Ty.{Ty}
use Rattle.c_types.specs.declared.types.Ty.TheVariants.{Struct}
use Rattle.c_types.specs.declared.types.FieldDef.{FieldDef}
use Rattle.c_types.specs.declared.types.StructDef.{StructDef}
use Rattle.c_types.specs.declared.types.Types.{Types}
use Rattle.c_types.specs.declared.parts.Extent.{Extent}
use Rattle.c_types.specs.Layout.{extent_within, extent_of, element_by, struct_by, fields_from, empty_struct, IsSmall}
use Rattle.measured_types.specs.declared.measure.Measured.{Measured}

-- a type has this extent
pub record IsExtent (t : Types) (ty : Ty) (e : Extent) : Type 0 where
  pub extent : extent_of t ty ≡ Some e
  pub small : IsSmall e

-- a type has this extent within this depth
pub record IsMeasure (t : Types) (ty : Ty) (m : Measured) : Type 0 where
  pub extent : extent_within m.height t ty ≡ Some m.extent
  pub small : IsSmall m.extent

-- so has the type at a place
pub record IsMeasureAt (t : Types) (place : ℕ) (m : Measured) : Type 0 where
  pub extent : element_by (extent_within m.height t) (slice_get t.tys place) ≡ Some m.extent
  pub small : IsSmall m.extent

-- the fields of a struct end so, where their types are that deep
pub record IsFieldsMeasure (t : Types) (fields : List FieldDef) (m : Measured) : Type 0 where
  pub extent : fields_from (extent_within m.height t) empty_struct fields ≡ Some m.extent
  pub small : IsSmall m.extent

-- a struct has this extent, and its fields' types are less deep
pub record IsStructMeasure (t : Types) (s : StructDef) (m : Measured) : Type 0 where
  pub some : 0 < m.height
  pub extent : struct_by (extent_within (m.height - 1) t) (Some s) ≡ Some m.extent
  pub small : IsSmall m.extent

-- What is noted of the types and of the structs, by their places: none where nothing is known.
pub record AreMeasures (t : Types) (elements structs : List (Option Measured)) : Type 0 where
  pub elements_length : length elements ≡ length t.tys
  pub structs_length : length structs ≡ length t.structs
  pub elements_known : (k : ℕ) (m : Measured) → slice_get elements k ≡ Some (Some m) → IsMeasureAt t k m
  pub structs_known : (k : ℕ) (m : Measured) → slice_get structs k ≡ Some (Some m) → IsMeasure t (Struct k) m

abbrev pub complete_in : Option StructDef → Bool
complete_in None = false
complete_in (Some s) = s.complete

-- the types with another struct at a place
abbrev pub with_struct : Types → ℕ → StructDef → Types
with_struct t place s = record t { structs = slice_set t.structs place s }

-- nothing is known
abbrev pub AreUnknown : List (Option Measured) → Type 0
AreUnknown measures = (k : ℕ) (m : Measured) → slice_get measures k ≡ Some (Some m) → ⊥
