-- Definitions of structs (C11, 6.7.2.1). A struct is named by its tag over the whole program, and each
-- unit that uses it defines it, alike (6.2.7p1).
use Rattle.std.specs.Prelude.{ℕ, Bool, true, false, ◌&&◌, List, [], ◌∷◌, ◌++◌, map, Option, Some, None, Result, Ok, Err, slice_get, slice_set, position, bytes_eq, if◌then◌else◌}
use Rattle.std.specs.List.{list_any}
use Rattle.c_types.specs.declared.types.Ty.TheVariants.{Struct}
use Rattle.c_types.specs.declared.types.FieldDef.{FieldDef}
use Rattle.c_types.specs.declared.types.StructDef.{StructDef}
use Rattle.c_types.specs.Layout.{extent_of}
use Rattle.c_tree.specs.declared.expressions.Name.{Name}
use Rattle.c_tree.specs.declared.expressions.Base.{Base}
use Rattle.c_tree.specs.declared.declarations.Decl.{Decl}
use Rattle.c_tree.specs.declared.declarations.Field.{Field}
use Rattle.c_typing.specs.declared.faults.Fault.{Fault}
use Rattle.c_typing.specs.declared.faults.TypeKind.TheVariants as kind
use Rattle.c_typing.specs.declared.scopes.UnitTag.{UnitTag}
use Rattle.c_typing.specs.declared.scopes.UnitScope.{UnitScope}
use Rattle.c_typing.specs.declared.tables.Tables.{Tables}
use Rattle.c_typing.specs.declared.tables.Progress.{Progress}
use Rattle.c_typing.specs.Visits.{Visit, fault, ◌>>=◌, give, refuse}
use Rattle.c_typing.specs.Scopes.{tag_in}
use Rattle.c_typing.specs.UnitVisits.{with_scope}
use Rattle.c_typing.specs.TypeForms.{same_type, declared_type, is_within, most_bytes, place_in, grown}

-- Fields

abbrev pub is_field : List FieldDef → List ℕ → Bool
is_field fs name = list_any (λ f. bytes_eq f.name name) fs

-- one more field, behind those so far; each has a name of its own
unfoldable pub visit_field : UnitScope → Base → List FieldDef → Decl → Visit Tables (List FieldDef)
visit_field unit b so d =
    if is_field so d.name.text then refuse kind.Redeclared d.name.span.start
    else (declared_type unit b d >>= (λ ty. give (so ++ (record { name = d.name.text; ty = ty }) ∷ [])))

unfoldable pub visit_field_decls : UnitScope → Base → List FieldDef → List Decl → Visit Tables (List FieldDef)
visit_field_decls unit b so [] = give so
visit_field_decls unit b so (d ∷ ds) = visit_field unit b so d >>= (λ next. visit_field_decls unit b next ds)

unfoldable pub visit_fields : UnitScope → List FieldDef → List Field → Visit Tables (List FieldDef)
visit_fields unit so [] = give so
visit_fields unit so (f ∷ fs) = visit_field_decls unit f.base so f.decls >>= (λ next. visit_fields unit next fs)

-- Structs

abbrev pub struct_named : List StructDef → List ℕ → Option ℕ
struct_named ss name = position (λ s. bytes_eq s.tag name) ss

abbrev pub unknown_struct : List ℕ → StructDef
unknown_struct name = record { tag = name; fields = []; complete = false }

abbrev pub with_structs : List StructDef → Progress → Progress
with_structs ss p = record p { tables = record p.tables { types = record p.tables.types { structs = ss } } }

abbrev pub with_tag : UnitTag → Progress → Progress
with_tag tag p = record p { scope = record p.scope { tags = p.scope.tags ++ tag ∷ [] } }

-- a tag that the unit hasn't yet: the struct stands in the table already where another unit has it
abbrev pub new_tag : List ℕ → List StructDef → Option ℕ → Progress → Result (ℕ × Progress) Fault
new_tag name ss place p =
    let k = place_in ss place in
    Ok (k, with_tag (record { name = name; place = k; complete = false }) (with_structs (grown ss (unknown_struct name) place) p))

abbrev pub begun : List ℕ → Option UnitTag → Progress → Result (ℕ × Progress) Fault
begun name None p = new_tag name p.tables.types.structs (struct_named p.tables.types.structs name) p
begun name (Some tag) p = Ok (tag.place, p)

-- a tag is in scope from its name on (6.2.1p7), and isn't complete inside its braces
unfoldable pub begin_struct : List ℕ → Visit Progress ℕ
begin_struct name p = begun name (tag_in p.scope.tags name) p

abbrev pub same_fields : List FieldDef → List FieldDef → Bool
same_fields [] [] = true
same_fields (f ∷ fs) (g ∷ gs) = bytes_eq f.name g.name && same_type f.ty g.ty && same_fields fs gs
same_fields fs gs = false

abbrev pub is_complete : Option UnitTag → Bool
is_complete None = false
is_complete (Some tag) = tag.complete

abbrev pub completed : List UnitTag → List ℕ → List UnitTag
completed tags name = map (λ (t : UnitTag). if bytes_eq t.name name then record t { complete = true } else t) tags

abbrev pub with_complete : List ℕ → Progress → Progress
with_complete name p = record p { scope = record p.scope { tags = completed p.scope.tags name } }

-- the fields of a struct that has none yet; the whole is no greater than an object may be
abbrev pub with_fields : ℕ → List ℕ → ℕ → List FieldDef → Progress → Result (Unit {0} × Progress) Fault
with_fields at name k fields p =
    let after : Progress = with_structs (slice_set p.tables.types.structs k (record { tag = name; fields = fields; complete = true })) p in
    if is_within most_bytes (extent_of after.tables.types (Struct k)) then Ok (tt, with_complete name after) else Err (fault kind.BadType at)

abbrev pub ended_as : ℕ → List ℕ → ℕ → List FieldDef → Option StructDef → Progress → Result (Unit {0} × Progress) Fault
ended_as at name k fields None p = with_fields at name k fields p
ended_as at name k fields (Some s) p =
    if s.complete then (if same_fields s.fields fields then Ok (tt, with_complete name p) else Err (fault kind.Redeclared at))
    else with_fields at name k fields p

-- a struct is defined once in a unit, and alike in all
unfoldable pub end_struct : ℕ → List ℕ → ℕ → List FieldDef → Visit Progress (Unit {0})
end_struct at name k fields p =
    if is_complete (tag_in p.scope.tags name) then Err (fault kind.Redeclared at)
    else ended_as at name k fields (slice_get p.tables.types.structs k) p

unfoldable pub visit_struct : Name → List Field → Visit Progress (Unit {0})
visit_struct n fs =
    begin_struct n.text >>= (λ k.
    with_scope (λ unit. visit_fields unit [] fs) >>= (λ fields.
    end_struct n.span.start n.text k fields))
