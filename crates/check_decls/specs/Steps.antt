-- Steps of the checker's own loops and look-ups, each a part of a rule.
use Rattle.std.specs.Prelude.{◌≡◌, ℕ, ℤ, Bool, true, ◌&&◌, List, [], ◌∷◌, ◌++◌, Option, Some, None, Result, Ok, Err, slice_get, slice_set, bytes_eq, if◌then◌else◌}
use Rattle.c_types.specs.declared.types.FieldDef.{FieldDef}
use Rattle.c_types.specs.declared.types.StructDef.{StructDef}
use Rattle.c_typing.specs.declared.faults.Fault.{Fault}
use Rattle.c_typing.specs.declared.faults.TypeKind.TheVariants as kind
use Rattle.c_tree.specs.declared.expressions.Name.{Name}
use Rattle.c_typing.specs.declared.scopes.Meaning.TheVariants.{Adjustor}
use Rattle.c_typing.specs.declared.tables.Progress.{Progress}
use Rattle.c_program.specs.declared.expressions.Target.{Target}
use Rattle.c_typing.specs.Externals.{declare, standing}
use Rattle.c_typing.specs.Visits.{Visit, fault, ◌>>=◌}
use Rattle.c_typing.specs.declared.faults.Refusal.{Refusal}
use Rattle.c_typing.specs.declared.faults.Refusal.TheVariants as refusal
use Rattle.c_typing.specs.declared.scopes.UnitTag.{UnitTag}
use Rattle.c_typing.specs.declared.scopes.LocalScope.{LocalScope}
use Rattle.c_typing.specs.declared.tables.Tables.{Tables}
use Rattle.c_typing.specs.Statements.{Scoped}
use Rattle.c_program.specs.declared.program.PathStep.{PathStep}
use Rattle.c_program.specs.declared.program.Constant.{Constant}
use Rattle.c_typing.specs.Initials.{Part}
use Rattle.check_decls.specs.declared.paths.FoundPart.{FoundPart}
use Rattle.check_decls.specs.declared.paths.FoundStep.{FoundStep}
use Rattle.c_types.specs.declared.types.Span.{Span}
use Rattle.c_typing.specs.Adjustors.{is_amount, amount_of, define_adjustor}
use Rattle.c_typing.specs.Structs.{same_fields}

abbrev pub tag_name : UnitTag → List ℕ
tag_name t = t.name

-- a tag is complete where it has the name
abbrev pub completed_tag : List ℕ → UnitTag → UnitTag
completed_tag name t = if bytes_eq t.name name then record t { complete = true } else t

abbrev pub set_completed : List ℕ → ℕ → List UnitTag → Option UnitTag → List UnitTag
set_completed name at tags None = tags
set_completed name at tags (Some t) = if bytes_eq t.name name then slice_set tags at (record t { complete = true }) else tags

-- the tag at a place alone
abbrev pub completed_at : List ℕ → ℕ → List UnitTag → List UnitTag
completed_at name at tags = set_completed name at tags (slice_get tags at)

-- whether a complete struct has these fields
abbrev pub compared_fields : List FieldDef → Option StructDef → Option Bool
compared_fields fields None = None
compared_fields fields (Some s) = if s.complete then Some (same_fields s.fields fields) else None

-- What a call of a checker says of a part of a block that gives several things, with the scope and the
-- tables that the call leaves. Want of memory says nothing.
abbrev pub LeavesAll : {A : Type 0} → Result (Scoped (List A) × Tables) Fault → Result (List A) Refusal → LocalScope → Tables → Type 0
LeavesAll rule (Ok xs) locals t = rule ≡ Ok (record { part = xs; locals = locals }, t)
LeavesAll rule (Err (refusal.Fault f)) locals t = rule ≡ Err f
LeavesAll rule (Err refusal.NoMemory) locals t = Unit {0}

-- and of one that gives one
abbrev pub LeavesOne : {A : Type 0} → Result (Scoped (List A) × Tables) Fault → Result A Refusal → LocalScope → Tables → Type 0
LeavesOne rule (Ok x) locals t = rule ≡ Ok (record { part = x ∷ []; locals = locals }, t)
LeavesOne rule (Err (refusal.Fault f)) locals t = rule ≡ Err f
LeavesOne rule (Err refusal.NoMemory) locals t = Unit {0}

-- a name that may be taken
abbrev pub unless : Bool → Name → Result (Unit {0}) Fault
unless taken n = if taken then Err (fault kind.Redeclared n.span.start) else Ok tt

abbrev pub part_of : FoundPart → Part
part_of f = record { ty = f.ty; steps = f.path; inside = f.inside }

abbrev pub step_of : FoundStep → Part
step_of f = record { ty = f.ty; steps = f.step ∷ []; inside = f.inside }

-- the refusal of a type, of a name that may stand already
abbrev pub refused_standing : Bool → Refusal → Refusal
refused_standing stands (refusal.Fault f) = refusal.Fault (fault (standing stands f.kind) f.at)
refused_standing stands refusal.NoMemory = refusal.NoMemory

-- What a call says of the steps to a part
abbrev pub TellsPart : Result Part Fault → Result FoundPart Refusal → Type 0
TellsPart rule (Ok x) = rule ≡ Ok (part_of x)
TellsPart rule (Err (refusal.Fault f)) = rule ≡ Err f
TellsPart rule (Err refusal.NoMemory) = Unit {0}

-- and of one step
abbrev pub TellsStep : Result Part Fault → Result FoundStep Refusal → Type 0
TellsStep rule (Ok x) = rule ≡ Ok (step_of x)
TellsStep rule (Err (refusal.Fault f)) = rule ≡ Err f
TellsStep rule (Err refusal.NoMemory) = Unit {0}

-- a part by the steps behind others
abbrev pub path_behind : List PathStep → Bool → Result Part Fault → Result Part Fault
path_behind front inside (Ok p) = Ok (record { ty = p.ty; steps = front ++ p.steps; inside = inside && p.inside })
path_behind front inside (Err e) = Err e

-- constants behind others
abbrev pub list_behind : List Constant → Result (List Constant) Fault → Result (List Constant) Fault
list_behind front (Ok cs) = Ok (front ++ cs)
list_behind front (Err e) = Err e

-- the number that an adjustor adds, where it may be one
abbrev pub amount_in : Option Span → ℕ → Option ℤ
amount_in minus n = if is_amount minus n then Some (amount_of minus n) else None

-- a call's answer without its value
abbrev pub told : {A : Type 0} → Result A Refusal → Result (Unit {0}) Refusal
told (Ok x) = Ok tt
told (Err e) = Err e

-- an adjustor with this target, its type's place, and what it changes by how much
abbrev pub placed_adjustor : ℕ → List ℕ → (Target × ℕ) → (ℕ × ℤ) → Visit Progress (Unit {0})
placed_adjustor unit name f a =
    define_adjustor (λ so. record { name = name; ty = f.1; unit = unit; number = so.defined; target = f.0; parameter = a.0; amount = a.1 }) >>= (λ k.
    declare name (Adjustor k f.1))
