-- Whole programs (C11, 5.1.1.1, 6.9): what a checker answers for units, in order.
use Rattle.std.specs.Prelude.{ℕ, ◌+◌, Bool, false, ◌&&◌, sum_by, List, [], ◌∷◌, Option, Some, None, is_some, Result, Ok, Err, slice_get, bytes_eq, codes, if◌then◌else◌}
use Rattle.std.specs.List.{list_any}
use Rattle.std.specs.Option.{option_or}
use Rattle.c_types.specs.declared.types.IntTy.TheVariants.{I32}
use Rattle.c_types.specs.declared.types.Ty.TheVariants.{Int}
use Rattle.c_types.specs.declared.types.FunTy.{FunTy}
use Rattle.c_tree.specs.declared.declarations.Item.{Item}
use Rattle.c_tree.specs.declared.declarations.Item.TheVariants as item
use Rattle.c_tree.specs.declared.declarations.Unit.{Unit as Unit'}
use Rattle.c_tree.specs.declared.expressions.Name.{Name}
use Rattle.c_program.specs.Nodes.{small}
use Rattle.c_program.specs.declared.program.GlobalDef.{GlobalDef}
use Rattle.c_program.specs.declared.program.FunDef.{FunDef}
use Rattle.c_program.specs.declared.program.Program.{Program}
use Rattle.c_typing.specs.declared.faults.Fault.{Fault}
use Rattle.c_typing.specs.declared.faults.UnitFault.{UnitFault}
use Rattle.c_typing.specs.declared.faults.TypeKind.{TypeKind}
use Rattle.c_typing.specs.declared.faults.TypeKind.TheVariants as kind
use Rattle.c_typing.specs.declared.tables.Progress.{Progress}
use Rattle.c_typing.specs.Scopes.{no_names}
use Rattle.c_typing.specs.TypeForms.{same_function}
use Rattle.c_typing.specs.Heads.{function_type}
use Rattle.c_typing.specs.Items.{visit_unit, unit_nodes}

abbrev pub unit_fault : TypeKind → ℕ → ℕ → UnitFault
unit_fault k unit at = record { unit = unit; kind = k; at = at }

-- before the first unit
abbrev pub nothing_yet : Progress
nothing_yet = record {
  tables = record { types = record { tys = []; structs = []; funs = [] }; locals = []; has_list = false; extras = 0 };
  globals = [];
  functions = [];
  adjustors = [];
  defined = 0;
  scope = no_names;
}

abbrev pub next_unit : ℕ → Result (Unit {0} × Progress) Fault → (Progress → Result Progress UnitFault) → Result Progress UnitFault
next_unit unit (Ok x) next = next x.1
next_unit unit (Err e) next = Err (unit_fault e.kind unit e.at)

-- units from a number on
unfoldable pub visit_units : ℕ → List Unit' → Progress → Result Progress UnitFault
visit_units unit [] p = Ok p
visit_units unit (u ∷ us) p = next_unit unit (visit_unit unit u p) (visit_units (unit + 1) us)

-- Names without a definition (6.9p5): the first declaration of one, once all units are visited

abbrev pub defines_function : List ℕ → FunDef → Bool
defines_function name f = bytes_eq f.name name && is_some f.body

abbrev pub defines_global : List ℕ → GlobalDef → Bool
defines_global name g = bytes_eq g.name name && is_some g.body

abbrev pub undefined_at : Bool → Name → Option ℕ
undefined_at defined n = if defined then None else Some n.span.start

abbrev pub item_undefined : Progress → Item → Option ℕ
item_undefined p (item.Typedef s h) = None
item_undefined p (item.Struct s n fs) = None
item_undefined p (item.Extern s b d) = undefined_at (list_any (defines_global d.name.text) p.globals) d.name
item_undefined p (item.Globals b ds) = None
item_undefined p (item.Declare h) = undefined_at (list_any (defines_function h.name.text) p.functions) h.name
item_undefined p (item.Define h s xs) = None
item_undefined p (item.Adjustor s a b q m n) = None

abbrev pub items_undefined : Progress → List Item → Option ℕ
items_undefined p [] = None
items_undefined p (x ∷ xs) = option_or (item_undefined p x) (items_undefined p xs)

abbrev pub undefined_in : ℕ → Option ℕ → Option UnitFault → Option UnitFault
undefined_in unit None later = later
undefined_in unit (Some at) later = Some (unit_fault kind.Undefined unit at)

abbrev pub first_undefined : Progress → ℕ → List Unit' → Option UnitFault
first_undefined p unit [] = None
first_undefined p unit (u ∷ us) = undefined_in unit (items_undefined p u.items) (first_undefined p (unit + 1) us)

-- a program begins with `int main(void)` (5.1.2.2.1)
abbrev pub is_main_type : Option FunTy → Bool
is_main_type None = false
is_main_type (Some f) = same_function f (function_type (Int I32) [] false)

abbrev pub is_main : List FunTy → FunDef → Bool
is_main funs f = bytes_eq f.name (codes "main") && is_some f.body && is_main_type (slice_get funs f.ty)

abbrev pub has_main : Progress → Bool
has_main p = list_any (is_main p.tables.types.funs) p.functions

abbrev pub or_no_main : Bool → Option UnitFault → Option UnitFault
or_no_main has (Some f) = Some f
or_no_main has None = if has then None else Some (unit_fault kind.NoMain 0 0)

-- what only a whole program must have
unfoldable pub missing : List Unit' → Progress → Option UnitFault
missing us p = or_no_main (has_main p) (first_undefined p 0 us)

abbrev pub program_of : List Unit' → Progress → Program
program_of us p = record { types = p.tables.types; globals = p.globals; functions = p.functions; adjustors = p.adjustors; other_nodes = small (sum_by unit_nodes us); extras = p.tables.extras }

abbrev pub unless_missing : Program → Option UnitFault → Result Program UnitFault
unless_missing program None = Ok program
unless_missing program (Some f) = Err f

abbrev pub as_whole : List Unit' → Bool → Progress → Result Program UnitFault
as_whole us whole p = unless_missing (program_of us p) (if whole then missing us p else None)

abbrev pub answered : List Unit' → Bool → Result Progress UnitFault → Result Program UnitFault
answered us whole (Err f) = Err f
answered us whole (Ok p) = as_whole us whole p

-- the program that the units are, every conversion written out, or their first fault: the first in the
-- order of visit, and of a whole program then the first undefined name, and then that `main` is missing
unfoldable pub typed : List Unit' → Bool → Result Program UnitFault
typed us whole = answered us whole (visit_units 0 us nothing_yet)
