-- Items of a unit (C11, 6.9), and their nodes.
use Rattle.std.specs.Prelude.{ℕ, ◌+◌, sum, sum_by, List, [], ◌∷◌, length, Option, Some, None}
use Rattle.c_tree.specs.declared.declarations.Init.{Init, fold-Init}
use Rattle.c_tree.specs.declared.declarations.Init.TheOpen.{Init-F}
use Rattle.c_tree.specs.declared.declarations.Field.{Field}
use Rattle.c_tree.specs.declared.declarations.Params.{Params}
use Rattle.c_tree.specs.declared.declarations.GlobalDecl.{GlobalDecl}
use Rattle.c_tree.specs.declared.declarations.Item.{Item}
use Rattle.c_tree.specs.declared.declarations.Item.TheVariants as item
use Rattle.c_tree.specs.declared.declarations.Unit.{Unit as Unit'}
use Rattle.c_typing.specs.declared.tables.Progress.{Progress}
use Rattle.c_typing.specs.Visits.{Visit, ◌>>=◌, give}
use Rattle.c_typing.specs.Scopes.{no_names}
use Rattle.c_typing.specs.Structs.{visit_struct}
use Rattle.c_typing.specs.Externals.{visit_globals, visit_extern, visit_typedef, visit_declaration, visit_definition}
use Rattle.c_typing.specs.Adjustors.{visit_adjustor}

abbrev pub visit_item : ℕ → Item → Visit Progress (Unit {0})
visit_item unit (item.Typedef s h) = visit_typedef h
visit_item unit (item.Struct s n fs) = visit_struct n fs
visit_item unit (item.Extern s b d) = visit_extern b d
visit_item unit (item.Globals b ds) = visit_globals unit b ds
visit_item unit (item.Declare h) = visit_declaration h
visit_item unit (item.Define h s xs) = visit_definition unit h xs
visit_item unit (item.Adjustor s a b p m n) = visit_adjustor unit a b p m n

unfoldable pub visit_items : ℕ → List Item → Visit Progress (Unit {0})
visit_items unit [] = give tt
visit_items unit (x ∷ xs) = visit_item unit x >>= (λ u. visit_items unit xs)

abbrev pub without_names : Progress → Progress
without_names p = record p { scope = no_names }

-- a unit begins without names of its own
unfoldable pub visit_unit : ℕ → Unit' → Visit Progress (Unit {0})
visit_unit unit u p = visit_items unit u.items (without_names p)

-- Nodes (this project's own) of what is no definition of a function or an adjustor: each item,
-- parameter, declaration of fields, declarator and initial value is one

abbrev pub init_nodes_at : Init-F ℕ → ℕ
init_nodes_at (Init-F.Number m n) = 1
init_nodes_at (Init-F.Char c s) = 1
init_nodes_at (Init-F.Text t s) = 1
init_nodes_at (Init-F.Name a n ps) = 1
init_nodes_at (Init-F.List s xs) = sum xs + 1

unfoldable pub init_nodes : Init → ℕ
init_nodes = fold-Init ℕ init_nodes_at

abbrev pub optional_init_nodes : Option Init → ℕ
optional_init_nodes None = 0
optional_init_nodes (Some i) = init_nodes i

abbrev pub global_nodes : GlobalDecl → ℕ
global_nodes d = optional_init_nodes d.init + 1

abbrev pub field_nodes : Field → ℕ
field_nodes f = length f.decls + 1

abbrev pub head_nodes : Params → ℕ
head_nodes ps = length ps.list + 1

abbrev pub item_nodes : Item → ℕ
item_nodes (item.Typedef s h) = head_nodes h.params
item_nodes (item.Struct s n fs) = sum_by field_nodes fs + 1
item_nodes (item.Extern s b d) = 2
item_nodes (item.Globals b ds) = sum_by global_nodes ds + 1
item_nodes (item.Declare h) = head_nodes h.params
item_nodes (item.Define h s xs) = 0
item_nodes (item.Adjustor s a b p m n) = 0

abbrev pub unit_nodes : Unit' → ℕ
unit_nodes u = sum_by item_nodes u.items
