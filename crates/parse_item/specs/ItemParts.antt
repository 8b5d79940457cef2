-- Globals, items and units that are given up once they are too high.
use Rattle.std.specs.Prelude.{◌≡◌, ℕ, ◌+◌, max, cond, List, [], ◌∷◌, ◌++◌, map, Option, Some, None, nat_le}
use Rattle.c_types.specs.declared.types.Span.{Span}
use Rattle.c_tree.specs.declared.expressions.Base.{Base}
use Rattle.c_tree.specs.declared.statements.BlockItem.{BlockItem}
use Rattle.c_tree.specs.declared.declarations.Decl.{Decl}
use Rattle.c_tree.specs.declared.declarations.Init.{Init}
use Rattle.c_tree.specs.declared.declarations.GlobalDecl.{GlobalDecl}
use Rattle.c_tree.specs.declared.declarations.FunctionHead.{FunctionHead}
use Rattle.c_tree.specs.declared.declarations.Item.{Item}
use Rattle.c_tree.specs.declared.declarations.Item.TheVariants as item
use Rattle.c_tree.specs.declared.declarations.Unit.{Unit as Unit'}
use Rattle.c_tree.specs.Height.{tallest, global_decl_height, params_height, item_height, unit_height}
use Rattle.parse_decl.specs.declared.inits.InitPart.{InitPart}
use Rattle.parse_decl.specs.declared.inits.InitPart.TheVariants as init_part
use Rattle.parse_stmt.specs.declared.parts.Capped.{Capped}
use Rattle.parse_stmt.specs.declared.parts.Capped.TheVariants.{Built, Deep}
use Rattle.parse_stmt.specs.StmtParts.{Body, capped, mapped, merged, raised, at_least_one}
use Rattle.parse_item.specs.ItemGrammar.{global_of, unit_of}

abbrev pub GlobalsPart : Type 0
GlobalsPart = Capped (List GlobalDecl)

abbrev pub ItemPart : Type 0
ItemPart = Capped Item

abbrev pub ItemsPart : Type 0
ItemsPart = Capped (List Item)

abbrev pub UnitPart : Type 0
UnitPart = Capped Unit'

-- what globals, an item, items and a unit are read as
abbrev pub cap_globals : ℕ → List GlobalDecl → GlobalsPart
cap_globals n gs = capped n gs (tallest (map global_decl_height gs))

abbrev pub cap_item : ℕ → Item → ItemPart
cap_item n x = capped n x (item_height x)

abbrev pub cap_items : ℕ → List Item → ItemsPart
cap_items n xs = capped n xs (tallest (map item_height xs))

abbrev pub cap_unit : ℕ → Unit' → UnitPart
cap_unit n u = capped n u (unit_height u)

abbrev pub no_globals : GlobalsPart
no_globals = Built [] 0

abbrev pub no_items : ItemsPart
no_items = Built [] 0

-- an initial value, whatever it is
abbrev pub of_init : InitPart → Capped Init
of_init (init_part.Built i h) = Built i h
of_init init_part.Deep = Deep

unfoldable pub without_init : GlobalsPart → Decl → GlobalsPart
without_init gs d = merged (λ ys y. ys ++ y ∷ []) gs (Built (global_of d None) 1)

unfoldable pub with_init : GlobalsPart → Decl → InitPart → GlobalsPart
with_init gs d i = merged (λ ys y. ys ++ global_of d (Some y) ∷ []) gs (at_least_one (of_init i))

unfoldable pub globals_part : ℕ → Base → GlobalsPart → ItemPart
globals_part n y gs = raised n (mapped (item.Globals y) gs)

-- the body is a block beside the parameters
unfoldable pub define_part : ℕ → FunctionHead → Span → Body → ItemPart
define_part n h s xs = raised n (merged (λ g ys. item.Define g s ys) (Built h (params_height h.params)) (raised n xs))

unfoldable pub with_item : ItemsPart → ItemPart → ItemsPart
with_item = merged (λ ys y. ys ++ y ∷ [])

unfoldable pub unit_part : ℕ → ItemsPart → UnitPart
unit_part n xs = raised n (mapped unit_of xs)
