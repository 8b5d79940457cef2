-- Scopes of names (C11, 6.2.1): which declaration a name means. Tags are a name space of their own, and
-- so are the fields of each struct (6.2.3). A name of a block hides the same name of a block around it
-- and of the unit; each unit sees what it declares itself, from its declaration on. Services are this
-- project's own: each unit may call them undeclared.
use Rattle.std.specs.Prelude.{ℕ, Bool, true, false, ◌||◌, List, [], ◌∷◌, ◌++◌, Option, Some, None, option_map, is_some, bytes_eq, codes, if◌then◌else◌}
use Rattle.std.specs.List.{list_any}
use Rattle.std.specs.Option.{option_or}
use Rattle.c_program.specs.declared.expressions.Service.{Service}
use Rattle.c_program.specs.declared.expressions.Service.TheVariants.{PutByte, GetByte, Exit}
use Rattle.c_program.specs.declared.expressions.Target.TheVariants as target
use Rattle.c_program.specs.declared.expressions.Place.TheVariants as place
use Rattle.c_typing.specs.declared.scopes.Meaning.{Meaning}
use Rattle.c_typing.specs.declared.scopes.Meaning.TheVariants.{Typedef, Function, Adjustor, Global}
use Rattle.c_typing.specs.declared.scopes.UnitName.{UnitName}
use Rattle.c_typing.specs.declared.scopes.UnitTag.{UnitTag}
use Rattle.c_typing.specs.declared.scopes.UnitScope.{UnitScope}
use Rattle.c_typing.specs.declared.scopes.LocalMeaning.{LocalMeaning}
use Rattle.c_typing.specs.declared.scopes.LocalMeaning.TheVariants.{Variable, VaList}
use Rattle.c_typing.specs.declared.scopes.LocalName.{LocalName}
use Rattle.c_typing.specs.declared.scopes.LocalScope.{LocalScope}
use Rattle.c_typing.specs.declared.operands.Designated.{Designated}
use Rattle.c_typing.specs.declared.operands.Designated.TheVariants as designated

-- what a unit's name means
abbrev pub meaning_in : List UnitName → List ℕ → Option Meaning
meaning_in [] name = None
meaning_in (n ∷ ns) name = if bytes_eq n.name name then Some n.meaning else meaning_in ns name

abbrev pub tag_in : List UnitTag → List ℕ → Option UnitTag
tag_in [] name = None
tag_in (t ∷ ts) name = if bytes_eq t.name name then Some t else tag_in ts name

-- what a block's name means
abbrev pub in_block : List LocalName → List ℕ → Option LocalMeaning
in_block [] name = None
in_block (n ∷ ns) name = if bytes_eq n.name name then Some n.meaning else in_block ns name

-- in blocks from the outermost on, of which the innermost counts
abbrev pub in_blocks : List (List LocalName) → List ℕ → Option LocalMeaning
in_blocks [] name = None
in_blocks (b ∷ bs) name = option_or (in_blocks bs name) (in_block b name)

abbrev pub local_meaning : LocalScope → List ℕ → Option LocalMeaning
local_meaning locals name = option_or (in_block locals.own name) (in_blocks locals.outer name)

abbrev pub service_named : List ℕ → Option Service
service_named name =
    if bytes_eq name (codes "put_byte") then Some PutByte
    else (if bytes_eq name (codes "get_byte") then Some GetByte
    else (if bytes_eq name (codes "exit") then Some Exit else None))

-- the names of import slots that a program could spell (this project's own)
abbrev pub import_slots : List (List ℕ)
import_slots = codes "__imp_put_byte" ∷ codes "__imp_get_byte" ∷ codes "__imp_exit" ∷ codes "__imp_trap" ∷ codes "__os_arm64x_check_icall" ∷ codes "__os_arm64x_dispatch_call_no_redirect" ∷ codes "__os_arm64x_dispatch_ret" ∷ []

abbrev pub is_import_slot : List ℕ → Bool
is_import_slot name = list_any (λ slot. bytes_eq name slot) import_slots

-- what the name of a local designates in an expression (6.5.1)
abbrev pub of_local : LocalMeaning → Designated
of_local (Variable n ty) = designated.Place ty (place.Local n) true
of_local VaList = designated.VaList

abbrev pub of_unit : Meaning → Designated
of_unit (Typedef k) = designated.Typedef
of_unit (Function f k) = designated.Function k (target.Function f)
of_unit (Adjustor a k) = designated.Function k (target.Adjustor a)
of_unit (Global g ty) = designated.Place ty (place.Global g) false

-- what a name designates, if it is declared
unfoldable pub named : UnitScope → LocalScope → List ℕ → Option Designated
named unit locals name = option_or (option_map of_local (local_meaning locals name)) (option_or (option_map of_unit (meaning_in unit.names name)) (option_map designated.Service (service_named name)))

abbrev pub is_typedef : Option Meaning → Bool
is_typedef None = false
is_typedef (Some (Typedef k)) = true
is_typedef (Some (Function f k)) = false
is_typedef (Some (Adjustor a k)) = false
is_typedef (Some (Global g ty)) = false

-- a local can't have a name of its own block, a typedef's or a service's
unfoldable pub is_taken : UnitScope → LocalScope → List ℕ → Bool
is_taken unit locals name = is_some (in_block locals.own name) || is_typedef (meaning_in unit.names name) || is_some (service_named name)

abbrev pub no_locals : LocalScope
no_locals = record { own = []; outer = [] }

-- a name of the innermost block
abbrev pub with_local : List ℕ → LocalMeaning → LocalScope → LocalScope
with_local name m locals = record locals { own = locals.own ++ (record { name = name; meaning = m }) ∷ [] }

-- inside a block that begins (6.2.1, 6.8: each block is a scope)
abbrev pub inside : LocalScope → LocalScope
inside locals = record { own = []; outer = locals.outer ++ locals.own ∷ [] }

abbrev pub no_names : UnitScope
no_names = record { names = []; tags = [] }

-- a name of the unit, which may have the same meaning already
abbrev pub with_name : List ℕ → Meaning → UnitScope → UnitScope
with_name name m unit = if is_some (meaning_in unit.names name) then unit else record unit { names = unit.names ++ (record { name = name; meaning = m }) ∷ [] }
