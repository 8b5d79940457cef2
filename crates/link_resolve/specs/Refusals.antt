-- Why objects can't be linked: what each refusal says of a symbol or of the list. This project's own.
use Rattle.std.specs.Prelude.{ℕ, ◌+◌, Bool, false, not, ◌&&◌, ◌||◌, ◌==◌, List, [], ◌∷◌, is_some, is_none, nat_lt, count_by, if◌then◌else◌}
use Rattle.std.specs.List.{list_any, slice_index_or}
use Rattle.hx_names.specs.Mangling.{mangled, unmangled}
use Rattle.link_resolve.specs.declared.listing.Section.{Section}
use Rattle.link_resolve.specs.Symbols.{Symbol}
use Rattle.link_resolve.specs.Names.{is_import, main_name}
use Rattle.link_resolve.specs.Meaning.{is_definition, defines, definition_of, is_first, is_ec_body, means}

-- ---- sections that are left out

abbrev pub stands_in : ℕ → Symbol → Bool
stands_in n s = is_definition s && (s.home == n)

-- an external symbol stands in section n
unfoldable pub is_named : List Symbol → ℕ → Bool
is_named symbols n = list_any (stands_in n) symbols

abbrev pub is_wanted_by : List Symbol → ℕ → Symbol → Bool
is_wanted_by symbols n s = is_first symbols s && (s.home == n)

-- one stands there that is the first definition of its name
unfoldable pub is_wanted : List Symbol → ℕ → Bool
is_wanted symbols n = list_any (is_wanted_by symbols n) symbols

-- a COMDAT section that has an external symbol, and each of them has an earlier definition of its
-- name
abbrev pub is_left_out : List Symbol → ℕ → Section → Bool
is_left_out symbols n s = s.comdat && (is_named symbols n && not (is_wanted symbols n))

-- the same of each section from n on
abbrev pub left_from : List Symbol → ℕ → List Section → List Bool
left_from symbols n [] = []
left_from symbols n (s ∷ rest) = is_left_out symbols n s ∷ left_from symbols (n + 1) rest

unfoldable pub left_out : List Symbol → List Section → List Bool
left_out symbols sections = left_from symbols 0 sections

abbrev pub is_left : List Bool → ℕ → Bool
is_left left n = slice_index_or left n false

-- ---- refusals

-- an external symbol in no section, whose name means no place and no import slot
unfoldable pub is_undefined : List Symbol → Symbol → Bool
is_undefined symbols s = (s.symbol.external && (s.symbol.section == 0)) && (not (is_import s.symbol.name) && is_none (means symbols s.symbol.name))

abbrev pub defines_alone : List ℕ → Symbol → Bool
defines_alone name s = defines name s && not s.comdat

-- two symbols define the name, and not both in COMDAT sections
unfoldable pub has_clash : List Symbol → List ℕ → Bool
has_clash symbols name = nat_lt 1 (count_by (defines name) symbols) && list_any (defines_alone name) symbols

unfoldable pub is_duplicate : List Symbol → Symbol → Bool
is_duplicate symbols s = is_definition s && has_clash symbols s.symbol.name

-- f and #f are both defined
unfoldable pub is_on_both_sides : List Symbol → Symbol → Bool
is_on_both_sides symbols s = is_definition s && (is_none (unmangled s.symbol.name) && is_some (definition_of symbols (mangled s.symbol.name)))

-- an EC body in a section that is kept, to which no hybrid row gives an entry thunk
unfoldable pub lacks_entry : List Bool → Symbol → Bool
lacks_entry left s = is_ec_body s && (not (is_left left s.home) && not s.entry)

-- no body is named main
unfoldable pub lacks_main : List Symbol → Bool
lacks_main symbols = is_none (means symbols main_name)
