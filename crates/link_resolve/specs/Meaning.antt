-- What names mean over a list of symbols (Microsoft, "Understanding Arm64EC ABI and assembly code":
-- an Arm64EC function is called from x64 code through a fast-forward sequence, an x64 function from
-- Arm64EC code through a guest exit thunk).
use Rattle.std.specs.Prelude.{ℕ, ◌-◌, Bool, ◌&&◌, ◌==◌, List, ◌++◌, Option, Some, None, is_some, find, not, true, false, if◌then◌else◌}
use Rattle.std.specs.Str.{bytes_eq}
use Rattle.hx_names.specs.Mangling.{mangled, unmangled}
use Rattle.link_resolve.specs.declared.resolved.SectionId.{SectionId}
use Rattle.link_resolve.specs.declared.meaning.Place.{Place}
use Rattle.link_resolve.specs.Symbols.{Symbol, in_section}
use Rattle.link_resolve.specs.Names.{is_guest_exit, guest_end}

-- an external symbol in a section defines its name
abbrev pub is_definition : Symbol → Bool
is_definition s = s.symbol.external && in_section s.symbol.section

unfoldable pub defines : List ℕ → Symbol → Bool
defines name s = is_definition s && bytes_eq name s.symbol.name

-- the first symbol that defines the name
unfoldable pub definition_of : List Symbol → List ℕ → Option Symbol
definition_of symbols name = find (defines name) symbols

abbrev pub is_same : Symbol → Symbol → Bool
is_same s t = (s.object == t.object) && (s.number == t.number)

abbrev pub is_at : Option Symbol → Symbol → Bool
is_at None s = false
is_at (Some d) s = is_same d s

-- the symbol defines its name, and no earlier one does
unfoldable pub is_first : List Symbol → Symbol → Bool
is_first symbols s = is_definition s && is_at (definition_of symbols s.symbol.name) s

-- #f, guest exit thunks aside, is the EC body of f
unfoldable pub is_ec_body : Symbol → Bool
is_ec_body s = is_definition s && (is_some (unmangled s.symbol.name) && not (is_guest_exit s.symbol.name))

abbrev pub ec_body_of : List Symbol → List ℕ → Option Symbol
ec_body_of symbols f = if is_guest_exit (mangled f) then None else definition_of symbols (mangled f)

-- the place of a symbol, or of the sequence that leads to it; sections of an object count from 0
unfoldable pub place_of : Bool → Symbol → Place
place_of sequence s = record { home = record { object = s.object; section = s.symbol.section - 1 }; at = s.symbol.value; sequence = sequence }

abbrev pub place_if : Bool → Option Symbol → Option Place
place_if sequence None = None
place_if sequence (Some s) = Some (place_of sequence s)

-- what a name that nothing defines means: f the fast-forward sequence of its EC body, and #f, where
-- f is defined, its guest exit thunk
abbrev pub stand_in : List Symbol → List ℕ → Option (List ℕ) → Option Place
stand_in symbols name None = place_if true (ec_body_of symbols name)
stand_in symbols name (Some f) = if is_some (definition_of symbols f) then place_if false (definition_of symbols (name ++ guest_end)) else None

abbrev pub place_or : Option Symbol → Option Place → Option Place
place_or None other = other
place_or (Some s) other = Some (place_of false s)

-- the place that a name means
unfoldable pub means : List Symbol → List ℕ → Option Place
means symbols name = place_or (definition_of symbols name) (stand_in symbols name (unmangled name))
