-- What a list of objects links to: the sections that are kept and the places that names mean, or the
-- first refusal. This project's own.
use Rattle.std.specs.Prelude.{◌≡◌, ◌≢◌, ℕ, ◌+◌, Bool, List, [], ◌∷◌, ◌++◌, Option, Some, None, is_some, find, if◌then◌else◌, Result, Ok, Err}
use Rattle.hx_names.specs.Mangling.{unmangled}
use Rattle.coff_write.specs.declared.object.Object.{Object}
use Rattle.link_resolve.specs.declared.listing.Section.{Section}
use Rattle.link_resolve.specs.declared.meaning.Place.{Place}
use Rattle.link_resolve.specs.declared.resolved.SectionId.{SectionId}
use Rattle.link_resolve.specs.declared.resolved.NamePlace.{NamePlace}
use Rattle.link_resolve.specs.declared.resolved.Resolved.{Resolved}
use Rattle.link_resolve.specs.declared.refusal.LinkRefusal.{LinkRefusal}
use Rattle.link_resolve.specs.declared.refusal.LinkRefusal.TheVariants.{Undefined, Duplicate, BothSides, NoEntryThunk, NoMain, NoMemory}
use Rattle.link_resolve.specs.Symbols.{Symbol, all_symbols, all_sections}
use Rattle.link_resolve.specs.Names.{is_guest_exit, before_guest_end, is_import}
use Rattle.link_resolve.specs.Meaning.{definition_of, is_first, means}
use Rattle.link_resolve.specs.Refusals.{left_out, is_left, is_undefined, is_duplicate, is_on_both_sides, lacks_entry, lacks_main}

-- ---- the sections that are kept

abbrev pub kept_from : List Bool → ℕ → List Section → List SectionId
kept_from left n [] = []
kept_from left n (s ∷ rest) = (if is_left left n then [] else s.id ∷ []) ++ kept_from left (n + 1) rest

-- ---- the names that mean a place in a section

abbrev pub named_place : List ℕ → Place → NamePlace
named_place name p = record { name = name; home = p.home; at = p.at; sequence = p.sequence }

abbrev pub entry_for : List ℕ → Option Place → List NamePlace
entry_for name None = []
entry_for name (Some p) = named_place name p ∷ []

-- the name with its place, unless it means an import slot
unfoldable pub entry_of : List Symbol → List ℕ → List NamePlace
entry_of symbols name = if is_import name then [] else entry_for name (means symbols name)

-- the name without `#` leads to an EC body, unless it has a second `#`
abbrev pub plain_entry : List Symbol → List ℕ → Option (List ℕ) → List NamePlace
plain_entry symbols f None = entry_of symbols f
plain_entry symbols f (Some g) = []

-- #f leads to a guest exit thunk where nothing defines it
abbrev pub guest_entry : List Symbol → List ℕ → List NamePlace
guest_entry symbols body = if is_some (definition_of symbols body) then [] else entry_of symbols body

-- the other name that may lead to a symbol's place: f to #f, and #f, where nothing defines it, to
-- #f$exit_thunk
abbrev pub other_entry : List Symbol → List ℕ → Option (List ℕ) → List NamePlace
other_entry symbols name None = []
other_entry symbols name (Some f) = if is_guest_exit name then guest_entry symbols (before_guest_end name) else plain_entry symbols f (unmangled f)

unfoldable pub entries_at : List Symbol → Symbol → List NamePlace
entries_at symbols s = if is_first symbols s then entry_of symbols s.symbol.name ++ other_entry symbols s.symbol.name (unmangled s.symbol.name) else []

abbrev pub entries_from : List Symbol → List Symbol → List NamePlace
entries_from symbols [] = []
entries_from symbols (s ∷ rest) = entries_at symbols s ++ entries_from symbols rest

-- ---- the whole

unfoldable pub resolved : List Symbol → List Section → Resolved
resolved symbols sections = record { kept = kept_from (left_out symbols sections) 0 sections; names = entries_from symbols symbols }

-- the refusal with the symbol's name, else what follows
abbrev pub refused_or : (List ℕ → LinkRefusal) → Option Symbol → Result Resolved LinkRefusal → Result Resolved LinkRefusal
refused_or refusal None next = next
refused_or refusal (Some s) next = Err (refusal s.symbol.name)

unfoldable pub last_answer : List Symbol → List Section → Result Resolved LinkRefusal
last_answer symbols sections = if lacks_main symbols then Err NoMain else Ok (resolved symbols sections)

unfoldable pub entry_answer : List Symbol → List Section → Result Resolved LinkRefusal
entry_answer symbols sections = refused_or NoEntryThunk (find (lacks_entry (left_out symbols sections)) symbols) (last_answer symbols sections)

-- each refusal by the first symbol that it holds of
unfoldable pub answer : List Symbol → List Section → Result Resolved LinkRefusal
answer symbols sections = refused_or Undefined (find (is_undefined symbols) symbols) (refused_or Duplicate (find (is_duplicate symbols) symbols) (refused_or BothSides (find (is_on_both_sides symbols) symbols) (entry_answer symbols sections)))

abbrev pub resolution : List Object → Result Resolved LinkRefusal
resolution objects = answer (all_symbols objects) (all_sections objects)

-- an answer is this one, want of memory aside
abbrev pub Tells : Result Resolved LinkRefusal → Result Resolved LinkRefusal → Type 0
Tells (Ok r) is = is ≡ Ok r
Tells (Err k) is = k ≢ NoMemory → is ≡ Err k
