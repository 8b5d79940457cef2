-- What a look-up in the list of names finds. This project's own.
use Rattle.std.specs.Prelude.{◌≡◌, ℕ, Bool, false, List, [], ◌∷◌, Option, Some, None, find}
use Rattle.std.specs.Str.{bytes_eq}
use Rattle.link_resolve.specs.declared.resolved.NamePlace.{NamePlace}
use Rattle.link_resolve.specs.declared.listing.Section.{Section}
use Rattle.link_resolve.specs.Symbols.{Symbol}
use Rattle.link_resolve.specs.Meaning.{definition_of}
use Rattle.link_resolve.specs.Refusals.{left_out, is_left}
use Rattle.link_resolve.specs.Resolution.{entry_of, entries_from}

abbrev pub has_name : List ℕ → NamePlace → Bool
has_name name n = bytes_eq name n.name

abbrev pub first_entry : List NamePlace → Option NamePlace
first_entry [] = None
first_entry (n ∷ rest) = Some n

-- a look-up of the name finds what the name means, and nothing where it means no place in a section
-- or an import slot
abbrev pub NamesTell : List Symbol → List ℕ → Type 0
NamesTell symbols name = find (has_name name) (entries_from symbols symbols) ≡ first_entry (entry_of symbols name)

-- the first definition of a name stands in a section that isn't left out
abbrev pub HomeIsKept : List Symbol → List Section → List ℕ → Type 0
HomeIsKept symbols sections name = (s : Symbol) → definition_of symbols name ≡ Some s → is_left (left_out symbols sections) s.home ≡ false
