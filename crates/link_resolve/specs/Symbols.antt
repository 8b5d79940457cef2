-- The symbols and the sections of a list of objects, in order of the objects (Microsoft PE/COFF
-- specification: "COFF Symbol Table", "Section Number Values").
use Rattle.std.specs.Prelude.{ℕ, ◌+◌, ◌-◌, Bool, not, ◌&&◌, ◌==◌, List, [], ◌∷◌, ◌++◌, length, sum_by}
use Rattle.std.specs.List.{list_any}
use Rattle.coff_write.specs.declared.object.ObjSection.{ObjSection}
use Rattle.coff_write.specs.declared.object.ObjSymbol.{ObjSymbol}
use Rattle.coff_write.specs.declared.object.HybridRow.{HybridRow}
use Rattle.coff_write.specs.declared.object.Object.{Object}
use Rattle.coff_write.specs.Format.{section_of, is_comdat}
use Rattle.link_resolve.specs.declared.resolved.SectionId.{SectionId}
use Rattle.link_resolve.specs.declared.listing.Section.{Section}

-- a symbol, and what its object says of it
pub record Symbol : Type 0 where
  pub symbol : ObjSymbol
  -- the number of its object, and its own in the object's list
  pub object : ℕ
  pub number : ℕ
  -- where it is in a section, the number of that section, counted over all objects
  pub home : ℕ
  -- that section is COMDAT
  pub comdat : Bool
  -- a hybrid row of kind 1 (an entry thunk) has it as its source
  pub entry : Bool

-- IMAGE_SYM_UNDEFINED 0 and IMAGE_SYM_ABSOLUTE 65535 are no sections
abbrev pub in_section : ℕ → Bool
in_section s = not (s == 0) && not (s == 65535)

abbrev pub is_entry_of : ℕ → HybridRow → Bool
is_entry_of k r = (r.kind == 1) && (r.source == k)

-- symbol k of object o, before which there are so many sections
unfoldable pub symbol_in : ℕ → ℕ → Object → ℕ → ObjSymbol → Symbol
symbol_in o before object k s = record { symbol = s; object = o; number = k; home = before + s.section - 1; comdat = is_comdat (section_of object.sections s.section); entry = list_any (is_entry_of k) object.hybrid }

-- its symbols from k on
abbrev pub symbols_in : ℕ → ℕ → Object → ℕ → List ObjSymbol → List Symbol
symbols_in o before object k [] = []
symbols_in o before object k (s ∷ rest) = symbol_in o before object k s ∷ symbols_in o before object (k + 1) rest

-- the symbols of the objects from o on
abbrev pub symbols_from : ℕ → ℕ → List Object → List Symbol
symbols_from o before [] = []
symbols_from o before (object ∷ rest) = symbols_in o before object 0 object.symbols ++ symbols_from (o + 1) (before + length object.sections) rest

abbrev pub all_symbols : List Object → List Symbol
all_symbols objects = symbols_from 0 0 objects

-- the sections of object o from k on
abbrev pub sections_in : ℕ → ℕ → List ObjSection → List Section
sections_in o k [] = []
sections_in o k (s ∷ rest) = record { id = record { object = o; section = k }; comdat = s.comdat } ∷ sections_in o (k + 1) rest

abbrev pub sections_from : ℕ → List Object → List Section
sections_from o [] = []
sections_from o (object ∷ rest) = sections_in o 0 object.sections ++ sections_from (o + 1) rest

abbrev pub all_sections : List Object → List Section
all_sections objects = sections_from 0 objects

-- how many sections the objects have together
abbrev pub section_total : List Object → ℕ
section_total objects = sum_by (λ object. length object.sections) objects
