-- What is known of a file once some tests haven't refused it, and parts of names.
use Rattle.std.specs.Prelude.{ℕ, Bool, ◌||◌, ◌==◌, List, [], ◌∷◌, Option}
use Rattle.coff_read.specs.declared.refusal.ObjRefusal.{ObjRefusal}
use Rattle.coff_read.specs.declared.refusal.ObjRefusal.TheVariants.{TooLarge, Short, BigObject, Machine, OptionalHeader, SectionRange, SymbolRange, NameRange, SymbolKind, RelocationRange, RelocationKind}
use Rattle.file_words.specs.Below.{any_below, count_below, first_below}
use Rattle.coff_fields.specs.Fields.{site_symbol}
use Rattle.coff_read.specs.Kept.{keeps_section, names_in, is_start}

-- the tests that need no table of the symbols
abbrev pub early_refusals : List ObjRefusal
early_refusals = TooLarge ∷ Short ∷ BigObject ∷ Machine ∷ OptionalHeader ∷ SectionRange ∷ SymbolRange ∷ NameRange ∷ SymbolKind ∷ []

abbrev pub row_refusals : List ObjRefusal
row_refusals = RelocationRange ∷ RelocationKind ∷ []

-- how many sections before section i are kept
unfoldable pub section_number : List ℕ → ℕ → ℕ
section_number b i = count_below (keeps_section b) i

-- a site of one of the first i sections names record j
unfoldable pub named_before : List ℕ → ℕ → ℕ → Bool
named_before b i j = any_below (names_in b j) i

-- or one of the first r sites of section i
unfoldable pub named_until : List ℕ → ℕ → ℕ → ℕ → Bool
named_until b i r j = named_before b i j || any_below (λ q. site_symbol b i q == j) r

-- the section symbol of section i, if it is one of the first j records
unfoldable pub start_before : List ℕ → ℕ → ℕ → Option ℕ
start_before b j i = first_below (is_start b i) j
