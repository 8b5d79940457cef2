-- The import directory (Microsoft PE/COFF specification, "The .idata Section": import directory table,
-- import lookup table, hint/name table, import address table). One library is known, by the name
-- `ecrt.dll`, and names alone are imported; both are this project's own.
use Rattle.std.specs.Prelude.{ℕ, ◌+◌, ◌*◌, Bool, true, false, not, ◌&&◌, ◌||◌, List, [], ◌∷◌, ◌==◌, Option, Some, None}
use Rattle.file_words.specs.Fields.{dword_of}
use Rattle.file_words.specs.Below.{any_below, first_below, table}
use Rattle.chpe_types.specs.declared.image.ImageSection.{ImageSection}
use Rattle.chpe_types.specs.declared.image.ImportSlot.{ImportSlot}
use Rattle.pe_fields.specs.Space.{is_mapped, rest_at, text_at, has_text}

-- ---- the descriptor: Import Lookup Table RVA, Name RVA, Import Address Table RVA

unfoldable pub lookup_rva : List ImageSection → ℕ → ℕ
lookup_rva ss rva = dword_of (rest_at ss rva) 0

unfoldable pub library_rva : List ImageSection → ℕ → ℕ
library_rva ss rva = dword_of (rest_at ss rva) 12

unfoldable pub address_rva : List ImageSection → ℕ → ℕ
address_rva ss rva = dword_of (rest_at ss rva) 16

-- number k of the descriptor after it isn't 0
unfoldable pub is_more : List ImageSection → ℕ → ℕ → Bool
is_more ss rva k = not (dword_of (rest_at ss rva) (20 + 4 * k) == 0)

-- ecrt.dll
abbrev pub library : List ℕ
library = 101 ∷ 99 ∷ 114 ∷ 116 ∷ 46 ∷ 100 ∷ 108 ∷ 108 ∷ []

-- ---- a table, by its bytes: entry k has 64 bits, of which the low 32 are the RVA of a hint and a name.
-- The highest bit stands for an import by number

unfoldable pub low_at : List ℕ → ℕ → ℕ
low_at r k = dword_of r (8 * k)

unfoldable pub high_at : List ℕ → ℕ → ℕ
high_at r k = dword_of r (8 * k + 4)

unfoldable pub is_last : List ℕ → ℕ → Bool
is_last r k = (low_at r k == 0) && (high_at r k == 0)

-- how many entries stand before the first zero; no section has 2^24 of them
unfoldable pub entry_count : List ℕ → Option ℕ
entry_count r = first_below (is_last r) 16777216

-- the lookup table and the address table of a descriptor
abbrev pub lookup_bytes : List ImageSection → ℕ → List ℕ
lookup_bytes ss rva = rest_at ss (lookup_rva ss rva)

abbrev pub address_bytes : List ImageSection → ℕ → List ℕ
address_bytes ss rva = rest_at ss (address_rva ss rva)

abbrev pub count_or_none : Option ℕ → ℕ
count_or_none None = 0
count_or_none (Some n) = n

-- entries k of two tables differ
unfoldable pub differs : List ℕ → List ℕ → ℕ → Bool
differs r q k = not (low_at r k == low_at q k) || not (high_at r k == high_at q k)

-- the hint and the name of entry k aren't in a section
unfoldable pub bad_name : List ImageSection → List ℕ → ℕ → Bool
bad_name ss r k = not (high_at r k == 0) || not (has_text ss (low_at r k) 2)

-- the tables, of n entries and a zero
unfoldable pub bad_tables : List ImageSection → ℕ → ℕ → Bool
bad_tables ss rva n = not (is_mapped ss (lookup_rva ss rva) (8 * n + 8)) || (not (is_mapped ss (address_rva ss rva) (8 * n + 8)) || (any_below (differs (lookup_bytes ss rva) (address_bytes ss rva)) (n + 1) || any_below (bad_name ss (lookup_bytes ss rva)) n))

unfoldable pub bad_count : List ImageSection → ℕ → Option ℕ → Bool
bad_count ss rva None = true
bad_count ss rva (Some n) = bad_tables ss rva n

abbrev pub same_text : List ℕ → List ℕ → Bool
same_text [] [] = true
same_text [] (d ∷ ds) = false
same_text (c ∷ cs) [] = false
same_text (c ∷ cs) (d ∷ ds) = (c == d) && same_text cs ds

unfoldable pub bad_library : List ImageSection → ℕ → Bool
bad_library ss rva = not (has_text ss (library_rva ss rva) 0) || not (same_text (text_at ss (library_rva ss rva)) library)

-- the directory at a place, of some size, isn't one descriptor and a zero one, or they name something
-- else than the entries of the known library
unfoldable pub bad_imports : List ImageSection → ℕ → ℕ → Bool
bad_imports ss rva size = not (size == 40) || (any_below (is_more ss rva) 5 || (bad_library ss rva || bad_count ss rva (entry_count (lookup_bytes ss rva))))

unfoldable pub slot : List ImageSection → ℕ → ℕ → ImportSlot
slot ss rva k = record { name = text_at ss (low_at (lookup_bytes ss rva) k + 2); rva = address_rva ss rva + 8 * k }

-- the slots of a directory that isn't refused
unfoldable pub slots : List ImageSection → ℕ → List ImportSlot
slots ss rva = table (slot ss rva) (count_or_none (entry_count (lookup_bytes ss rva)))
