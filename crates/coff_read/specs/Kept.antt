-- Which sections and symbols of a file are part of its object, and their numbers there. What is
-- dropped is this project's own choice: unwind and debug data, directives to the linker, and
-- sections that a linker only reads (IMAGE_SCN_LNK_INFO 0x200) or removes (IMAGE_SCN_LNK_REMOVE
-- 0x800), with their symbols, and the names of source files.
use Rattle.std.specs.Prelude.{ℕ, ◌+◌, ◌-◌, Bool, not, ◌&&◌, ◌||◌, List, length, ◌==◌, if◌then◌else◌, Option}
use Rattle.file_words.specs.Below.{any_below, count_below, first_below}
use Rattle.coff_write.specs.Valid.{is_reserved, begins}
use Rattle.coff_write.specs.Format.{hybrid_name}
use Rattle.coff_fields.specs.Fields.{section_count, symbol_count, has_flag, site_count, site_symbol, symbol_value, symbol_section, symbol_class, is_main, in_section}
use Rattle.coff_fields.specs.Names.{section_name}

-- ---- sections

-- .hybmp$x holds the hybrid rows
unfoldable pub is_hybrid : List ℕ → ℕ → Bool
is_hybrid b i = (length (section_name b i) == 8) && begins (section_name b i) hybrid_name

-- not .pdata.., .xdata.., .debug.., .drectve or .hybmp$x, and none of the flags 0x200 and 0x800
unfoldable pub keeps_section : List ℕ → ℕ → Bool
keeps_section b i = not (is_reserved (section_name b i)) && not (has_flag b i 2560)

-- the new number of a SectionNumber; sections count from 1
unfoldable pub new_section : List ℕ → ℕ → ℕ
new_section b s = if in_section s then count_below (keeps_section b) (s - 1) + 1 else s

-- ---- symbols

-- record j begins a symbol that a site may name: it isn't the name of a source file
-- (IMAGE_SYM_CLASS_FILE 103), and its section, if it has one, is kept
unfoldable pub may_stay : List ℕ → ℕ → Bool
may_stay b j = is_main b j && (not (symbol_class b j == 103) && (not (in_section (symbol_section b j)) || keeps_section b (symbol_section b j - 1)))

-- a site of section i names record j
unfoldable pub names_in : List ℕ → ℕ → ℕ → Bool
names_in b j i = keeps_section b i && any_below (λ r. site_symbol b i r == j) (site_count b i)

-- a site of a kept section names record j
unfoldable pub is_named : List ℕ → ℕ → Bool
is_named b j = any_below (names_in b j) (section_count b)

-- record j begins a symbol of the object: an absolute one stays where a site names it
unfoldable pub stays : List ℕ → ℕ → Bool
stays b j = may_stay b j && (not (symbol_section b j == 65535) || is_named b j)

unfoldable pub new_symbol : List ℕ → ℕ → ℕ
new_symbol b j = count_below (stays b) j

-- ---- section symbols

-- record j begins a static symbol (IMAGE_SYM_CLASS_STATIC 3) of value 0 in section i
unfoldable pub is_start : List ℕ → ℕ → ℕ → Bool
is_start b i j = (is_main b j && (symbol_class b j == 3)) && ((symbol_value b j == 0) && (in_section (symbol_section b j) && (symbol_section b j == i + 1)))

-- the section symbol of section i is the first of them
unfoldable pub section_symbol : List ℕ → ℕ → Option ℕ
section_symbol b i = first_below (is_start b i) (symbol_count b)
