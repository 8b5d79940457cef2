-- Each refusal as a test over the whole file, and their order. The kinds of relocations are those
-- of Microsoft's PE/COFF specification ("Type Indicators"); what is refused beyond it, and the order,
-- are this project's own.
use Rattle.std.specs.Prelude.{ℕ, ◌+◌, ◌-◌, ◌*◌, ◌/◌, ◌%◌, Bool, true, false, not, ◌&&◌, ◌||◌, List, [], ◌∷◌, length, ◌==◌, slice_index, nat_lt, if◌then◌else◌, Option, Some, None}
use Rattle.hx_names.specs.declared.pieces.SiteKind.{SiteKind}
use Rattle.hx_names.specs.declared.pieces.SiteKind.TheVariants.{Nothing, Addr64, Addr32Nb, Rel32, Branch26, PageBaseRel21, PageOffset12A, PageOffset12L}
use Rattle.coff_write.specs.declared.object.ObjMachine.{ObjMachine}
use Rattle.coff_write.specs.declared.object.ObjMachine.TheVariants.{Amd64, Arm64Ec}
use Rattle.coff_write.specs.Valid.{site_size, limit}
use Rattle.file_words.specs.Fields.{dword_of}
use Rattle.file_words.specs.Below.{any_below}
use Rattle.coff_read.specs.declared.refusal.ObjRefusal.{ObjRefusal}
use Rattle.coff_read.specs.declared.refusal.ObjRefusal.TheVariants.{TooLarge, Short, BigObject, Machine, OptionalHeader, SectionRange, SymbolRange, NameRange, SymbolKind, Comdat, RelocationRange, RelocationKind, RelocationPlace, HybridRecord, NoMemory}
use Rattle.coff_fields.specs.Fields.{machine_field, section_count, symbol_count, optional_size, machine_of, strings_place, strings_size, section_place, raw_size, raw_place, rows_place, has_flag, contents_size, overflows, row_count, site_count, site_at, site_symbol, site_type, symbol_value, symbol_section, symbol_class, auxiliary_count, selection, skip_at, is_main, in_section, hybrid_source, hybrid_thunk, hybrid_kind}
use Rattle.coff_fields.specs.Names.{bad_section_name, bad_string, is_long, symbol_offset, symbol_name}
use Rattle.coff_read.specs.Kept.{is_hybrid, keeps_section, may_stay, stays, section_symbol}

-- ---- the header

unfoldable pub too_large : List ℕ → Bool
too_large b = nat_lt limit (length b)

unfoldable pub short : List ℕ → Bool
short b = nat_lt (length b) 20

-- 00 00 FF FF: Sig1 and Sig2 of an object with 32-bit section numbers (winnt.h,
-- ANON_OBJECT_HEADER_BIGOBJ)
unfoldable pub big_object : List ℕ → Bool
big_object b = dword_of b 0 == 4294901760

unfoldable pub bad_machine : List ℕ → Bool
bad_machine b = not (machine_field b == 34404) && not (machine_field b == 42561)

unfoldable pub has_optional : List ℕ → Bool
has_optional b = not (optional_size b == 0)

-- ---- ranges

-- the contents of section i pass the end
unfoldable pub bad_contents : List ℕ → ℕ → Bool
bad_contents b i = not (has_flag b i 128) && nat_lt (length b) (raw_place b i + raw_size b i)

unfoldable pub bad_section_range : List ℕ → Bool
bad_section_range b = nat_lt (length b) (section_place (section_count b)) || any_below (bad_contents b) (section_count b)

-- a symbol's section is past the count, or the symbol's value past the section's end
unfoldable pub bad_home : List ℕ → ℕ → Bool
bad_home b j = is_main b j && (in_section (symbol_section b j) && (nat_lt (section_count b) (symbol_section b j) || nat_lt (raw_size b (symbol_section b j - 1)) (symbol_value b j)))

-- the string table's size doesn't count its own bytes, or it passes the end
unfoldable pub bad_strings : List ℕ → Bool
bad_strings b = nat_lt (length b) (strings_place b + 4) || (nat_lt (strings_size b) 4 || nat_lt (length b) (strings_place b + strings_size b))

-- a table passes the end, auxiliary records the end of their table, or a symbol its section
unfoldable pub bad_symbol_range : List ℕ → Bool
bad_symbol_range b = bad_strings b || (not (skip_at b (symbol_count b) == 0) || any_below (bad_home b) (symbol_count b))

-- ---- names and kinds of symbols

unfoldable pub bad_symbol_name : List ℕ → ℕ → Bool
bad_symbol_name b j = is_main b j && (is_long b j && bad_string b (symbol_offset b j))

unfoldable pub bad_name_range : List ℕ → Bool
bad_name_range b = any_below (bad_section_name b) (section_count b) || any_below (bad_symbol_name b) (symbol_count b)

-- IMAGE_SYM_CLASS_EXTERNAL 2, STATIC 3 and FILE 103 are known
unfoldable pub bad_class : List ℕ → ℕ → Bool
bad_class b j = not (symbol_class b j == 2) && (not (symbol_class b j == 3) && not (symbol_class b j == 103))

-- an external or static symbol in IMAGE_SYM_DEBUG, -2
unfoldable pub bad_debug : List ℕ → ℕ → Bool
bad_debug b j = not (symbol_class b j == 103) && (symbol_section b j == 65534)

-- code of an Arm64EC function, marked by a # before its name, doesn't begin before the end of a
-- section of code (IMAGE_SCN_MEM_EXECUTE 0x20000000), or stands in an object of x64
unfoldable pub bad_body_home : List ℕ → ℕ → Bool
bad_body_home b j = (symbol_value b j == raw_size b (symbol_section b j - 1)) || (not (has_flag b (symbol_section b j - 1) 536870912) || (machine_field b == 34404))

unfoldable pub bad_body : List ℕ → ℕ → Bool
bad_body b j = (symbol_class b j == 2) && (in_section (symbol_section b j) && ((slice_index (symbol_name b j) 0 == 35) && bad_body_home b j))

unfoldable pub bad_kind : List ℕ → ℕ → Bool
bad_kind b j = is_main b j && (bad_class b j || (bad_debug b j || bad_body b j))

unfoldable pub bad_symbol_kind : List ℕ → Bool
bad_symbol_kind b = any_below (bad_kind b) (symbol_count b)

-- ---- COMDAT

-- no section symbol, none with an auxiliary record, or another selection than
-- IMAGE_COMDAT_SELECT_ANY 2
unfoldable pub bad_definition : List ℕ → Option ℕ → Bool
bad_definition b None = true
bad_definition b (Some j) = (auxiliary_count b j == 0) || not (selection b j == 2)

-- of a section with IMAGE_SCN_LNK_COMDAT 0x1000
unfoldable pub bad_comdat_section : List ℕ → ℕ → Bool
bad_comdat_section b i = has_flag b i 4096 && bad_definition b (section_symbol b i)

unfoldable pub bad_comdat : List ℕ → Bool
bad_comdat b = any_below (bad_comdat_section b) (section_count b)

-- ---- relocations

-- the records of section i pass the end; the true count stands in the first of them
unfoldable pub bad_rows : List ℕ → ℕ → Bool
bad_rows b i = keeps_section b i && ((overflows b i && nat_lt (length b) (rows_place b i + 10)) || nat_lt (length b) (rows_place b i + 10 * row_count b i))

unfoldable pub bad_relocation_range : List ℕ → Bool
bad_relocation_range b = any_below (bad_rows b) (section_count b)

-- IMAGE_REL_AMD64_ABSOLUTE 0, ADDR64 1, ADDR32NB 3, REL32 4
unfoldable pub amd64_kind : ℕ → Option SiteKind
amd64_kind n = if n == 0 then Some Nothing else if n == 1 then Some Addr64 else if n == 3 then Some Addr32Nb else if n == 4 then Some Rel32 else None

-- IMAGE_REL_ARM64_ABSOLUTE 0, ADDR32NB 2, BRANCH26 3, PAGEBASE_REL21 4, PAGEOFFSET_12A 6,
-- PAGEOFFSET_12L 7, ADDR64 0xE
unfoldable pub arm64_kind : ℕ → Option SiteKind
arm64_kind n = if n == 0 then Some Nothing else if n == 2 then Some Addr32Nb else if n == 3 then Some Branch26 else if n == 4 then Some PageBaseRel21 else if n == 6 then Some PageOffset12A else if n == 7 then Some PageOffset12L else if n == 14 then Some Addr64 else None

unfoldable pub kind_of : ObjMachine → ℕ → Option SiteKind
kind_of Amd64 n = amd64_kind n
kind_of Arm64Ec n = arm64_kind n

abbrev pub is_known : Option SiteKind → Bool
is_known None = false
is_known (Some k) = true

abbrev pub known_or_nothing : Option SiteKind → SiteKind
known_or_nothing None = Nothing
known_or_nothing (Some k) = k

unfoldable pub site_kind : List ℕ → ℕ → ℕ → SiteKind
site_kind b i r = known_or_nothing (kind_of (machine_of b) (site_type b i r))

unfoldable pub bad_type : List ℕ → ℕ → ℕ → Bool
bad_type b i r = not (is_known (kind_of (machine_of b) (site_type b i r)))

unfoldable pub bad_types : List ℕ → ℕ → Bool
bad_types b i = keeps_section b i && any_below (bad_type b i) (site_count b i)

unfoldable pub bad_relocation_kind : List ℕ → Bool
bad_relocation_kind b = any_below (bad_types b) (section_count b)

-- the site passes the end of the contents, or its symbol is past the table, an auxiliary record or
-- dropped
unfoldable pub bad_place : List ℕ → ℕ → ℕ → Bool
bad_place b i r = nat_lt (contents_size b i) (site_at b i r + site_size (site_kind b i r)) || (not (nat_lt (site_symbol b i r) (symbol_count b)) || not (may_stay b (site_symbol b i r)))

unfoldable pub bad_places : List ℕ → ℕ → Bool
bad_places b i = keeps_section b i && any_below (bad_place b i) (site_count b i)

unfoldable pub bad_relocation_place : List ℕ → Bool
bad_relocation_place b = any_below (bad_places b) (section_count b)

-- ---- hybrid rows

-- not a symbol of the object
unfoldable pub bad_index : List ℕ → ℕ → Bool
bad_index b j = not (nat_lt j (symbol_count b)) || not (stays b j)

-- 0 guest exit, 1 entry, 4 exit
abbrev pub is_row_kind : ℕ → Bool
is_row_kind k = (k == 0) || ((k == 1) || (k == 4))

unfoldable pub bad_row : List ℕ → ℕ → ℕ → Bool
bad_row b i r = bad_index b (hybrid_source b i r) || (bad_index b (hybrid_thunk b i r) || not (is_row_kind (hybrid_kind b i r)))

unfoldable pub bad_hybrid : List ℕ → ℕ → Bool
bad_hybrid b i = is_hybrid b i && (not (contents_size b i % 12 == 0) || any_below (bad_row b i) (contents_size b i / 12))

unfoldable pub bad_hybrid_record : List ℕ → Bool
bad_hybrid_record b = any_below (bad_hybrid b) (section_count b)

-- ---- the list

-- whether this refusal holds anywhere in the file; want of memory is none of the file's
abbrev pub holds : List ℕ → ObjRefusal → Bool
holds b TooLarge = too_large b
holds b Short = short b
holds b BigObject = big_object b
holds b Machine = bad_machine b
holds b OptionalHeader = has_optional b
holds b SectionRange = bad_section_range b
holds b SymbolRange = bad_symbol_range b
holds b NameRange = bad_name_range b
holds b SymbolKind = bad_symbol_kind b
holds b Comdat = bad_comdat b
holds b RelocationRange = bad_relocation_range b
holds b RelocationKind = bad_relocation_kind b
holds b RelocationPlace = bad_relocation_place b
holds b HybridRecord = bad_hybrid_record b
holds b NoMemory = false

abbrev pub refusals : List ObjRefusal
refusals = TooLarge ∷ Short ∷ BigObject ∷ Machine ∷ OptionalHeader ∷ SectionRange ∷ SymbolRange ∷ NameRange ∷ SymbolKind ∷ Comdat ∷ RelocationRange ∷ RelocationKind ∷ RelocationPlace ∷ HybridRecord ∷ []
