-- The one file of an object (Microsoft PE/COFF specification: "COFF File Header", "Section Table",
-- "COFF Relocations", "COFF Symbol Table", "COFF String Table"). All numbers are little-endian. The
-- machine number of Arm64EC is that of winnt.h. This project's own are the order of the parts, the
-- order of the names in the string table (sections, then symbols, none shared), the seven digits of
-- a long section name, and the layout of `.hybmp$x`, which Microsoft's specification doesn't give.
use Rattle.std.specs.Prelude.{ℕ, zero, suc, ◌+◌, ◌*◌, ◌/◌, ◌%◌, Bool, false, not, ◌&&◌, ◌||◌, List, [], ◌∷◌, ◌++◌, length, take, nat_lt, nat_le, ◌==◌, slice_index, slice_get, Option, Some, None, if◌then◌else◌}
use Rattle.std.specs.List.{concat}
use Rattle.hx_words.specs.LittleEndian.{bytes_of}
use Rattle.hx_names.specs.declared.pieces.SiteKind.{SiteKind}
use Rattle.hx_names.specs.declared.pieces.SiteKind.TheVariants.{Nothing, Addr64, Addr32Nb, Rel32, Branch26, PageBaseRel21, PageOffset12A, PageOffset12L}
use Rattle.coff_write.specs.declared.object.ObjMachine.{ObjMachine}
use Rattle.coff_write.specs.declared.object.ObjMachine.TheVariants.{Amd64, Arm64Ec}
use Rattle.coff_write.specs.declared.object.ObjSite.{ObjSite}
use Rattle.coff_write.specs.declared.object.ObjSection.{ObjSection}
use Rattle.coff_write.specs.declared.object.ObjSymbol.{ObjSymbol}
use Rattle.coff_write.specs.declared.object.HybridRow.{HybridRow}
use Rattle.coff_write.specs.declared.object.Object.{Object}

-- ---- numbers and codes

abbrev pub word : ℕ → List ℕ
word n = bytes_of 2 n

abbrev pub dword : ℕ → List ℕ
dword n = bytes_of 4 n

-- IMAGE_FILE_MACHINE_AMD64 0x8664 and IMAGE_FILE_MACHINE_ARM64EC 0xA641
abbrev pub machine_number : ObjMachine → ℕ
machine_number Amd64 = 34404
machine_number Arm64Ec = 42561

-- IMAGE_REL_AMD64_ABSOLUTE 0, ADDR64 1, ADDR32NB 3, REL32 4
abbrev pub amd64_code : SiteKind → Option ℕ
amd64_code Nothing = Some 0
amd64_code Addr64 = Some 1
amd64_code Addr32Nb = Some 3
amd64_code Rel32 = Some 4
amd64_code Branch26 = None
amd64_code PageBaseRel21 = None
amd64_code PageOffset12A = None
amd64_code PageOffset12L = None

-- IMAGE_REL_ARM64_ABSOLUTE 0, ADDR32NB 2, BRANCH26 3, PAGEBASE_REL21 4, PAGEOFFSET_12A 6,
-- PAGEOFFSET_12L 7, ADDR64 0xE
abbrev pub arm64_code : SiteKind → Option ℕ
arm64_code Nothing = Some 0
arm64_code Addr64 = Some 14
arm64_code Addr32Nb = Some 2
arm64_code Rel32 = None
arm64_code Branch26 = Some 3
arm64_code PageBaseRel21 = Some 4
arm64_code PageOffset12A = Some 6
arm64_code PageOffset12L = Some 7

-- the relocation type of a kind of site, if the machine has one
abbrev pub site_code : ObjMachine → SiteKind → Option ℕ
site_code Amd64 k = amd64_code k
site_code Arm64Ec k = arm64_code k

abbrev pub number_or_zero : Option ℕ → ℕ
number_or_zero None = 0
number_or_zero (Some n) = n

-- one more byte than the file of an object may have, which is this project's own limit
abbrev pub cap : ℕ
cap = 134217729

-- ---- names

-- a section's name that its field holds: a first slash would read as a place in the string table
abbrev pub is_short_section : List ℕ → Bool
is_short_section n = nat_le (length n) 8 && not (slice_index n 0 == 47)

-- a symbol's name that its field holds: an empty one would read as a place in the string table
abbrev pub is_short_symbol : List ℕ → Bool
is_short_symbol n = nat_lt 0 (length n) && nat_le (length n) 8

-- what a name has in the string table
unfoldable pub long_text : Bool → List ℕ → List ℕ
long_text short n = if short then [] else n ++ 0 ∷ []

-- how many bytes that is
unfoldable pub text_size : Bool → List ℕ → ℕ
text_size short n = if short then 0 else length n + 1

-- the first eight bytes, with zeros after the end
abbrev pub eight : List ℕ → List ℕ
eight n = slice_index n 0 ∷ slice_index n 1 ∷ slice_index n 2 ∷ slice_index n 3 ∷ slice_index n 4 ∷ slice_index n 5 ∷ slice_index n 6 ∷ slice_index n 7 ∷ []

-- the digit of n at a power of ten
abbrev pub digit : ℕ → ℕ → ℕ
digit n power = 48 + n / power % 10

-- a slash and seven decimal digits
unfoldable pub slash_field : ℕ → List ℕ
slash_field n = 47 ∷ digit n 1000000 ∷ digit n 100000 ∷ digit n 10000 ∷ digit n 1000 ∷ digit n 100 ∷ digit n 10 ∷ digit n 1 ∷ []

unfoldable pub section_name_field : List ℕ → ℕ → List ℕ
section_name_field n place = if is_short_section n then eight n else slash_field place

unfoldable pub symbol_name_field : List ℕ → ℕ → List ℕ
symbol_name_field n place = if is_short_symbol n then eight n else dword 0 ++ dword place

-- ---- sections

abbrev pub section_size : ObjSection → ℕ
section_size s = length s.bytes + s.zeros

-- more relocations than the header's field counts
abbrev pub overflows : ObjSection → Bool
overflows s = nat_lt 65534 (length s.sites)

-- the header's NumberOfRelocations: 65,535 under IMAGE_SCN_LNK_NRELOC_OVFL
unfoldable pub site_count : ObjSection → ℕ
site_count s = if overflows s then 65535 else length s.sites

-- the relocation records: one more, which holds the true count, under that flag
unfoldable pub row_count : ObjSection → ℕ
row_count s = if overflows s then length s.sites + 1 else length s.sites

-- Characteristics: with IMAGE_SCN_LNK_NRELOC_OVFL 0x01000000, which no valid section has by itself
unfoldable pub section_flags : ObjSection → ℕ
section_flags s = if overflows s then s.flags + 16777216 else s.flags

-- a pointer to nothing is 0
unfoldable pub pointer : ℕ → ℕ → ℕ
pointer size place = if size == 0 then 0 else place

abbrev pub name_size : ObjSection → ℕ
name_size s = text_size (is_short_section s.name) s.name

-- Name, VirtualSize, VirtualAddress, SizeOfRawData, PointerToRawData; PointerToRelocations,
-- PointerToLinenumbers, NumberOfRelocations, NumberOfLinenumbers, Characteristics
abbrev pub section_head : ℕ → ℕ → ObjSection → List (List ℕ)
section_head name contents s = section_name_field s.name name ∷ dword 0 ∷ dword 0 ∷ dword (section_size s) ∷ dword (pointer (length s.bytes) contents) ∷ []

abbrev pub section_tail : ℕ → ObjSection → List (List ℕ)
section_tail rows s = dword (pointer (length s.sites) rows) ∷ dword 0 ∷ word (site_count s) ∷ word 0 ∷ dword (section_flags s) ∷ []

unfoldable pub section_header : ℕ → ℕ → ℕ → ObjSection → List ℕ
section_header name contents rows s = concat (section_head name contents s) ++ concat (section_tail rows s)

-- the headers of sections whose first name, contents and relocations stand at these places
abbrev pub section_headers : ℕ → ℕ → ℕ → List ObjSection → List ℕ
section_headers name contents rows [] = []
section_headers name contents rows (s ∷ rest) = section_header name contents rows s ++ section_headers (name + name_size s) (contents + length s.bytes) (rows + 10 * row_count s) rest

abbrev pub section_contents : List ObjSection → List ℕ
section_contents [] = []
section_contents (s ∷ rest) = s.bytes ++ section_contents rest

abbrev pub section_texts : List ObjSection → List ℕ
section_texts [] = []
section_texts (s ∷ rest) = long_text (is_short_section s.name) s.name ++ section_texts rest

-- how many bytes these have in the string table, in contents, and how many relocation records
abbrev pub section_names_size : List ObjSection → ℕ
section_names_size [] = 0
section_names_size (s ∷ rest) = name_size s + section_names_size rest

abbrev pub contents_size : List ObjSection → ℕ
contents_size [] = 0
contents_size (s ∷ rest) = length s.bytes + contents_size rest

abbrev pub rows_count : List ObjSection → ℕ
rows_count [] = 0
rows_count (s ∷ rest) = row_count s + rows_count rest

-- ---- symbols and their records

-- a static symbol of value 0 in the section of this number; from 65,534 on there is none
abbrev pub is_start_of : ℕ → ObjSymbol → Bool
is_start_of section s = not s.external && ((s.value == 0) && ((s.section == section) && nat_lt s.section 65534))

abbrev pub has_start : ℕ → List ObjSymbol → Bool
has_start section [] = false
has_start section (s ∷ rest) = is_start_of section s || has_start section rest

abbrev pub is_comdat : Option ObjSection → Bool
is_comdat None = false
is_comdat (Some s) = s.comdat

-- the section of a number, which counts from 1
abbrev pub section_of : List ObjSection → ℕ → Option ObjSection
section_of sections zero = None
section_of sections (suc k) = slice_get sections k

-- s, which stands after the symbols before, is the section symbol of a COMDAT section: the first
-- static symbol of value 0 in it
unfoldable pub is_section_symbol : List ObjSection → List ObjSymbol → ObjSymbol → Bool
is_section_symbol sections before s = is_start_of s.section s && (is_comdat (section_of sections s.section) && not (has_start s.section before))

abbrev pub records_in : Bool → ℕ
records_in b = if b then 2 else 1

-- the numbers of the records at which the symbols from j on begin, the first of them n
abbrev pub record_numbers : List ObjSection → List ObjSymbol → ℕ → ℕ → List ObjSymbol → List ℕ
record_numbers sections symbols j n [] = []
record_numbers sections symbols j n (s ∷ rest) = n ∷ record_numbers sections symbols (j + 1) (n + records_in (is_section_symbol sections (take j symbols) s)) rest

-- how many records the symbols from j on have
abbrev pub records_total : List ObjSection → List ObjSymbol → ℕ → List ObjSymbol → ℕ
records_total sections symbols j [] = 0
records_total sections symbols j (s ∷ rest) = records_in (is_section_symbol sections (take j symbols) s) + records_total sections symbols (j + 1) rest

abbrev pub numbers : Object → List ℕ
numbers o = record_numbers o.sections o.symbols 0 0 o.symbols

abbrev pub record_count : Object → ℕ
record_count o = records_total o.sections o.symbols 0 o.symbols

-- IMAGE_SYM_CLASS_EXTERNAL 2 and IMAGE_SYM_CLASS_STATIC 3
abbrev pub class_of : Bool → ℕ
class_of external = if external then 2 else 3

-- Name, Value, SectionNumber, Type, StorageClass, NumberOfAuxSymbols
unfoldable pub symbol_record : ℕ → Bool → ObjSymbol → List ℕ
symbol_record name more s = concat (symbol_name_field s.name name ∷ dword s.value ∷ word s.section ∷ word 0 ∷ (class_of s.external ∷ []) ∷ ((if more then 1 else 0) ∷ []) ∷ [])

-- "Auxiliary Format 5: Section Definitions": Length, NumberOfRelocations, NumberOfLinenumbers,
-- CheckSum, Number, Selection IMAGE_COMDAT_SELECT_ANY 2, and three unused bytes
unfoldable pub section_definition : ObjSection → List ℕ
section_definition s = concat (dword (section_size s) ∷ word (site_count s) ∷ word 0 ∷ dword 0 ∷ word 0 ∷ (2 ∷ 0 ∷ 0 ∷ 0 ∷ []) ∷ [])

unfoldable pub definition_of : Option ObjSection → List ℕ
definition_of None = []
definition_of (Some s) = section_definition s

-- the records of a symbol
unfoldable pub symbol_records_of : List ObjSection → ℕ → Bool → ObjSymbol → List ℕ
symbol_records_of sections name more s = symbol_record name more s ++ (if more then definition_of (section_of sections s.section) else [])

abbrev pub symbol_name_size : ObjSymbol → ℕ
symbol_name_size s = text_size (is_short_symbol s.name) s.name

-- the records of the symbols from j on, the first long name of which stands at this place
abbrev pub symbol_table : List ObjSection → List ObjSymbol → ℕ → ℕ → List ObjSymbol → List ℕ
symbol_table sections symbols j name [] = []
symbol_table sections symbols j name (s ∷ rest) = symbol_records_of sections name (is_section_symbol sections (take j symbols) s) s ++ symbol_table sections symbols (j + 1) (name + symbol_name_size s) rest

abbrev pub symbol_texts : List ObjSymbol → List ℕ
symbol_texts [] = []
symbol_texts (s ∷ rest) = long_text (is_short_symbol s.name) s.name ++ symbol_texts rest

abbrev pub symbol_names_size : List ObjSymbol → ℕ
symbol_names_size [] = 0
symbol_names_size (s ∷ rest) = symbol_name_size s + symbol_names_size rest

-- ---- relocations: VirtualAddress, SymbolTableIndex, Type

unfoldable pub relocation : ObjMachine → List ℕ → ObjSite → List ℕ
relocation machine records t = concat (dword t.at ∷ dword (slice_index records t.symbol) ∷ word (number_or_zero (site_code machine t.kind)) ∷ [])

abbrev pub relocations : ObjMachine → List ℕ → List ObjSite → List ℕ
relocations machine records [] = []
relocations machine records (t ∷ rest) = relocation machine records t ++ relocations machine records rest

-- the true count, itself included, where the header's field doesn't hold it
unfoldable pub count_row : ObjSection → List ℕ
count_row s = if overflows s then concat (dword (length s.sites + 1) ∷ dword 0 ∷ word 0 ∷ []) else []

abbrev pub section_relocations : ObjMachine → List ℕ → List ObjSection → List ℕ
section_relocations machine records [] = []
section_relocations machine records (s ∷ rest) = (count_row s ++ relocations machine records s.sites) ++ section_relocations machine records rest

-- ---- the section `.hybmp$x`: source symbol, thunk symbol, kind

unfoldable pub hybrid_row : List ℕ → HybridRow → List ℕ
hybrid_row records r = concat (dword (slice_index records r.source) ∷ dword (slice_index records r.thunk) ∷ dword r.kind ∷ [])

abbrev pub hybrid_rows : List ℕ → List HybridRow → List ℕ
hybrid_rows records [] = []
hybrid_rows records (r ∷ rest) = hybrid_row records r ++ hybrid_rows records rest

abbrev pub hybrid_name : List ℕ
hybrid_name = 46 ∷ 104 ∷ 121 ∷ 98 ∷ 109 ∷ 112 ∷ 36 ∷ 120 ∷ []

-- its header, where there are rows: flags IMAGE_SCN_LNK_INFO 0x200 and IMAGE_SCN_ALIGN_4BYTES
-- 0x300000
abbrev pub hybrid_head : ℕ → ℕ → List (List ℕ)
hybrid_head contents size = hybrid_name ∷ dword 0 ∷ dword 0 ∷ dword size ∷ dword contents ∷ []

abbrev pub hybrid_tail : List (List ℕ)
hybrid_tail = dword 0 ∷ dword 0 ∷ word 0 ∷ word 0 ∷ dword 3146240 ∷ []

unfoldable pub hybrid_header : ℕ → List HybridRow → List ℕ
hybrid_header contents rows = if length rows == 0 then [] else concat (hybrid_head contents (12 * length rows)) ++ concat hybrid_tail

abbrev pub hybrid_sections : List HybridRow → ℕ
hybrid_sections rows = if length rows == 0 then 0 else 1

-- ---- the parts and their places

abbrev pub section_count : Object → ℕ
section_count o = length o.sections + hybrid_sections o.hybrid

abbrev pub contents_place : Object → ℕ
contents_place o = 20 + 40 * section_count o

abbrev pub hybrid_place : Object → ℕ
hybrid_place o = contents_place o + contents_size o.sections

abbrev pub relocations_place : Object → ℕ
relocations_place o = hybrid_place o + 12 * length o.hybrid

abbrev pub symbols_place : Object → ℕ
symbols_place o = relocations_place o + 10 * rows_count o.sections

abbrev pub strings_place : Object → ℕ
strings_place o = symbols_place o + 18 * record_count o

-- the string table's size counts its own field
abbrev pub strings_size : Object → ℕ
strings_size o = 4 + (section_names_size o.sections + symbol_names_size o.symbols)

abbrev pub file_size : Object → ℕ
file_size o = strings_place o + strings_size o

-- Machine, NumberOfSections, TimeDateStamp, PointerToSymbolTable, NumberOfSymbols,
-- SizeOfOptionalHeader, Characteristics
unfoldable pub file_header : Object → List ℕ
file_header o = concat (word (machine_number o.machine) ∷ word (section_count o) ∷ dword 0 ∷ dword (symbols_place o) ∷ dword (record_count o) ∷ word 0 ∷ word 0 ∷ [])

unfoldable pub section_part : Object → List ℕ
section_part o = section_headers 4 (contents_place o) (relocations_place o) o.sections ++ hybrid_header (hybrid_place o) o.hybrid

unfoldable pub contents_part : Object → List ℕ
contents_part o = section_contents o.sections ++ hybrid_rows (numbers o) o.hybrid

unfoldable pub relocation_part : Object → List ℕ
relocation_part o = section_relocations o.machine (numbers o) o.sections

unfoldable pub symbol_part : Object → List ℕ
symbol_part o = symbol_table o.sections o.symbols 0 (4 + section_names_size o.sections) o.symbols

unfoldable pub string_part : Object → List ℕ
string_part o = dword (strings_size o) ++ (section_texts o.sections ++ symbol_texts o.symbols)

abbrev pub parts : Object → List (List ℕ)
parts o = file_header o ∷ section_part o ∷ contents_part o ∷ relocation_part o ∷ symbol_part o ∷ string_part o ∷ []

unfoldable pub object_bytes : Object → List ℕ
object_bytes o = concat (parts o)
