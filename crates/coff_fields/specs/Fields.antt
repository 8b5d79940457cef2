-- The fields of an object's file (Microsoft PE/COFF specification: "COFF File Header", "Section
-- Table", "COFF Relocations", "COFF Symbol Table", "COFF String Table"), as total functions of the
-- bytes. The machine number of Arm64EC is that of winnt.h.
use Rattle.std.specs.Prelude.{ℕ, zero, suc, ◌+◌, ◌-◌, ◌*◌, Bool, not, ◌&&◌, List, ◌==◌, nat_lt, bit_and, if◌then◌else◌}
use Rattle.file_words.specs.Fields.{byte_of, word_of, dword_of}
use Rattle.coff_write.specs.declared.object.ObjMachine.{ObjMachine}
use Rattle.coff_write.specs.declared.object.ObjMachine.TheVariants.{Amd64, Arm64Ec}

-- ---- the header: Machine, NumberOfSections, PointerToSymbolTable, NumberOfSymbols,
-- SizeOfOptionalHeader

unfoldable pub machine_field : List ℕ → ℕ
machine_field b = word_of b 0

unfoldable pub section_count : List ℕ → ℕ
section_count b = word_of b 2

unfoldable pub symbols_place : List ℕ → ℕ
symbols_place b = dword_of b 8

unfoldable pub symbol_count : List ℕ → ℕ
symbol_count b = dword_of b 12

unfoldable pub optional_size : List ℕ → ℕ
optional_size b = word_of b 16

-- IMAGE_FILE_MACHINE_AMD64 0x8664; a file of another machine than this and Arm64EC is refused
unfoldable pub machine_of : List ℕ → ObjMachine
machine_of b = if machine_field b == 34404 then Amd64 else Arm64Ec

-- the string table follows the symbol table, and begins with its size
unfoldable pub strings_place : List ℕ → ℕ
strings_place b = symbols_place b + 18 * symbol_count b

unfoldable pub strings_size : List ℕ → ℕ
strings_size b = dword_of b (strings_place b)

-- ---- the header of section i: SizeOfRawData, PointerToRawData, PointerToRelocations,
-- NumberOfRelocations, Characteristics

abbrev pub section_place : ℕ → ℕ
section_place i = 20 + 40 * i

unfoldable pub raw_size : List ℕ → ℕ → ℕ
raw_size b i = dword_of b (section_place i + 16)

unfoldable pub raw_place : List ℕ → ℕ → ℕ
raw_place b i = dword_of b (section_place i + 20)

unfoldable pub rows_place : List ℕ → ℕ → ℕ
rows_place b i = dword_of b (section_place i + 24)

unfoldable pub row_field : List ℕ → ℕ → ℕ
row_field b i = word_of b (section_place i + 32)

unfoldable pub raw_flags : List ℕ → ℕ → ℕ
raw_flags b i = dword_of b (section_place i + 36)

unfoldable pub has_flag : List ℕ → ℕ → ℕ → Bool
has_flag b i flag = not (bit_and (raw_flags b i) flag == 0)

-- IMAGE_SCN_CNT_UNINITIALIZED_DATA 0x80: no contents in the file
unfoldable pub contents_size : List ℕ → ℕ → ℕ
contents_size b i = if has_flag b i 128 then 0 else raw_size b i

unfoldable pub zeros_of : List ℕ → ℕ → ℕ
zeros_of b i = if has_flag b i 128 then raw_size b i else 0

-- ---- the relocations of section i

-- IMAGE_SCN_LNK_NRELOC_OVFL 0x01000000 and a count of 65,535: the first record's VirtualAddress
-- is the true count of records, itself included
unfoldable pub overflows : List ℕ → ℕ → Bool
overflows b i = has_flag b i 16777216 && (row_field b i == 65535)

unfoldable pub row_count : List ℕ → ℕ → ℕ
row_count b i = if overflows b i then dword_of b (rows_place b i) else row_field b i

-- how many records stand before those of the sites
unfoldable pub extra_rows : List ℕ → ℕ → ℕ
extra_rows b i = if overflows b i then 1 else 0

unfoldable pub site_count : List ℕ → ℕ → ℕ
site_count b i = row_count b i - extra_rows b i

-- site r of it: VirtualAddress, SymbolTableIndex, Type

unfoldable pub site_place : List ℕ → ℕ → ℕ → ℕ
site_place b i r = rows_place b i + 10 * (extra_rows b i + r)

unfoldable pub site_at : List ℕ → ℕ → ℕ → ℕ
site_at b i r = dword_of b (site_place b i r)

unfoldable pub site_symbol : List ℕ → ℕ → ℕ → ℕ
site_symbol b i r = dword_of b (site_place b i r + 4)

unfoldable pub site_type : List ℕ → ℕ → ℕ → ℕ
site_type b i r = word_of b (site_place b i r + 8)

-- ---- record j of the symbol table: Value, SectionNumber, StorageClass, NumberOfAuxSymbols

unfoldable pub symbol_place : List ℕ → ℕ → ℕ
symbol_place b j = symbols_place b + 18 * j

unfoldable pub symbol_value : List ℕ → ℕ → ℕ
symbol_value b j = dword_of b (symbol_place b j + 8)

unfoldable pub symbol_section : List ℕ → ℕ → ℕ
symbol_section b j = word_of b (symbol_place b j + 12)

unfoldable pub symbol_class : List ℕ → ℕ → ℕ
symbol_class b j = byte_of b (symbol_place b j + 16)

unfoldable pub auxiliary_count : List ℕ → ℕ → ℕ
auxiliary_count b j = byte_of b (symbol_place b j + 17)

-- the Selection of the auxiliary record after record j ("Auxiliary Format 5: Section Definitions")
unfoldable pub selection : List ℕ → ℕ → ℕ
selection b j = byte_of b (symbol_place b j + 32)

-- how many records from j on are auxiliary ones of a symbol before them
unfoldable pub skip_at : List ℕ → ℕ → ℕ
skip_at b zero = 0
skip_at b (suc j) = if skip_at b j == 0 then auxiliary_count b j else skip_at b j - 1

-- record j begins a symbol
abbrev pub is_main : List ℕ → ℕ → Bool
is_main b j = skip_at b j == 0

-- a SectionNumber that names a section: not IMAGE_SYM_UNDEFINED 0, IMAGE_SYM_DEBUG -2 or
-- IMAGE_SYM_ABSOLUTE -1
abbrev pub in_section : ℕ → Bool
in_section s = not (s == 0) && nat_lt s 65534

-- ---- row r of a section i of hybrid rows: source symbol, thunk symbol, kind

unfoldable pub hybrid_place : List ℕ → ℕ → ℕ → ℕ
hybrid_place b i r = raw_place b i + 12 * r

unfoldable pub hybrid_source : List ℕ → ℕ → ℕ → ℕ
hybrid_source b i r = dword_of b (hybrid_place b i r)

unfoldable pub hybrid_thunk : List ℕ → ℕ → ℕ → ℕ
hybrid_thunk b i r = dword_of b (hybrid_place b i r + 4)

unfoldable pub hybrid_kind : List ℕ → ℕ → ℕ → ℕ
hybrid_kind b i r = dword_of b (hybrid_place b i r + 8)
