-- The headers of an image's file, as total functions of its bytes (Microsoft PE/COFF specification:
-- "MS-DOS Stub", "COFF File Header", "Optional Header" for PE32+, "Section Table").
use Rattle.std.specs.Prelude.{ℕ, ◌+◌, ◌*◌, min, List}
use Rattle.file_words.specs.Fields.{word_of, dword_of, part_of, until_zero}
use Rattle.file_words.specs.Below.{table}
use Rattle.chpe_types.specs.declared.image.ImageSection.{ImageSection}

-- a number of 64 bits
unfoldable pub qword_of : List ℕ → ℕ → ℕ
qword_of b place = dword_of b place + 4294967296 * dword_of b (place + 4)

-- ---- the DOS header: e_magic, and e_lfanew, where the signature stands

unfoldable pub dos_magic : List ℕ → ℕ
dos_magic b = word_of b 0

unfoldable pub pe_place : List ℕ → ℕ
pe_place b = dword_of b 60

-- ---- the signature and the COFF header: Machine, NumberOfSections, SizeOfOptionalHeader

unfoldable pub pe_magic : List ℕ → ℕ
pe_magic b = dword_of b (pe_place b)

unfoldable pub machine : List ℕ → ℕ
machine b = word_of b (pe_place b + 4)

unfoldable pub section_count : List ℕ → ℕ
section_count b = word_of b (pe_place b + 6)

unfoldable pub optional_size : List ℕ → ℕ
optional_size b = word_of b (pe_place b + 20)

-- ---- the optional header of 240 bytes: Magic, AddressOfEntryPoint, ImageBase, SectionAlignment,
-- FileAlignment, SizeOfImage, SizeOfStackReserve, NumberOfRvaAndSizes

abbrev pub optional_place : List ℕ → ℕ
optional_place b = pe_place b + 24

unfoldable pub optional_magic : List ℕ → ℕ
optional_magic b = word_of b (optional_place b)

unfoldable pub entry : List ℕ → ℕ
entry b = dword_of b (optional_place b + 16)

unfoldable pub base : List ℕ → ℕ
base b = qword_of b (optional_place b + 24)

unfoldable pub section_alignment : List ℕ → ℕ
section_alignment b = dword_of b (optional_place b + 32)

unfoldable pub file_alignment : List ℕ → ℕ
file_alignment b = dword_of b (optional_place b + 36)

unfoldable pub image_size : List ℕ → ℕ
image_size b = dword_of b (optional_place b + 56)

unfoldable pub stack : List ℕ → ℕ
stack b = qword_of b (optional_place b + 72)

unfoldable pub directory_count : List ℕ → ℕ
directory_count b = dword_of b (optional_place b + 108)

-- ---- data directory d: VirtualAddress and Size

unfoldable pub directory_rva : List ℕ → ℕ → ℕ
directory_rva b d = dword_of b (optional_place b + 112 + 8 * d)

unfoldable pub directory_size : List ℕ → ℕ → ℕ
directory_size b d = dword_of b (optional_place b + 116 + 8 * d)

-- ---- the header of section i: Name, VirtualSize, VirtualAddress, SizeOfRawData, PointerToRawData,
-- Characteristics

unfoldable pub section_place : List ℕ → ℕ → ℕ
section_place b i = pe_place b + 264 + 40 * i

unfoldable pub virtual_size : List ℕ → ℕ → ℕ
virtual_size b i = dword_of b (section_place b i + 8)

unfoldable pub section_rva : List ℕ → ℕ → ℕ
section_rva b i = dword_of b (section_place b i + 12)

unfoldable pub raw_size : List ℕ → ℕ → ℕ
raw_size b i = dword_of b (section_place b i + 16)

unfoldable pub raw_place : List ℕ → ℕ → ℕ
raw_place b i = dword_of b (section_place b i + 20)

unfoldable pub section_flags : List ℕ → ℕ → ℕ
section_flags b i = dword_of b (section_place b i + 36)

unfoldable pub section_name : List ℕ → ℕ → List ℕ
section_name b i = until_zero (part_of b (section_place b i) 8)

-- the contents in the file, cut to the section's size in memory
unfoldable pub section_bytes : List ℕ → ℕ → List ℕ
section_bytes b i = part_of b (raw_place b i) (min (raw_size b i) (virtual_size b i))

unfoldable pub section : List ℕ → ℕ → ImageSection
section b i = record { name = section_name b i; rva = section_rva b i; size = virtual_size b i; flags = section_flags b i; bytes = section_bytes b i }

unfoldable pub sections : List ℕ → List ImageSection
sections b = table (section b) (section_count b)
