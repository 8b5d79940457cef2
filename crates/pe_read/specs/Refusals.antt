-- Each refusal as a test over the whole file, and their order. The fields are those of Microsoft's
-- PE/COFF specification; which values of them are refused, and the order, are this project's own.
use Rattle.std.specs.Prelude.{ℕ, zero, suc, ◌+◌, ◌*◌, ◌/◌, ◌%◌, Bool, false, not, ◌&&◌, ◌||◌, List, [], ◌∷◌, length, ◌==◌, nat_lt, bit_and}
use Rattle.file_words.specs.Below.{any_below}
use Rattle.chpe_meta.specs.Reading.{meta_in}
use Rattle.pe_fields.specs.Headers.{dos_magic, pe_place, pe_magic, machine, section_count, optional_size, optional_magic, entry, base, section_alignment, file_alignment, image_size, stack, directory_count, directory_rva, directory_size, section_place, virtual_size, section_rva, raw_size, raw_place, section_flags, sections}
use Rattle.pe_fields.specs.Space.{is_mapped, rest_at}
use Rattle.pe_fields.specs.Imports.{bad_imports}
use Rattle.pe_fields.specs.Relocations.{bad_relocations}
use Rattle.pe_fields.specs.Hybrid.{meta_rva, bad_config, bad_hybrid, bad_entry}
use Rattle.pe_read.specs.declared.refusal.ImageRefusal.{ImageRefusal}
use Rattle.pe_read.specs.declared.refusal.ImageRefusal.TheVariants.{TooLarge, Short, DosMagic, PeOffset, PeMagic, Machine, OptionalSize, OptionalMagic, Alignment, ImageSize, StackSize, SectionTable, SectionRange, Directory, Import, BaseRelocation, LoadConfig, Metadata, Entry, NoMemory}

-- ---- the headers

-- 128 MiB
abbrev pub limit : ℕ
limit = 134217728

unfoldable pub too_large : List ℕ → Bool
too_large b = nat_lt limit (length b)

unfoldable pub short : List ℕ → Bool
short b = nat_lt (length b) 64

-- MZ
unfoldable pub bad_dos_magic : List ℕ → Bool
bad_dos_magic b = not (dos_magic b == 23117)

-- the signature, the COFF header and the optional header have 264 bytes
unfoldable pub bad_place : List ℕ → Bool
bad_place b = not (pe_place b % 8 == 0) || nat_lt (length b) (pe_place b + 264)

-- PE and two zeros
unfoldable pub bad_magic : List ℕ → Bool
bad_magic b = not (pe_magic b == 17744)

-- IMAGE_FILE_MACHINE_AMD64 0x8664
unfoldable pub bad_machine : List ℕ → Bool
bad_machine b = not (machine b == 34404)

unfoldable pub bad_optional_size : List ℕ → Bool
bad_optional_size b = not (optional_size b == 240)

-- PE32+ 0x20B
unfoldable pub bad_optional_magic : List ℕ → Bool
bad_optional_magic b = not (optional_magic b == 523)

unfoldable pub bad_alignment : List ℕ → Bool
bad_alignment b = not (section_alignment b == 4096) || not (file_alignment b == 512)

unfoldable pub bad_image_size : List ℕ → Bool
bad_image_size b = (image_size b == 0) || (not (image_size b % 4096 == 0) || nat_lt limit (image_size b))

unfoldable pub bad_stack : List ℕ → Bool
bad_stack b = not (stack b % 4096 == 0) || nat_lt 268435456 (stack b)

-- ---- sections

unfoldable pub bad_section_table : List ℕ → Bool
bad_section_table b = (section_count b == 0) || (nat_lt 94 (section_count b) || nat_lt (length b) (section_place b (section_count b)))

-- the first place that section i may have: past the headers' page, and the end of the one before
unfoldable pub first_place : List ℕ → ℕ → ℕ
first_place b zero = 4096
first_place b (suc i) = section_rva b i + virtual_size b i

-- off a page, below its first place, empty, or past the image
unfoldable pub bad_home : List ℕ → ℕ → Bool
bad_home b i = not (section_rva b i % 4096 == 0) || (nat_lt (section_rva b i) (first_place b i) || ((virtual_size b i == 0) || nat_lt (image_size b) (section_rva b i + virtual_size b i)))

-- past the file, or longer than the size in memory rounded up to 512
unfoldable pub bad_contents : List ℕ → ℕ → Bool
bad_contents b i = nat_lt (length b) (raw_place b i + raw_size b i) || nat_lt ((virtual_size b i + 511) / 512 * 512) (raw_size b i)

unfoldable pub has_flag : List ℕ → ℕ → ℕ → Bool
has_flag b i flag = not (bit_and (section_flags b i) flag == 0)

-- IMAGE_SCN_MEM_WRITE 0x80000000 and IMAGE_SCN_MEM_EXECUTE 0x20000000
unfoldable pub bad_rights : List ℕ → ℕ → Bool
bad_rights b i = has_flag b i 2147483648 && has_flag b i 536870912

unfoldable pub bad_section : List ℕ → ℕ → Bool
bad_section b i = bad_home b i || (bad_contents b i || bad_rights b i)

unfoldable pub bad_section_range : List ℕ → Bool
bad_section_range b = any_below (bad_section b) (section_count b)

-- ---- directories: the import table 1, the base relocation table 5, the load configuration 10

unfoldable pub is_used : List ℕ → ℕ → Bool
is_used b d = not (directory_rva b d == 0)

abbrev pub is_known : ℕ → Bool
is_known d = (d == 1) || ((d == 5) || (d == 10))

-- used, and of another kind or outside a section
unfoldable pub bad_use : List ℕ → ℕ → Bool
bad_use b d = is_used b d && (not (is_known d) || not (is_mapped (sections b) (directory_rva b d) (directory_size b d)))

unfoldable pub bad_directory : List ℕ → Bool
bad_directory b = not (directory_count b == 16) || any_below (bad_use b) 16

unfoldable pub bad_import : List ℕ → Bool
bad_import b = is_used b 1 && bad_imports (sections b) (directory_rva b 1) (directory_size b 1)

unfoldable pub bad_base_relocation : List ℕ → Bool
bad_base_relocation b = is_used b 5 && bad_relocations (rest_at (sections b) (directory_rva b 5)) (directory_size b 5)

unfoldable pub bad_load_config : List ℕ → Bool
bad_load_config b = not (is_used b 10) || bad_config (sections b) (base b) (directory_rva b 10) (directory_size b 10)

-- ---- the hybrid metadata

unfoldable pub header_rva : List ℕ → ℕ
header_rva b = meta_rva (sections b) (base b) (directory_rva b 10)

unfoldable pub bad_metadata : List ℕ → Bool
bad_metadata b = bad_hybrid (sections b) (header_rva b)

unfoldable pub bad_entry_point : List ℕ → Bool
bad_entry_point b = bad_entry (meta_in (rest_at (sections b) (header_rva b)) (header_rva b)) (entry b)

-- ---- the list

-- whether this refusal holds in the file; want of memory is none of the file's
abbrev pub holds : List ℕ → ImageRefusal → Bool
holds b TooLarge = too_large b
holds b Short = short b
holds b DosMagic = bad_dos_magic b
holds b PeOffset = bad_place b
holds b PeMagic = bad_magic b
holds b Machine = bad_machine b
holds b OptionalSize = bad_optional_size b
holds b OptionalMagic = bad_optional_magic b
holds b Alignment = bad_alignment b
holds b ImageSize = bad_image_size b
holds b StackSize = bad_stack b
holds b SectionTable = bad_section_table b
holds b SectionRange = bad_section_range b
holds b Directory = bad_directory b
holds b Import = bad_import b
holds b BaseRelocation = bad_base_relocation b
holds b LoadConfig = bad_load_config b
holds b Metadata = bad_metadata b
holds b Entry = bad_entry_point b
holds b NoMemory = false

abbrev pub refusals : List ImageRefusal
refusals = TooLarge ∷ Short ∷ DosMagic ∷ PeOffset ∷ PeMagic ∷ Machine ∷ OptionalSize ∷ OptionalMagic ∷ Alignment ∷ ImageSize ∷ StackSize ∷ SectionTable ∷ SectionRange ∷ Directory ∷ Import ∷ BaseRelocation ∷ LoadConfig ∷ Metadata ∷ Entry ∷ []
