-- Which images some file has, by tests on their values. The fields are those of Microsoft's PE/COFF
-- specification; which of their values an image may have is this project's own.
use Rattle.std.specs.Prelude.{◌≡◌, ℕ, ◌+◌, ◌%◌, Bool, true, not, ◌&&◌, List, [], ◌∷◌, length, ◌==◌, nat_le, nat_lt, bit_and, is_some, Ok}
use Rattle.std.specs.List.{list_all}
use Rattle.hx_words.specs.LittleEndian.{AreBytes}
use Rattle.file_words.specs.Below.{first_below}
use Rattle.chpe_types.specs.declared.image.Image.{Image}
use Rattle.chpe_types.specs.declared.image.ImageSection.{ImageSection}
use Rattle.pe_fields.specs.Hybrid.{bad_entry}
use Rattle.pe_read.specs.Images.{image_of}
use Rattle.pe_write_laws.specs.Places.{is_import_place, is_blocks_place, is_config_place}

-- some file, which is bytes, has the image
abbrev pub IsAllowed : Image → Type 0
IsAllowed i = (b : List ℕ) × AreBytes b × (image_of b ≡ Ok i)

-- ---- numbers: a size of whole pages up to 128 MiB, a stack of whole pages up to 256 MiB, a base of
-- 64 bits and an entry of 32

abbrev pub fits : ℕ → Bool
fits n = nat_lt n 4294967296

abbrev pub is_paged : ℕ → ℕ → Bool
is_paged most n = (n % 4096 == 0) && nat_le n most

unfoldable pub has_numbers : Image → Bool
has_numbers i = is_paged 134217728 i.size && (is_paged 268435456 i.stack && (nat_lt i.base 18446744073709551616 && fits i.entry))

-- ---- sections

abbrev pub is_byte : ℕ → Bool
is_byte c = nat_lt c 256

-- a byte that a name may have; the zeros after a name only pad it
abbrev pub is_letter : ℕ → Bool
is_letter c = not (c == 0) && is_byte c

abbrev pub is_name : List ℕ → Bool
is_name xs = nat_le (length xs) 8 && list_all is_letter xs

-- on a page, not below a place, not empty, and ending by the image's size
abbrev pub has_home : ℕ → ℕ → ImageSection → Bool
has_home size first s = (s.rva % 4096 == 0) && (nat_le first s.rva && (not (s.size == 0) && nat_le (s.rva + s.size) size))

abbrev pub has_contents : ImageSection → Bool
has_contents s = list_all is_byte s.bytes && nat_le (length s.bytes) s.size

abbrev pub lacks_flag : ImageSection → ℕ → Bool
lacks_flag s flag = bit_and s.flags flag == 0

-- not both IMAGE_SCN_MEM_WRITE 0x80000000 and IMAGE_SCN_MEM_EXECUTE 0x20000000
abbrev pub has_rights : ImageSection → Bool
has_rights s = fits s.flags && not (not (lacks_flag s 2147483648) && not (lacks_flag s 536870912))

unfoldable pub is_section : ImageSection → Bool
is_section s = is_name s.name && (has_contents s && has_rights s)

-- sections one after the other, from a place on
abbrev pub are_placed : ℕ → ℕ → List ImageSection → Bool
are_placed size first [] = true
are_placed size first (s ∷ ss) = (has_home size first s && is_section s) && are_placed size (s.rva + s.size) ss

-- the headers stand on the first page of the image, and their table has room for 94
unfoldable pub has_sections : Image → Bool
has_sections i = not (length i.sections == 0) && (nat_le (length i.sections) 94 && are_placed i.size 4096 i.sections)

-- ---- directories: a place for each that the image needs

abbrev pub where_some : {X : Type 0} → List X → Bool → Bool
where_some [] b = true
where_some (x ∷ xs) b = b

unfoldable pub has_places : Image → Bool
has_places i = where_some i.imports (is_some (first_below (is_import_place i) i.size)) && (where_some i.sites (is_some (first_below (is_blocks_place i) i.size)) && is_some (first_below (is_config_place i) i.size))

-- ---- the whole; the entry is x64 code

unfoldable pub is_allowed : Image → Bool
is_allowed i = has_numbers i && (has_sections i && (has_places i && not (bad_entry i.meta i.entry)))
