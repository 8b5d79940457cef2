-- The one file of an image (Microsoft PE/COFF specification: "MS-DOS Stub", "COFF File Header",
-- "Optional Header" for PE32+, "Section Table"). An image has no directories of its own, so they are
-- those of the first places that read as its imports, its sites and its metadata.
use Rattle.std.specs.Prelude.{ℕ, ◌+◌, ◌-◌, ◌*◌, ◌/◌, List, [], ◌∷◌, ◌++◌, length, replicate, ◌==◌, if◌then◌else◌}
use Rattle.std.specs.List.{concat}
use Rattle.hx_words.specs.LittleEndian.{bytes_of}
use Rattle.chpe_types.specs.declared.image.Image.{Image}
use Rattle.chpe_types.specs.declared.image.ImageSection.{ImageSection}
use Rattle.pe_write_laws.specs.Places.{import_place, config_place, blocks_place, blocks_size}

abbrev pub word : ℕ → List ℕ
word n = bytes_of 2 n

abbrev pub dword : ℕ → List ℕ
dword n = bytes_of 4 n

abbrev pub qword : ℕ → List ℕ
qword n = bytes_of 8 n

unfoldable pub zeros : ℕ → List ℕ
zeros n = replicate n 0

-- up to the next multiple of 512
abbrev pub blocks : ℕ → ℕ
blocks n = (n + 511) / 512 * 512

-- ---- headers: the DOS header's e_lfanew is 64; machine 0x8664, an executable image for large addresses

unfoldable pub dos_header : List ℕ
dos_header = concat (word 23117 ∷ zeros 58 ∷ dword 64 ∷ [])

unfoldable pub coff_header : Image → List ℕ
coff_header i = concat (dword 17744 ∷ word 34404 ∷ word (length i.sections) ∷ zeros 12 ∷ word 240 ∷ word 34 ∷ [])

-- the headers end where the section table does
abbrev pub headers_size : Image → ℕ
headers_size i = 328 + 40 * length i.sections

-- the console subsystem 3; IMAGE_DLLCHARACTERISTICS_DYNAMIC_BASE, NX_COMPAT and HIGH_ENTROPY_VA 0x160
unfoldable pub standard_fields : Image → List ℕ
standard_fields i = concat (word 523 ∷ zeros 14 ∷ dword i.entry ∷ zeros 4 ∷ qword i.base ∷ dword 4096 ∷ [])

unfoldable pub size_fields : Image → List ℕ
size_fields i = concat (dword 512 ∷ zeros 16 ∷ dword i.size ∷ dword (blocks (headers_size i)) ∷ zeros 4 ∷ [])

unfoldable pub stack_fields : Image → List ℕ
stack_fields i = concat (word 3 ∷ word 352 ∷ qword i.stack ∷ zeros 28 ∷ dword 16 ∷ [])

-- a place of 0 stands for a directory that isn't used
abbrev pub directory : ℕ → ℕ → List ℕ
directory place size = dword place ++ dword (if place == 0 then 0 else size)

unfoldable pub late_directories : Image → List ℕ
late_directories i = concat (zeros 32 ∷ directory (config_place i) 208 ∷ zeros 40 ∷ [])

unfoldable pub directories : Image → List ℕ
directories i = concat (zeros 8 ∷ directory (import_place i) 40 ∷ zeros 24 ∷ directory (blocks_place i) (blocks_size i) ∷ late_directories i ∷ [])

-- ---- sections: contents stand one after the other, each from a multiple of 512 on

unfoldable pub section_row : ℕ → ImageSection → List ℕ
section_row place s = concat ((s.name ++ zeros (8 - length s.name)) ∷ dword s.size ∷ dword s.rva ∷ dword (length s.bytes) ∷ dword place ∷ (zeros 12 ++ dword s.flags) ∷ [])

abbrev pub section_rows : ℕ → List ImageSection → List ℕ
section_rows place [] = []
section_rows place (s ∷ rest) = section_row place s ++ section_rows (place + blocks (length s.bytes)) rest

unfoldable pub padded : List ℕ → List ℕ
padded xs = xs ++ zeros (blocks (length xs) - length xs)

abbrev pub contents_size : List ImageSection → ℕ
contents_size [] = 0
contents_size (s ∷ rest) = blocks (length s.bytes) + contents_size rest

abbrev pub contents : List ImageSection → List ℕ
contents [] = []
contents (s ∷ rest) = padded s.bytes ++ contents rest

-- ---- the whole

unfoldable pub optional_header : Image → List ℕ
optional_header i = concat (standard_fields i ∷ size_fields i ∷ stack_fields i ∷ directories i ∷ [])

unfoldable pub headers : Image → List ℕ
headers i = concat (dos_header ∷ coff_header i ∷ optional_header i ∷ section_rows (blocks (headers_size i)) i.sections ∷ [])

unfoldable pub image_bytes : Image → List ℕ
image_bytes i = padded (headers i) ++ contents i.sections
