-- The file of an image that the tests allow is bytes.
use Rattle.std.proofs.Common.{◌≡◌, ℕ, zero, suc, ◌+◌, ◌-◌, ◌<◌, true, cond, not, eqb, List, [], ◌∷◌, ◌++◌, length, refl, arith}
use Rattle.std.specs.Prelude.{replicate}
use Rattle.std.specs.List.{concat, list_all}
use Rattle.std.proofs.lemmas.Bool.{and_parts, and_from, ltb-true, lt-ltb}
use Rattle.hx_words.specs.LittleEndian.{AreBytes}
use Rattle.hx_words.proofs.LittleEndianLaws.{AreBytes-bytes_of, AreBytes-append}
use Rattle.chpe_types.specs.declared.image.Image.{Image}
use Rattle.chpe_types.specs.declared.image.ImageSection.{ImageSection}
use Rattle.pe_write_laws.specs.Places.{import_place, config_place, blocks_place, blocks_size}
use Rattle.pe_write_laws.specs.Allowed.{is_byte, is_letter, are_placed}
use Rattle.pe_write_laws.specs.Format.{word, dword, qword, zeros, blocks, headers_size, dos_header, coff_header, standard_fields, size_fields, stack_fields, directory, late_directories, directories, optional_header, section_row, section_rows, padded, contents, headers, image_bytes}
use Rattle.pe_write_laws.proofs.Room.{Section, placed_parts}

-- ---- lists of bytes

abbrev Each : List (List ℕ) → Type 0
Each [] = Unit {0}
Each (x ∷ xs) = AreBytes x × Each xs

joined : (xs : List (List ℕ)) → Each xs → AreBytes (concat xs)
joined [] h = tt
joined (x ∷ xs) h = AreBytes-append x (concat xs) h.0 (joined xs h.1)

zero_bytes : (n : ℕ) → AreBytes (replicate n 0)
zero_bytes zero = tt
zero_bytes (suc n) = ((let lt : 0 < 256 = omega arith in lt), zero_bytes n)

no : (n : ℕ) → AreBytes (zeros n)
unfolding zeros
no n = zero_bytes n

w : (n : ℕ) → AreBytes (word n)
w n = AreBytes-bytes_of 2 n

d : (n : ℕ) → AreBytes (dword n)
d n = AreBytes-bytes_of 4 n

q : (n : ℕ) → AreBytes (qword n)
q n = AreBytes-bytes_of 8 n

pub bytes_from : (xs : List ℕ) → list_all is_byte xs ≡ true → AreBytes xs
bytes_from [] h = tt
bytes_from (x ∷ xs) h = let g = and_parts (is_byte x) (list_all is_byte xs) h in (ltb-true x 256 g.0, bytes_from xs g.1)

pub bytes_all : (xs : List ℕ) → AreBytes xs → list_all is_byte xs ≡ true
bytes_all [] h = refl
bytes_all (x ∷ xs) h = and_from (is_byte x) (list_all is_byte xs) (lt-ltb x 256 h.0) (bytes_all xs h.1)

letters_from : (xs : List ℕ) → list_all is_letter xs ≡ true → AreBytes xs
letters_from [] h = tt
letters_from (x ∷ xs) h =
    let g = and_parts (is_letter x) (list_all is_letter xs) h in
    let k = and_parts (not (eqb x 0)) (is_byte x) g.0 in
    (ltb-true x 256 k.1, letters_from xs g.1)

-- ---- headers

dos : AreBytes dos_header
unfolding dos_header
dos = joined (word 23117 ∷ zeros 58 ∷ dword 64 ∷ []) (w 23117, (no 58, (d 64, tt)))

coff : (i : Image) → AreBytes (coff_header i)
unfolding coff_header
coff i = joined (dword 17744 ∷ word 34404 ∷ word (length i.sections) ∷ zeros 12 ∷ word 240 ∷ word 34 ∷ []) (d 17744, (w 34404, (w (length i.sections), (no 12, (w 240, (w 34, tt))))))

standard : (i : Image) → AreBytes (standard_fields i)
unfolding standard_fields
standard i = joined (word 523 ∷ zeros 14 ∷ dword i.entry ∷ zeros 4 ∷ qword i.base ∷ dword 4096 ∷ []) (w 523, (no 14, (d i.entry, (no 4, (q i.base, (d 4096, tt))))))

sizes : (i : Image) → AreBytes (size_fields i)
unfolding size_fields
sizes i = joined (dword 512 ∷ zeros 16 ∷ dword i.size ∷ dword (blocks (headers_size i)) ∷ zeros 4 ∷ []) (d 512, (no 16, (d i.size, (d (blocks (headers_size i)), (no 4, tt)))))

stacks : (i : Image) → AreBytes (stack_fields i)
unfolding stack_fields
stacks i = joined (word 3 ∷ word 352 ∷ qword i.stack ∷ zeros 28 ∷ dword 16 ∷ []) (w 3, (w 352, (q i.stack, (no 28, (d 16, tt)))))

one : (place size : ℕ) → AreBytes (directory place size)
one place size = AreBytes-append (dword place) (dword (cond (eqb place 0) 0 size)) (d place) (d (cond (eqb place 0) 0 size))

late : (i : Image) → AreBytes (late_directories i)
unfolding late_directories
late i = joined (zeros 32 ∷ directory (config_place i) 208 ∷ zeros 40 ∷ []) (no 32, (one (config_place i) 208, (no 40, tt)))

all_directories : (i : Image) → AreBytes (directories i)
unfolding directories
all_directories i = joined (zeros 8 ∷ directory (import_place i) 40 ∷ zeros 24 ∷ directory (blocks_place i) (blocks_size i) ∷ late_directories i ∷ []) (no 8, (one (import_place i) 40, (no 24, (one (blocks_place i) (blocks_size i), (late i, tt)))))

optional : (i : Image) → AreBytes (optional_header i)
unfolding optional_header
optional i = joined (standard_fields i ∷ size_fields i ∷ stack_fields i ∷ directories i ∷ []) (standard i, (sizes i, (stacks i, (all_directories i, tt))))

-- ---- sections

row : (place : ℕ) (s : ImageSection) → Section s → AreBytes (section_row place s)
unfolding section_row
row place s h = joined ((s.name ++ zeros (8 - length s.name)) ∷ dword s.size ∷ dword s.rva ∷ dword (length s.bytes) ∷ dword place ∷ (zeros 12 ++ dword s.flags) ∷ [])
    (AreBytes-append s.name (zeros (8 - length s.name)) (letters_from s.name h.letters) (no (8 - length s.name)), (d s.size, (d s.rva, (d (length s.bytes), (d place, (AreBytes-append (zeros 12) (dword s.flags) (no 12) (d s.flags), tt))))))

rows : (size first place : ℕ) (ss : List ImageSection) → are_placed size first ss ≡ true → AreBytes (section_rows place ss)
rows size first place [] h = tt
rows size first place (s ∷ ss) h =
    let p = placed_parts size first s ss h in
    AreBytes-append (section_row place s) (section_rows (place + blocks (length s.bytes)) ss) (row place s p.0.sound) (rows size (s.rva + s.size) (place + blocks (length s.bytes)) ss p.1)

pad : (xs : List ℕ) → AreBytes xs → AreBytes (padded xs)
unfolding padded
pad xs h = AreBytes-append xs (zeros (blocks (length xs) - length xs)) h (no (blocks (length xs) - length xs))

all_contents : (size first : ℕ) (ss : List ImageSection) → are_placed size first ss ≡ true → AreBytes (contents ss)
all_contents size first [] h = tt
all_contents size first (s ∷ ss) h =
    let p = placed_parts size first s ss h in
    AreBytes-append (padded s.bytes) (contents ss) (pad s.bytes (bytes_from s.bytes p.0.sound.bytes)) (all_contents size (s.rva + s.size) ss p.1)

-- ---- the whole

all_headers : (i : Image) → are_placed i.size 4096 i.sections ≡ true → AreBytes (headers i)
unfolding headers
all_headers i h = joined (dos_header ∷ coff_header i ∷ optional_header i ∷ section_rows (blocks (headers_size i)) i.sections ∷ []) (dos, (coff i, (optional i, (rows i.size 4096 (blocks (headers_size i)) i.sections h, tt))))

pub file_bytes : (i : Image) → are_placed i.size 4096 i.sections ≡ true → AreBytes (image_bytes i)
unfolding image_bytes
file_bytes i h = AreBytes-append (padded (headers i)) (contents i.sections) (pad (headers i) (all_headers i h)) (all_contents i.size 4096 i.sections h)
