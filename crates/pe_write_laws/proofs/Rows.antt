-- The section table and the contents of a written file, as they are read.
use Rattle.std.proofs.Common.{◌≡◌, ℕ, zero, suc, ◌+◌, ◌-◌, ◌*◌, ◌<◌, ◌≤◌, Bool, true, false, cond, not, eqb, List, [], ◌∷◌, ◌++◌, length, get_or, take, drop, refl, sym, ap, ◌∙◌, arith}
use Rattle.std.specs.Prelude.{min}
use Rattle.std.specs.List.{concat, list_all}
use Rattle.std.proofs.lemmas.Bool.{and_parts, not-true}
use Rattle.std.proofs.lemmas.List.{length-append, length-replicate, get_or-drop, append-nil}
use Rattle.hx_words.specs.LittleEndian.{bytes_of}
use Rattle.file_words.specs.Standing.{Has}
use Rattle.file_words.specs.Fields.{byte_of, word_of, dword_of, part_of, until_zero}
use Rattle.file_words.proofs.HasLaws.{has_here, has_left, has_right, has_moved, has_same, part_has}
use Rattle.chpe_types.specs.declared.image.Image.{Image}
use Rattle.chpe_types.specs.declared.image.ImageSection.{ImageSection}
use Rattle.pe_fields.specs.Headers.{pe_place, section_place, virtual_size, section_rva, raw_size, raw_place, section_flags, section_name, section_bytes, section}
use Rattle.pe_write_laws.specs.Allowed.{is_letter, are_placed}
use Rattle.pe_write_laws.specs.Format.{dword, zeros, blocks, headers_size, dos_header, coff_header, standard_fields, size_fields, stack_fields, late_directories, directories, optional_header, section_row, section_rows, padded, contents_size, contents, headers, image_bytes}
use Rattle.pe_write_laws.proofs.Header.{four}
use Rattle.pe_write_laws.proofs.Room.{Section, placed_parts}

-- ---- lengths

pub zeros_long : (n : ℕ) → length (zeros n) ≡ n
unfolding zeros
zeros_long n = length-replicate n 0

pub padded_long : (xs : List ℕ) → length (padded xs) ≡ blocks (length xs)
unfolding padded
padded_long xs = omega (arith, length-append xs (zeros (blocks (length xs) - length xs)), zeros_long (blocks (length xs) - length xs))

pub contents_long : (ss : List ImageSection) → length (contents ss) ≡ contents_size ss
contents_long [] = refl
contents_long (s ∷ ss) = omega (arith, length-append (padded s.bytes) (contents ss), padded_long s.bytes, contents_long ss)

-- what follows the name
abbrev fields : ℕ → ImageSection → List ℕ
fields place s = concat (dword s.size ∷ dword s.rva ∷ dword (length s.bytes) ∷ dword place ∷ (zeros 12 ++ dword s.flags) ∷ [])

abbrev name_field : ImageSection → List ℕ
name_field s = s.name ++ zeros (8 - length s.name)

row_parts : (place : ℕ) (s : ImageSection) → section_row place s ≡ name_field s ++ fields place s
unfolding section_row
row_parts place s = refl

fields_long : (place : ℕ) (s : ImageSection) → length (fields place s) ≡ 32
unfolding bytes_of zeros
fields_long place s = refl

name_long : (s : ImageSection) → Section s → length (name_field s) ≡ 8
name_long s h = omega (arith, length-append s.name (zeros (8 - length s.name)), zeros_long (8 - length s.name), h.short)

row_long : (place : ℕ) (s : ImageSection) → Section s → length (section_row place s) ≡ 40
row_long place s h = omega (arith, ap length (row_parts place s), length-append (name_field s) (fields place s), name_long s h, fields_long place s)

rows_long : (size first place : ℕ) (ss : List ImageSection) → are_placed size first ss ≡ true → length (section_rows place ss) ≡ 40 * length ss
rows_long size first place [] h = refl
rows_long size first place (s ∷ ss) h =
    let p = placed_parts size first s ss h in
    omega (arith, length-append (section_row place s) (section_rows (place + blocks (length s.bytes)) ss), row_long place s p.0.sound, rows_long size (s.rva + s.size) (place + blocks (length s.bytes)) ss p.1)

-- ---- the parts of the file

abbrev head : Image → List ℕ
head i = concat (dos_header ∷ coff_header i ∷ optional_header i ∷ [])

head_long : (i : Image) → length (head i) ≡ 328
unfolding dos_header coff_header optional_header standard_fields size_fields stack_fields directories late_directories bytes_of zeros
head_long i = refl

abbrev rows : Image → List ℕ
rows i = section_rows (blocks (headers_size i)) i.sections

headers_parts : (i : Image) → headers i ≡ head i ++ (rows i ++ [])
unfolding headers dos_header coff_header optional_header standard_fields size_fields stack_fields directories late_directories bytes_of zeros
headers_parts i = refl

module _ (i : Image) (placed : are_placed i.size 4096 i.sections ≡ true) where
  all_rows_long : length (rows i) ≡ 40 * length i.sections
  all_rows_long = rows_long i.size 4096 (blocks (headers_size i)) i.sections placed

  headers_long : length (headers i) ≡ headers_size i
  headers_long = omega (arith, ap length (headers_parts i), length-append (head i) (rows i ++ []), ap length (append-nil (rows i)), head_long i, all_rows_long)

  front_long : length (padded (headers i)) ≡ blocks (headers_size i)
  front_long = padded_long (headers i) ∙ ap blocks headers_long

  pub file_long : length (image_bytes i) ≡ blocks (headers_size i) + contents_size i.sections
  unfolding image_bytes
  file_long = omega (arith, length-append (padded (headers i)) (contents i.sections), front_long, contents_long i.sections)

  front_has : Has (image_bytes i) 0 (padded (headers i))
  unfolding image_bytes
  front_has = has_left (image_bytes i) 0 (padded (headers i)) (contents i.sections) (has_here (image_bytes i))

  headers_has : Has (image_bytes i) 0 (headers i)
  unfolding padded
  headers_has = has_left (image_bytes i) 0 (headers i) (zeros (blocks (length (headers i)) - length (headers i))) front_has

  pub rows_has : Has (image_bytes i) 328 (rows i)
  rows_has =
      let whole : Has (image_bytes i) 0 (head i ++ (rows i ++ [])) = has_same (image_bytes i) 0 (headers i) (head i ++ (rows i ++ [])) (headers_parts i) headers_has in
      has_left (image_bytes i) 328 (rows i) [] (has_moved (image_bytes i) (0 + length (head i)) 328 (rows i ++ []) (omega (arith, head_long i)) (has_right (image_bytes i) 0 (head i) (rows i ++ []) whole))

  pub contents_has : Has (image_bytes i) (blocks (headers_size i)) (contents i.sections)
  unfolding image_bytes
  contents_has = has_moved (image_bytes i) (0 + length (padded (headers i))) (blocks (headers_size i)) (contents i.sections) (omega (arith, front_long)) (has_right (image_bytes i) 0 (padded (headers i)) (contents i.sections) (has_here (image_bytes i)))

-- ---- row and contents j

pub row_at : (b : List ℕ) (size first p q : ℕ) (ss : List ImageSection) (j : ℕ) (d : ImageSection) → are_placed size first ss ≡ true → Has b p (section_rows q ss) → j < length ss → Has b (p + 40 * j) (section_row (q + contents_size (take j ss)) (get_or ss j d))
row_at b size first p q [] j d h has lt = absurd (omega arith)
row_at b size first p q (s ∷ ss) zero d h has lt =
    let here : Has b p (section_row q s) = has_left b p (section_row q s) (section_rows (q + blocks (length s.bytes)) ss) has in
    has_moved b p (p + 40 * 0) (section_row (q + 0) s) (omega arith) (has_same b p (section_row q s) (section_row (q + 0) s) (ap (λ (k : ℕ). section_row k s) (omega arith)) here)
row_at b size first p q (s ∷ ss) (suc j) d h has lt =
    let k = placed_parts size first s ss h in
    let rest : Has b (p + length (section_row q s)) (section_rows (q + blocks (length s.bytes)) ss) = has_right b p (section_row q s) (section_rows (q + blocks (length s.bytes)) ss) has in
    let next = row_at b size (s.rva + s.size) (p + length (section_row q s)) (q + blocks (length s.bytes)) ss j d k.1 rest (omega arith) in
    let place : q + blocks (length s.bytes) + contents_size (take j ss) ≡ q + (blocks (length s.bytes) + contents_size (take j ss)) = omega arith in
    has_moved b (p + length (section_row q s) + 40 * j) (p + 40 * suc j) _ (omega (arith, row_long q s k.0.sound)) (has_same b (p + length (section_row q s) + 40 * j) _ _ (ap (λ (n : ℕ). section_row n (get_or ss j d)) place) next)

bytes_has : (b : List ℕ) (q : ℕ) (xs more : List ℕ) → Has b q (padded xs ++ more) → Has b q xs
unfolding padded
bytes_has b q xs more has = has_left b q xs (zeros (blocks (length xs) - length xs)) (has_left b q (padded xs) more has)

pub contents_at : (b : List ℕ) (q : ℕ) (ss : List ImageSection) (j : ℕ) (d : ImageSection) → Has b q (contents ss) → j < length ss → Has b (q + contents_size (take j ss)) (get_or ss j d).bytes
contents_at b q [] j d has lt = absurd (omega arith)
contents_at b q (s ∷ ss) zero d has lt = has_moved b q (q + 0) s.bytes (omega arith) (bytes_has b q s.bytes (contents ss) has)
contents_at b q (s ∷ ss) (suc j) d has lt =
    let rest : Has b (q + length (padded s.bytes)) (contents ss) = has_right b q (padded s.bytes) (contents ss) has in
    has_moved b (q + length (padded s.bytes) + contents_size (take j ss)) (q + (blocks (length s.bytes) + contents_size (take j ss))) _ (omega (arith, padded_long s.bytes)) (contents_at b (q + length (padded s.bytes)) ss j d rest (omega arith))

pub contents_within : (ss : List ImageSection) (j : ℕ) (d : ImageSection) → j < length ss → contents_size (take j ss) + length (get_or ss j d).bytes ≤ contents_size ss
contents_within [] j d lt = absurd (omega arith)
contents_within (s ∷ ss) zero d lt = omega arith
contents_within (s ∷ ss) (suc j) d lt = omega (arith, contents_within ss j d (omega arith))

-- ---- fields of a row

byte_drop : (b : List ℕ) (p k q : ℕ) → p + k ≡ q → byte_of b q ≡ byte_of (drop p b) k
unfolding byte_of
byte_drop b p k q e = ap (λ (j : ℕ). get_or b j 0) (sym e) ∙ sym (get_or-drop p b k 0)

dword_drop : (b : List ℕ) (p k q : ℕ) → p + k ≡ q → dword_of b q ≡ dword_of (drop p b) k
unfolding dword_of word_of
dword_drop b p k q e = rw (byte_drop b p k q e, byte_drop b p (k + 1) (q + 1) (omega arith), byte_drop b p (k + 2) (q + 2) (omega arith), byte_drop b p (k + 2 + 1) (q + 2 + 1) (omega arith)) refl

field_at : (b : List ℕ) (p k q : ℕ) (text : List ℕ) (h : Has b p text) → p + k ≡ q → dword_of b q ≡ dword_of (text ++ h.rest) k
field_at b p k q text h e = dword_drop b p k q e ∙ ap (λ (xs : List ℕ). dword_of xs k) h.is

pub record Row (b : List ℕ) (j place : ℕ) (s : ImageSection) : Type 0 where
  pub size_is : virtual_size b j ≡ s.size
  pub rva_is : section_rva b j ≡ s.rva
  pub raw_is : raw_size b j ≡ length s.bytes
  pub place_is : raw_place b j ≡ place
  pub flags_is : section_flags b j ≡ s.flags
  pub name_is : section_name b j ≡ s.name

size_here : (place : ℕ) (s : ImageSection) (rest : List ℕ) → s.size < 4294967296 → dword_of (fields place s ++ rest) 0 ≡ s.size
unfolding bytes_of zeros dword_of word_of byte_of
size_here place s rest lt = four s.size lt

rva_here : (place : ℕ) (s : ImageSection) (rest : List ℕ) → s.rva < 4294967296 → dword_of (fields place s ++ rest) 4 ≡ s.rva
unfolding bytes_of zeros dword_of word_of byte_of
rva_here place s rest lt = four s.rva lt

raw_here : (place : ℕ) (s : ImageSection) (rest : List ℕ) → length s.bytes < 4294967296 → dword_of (fields place s ++ rest) 8 ≡ length s.bytes
unfolding bytes_of zeros dword_of word_of byte_of
raw_here place s rest lt = four (length s.bytes) lt

place_here : (place : ℕ) (s : ImageSection) (rest : List ℕ) → place < 4294967296 → dword_of (fields place s ++ rest) 12 ≡ place
unfolding bytes_of zeros dword_of word_of byte_of
place_here place s rest lt = four place lt

flags_here : (place : ℕ) (s : ImageSection) (rest : List ℕ) → s.flags < 4294967296 → dword_of (fields place s ++ rest) 28 ≡ s.flags
unfolding bytes_of zeros dword_of word_of byte_of
flags_here place s rest lt = four s.flags lt

until_step : (t : Bool) (c m : ℕ) (xs ys : List ℕ) → t ≡ false → take m xs ≡ ys → take (cond (not t) (1 + m) 0) (c ∷ xs) ≡ c ∷ ys
until_step true c m xs ys e h = absurd cc
until_step false c m xs ys e h = let s : 1 + m ≡ suc m = omega arith in rw s (ap (λ (zs : List ℕ). c ∷ zs) h)

until_zeros : (k : ℕ) → until_zero (zeros k) ≡ []
unfolding zeros
until_zeros zero = refl
until_zeros (suc k) = refl

until_padded : (xs : List ℕ) (k : ℕ) → list_all is_letter xs ≡ true → until_zero (xs ++ zeros k) ≡ xs
until_padded [] k h = until_zeros k
until_padded (c ∷ xs) k h =
    let g = and_parts (is_letter c) (list_all is_letter xs) h in
    let l = and_parts (not (eqb c 0)) _ g.0 in
    until_step (eqb c 0) c _ (xs ++ zeros k) xs (not-true (eqb c 0) l.0) (until_padded xs k g.1)

pub row_fields : (b : List ℕ) (j place : ℕ) (s : ImageSection) → pe_place b ≡ 64 → Has b (328 + 40 * j) (section_row place s) → Section s → s.size < 4294967296 → s.rva < 4294967296 → length s.bytes < 4294967296 → place < 4294967296 → Row b j place s
unfolding section_place virtual_size section_rva raw_size raw_place section_flags section_name
row_fields b j place s at has sound size rva raw room =
    let parts : Has b (328 + 40 * j) (name_field s ++ fields place s) = has_same b (328 + 40 * j) _ _ (row_parts place s) has in
    let name : Has b (328 + 40 * j) (name_field s) = has_left b (328 + 40 * j) (name_field s) (fields place s) parts in
    let after : Has b (336 + 40 * j) (fields place s) = has_moved b (328 + 40 * j + length (name_field s)) (336 + 40 * j) (fields place s) (omega (arith, name_long s sound)) (has_right b (328 + 40 * j) (name_field s) (fields place s) parts) in
    record {
      size_is = field_at b (336 + 40 * j) 0 (pe_place b + 264 + 40 * j + 8) (fields place s) after (omega (arith, at)) ∙ size_here place s after.rest size;
      rva_is = field_at b (336 + 40 * j) 4 (pe_place b + 264 + 40 * j + 12) (fields place s) after (omega (arith, at)) ∙ rva_here place s after.rest rva;
      raw_is = field_at b (336 + 40 * j) 8 (pe_place b + 264 + 40 * j + 16) (fields place s) after (omega (arith, at)) ∙ raw_here place s after.rest raw;
      place_is = field_at b (336 + 40 * j) 12 (pe_place b + 264 + 40 * j + 20) (fields place s) after (omega (arith, at)) ∙ place_here place s after.rest room;
      flags_is = field_at b (336 + 40 * j) 28 (pe_place b + 264 + 40 * j + 36) (fields place s) after (omega (arith, at)) ∙ flags_here place s after.rest sound.flags;
      name_is = ap (λ (n : ℕ). until_zero (part_of b n 8)) (omega (arith, at)) ∙ ap (λ (xs : List ℕ). until_zero xs) (part_has b (328 + 40 * j) 8 (name_field s) name (name_long s sound)) ∙ until_padded s.name (8 - length s.name) sound.letters;
    }

same_section : (n bs : List ℕ) (v z f : ℕ) (s : ImageSection) → n ≡ s.name → v ≡ s.rva → z ≡ s.size → f ≡ s.flags → bs ≡ s.bytes → (let x : ImageSection = record { name = n; rva = v; size = z; flags = f; bytes = bs } in x) ≡ s
same_section n bs v z f s h1 h2 h3 h4 h5 = rw (h1, h2, h3, h4, h5) refl

bytes_back : (b : List ℕ) (j place : ℕ) (s : ImageSection) → Row b j place s → Has b place s.bytes → length s.bytes ≤ s.size → section_bytes b j ≡ s.bytes
unfolding section_bytes
bytes_back b j place s row has held =
    let few : min (raw_size b j) (virtual_size b j) ≡ length s.bytes = omega (arith, row.raw_is, row.size_is) in
    ap (λ (n : ℕ). part_of b (raw_place b j) n) few ∙ ap (λ (p : ℕ). part_of b p (length s.bytes)) row.place_is ∙ part_has b place (length s.bytes) s.bytes has refl

pub section_back : (b : List ℕ) (j place : ℕ) (s : ImageSection) → Row b j place s → Has b place s.bytes → length s.bytes ≤ s.size → section b j ≡ s
unfolding section
section_back b j place s row has held = same_section _ _ _ _ _ s row.name_is row.rva_is row.size_is row.flags_is (bytes_back b j place s row has held)
