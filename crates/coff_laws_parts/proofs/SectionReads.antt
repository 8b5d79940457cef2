-- Section i of the file of an object, as the reader takes it.
use Rattle.std.proofs.Common.{◌≡◌, ℕ, ◌+◌, ◌-◌, ◌*◌, ◌<◌, ◌≤◌, Bool, true, false, cond, ◌&&◌, eqb, List, [], ◌∷◌, ◌++◌, length, get_or, take, refl, sym, append_assoc, arith}
use Rattle.std.specs.List.{concat}
use Rattle.std.proofs.lemmas.Bool.{eqb-true, le-ltb}
use Rattle.std.proofs.lemmas.List.{append-nil}
use Rattle.std.proofs.lemmas.Option.{slice_get-get_or}
use Rattle.coff_write.specs.declared.object.ObjSection.{ObjSection}
use Rattle.coff_write.specs.declared.object.Object.{Object}
use Rattle.coff_write.specs.Format.{word, dword, section_size, overflows, site_count, row_count, pointer, section_flags, section_names_size, rows_count, count_row, relocation, relocations, numbers, contents_place, relocations_place, object_bytes, file_size}
use Rattle.coff_write.specs.Format as format
use Rattle.coff_write.specs.Valid.{has_flag, has_right_contents, HasRoom}
use Rattle.file_words.specs.Standing.{Has}
use Rattle.file_words.specs.Fields.{part_of, dword_of}
use Rattle.file_words.proofs.HasLaws.{has_left, has_moved, has_same, part_has, dword_has}
use Rattle.coff_fields.specs.Fields.{section_place, raw_size, raw_place, rows_place, row_field, contents_size, zeros_of, extra_rows, site_place}
use Rattle.coff_fields.specs.Fields as fields
use Rattle.coff_fields.specs.Names.{section_name, bad_section_name}
use Rattle.coff_laws_parts.specs.Ranges.{HasRanges}
use Rattle.coff_laws_base.specs.Records.{no_section, no_site}
use Rattle.coff_laws_base.proofs.Sizes.{two, four, rows_long, length-object_bytes}
use Rattle.coff_laws_base.proofs.Rows.{has_next, headers_at, contents_at, rows_at, relocations_at, section_texts_at}
use Rattle.coff_laws_base.proofs.Flags.{flag_fields}
use Rattle.coff_laws_parts.proofs.Parts.{section_headers_there, section_contents_there, relocations_there, section_texts_there}
use Rattle.coff_laws_base.proofs.Validity.{IsValid, SectionValid, section_valid, section_digits}
use Rattle.coff_laws_parts.proofs.Sections.{HeaderNumbers, HeaderFlags, header_parts, header_numbers, header_flags, section_name_read, pointer_there}

-- ---- the relocation records of a section

no_rows : (s : ObjSection) → length s.sites ≡ 0 → row_count s ≡ 0
unfolding row_count
no_rows s e = rw (le-ltb 65534 (length s.sites) (omega (arith, e))) e

pub enough_rows : (s : ObjSection) → length s.sites ≤ row_count s
unfolding row_count
enough_rows s = elim (overflows s) as (λ b. length s.sites ≤ cond b (length s.sites + 1) (length s.sites)) [ true ↦ omega arith | false ↦ omega arith ]

empty_list : {X : Type 0} (xs : List X) → length xs ≡ 0 → xs ≡ []
empty_list [] e = refl
empty_list (x ∷ xs) e = absurd (omega (arith, e))

-- ---- the contents

contents_case : (f : Bool) (s : ObjSection) → cond f (eqb (length s.bytes) 0) (eqb s.zeros 0) ≡ true → (cond f 0 (section_size s) ≡ length s.bytes) × (cond f (section_size s) 0 ≡ s.zeros)
contents_case true s e = let z = eqb-true (length s.bytes) 0 e in (sym z, omega (arith, z))
contents_case false s e = let z = eqb-true s.zeros 0 e in (omega (arith, z), sym z)

right_contents : (s : ObjSection) → has_right_contents s ≡ true → (cond (has_flag s 128) 0 (section_size s) ≡ length s.bytes) × (cond (has_flag s 128) (section_size s) 0 ≡ s.zeros)
unfolding has_right_contents
right_contents s e = contents_case (has_flag s 128) s e

size_small : (s : ObjSection) (f : Bool) → cond f (eqb (length s.bytes) 0) (eqb s.zeros 0) ≡ true → s.zeros < 4294967296 → length s.bytes < 4294967296 → section_size s < 4294967296
size_small s true e z l = omega (arith, eqb-true (length s.bytes) 0 e)
size_small s false e z l = omega (arith, eqb-true s.zeros 0 e)

section_small : (s : ObjSection) → has_right_contents s ≡ true → s.zeros < 4294967296 → length s.bytes < 4294967296 → section_size s < 4294967296
unfolding has_right_contents
section_small s e z l = size_small s (has_flag s 128) e z l

-- ---- what is read

pub record SectionRead (o : Object) (b : List ℕ) (i : ℕ) (s : ObjSection) : Type 0 where
  pub name : section_name b i ≡ s.name
  pub good_name : bad_section_name b i ≡ false
  pub size : raw_size b i ≡ section_size s
  pub contents : Has b (raw_place b i) s.bytes
  pub within : raw_place b i + length s.bytes ≤ length b
  pub rows : Has b (rows_place b i) (count_row s ++ relocations o.machine (numbers o) s.sites)
  pub rows_within : rows_place b i + 10 * row_count s ≤ length b
  pub count : row_field b i ≡ site_count s
  pub flags : HeaderFlags b i s
  pub bytes : contents_size b i ≡ length s.bytes
  pub zeros : zeros_of b i ≡ s.zeros

pub file_small : (o : Object) → HasRoom o → length (object_bytes o) ≤ 134217728
file_small o room = omega (arith, length-object_bytes o, room.size)

section_flags_small : (o : Object) (i : ℕ) → HasRanges o → i < length o.sections → (get_or o.sections i no_section).flags < 4294967296
section_flags_small o i g lt = g.flags i (get_or o.sections i no_section) (slice_get-get_or o.sections i no_section lt)

section_zeros_small : (o : Object) (i : ℕ) → HasRanges o → i < length o.sections → (get_or o.sections i no_section).zeros < 4294967296
section_zeros_small o i g lt = g.zeros i (get_or o.sections i no_section) (slice_get-get_or o.sections i no_section lt)

bytes_read : (b : List ℕ) (i : ℕ) (s : ObjSection) → has_right_contents s ≡ true → raw_size b i ≡ section_size s → fields.has_flag b i 128 ≡ has_flag s 128 → (contents_size b i ≡ length s.bytes) × (zeros_of b i ≡ s.zeros)
unfolding contents_size zeros_of
bytes_read b i s e size f = rw (f, size) (right_contents s e)

pub section_read : (o : Object) (i : ℕ) → IsValid o → HasRanges o → i < length o.sections → SectionRead o (object_bytes o) i (get_or o.sections i no_section)
section_read o i v g lt =
    let b = object_bytes o in
    let s = get_or o.sections i no_section in
    let ok : SectionValid o i s = section_valid o i v lt in
    let n = 4 + section_names_size (take i o.sections) in
    let c = contents_place o + format.contents_size (take i o.sections) in
    let r = relocations_place o + 10 * rows_count (take i o.sections) in
    let parts = header_parts b (section_place i) n c r s (headers_at b 20 4 (contents_place o) (relocations_place o) o.sections i no_section lt (section_headers_there o)) in
    let rows = count_row s ++ relocations o.machine (numbers o) s.sites in
    let long : length rows ≡ 10 * row_count s = rows_long o.machine (numbers o) s in
    let content_at = pointer_there b (length s.bytes) c s.bytes (empty_list s.bytes) (λ some. some) (contents_at b (contents_place o) o.sections i no_section lt (section_contents_there o)) in
    let rows_stand = pointer_there b (length s.sites) r rows (λ z. empty_list rows (omega (arith, long, no_rows s z))) (λ some. omega (arith, long, enough_rows s, some)) (rows_at b (relocations_place o) o.machine (numbers o) o.sections i no_section lt (relocations_there o)) in
    let small : length b ≤ 134217728 = file_small o v.room in
    let flags_small : s.flags < 4294967296 = section_flags_small o i g lt in
    let numbers_are : HeaderNumbers b i c r s = header_numbers b i n c r s
    (section_small s ok.contents (section_zeros_small o i g lt) (omega (arith, content_at.1, small)))
    (omega (arith, content_at.1, small)) (omega (arith, rows_stand.1, small)) (flag_fields s flags_small ok.flags).small parts in
    let named = section_name_read b i n s.name ok.closed (omega arith) (section_digits o i v lt) parts.name (section_texts_at _ 4 o.sections i no_section lt (section_texts_there o v.room)) in
    let flags_are : HeaderFlags b i s = header_flags b i s flags_small ok.flags numbers_are.flags in
    let bytes_are = bytes_read b i s ok.contents numbers_are.size flags_are.zeros in
    record {
      name = named.0;
      good_name = named.1;
      size = numbers_are.size;
      contents = has_moved b _ (raw_place b i) s.bytes (sym numbers_are.contents) content_at.0;
      within = omega (arith, numbers_are.contents, content_at.1);
      rows = has_moved b _ (rows_place b i) rows (sym numbers_are.rows) rows_stand.0;
      rows_within = omega (arith, numbers_are.rows, rows_stand.1, long);
      count = numbers_are.count;
      flags = flags_are;
      bytes = bytes_are.0;
      zeros = bytes_are.1;
    }

-- ---- the counts of relocation records

overflow_case : (s : ObjSection) (x : Bool) → overflows s ≡ x → (x && eqb (cond x 65535 (length s.sites)) 65535) ≡ x
overflow_case s true e = refl
overflow_case s false e = refl

overflow_count : (s : ObjSection) → (overflows s && eqb (site_count s) 65535) ≡ overflows s
unfolding site_count
overflow_count s = overflow_case s (overflows s) refl

pub overflow_read : (o : Object) (b : List ℕ) (i : ℕ) (s : ObjSection) → SectionRead o b i s → fields.overflows b i ≡ overflows s
unfolding fields.overflows
overflow_read o b i s h = rw (h.flags.over, h.count) (overflow_count s)

count_dword : (b : List ℕ) (p n : ℕ) (more : List ℕ) → n < 4294967296 → Has b p (concat (dword n ∷ dword 0 ∷ word 0 ∷ []) ++ more) → dword_of b p ≡ n
count_dword b p n more lt h = dword_has b p n lt (has_left b p (dword n) (concat (dword 0 ∷ word 0 ∷ [])) (has_left b p (concat (dword n ∷ dword 0 ∷ word 0 ∷ [])) more h))

count_case : (b : List ℕ) (p : ℕ) (s : ObjSection) (more : List ℕ) (x : Bool) → length s.sites + 1 < 4294967296 → Has b p (cond x (concat (dword (length s.sites + 1) ∷ dword 0 ∷ word 0 ∷ [])) [] ++ more) → cond x (dword_of b p) (cond x 65535 (length s.sites)) ≡ cond x (length s.sites + 1) (length s.sites)
count_case b p s more true lt h = count_dword b p (length s.sites + 1) more lt h
count_case b p s more false lt h = refl

pub row_count_read : (o : Object) (b : List ℕ) (i : ℕ) (s : ObjSection) → length b ≤ 134217728 → SectionRead o b i s → fields.row_count b i ≡ row_count s
unfolding fields.row_count row_count site_count count_row
row_count_read o b i s small h =
    rw (overflow_read o b i s h, h.count) (count_case b (rows_place b i) s (relocations o.machine (numbers o) s.sites) (overflows s) (omega (arith, h.rows_within, enough_rows s, small)) h.rows)

extra_case : (x : Bool) (n : ℕ) → cond x (n + 1) n - cond x 1 0 ≡ n
extra_case true n = omega arith
extra_case false n = omega arith

extra_count : (s : ObjSection) → row_count s - cond (overflows s) 1 0 ≡ length s.sites
unfolding row_count
extra_count s = extra_case (overflows s) (length s.sites)

pub site_count_read : (o : Object) (b : List ℕ) (i : ℕ) (s : ObjSection) → length b ≤ 134217728 → SectionRead o b i s → fields.site_count b i ≡ length s.sites
unfolding fields.site_count extra_rows
site_count_read o b i s small h = rw (row_count_read o b i s small h, overflow_read o b i s h) (extra_count s)

-- ---- where site r stands

after_count : (b : List ℕ) (p n : ℕ) (more : List ℕ) (x : Bool) → Has b p (cond x (concat (dword n ∷ dword 0 ∷ word 0 ∷ [])) [] ++ more) → Has b (p + 10 * cond x 1 0) more
after_count b p n more true h =
    has_next b (p + 8) (p + 10 * 1) (word 0) more (omega (arith, two 0)) (has_next b (p + 4) (p + 8) (dword 0) (word 0 ++ more) (omega (arith, four 0)) (has_next b p (p + 4) (dword n) (dword 0 ++ (word 0 ++ more)) (omega (arith, four n)) (has_same b p _ _ (simp (append_assoc, append-nil)) h)))
after_count b p n more false h = has_moved b p (p + 10 * 0) more (omega arith) h

pub site_there : (o : Object) (b : List ℕ) (i : ℕ) (s : ObjSection) (r : ℕ) → SectionRead o b i s → r < length s.sites → Has b (site_place b i r) (relocation o.machine (numbers o) (get_or s.sites r no_site))
unfolding site_place extra_rows count_row
site_there o b i s r h lt =
    let x = overflows s in
    let start = after_count b (rows_place b i) (length s.sites + 1) (relocations o.machine (numbers o) s.sites) x h.rows in
    let here = relocations_at b (rows_place b i + 10 * cond x 1 0) o.machine (numbers o) s.sites r no_site lt start in
    rw (overflow_read o b i s h) (has_moved b _ (rows_place b i + 10 * (cond x 1 0 + r)) _ (omega arith) here)

pub contents_read : (o : Object) (b : List ℕ) (i : ℕ) (s : ObjSection) → SectionRead o b i s → part_of b (raw_place b i) (contents_size b i) ≡ s.bytes
contents_read o b i s h = part_has b (raw_place b i) (contents_size b i) s.bytes h.contents (sym h.bytes)
