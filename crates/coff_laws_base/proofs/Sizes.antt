-- How many bytes the parts of a file have.
use Rattle.std.proofs.Common.{◌≡◌, ℕ, ◌+◌, ◌*◌, Bool, true, false, cond, not, ◌&&◌, List, [], ◌∷◌, ◌++◌, length, take, eqb, Option, Some, None, refl, arith}
use Rattle.std.specs.Prelude.{slice_index}
use Rattle.std.specs.List.{concat}
use Rattle.std.proofs.lemmas.List.{length-append}
use Rattle.std.proofs.lemmas.Bool.{and_parts}
use Rattle.hx_words.proofs.LittleEndianLaws.{length-bytes_of}
use Rattle.coff_write.specs.declared.object.ObjMachine.{ObjMachine}
use Rattle.coff_write.specs.declared.object.ObjSite.{ObjSite}
use Rattle.coff_write.specs.declared.object.ObjSection.{ObjSection}
use Rattle.coff_write.specs.declared.object.ObjSymbol.{ObjSymbol}
use Rattle.coff_write.specs.declared.object.HybridRow.{HybridRow}
use Rattle.coff_write.specs.declared.object.Object.{Object}
use Rattle.coff_write.specs.Format.{word, dword, machine_number, site_code, number_or_zero, is_short_section, is_short_symbol, long_text, text_size, eight, slash_field, section_name_field, symbol_name_field, section_size, overflows, site_count, row_count, section_flags, pointer, name_size, section_head, section_tail, section_header, section_headers, section_contents, section_texts, section_names_size, contents_size, rows_count, is_start_of, has_start, is_comdat, section_of, is_section_symbol, records_in, records_total, numbers, record_count, class_of, symbol_record, section_definition, definition_of, symbol_records_of, symbol_name_size, symbol_table, symbol_texts, symbol_names_size, relocation, relocations, count_row, section_relocations, hybrid_row, hybrid_rows, hybrid_name, hybrid_head, hybrid_tail, hybrid_header, hybrid_sections, section_count, contents_place, hybrid_place, relocations_place, symbols_place, strings_size, file_size, file_header, section_part, contents_part, relocation_part, symbol_part, string_part, object_bytes}

pub two : (n : ℕ) → length (word n) ≡ 2
two n = length-bytes_of 2 n

pub four : (n : ℕ) → length (dword n) ≡ 4
four n = length-bytes_of 4 n

pub parts3 : (a b c : List ℕ) → length (concat (a ∷ b ∷ c ∷ [])) ≡ length a + length b + length c
parts3 a b c = omega (arith, length-append a (concat (b ∷ c ∷ [])), length-append b (concat (c ∷ [])), length-append c [])

pub parts5 : (a b c d e : List ℕ) → length (concat (a ∷ b ∷ c ∷ d ∷ e ∷ [])) ≡ length a + length b + length c + length d + length e
parts5 a b c d e = omega (arith, length-append a (concat (b ∷ c ∷ d ∷ e ∷ [])), length-append b (concat (c ∷ d ∷ e ∷ [])), parts3 c d e)

pub parts6 : (a b c d e f : List ℕ) → length (concat (a ∷ b ∷ c ∷ d ∷ e ∷ f ∷ [])) ≡ length a + length b + length c + length d + length e + length f
parts6 a b c d e f = omega (arith, length-append a (concat (b ∷ c ∷ d ∷ e ∷ f ∷ [])), parts5 b c d e f)

pub parts7 : (a b c d e f g : List ℕ) → length (concat (a ∷ b ∷ c ∷ d ∷ e ∷ f ∷ g ∷ [])) ≡ length a + length b + length c + length d + length e + length f + length g
parts7 a b c d e f g = omega (arith, length-append a (concat (b ∷ c ∷ d ∷ e ∷ f ∷ g ∷ [])), parts6 b c d e f g)

-- ---- names

pub section_name_long : (n : List ℕ) (p : ℕ) → length (section_name_field n p) ≡ 8
unfolding section_name_field slash_field
section_name_long n p = elim (is_short_section n) as (λ b. length (cond b (eight n) (slash_field p)) ≡ 8) [ true ↦ refl | false ↦ refl ]

pub symbol_name_long : (n : List ℕ) (p : ℕ) → length (symbol_name_field n p) ≡ 8
unfolding symbol_name_field
symbol_name_long n p = elim (is_short_symbol n) as (λ b. length (cond b (eight n) (dword 0 ++ dword p)) ≡ 8) [ true ↦ refl | false ↦ omega (arith, length-append (dword 0) (dword p), four 0, four p) ]

pub text_long : (b : Bool) (n : List ℕ) → length (long_text b n) ≡ text_size b n
unfolding long_text text_size
text_long true n = refl
text_long false n = omega (arith, length-append n (0 ∷ []))

-- ---- sections

pub header_long : (a b c : ℕ) (s : ObjSection) → length (section_header a b c s) ≡ 40
unfolding section_header
header_long a b c s =
    omega (arith, length-append (concat (section_head a b s)) (concat (section_tail c s)), parts5 (section_name_field s.name a) (dword 0) (dword 0) (dword (section_size s)) (dword (pointer (length s.bytes) b)), parts5 (dword (pointer (length s.sites) c)) (dword 0) (word (site_count s)) (word 0) (dword (section_flags s)), section_name_long s.name a, four 0, four (section_size s), four (pointer (length s.bytes) b), four (pointer (length s.sites) c), two (site_count s), two 0, four (section_flags s))

pub headers_long : (a b c : ℕ) (ss : List ObjSection) → length (section_headers a b c ss) ≡ 40 * length ss
headers_long a b c [] = refl
headers_long a b c (s ∷ ss) =
    let rest = section_headers (a + name_size s) (b + length s.bytes) (c + 10 * row_count s) ss in
    omega (arith, length-append (section_header a b c s) rest, header_long a b c s, headers_long (a + name_size s) (b + length s.bytes) (c + 10 * row_count s) ss)

pub contents_long : (ss : List ObjSection) → length (section_contents ss) ≡ contents_size ss
contents_long [] = refl
contents_long (s ∷ ss) = omega (arith, length-append s.bytes (section_contents ss), contents_long ss)

pub section_texts_long : (ss : List ObjSection) → length (section_texts ss) ≡ section_names_size ss
section_texts_long [] = refl
section_texts_long (s ∷ ss) = omega (arith, length-append (long_text (is_short_section s.name) s.name) (section_texts ss), text_long (is_short_section s.name) s.name, section_texts_long ss)

pub symbol_texts_long : (ss : List ObjSymbol) → length (symbol_texts ss) ≡ symbol_names_size ss
symbol_texts_long [] = refl
symbol_texts_long (s ∷ ss) = omega (arith, length-append (long_text (is_short_symbol s.name) s.name) (symbol_texts ss), text_long (is_short_symbol s.name) s.name, symbol_texts_long ss)

-- ---- relocations and hybrid rows

pub relocation_long : (m : ObjMachine) (records : List ℕ) (t : ObjSite) → length (relocation m records t) ≡ 10
unfolding relocation
relocation_long m records t = omega (arith, parts3 (dword t.at) (dword (slice_index records t.symbol)) (word (number_or_zero (site_code m t.kind))), four t.at, four (slice_index records t.symbol), two (number_or_zero (site_code m t.kind)))

pub relocations_long : (m : ObjMachine) (records : List ℕ) (ts : List ObjSite) → length (relocations m records ts) ≡ 10 * length ts
relocations_long m records [] = refl
relocations_long m records (t ∷ ts) = omega (arith, length-append (relocation m records t) (relocations m records ts), relocation_long m records t, relocations_long m records ts)

pub count_long : (b : Bool) (n : ℕ) → length (cond b (concat (dword (n + 1) ∷ dword 0 ∷ word 0 ∷ [])) []) + 10 * n ≡ 10 * cond b (n + 1) n
count_long true n = omega (arith, parts3 (dword (n + 1)) (dword 0) (word 0), four (n + 1), four 0, two 0)
count_long false n = omega arith

pub rows_long : (m : ObjMachine) (records : List ℕ) (s : ObjSection) → length (count_row s ++ relocations m records s.sites) ≡ 10 * row_count s
unfolding count_row row_count
rows_long m records s = omega (arith, length-append (count_row s) (relocations m records s.sites), relocations_long m records s.sites, count_long (overflows s) (length s.sites))

pub all_rows_long : (m : ObjMachine) (records : List ℕ) (ss : List ObjSection) → length (section_relocations m records ss) ≡ 10 * rows_count ss
all_rows_long m records [] = refl
all_rows_long m records (s ∷ ss) = omega (arith, length-append (count_row s ++ relocations m records s.sites) (section_relocations m records ss), rows_long m records s, all_rows_long m records ss)

pub hybrid_row_long : (records : List ℕ) (r : HybridRow) → length (hybrid_row records r) ≡ 12
unfolding hybrid_row
hybrid_row_long records r = omega (arith, parts3 (dword (slice_index records r.source)) (dword (slice_index records r.thunk)) (dword r.kind), four (slice_index records r.source), four (slice_index records r.thunk), four r.kind)

pub hybrid_long : (records : List ℕ) (rs : List HybridRow) → length (hybrid_rows records rs) ≡ 12 * length rs
hybrid_long records [] = refl
hybrid_long records (r ∷ rs) = omega (arith, length-append (hybrid_row records r) (hybrid_rows records rs), hybrid_row_long records r, hybrid_long records rs)

pub header_if : (b : Bool) (p n : ℕ) → length (cond b [] (concat (hybrid_head p n) ++ concat hybrid_tail)) ≡ 40 * cond b 0 1
header_if true p n = refl
header_if false p n =
    omega (arith, length-append (concat (hybrid_head p n)) (concat hybrid_tail), parts5 hybrid_name (dword 0) (dword 0) (dword n) (dword p), parts5 (dword 0) (dword 0) (word 0) (word 0) (dword 3146240), four 0, two 0, four p, four n, four 3146240)

pub hybrid_header_long : (p : ℕ) (rs : List HybridRow) → length (hybrid_header p rs) ≡ 40 * hybrid_sections rs
unfolding hybrid_header
hybrid_header_long p rs = header_if (eqb (length rs) 0) p (12 * length rs)

-- ---- symbols

pub record_long : (p : ℕ) (more : Bool) (s : ObjSymbol) → length (symbol_record p more s) ≡ 18
unfolding symbol_record
record_long p more s = omega (arith, parts6 (symbol_name_field s.name p) (dword s.value) (word s.section) (word 0) (class_of s.external ∷ []) (cond more 1 0 ∷ []), symbol_name_long s.name p, four s.value, two s.section, two 0)

pub definition_long : (s : ObjSection) → length (section_definition s) ≡ 18
unfolding section_definition
definition_long s = omega (arith, parts6 (dword (section_size s)) (word (site_count s)) (word 0) (dword 0) (word 0) (2 ∷ 0 ∷ 0 ∷ 0 ∷ []), four (section_size s), two (site_count s), two 0, four 0)

pub comdat_long : (home : Option ObjSection) → is_comdat home ≡ true → length (definition_of home) ≡ 18
unfolding definition_of
comdat_long None e = absurd cc
comdat_long (Some s) e = definition_long s

pub records_long : (sections : List ObjSection) (p : ℕ) (more : Bool) (s : ObjSymbol) → (more ≡ true → is_comdat (section_of sections s.section) ≡ true) → length (symbol_records_of sections p more s) ≡ 18 * records_in more
unfolding symbol_records_of
records_long sections p true s h = omega (arith, length-append (symbol_record p true s) (definition_of (section_of sections s.section)), record_long p true s, comdat_long (section_of sections s.section) (h refl))
records_long sections p false s h = omega (arith, length-append (symbol_record p false s) [], record_long p false s)

pub comdat_of : (sections : List ObjSection) (before : List ObjSymbol) (s : ObjSymbol) → is_section_symbol sections before s ≡ true → is_comdat (section_of sections s.section) ≡ true
unfolding is_section_symbol
comdat_of sections before s e = (and_parts (is_comdat (section_of sections s.section)) (not (has_start s.section before)) (and_parts (is_start_of s.section s) (is_comdat (section_of sections s.section) && not (has_start s.section before)) e).1).0

pub table_long : (sections : List ObjSection) (symbols : List ObjSymbol) (j p : ℕ) (ss : List ObjSymbol) → length (symbol_table sections symbols j p ss) ≡ 18 * records_total sections symbols j ss
table_long sections symbols j p [] = refl
table_long sections symbols j p (s ∷ ss) =
    let more = is_section_symbol sections (take j symbols) s in
    omega (arith, length-append (symbol_records_of sections p more s) (symbol_table sections symbols (j + 1) (p + symbol_name_size s) ss), records_long sections p more s (comdat_of sections (take j symbols) s), table_long sections symbols (j + 1) (p + symbol_name_size s) ss)

-- ---- the file

pub file_header_long : (o : Object) → length (file_header o) ≡ 20
unfolding file_header
file_header_long o = omega (arith, parts7 (word (machine_number o.machine)) (word (section_count o)) (dword 0) (dword (symbols_place o)) (dword (record_count o)) (word 0) (word 0), two (machine_number o.machine), two (section_count o), four 0, four (symbols_place o), four (record_count o), two 0)

pub section_part_long : (o : Object) → length (section_part o) ≡ 40 * section_count o
unfolding section_part
section_part_long o = omega (arith, length-append (section_headers 4 (contents_place o) (relocations_place o) o.sections) (hybrid_header (hybrid_place o) o.hybrid), headers_long 4 (contents_place o) (relocations_place o) o.sections, hybrid_header_long (hybrid_place o) o.hybrid)

pub contents_part_long : (o : Object) → length (contents_part o) ≡ contents_size o.sections + 12 * length o.hybrid
unfolding contents_part
contents_part_long o = omega (arith, length-append (section_contents o.sections) (hybrid_rows (numbers o) o.hybrid), contents_long o.sections, hybrid_long (numbers o) o.hybrid)

pub relocation_part_long : (o : Object) → length (relocation_part o) ≡ 10 * rows_count o.sections
unfolding relocation_part
relocation_part_long o = all_rows_long o.machine (numbers o) o.sections

pub symbol_part_long : (o : Object) → length (symbol_part o) ≡ 18 * record_count o
unfolding symbol_part
symbol_part_long o = table_long o.sections o.symbols 0 (4 + section_names_size o.sections) o.symbols

pub string_part_long : (o : Object) → length (string_part o) ≡ strings_size o
unfolding string_part
string_part_long o = omega (arith, length-append (dword (strings_size o)) (section_texts o.sections ++ symbol_texts o.symbols), length-append (section_texts o.sections) (symbol_texts o.symbols), four (strings_size o), section_texts_long o.sections, symbol_texts_long o.symbols)

pub length-object_bytes : (o : Object) → length (object_bytes o) ≡ file_size o
unfolding object_bytes
length-object_bytes o = omega (arith, parts6 (file_header o) (section_part o) (contents_part o) (relocation_part o) (symbol_part o) (string_part o), file_header_long o, section_part_long o, contents_part_long o, relocation_part_long o, symbol_part_long o, string_part_long o)
