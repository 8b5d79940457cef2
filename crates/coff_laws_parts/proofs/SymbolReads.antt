-- A symbol of the file of an object, as the reader takes it.
use Rattle.std.proofs.Common.{◌≡◌, ◌≢◌, ℕ, ◌+◌, ◌*◌, ◌<◌, ◌≤◌, Bool, true, false, cond, not, ◌&&◌, eqb, ltb, leb, List, [], ◌∷◌, ◌++◌, length, get_or, take, Option, Some, None, refl, sym, ap, subst, ◌∙◌, arith, inl, inr}
use Rattle.std.specs.Prelude.{slice_index}
use Rattle.std.specs.List.{concat}
use Rattle.std.proofs.lemmas.Bool.{and_parts, not-true, eqb-true, eqb-false, ne_eqb, leb-true, ltb-true, cases_Bool}
use Rattle.std.proofs.lemmas.List.{length-append}
use Rattle.std.proofs.lemmas.Option.{slice_get-get_or}
use Rattle.coff_write.specs.declared.object.ObjSection.{ObjSection}
use Rattle.coff_write.specs.declared.object.ObjSymbol.{ObjSymbol}
use Rattle.coff_write.specs.declared.object.Object.{Object}
use Rattle.coff_write.specs.Format.{word, dword, eight, long_text, is_short_symbol, symbol_name_field, class_of, section_size, site_count, section_of, is_comdat, symbol_record, section_definition, definition_of, symbol_records_of, section_names_size, symbol_names_size, symbols_place, object_bytes}
use Rattle.coff_write.specs.Valid.{no_zero, valid_place, HasRoom}
use Rattle.file_words.specs.Standing.{Has}
use Rattle.file_words.specs.Fields.{byte_of, word_of, dword_of}
use Rattle.file_words.proofs.HasLaws.{has_left, has_same, has_within, byte_has, word_has, dword_has}
use Rattle.coff_fields.specs.Fields.{symbol_place, symbol_value, symbol_section, symbol_class, auxiliary_count, selection}
use Rattle.coff_fields.specs.Names.{strings, is_long, symbol_offset, symbol_name, bad_string}
use Rattle.coff_laws_parts.specs.Ranges.{HasRanges}
use Rattle.coff_laws_base.specs.Records.{no_symbol, record_of, has_more}
use Rattle.coff_laws_base.proofs.Sizes.{two, four, symbol_name_long, record_long, comdat_of}
use Rattle.coff_laws_base.proofs.Rows.{has_next, symbol_texts_at}
use Rattle.coff_laws_base.proofs.Symbols.{follows_all, record_none, symbols_at}
use Rattle.coff_laws_base.proofs.Names.{field_short, long_is, string_is, string_good}
use Rattle.coff_laws_parts.proofs.Parts.{header_fields, symbols_there, symbol_texts_there, strings_long}
use Rattle.coff_laws_base.proofs.Validity.{IsValid, symbol_valid}

-- ---- the places of the fields

pub record RecordParts (b : List ℕ) (p n : ℕ) (more : Bool) (s : ObjSymbol) : Type 0 where
  pub name : Has b p (symbol_name_field s.name n)
  pub value : Has b (p + 8) (dword s.value)
  pub section : Has b (p + 12) (word s.section)
  pub class : Has b (p + 16) (class_of s.external ∷ [])
  pub count : Has b (p + 17) (cond more 1 0 ∷ [])

record_parts : (b : List ℕ) (p n : ℕ) (more : Bool) (s : ObjSymbol) → Has b p (symbol_record n more s) → RecordParts b p n more s
unfolding symbol_record
record_parts b p n more s h =
    let name = symbol_name_field s.name n in
    let class : List ℕ = class_of s.external ∷ [] in
    let last : List ℕ = cond more 1 0 ∷ [] in
    let f1 = has_next b p (p + 8) name (concat (dword s.value ∷ word s.section ∷ word 0 ∷ class ∷ last ∷ [])) (omega (arith, symbol_name_long s.name n)) h in
    let f2 = has_next b (p + 8) (p + 12) (dword s.value) (concat (word s.section ∷ word 0 ∷ class ∷ last ∷ [])) (omega (arith, four s.value)) f1 in
    let f3 = has_next b (p + 12) (p + 14) (word s.section) (concat (word 0 ∷ class ∷ last ∷ [])) (omega (arith, two s.section)) f2 in
    let f4 = has_next b (p + 14) (p + 16) (word 0) (concat (class ∷ last ∷ [])) (omega (arith, two 0)) f3 in
    let f5 = has_next b (p + 16) (p + 17) class (concat (last ∷ [])) (omega arith) f4 in
    record {
      name = has_left b p name _ h;
      value = has_left b (p + 8) (dword s.value) _ f1;
      section = has_left b (p + 12) (word s.section) _ f2;
      class = has_left b (p + 16) class _ f4;
      count = has_left b (p + 17) last _ f5;
    }

definition_selects : (b : List ℕ) (p : ℕ) (home : ObjSection) → Has b p (section_definition home) → byte_of b (p + 14) ≡ 2
unfolding section_definition
definition_selects b p home h =
    let last : List ℕ = 2 ∷ 0 ∷ 0 ∷ 0 ∷ [] in
    let f1 = has_next b p (p + 4) (dword (section_size home)) (concat (word (site_count home) ∷ word 0 ∷ dword 0 ∷ word 0 ∷ last ∷ [])) (omega (arith, four (section_size home))) h in
    let f2 = has_next b (p + 4) (p + 6) (word (site_count home)) (concat (word 0 ∷ dword 0 ∷ word 0 ∷ last ∷ [])) (omega (arith, two (site_count home))) f1 in
    let f3 = has_next b (p + 6) (p + 8) (word 0) (concat (dword 0 ∷ word 0 ∷ last ∷ [])) (omega (arith, two 0)) f2 in
    let f4 = has_next b (p + 8) (p + 12) (dword 0) (concat (word 0 ∷ last ∷ [])) (omega (arith, four 0)) f3 in
    let f5 = has_next b (p + 12) (p + 14) (word 0) (concat (last ∷ [])) (omega (arith, two 0)) f4 in
    byte_has b (p + 14) 0 (p + 14) last (has_left b (p + 14) last [] f5) (omega arith) (omega arith)

home_selects : (b : List ℕ) (p : ℕ) (home : Option ObjSection) → is_comdat home ≡ true → Has b p (definition_of home) → byte_of b (p + 14) ≡ 2
unfolding definition_of
home_selects b p None e h = absurd cc
home_selects b p (Some home) e h = definition_selects b p home h

records_select : (b : List ℕ) (p n : ℕ) (more : Bool) (sections : List ObjSection) (s : ObjSymbol) → is_comdat (section_of sections s.section) ≡ true → more ≡ true → Has b p (symbol_records_of sections n more s) → byte_of b (p + 32) ≡ 2
unfolding symbol_records_of
records_select b p n true sections s c e h =
    let next = has_next b p (p + 18) (symbol_record n true s) (definition_of (section_of sections s.section)) (omega (arith, record_long n true s)) h in
    let same : p + 18 + 14 ≡ p + 32 = omega arith in
    ap (byte_of b) (sym same) ∙ home_selects b (p + 18) (section_of sections s.section) c next
records_select b p n false sections s c e h = absurd cc

first_record : (b : List ℕ) (p n : ℕ) (more : Bool) (sections : List ObjSection) (s : ObjSymbol) → Has b p (symbol_records_of sections n more s) → Has b p (symbol_record n more s)
unfolding symbol_records_of
first_record b p n more sections s h = has_left b p (symbol_record n more s) _ h

-- ---- the name

symbol_short : (n : List ℕ) (o : ℕ) → is_short_symbol n ≡ true → symbol_name_field n o ≡ eight n
unfolding symbol_name_field
symbol_short n o e = rw e refl

symbol_long : (n : List ℕ) (o : ℕ) → is_short_symbol n ≡ false → symbol_name_field n o ≡ dword 0 ++ dword o
unfolding symbol_name_field
symbol_long n o e = rw e refl

first_some : (n : List ℕ) → 0 < length n → no_zero n ≡ true → get_or n 0 0 ≢ 0
first_some [] some e z = absurd (omega arith)
first_some (c ∷ n) some e z = absurd (eqb-false c 0 (not-true (eqb c 0) (and_parts (not (eqb c 0)) (no_zero n) e).0) z)

dword_some : (b : List ℕ) (p : ℕ) → byte_of b p ≢ 0 → eqb (dword_of b p) 0 ≡ false
unfolding dword_of word_of
dword_some b p ne = ne_eqb _ 0 (λ e. ne (omega (arith, e)))

short_name : (b : List ℕ) (j o : ℕ) (n : List ℕ) → no_zero n ≡ true → is_short_symbol n ≡ true → Has b (symbol_place b j) (symbol_name_field n o) → (symbol_name b j ≡ n) × ((is_long b j && bad_string b (symbol_offset b j)) ≡ false)
unfolding symbol_name is_long
short_name b j o n e s h =
    let p = symbol_place b j in
    let here : Has b p (eight n) = has_same b p (symbol_name_field n o) (eight n) (symbol_short n o s) h in
    let parts = and_parts (ltb 0 (length n)) (leb (length n) 8) s in
    let first : byte_of b p ≡ slice_index n 0 = byte_has b p 0 p (eight n) here (omega arith) (omega arith) in
    let plain : eqb (dword_of b p) 0 ≡ false = dword_some b p (λ z. first_some n (ltb-true 0 (length n) parts.0) e (sym first ∙ z)) in
    (rw plain (field_short b p n (leb-true (length n) 8 parts.1) e here), rw plain refl)

long_name : (b : List ℕ) (j o : ℕ) (n : List ℕ) → no_zero n ≡ true → is_short_symbol n ≡ false → 4 ≤ o → length (strings b) ≤ 134217728 → Has b (symbol_place b j) (symbol_name_field n o) → Has (strings b) o (long_text (is_short_symbol n) n) → (symbol_name b j ≡ n) × ((is_long b j && bad_string b (symbol_offset b j)) ≡ false)
unfolding symbol_name is_long symbol_offset
long_name b j o n e s low small h t =
    let p = symbol_place b j in
    let here : Has b p (dword 0 ++ dword o) = has_same b p (symbol_name_field n o) (dword 0 ++ dword o) (symbol_long n o s) h in
    let text : Has (strings b) o (n ++ 0 ∷ []) = has_same (strings b) o (long_text (is_short_symbol n) n) (n ++ 0 ∷ []) (ap (λ k. long_text k n) s ∙ long_is n) t in
    let within : o + length (n ++ 0 ∷ []) ≤ length (strings b) = has_within (strings b) o (n ++ 0 ∷ []) (omega (arith, length-append n (0 ∷ []))) text in
    let none : dword_of b p ≡ 0 = dword_has b p 0 (omega arith) (has_left b p (dword 0) (dword o) here) in
    let place : dword_of b (p + 4) ≡ o = dword_has b (p + 4) o (omega (arith, within, small)) (has_next b p (p + 4) (dword 0) (dword o) (omega (arith, four 0)) here) in
    rw (none, place) (string_is b o n e text, string_good b o n low text)

symbol_name_read : (b : List ℕ) (j o : ℕ) (n : List ℕ) → no_zero n ≡ true → 4 ≤ o → length (strings b) ≤ 134217728 → Has b (symbol_place b j) (symbol_name_field n o) → Has (strings b) o (long_text (is_short_symbol n) n) → (symbol_name b j ≡ n) × ((is_long b j && bad_string b (symbol_offset b j)) ≡ false)
symbol_name_read b j o n e low small h t = elim (cases_Bool (is_short_symbol n)) [ inl s ↦ short_name b j o n e s h | inr l ↦ long_name b j o n e l low small h t ]

-- ---- what is read

place_case : (o : Object) (j : ℕ) (s : ObjSymbol) → valid_place o j s ≡ true → s.section < 65536
unfolding valid_place
place_case o j s e = elim (cases_Bool (eqb s.section 0)) [
  | inl z ↦ omega (arith, eqb-true s.section 0 z)
  | inr nz ↦ elim (cases_Bool (eqb s.section 65535)) [
    | inl a ↦ omega (arith, eqb-true s.section 65535 a)
    | inr na ↦ omega (arith, ltb-true s.section 65534 (and_parts (ltb s.section 65534) _ (rw (nz, na) at e)).0)
  ]
]

pub record SymbolRead (o : Object) (b : List ℕ) (k j : ℕ) (s : ObjSymbol) : Type 0 where
  pub name : symbol_name b j ≡ s.name
  pub good_name : (is_long b j && bad_string b (symbol_offset b j)) ≡ false
  pub value : symbol_value b j ≡ s.value
  pub section : symbol_section b j ≡ s.section
  pub class : symbol_class b j ≡ class_of s.external
  pub more : auxiliary_count b j ≡ cond (has_more o.sections o.symbols k) 1 0
  pub selects : has_more o.sections o.symbols k ≡ true → selection b j ≡ 2

comdat_home : (sections : List ObjSection) (symbols : List ObjSymbol) (k : ℕ) → has_more sections symbols k ≡ true → is_comdat (section_of sections (get_or symbols k no_symbol).section) ≡ true
unfolding has_more
comdat_home sections symbols k e = comdat_of sections (take k symbols) (get_or symbols k no_symbol) e

records_there : (o : Object) (k : ℕ) → HasRoom o → k < length o.symbols → Has (object_bytes o) (symbol_place (object_bytes o) (record_of (has_more o.sections o.symbols) k)) (symbol_records_of o.sections (4 + section_names_size o.sections + symbol_names_size (take k o.symbols)) (has_more o.sections o.symbols k) (get_or o.symbols k no_symbol))
unfolding symbol_place
records_there o k room lt =
    let more = has_more o.sections o.symbols in
    let there = symbols_at (object_bytes o) (symbols_place o) o.sections o.symbols 0 (symbols_place o) (4 + section_names_size o.sections) o.symbols k (follows_all o.symbols) (omega (arith, record_none more)) lt (symbols_there o) in
    let same : 0 + k ≡ k = omega arith in
    let here = subst (λ (q : ℕ). Has (object_bytes o) (symbols_place o + 18 * record_of more q) (symbol_records_of o.sections (4 + section_names_size o.sections + symbol_names_size (take k o.symbols)) (more q) (get_or o.symbols k no_symbol))) same there in
    rw (header_fields o room).symbols here

value_small : (o : Object) (k : ℕ) → HasRanges o → k < length o.symbols → (get_or o.symbols k no_symbol).value < 4294967296
value_small o k g lt = g.values k (get_or o.symbols k no_symbol) (slice_get-get_or o.symbols k no_symbol lt)

pub symbol_read : (o : Object) (k : ℕ) → IsValid o → HasRanges o → k < length o.symbols → SymbolRead o (object_bytes o) k (record_of (has_more o.sections o.symbols) k) (get_or o.symbols k no_symbol)
unfolding symbol_value symbol_section symbol_class auxiliary_count selection
symbol_read o k v g lt =
    let b = object_bytes o in
    let more = has_more o.sections o.symbols k in
    let j = record_of (has_more o.sections o.symbols) k in
    let s = get_or o.symbols k no_symbol in
    let n = 4 + section_names_size o.sections + symbol_names_size (take k o.symbols) in
    let p = symbol_place b j in
    let ok = symbol_valid o k v lt in
    let there = records_there o k v.room lt in
    let parts = record_parts b p n more s (first_record b p n more o.sections s there) in
    let named = symbol_name_read b j n s.name ok.0 (omega arith) (omega (arith, strings_long o v.room, v.room.size)) parts.name (symbol_texts_at (strings b) (4 + section_names_size o.sections) o.symbols k no_symbol lt (symbol_texts_there o v.room)) in
    record {
      name = named.0;
      good_name = named.1;
      value = dword_has b (p + 8) s.value (value_small o k g lt) parts.value;
      section = word_has b (p + 12) s.section (place_case o k s ok.1) parts.section;
      class = byte_has b (p + 16) 0 (p + 16) _ parts.class (omega arith) (omega arith);
      more = byte_has b (p + 17) 0 (p + 17) _ parts.count (omega arith) (omega arith);
      selects = λ t. records_select b p n more o.sections s (comdat_home o.sections o.symbols k t) t there;
    }
