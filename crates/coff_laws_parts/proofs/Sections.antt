-- The header of a section is read as it was written.
use Rattle.std.proofs.Common.{◌≡◌, ◌≢◌, ℕ, ◌+◌, ◌-◌, ◌<◌, ◌≤◌, Bool, true, false, cond, not, eqb, leb, List, [], ◌∷◌, ◌++◌, length, drop, refl, sym, ap, ◌∙◌, arith, inl, inr}
use Rattle.std.specs.Prelude.{bit_and, slice_index}
use Rattle.std.specs.List.{concat}
use Rattle.std.proofs.lemmas.Bool.{and_parts, not-true, eqb-true, eqb-false, leb-true, ltb-false, cases_Bool}
use Rattle.coff_write.specs.declared.object.ObjSection.{ObjSection}
use Rattle.coff_write.specs.Format.{word, dword, eight, slash_field, long_text, is_short_section, section_name_field, section_size, overflows, site_count, pointer, section_flags, section_head, section_tail, section_header}
use Rattle.coff_write.specs.Valid.{no_zero, has_right_contents, has_right_comdat, has_right_flags}
use Rattle.coff_write.specs.Valid as valid
use Rattle.file_words.specs.Standing.{Has}
use Rattle.file_words.specs.Fields.{byte_of}
use Rattle.file_words.proofs.HasLaws.{has_left, has_same, has_within, byte_has, word_has, dword_has}
use Rattle.coff_fields.specs.Fields.{section_place, raw_size, raw_place, rows_place, row_field, raw_flags}
use Rattle.coff_fields.specs.Fields as fields
use Rattle.coff_fields.specs.Names.{strings, is_slash, digits, section_offset, section_name, bad_section_name}
use Rattle.coff_read.specs.Objects.{flags_of}
use Rattle.coff_laws_base.proofs.Sizes.{two, four, parts5, section_name_long}
use Rattle.coff_laws_base.proofs.Rows.{has_next}
use Rattle.coff_laws_base.proofs.Names.{field_short, slash_digits, slash_first, seven_again, seven_good, long_is, string_is, string_good}
use Rattle.coff_laws_base.proofs.Flags.{flag_fields}

-- ---- the places of the fields

pub record HeaderParts (b : List ℕ) (p n c r : ℕ) (s : ObjSection) : Type 0 where
  pub name : Has b p (section_name_field s.name n)
  pub size : Has b (p + 16) (dword (section_size s))
  pub contents : Has b (p + 20) (dword (pointer (length s.bytes) c))
  pub rows : Has b (p + 24) (dword (pointer (length s.sites) r))
  pub count : Has b (p + 32) (word (site_count s))
  pub flags : Has b (p + 36) (dword (section_flags s))

pub header_parts : (b : List ℕ) (p n c r : ℕ) (s : ObjSection) → Has b p (section_header n c r s) → HeaderParts b p n c r s
unfolding section_header
header_parts b p n c r s h =
    let name = section_name_field s.name n in
    let size = dword (section_size s) in
    let contents = dword (pointer (length s.bytes) c) in
    let rows = dword (pointer (length s.sites) r) in
    let count = word (site_count s) in
    let flags = dword (section_flags s) in
    let front = has_left b p (concat (section_head n c s)) (concat (section_tail r s)) h in
    let f1 = has_next b p (p + 8) name (concat (dword 0 ∷ dword 0 ∷ size ∷ contents ∷ [])) (omega (arith, section_name_long s.name n)) front in
    let f2 = has_next b (p + 8) (p + 12) (dword 0) (concat (dword 0 ∷ size ∷ contents ∷ [])) (omega (arith, four 0)) f1 in
    let f3 = has_next b (p + 12) (p + 16) (dword 0) (concat (size ∷ contents ∷ [])) (omega (arith, four 0)) f2 in
    let f4 = has_next b (p + 16) (p + 20) size (concat (contents ∷ [])) (omega (arith, four (section_size s))) f3 in
    let t0 = has_next b p (p + 24) (concat (section_head n c s)) (concat (section_tail r s)) (omega (arith, parts5 name (dword 0) (dword 0) size contents, section_name_long s.name n, four 0, four (section_size s), four (pointer (length s.bytes) c))) h in
    let t1 = has_next b (p + 24) (p + 28) rows (concat (dword 0 ∷ count ∷ word 0 ∷ flags ∷ [])) (omega (arith, four (pointer (length s.sites) r))) t0 in
    let t2 = has_next b (p + 28) (p + 32) (dword 0) (concat (count ∷ word 0 ∷ flags ∷ [])) (omega (arith, four 0)) t1 in
    let t3 = has_next b (p + 32) (p + 34) count (concat (word 0 ∷ flags ∷ [])) (omega (arith, two (site_count s))) t2 in
    let t4 = has_next b (p + 34) (p + 36) (word 0) (concat (flags ∷ [])) (omega (arith, two 0)) t3 in
    record {
      name = has_left b p name _ front;
      size = has_left b (p + 16) size _ f3;
      contents = has_left b (p + 20) contents _ f4;
      rows = has_left b (p + 24) rows _ t0;
      count = has_left b (p + 32) count _ t2;
      flags = has_left b (p + 36) flags _ t4;
    }

-- ---- the name

section_long : (n : List ℕ) (o : ℕ) → is_short_section n ≡ false → section_name_field n o ≡ slash_field o
unfolding section_name_field
section_long n o e = rw e refl

section_short : (n : List ℕ) (o : ℕ) → is_short_section n ≡ true → section_name_field n o ≡ eight n
unfolding section_name_field
section_short n o e = rw e refl

first_byte : (b : List ℕ) (p : ℕ) (n : List ℕ) → Has b p (eight n) → byte_of b p ≡ slice_index n 0
first_byte b p n h = byte_has b p 0 p (eight n) h (omega arith) (omega arith)

short_name : (b : List ℕ) (i o : ℕ) (n : List ℕ) → no_zero n ≡ true → is_short_section n ≡ true → Has b (section_place i) (section_name_field n o) → (section_name b i ≡ n) × (bad_section_name b i ≡ false)
unfolding section_name bad_section_name is_slash
short_name b i o n e s h =
    let here : Has b (section_place i) (eight n) = has_same b (section_place i) (section_name_field n o) (eight n) (section_short n o s) h in
    let parts = and_parts (leb (length n) 8) (not (eqb (slice_index n 0) 47)) s in
    let plain : eqb (byte_of b (section_place i)) 47 ≡ false = ap (λ c. eqb c 47) (first_byte b (section_place i) n here) ∙ not-true (eqb (slice_index n 0) 47) parts.1 in
    (rw plain (field_short b (section_place i) n (leb-true (length n) 8 parts.0) e here), rw plain refl)

long_name : (b : List ℕ) (i o : ℕ) (n : List ℕ) → no_zero n ≡ true → is_short_section n ≡ false → 4 ≤ o → o ≤ 9999999 → Has b (section_place i) (section_name_field n o) → Has (strings b) o (long_text (is_short_section n) n) → (section_name b i ≡ n) × (bad_section_name b i ≡ false)
unfolding section_name bad_section_name is_slash section_offset digits
long_name b i o n e s low few h t =
    let here : Has b (section_place i) (slash_field o) = has_same b (section_place i) (section_name_field n o) (slash_field o) (section_long n o s) h in
    let text : Has (strings b) o (n ++ 0 ∷ []) = has_same (strings b) o (long_text (is_short_section n) n) (n ++ 0 ∷ []) (ap (λ k. long_text k n) s ∙ long_is n) t in
    rw (slash_first b (section_place i) o here, slash_digits b (section_place i) o here, seven_again o few, seven_good o) (string_is b o n e text, string_good b o n low text)

pub section_name_read : (b : List ℕ) (i o : ℕ) (n : List ℕ) → no_zero n ≡ true → 4 ≤ o → (is_short_section n ≡ false → o ≤ 9999999) → Has b (section_place i) (section_name_field n o) → Has (strings b) o (long_text (is_short_section n) n) → (section_name b i ≡ n) × (bad_section_name b i ≡ false)
section_name_read b i o n e low few h t = elim (cases_Bool (is_short_section n)) [ inl s ↦ short_name b i o n e s h | inr l ↦ long_name b i o n e l low (few l) h t ]

-- ---- pointers

pub has_nothing : (b : List ℕ) (p : ℕ) → Has b p []
has_nothing b p = record { rest = drop p b; is = refl }

pointer_case : (b : List ℕ) (z : Bool) (size p : ℕ) (text : List ℕ) → eqb size 0 ≡ z → (size ≡ 0 → text ≡ []) → (0 < size → 0 < length text) → Has b p text → Has b (cond z 0 p) text × (cond z 0 p + length text ≤ length b)
pointer_case b true size p text e none some h =
    let empty : text ≡ [] = none (eqb-true size 0 e) in
    (has_same b 0 [] text (sym empty) (has_nothing b 0), omega (arith, ap length empty))
pointer_case b false size p text e none some h =
    let ne : size ≢ 0 = eqb-false size 0 e in
    (h, has_within b p text (some (omega (arith, ne))) h)

-- what a pointer names lies in the file
pub pointer_there : (b : List ℕ) (size p : ℕ) (text : List ℕ) → (size ≡ 0 → text ≡ []) → (0 < size → 0 < length text) → Has b p text → Has b (pointer size p) text × (pointer size p + length text ≤ length b)
unfolding pointer
pointer_there b size p text none some h = pointer_case b (eqb size 0) size p text refl none some h

-- ---- the numbers

pub record HeaderNumbers (b : List ℕ) (i c r : ℕ) (s : ObjSection) : Type 0 where
  pub size : raw_size b i ≡ section_size s
  pub contents : raw_place b i ≡ pointer (length s.bytes) c
  pub rows : rows_place b i ≡ pointer (length s.sites) r
  pub count : row_field b i ≡ site_count s
  pub flags : raw_flags b i ≡ section_flags s

count_small : (s : ObjSection) → site_count s < 65536
unfolding site_count
count_small s = elim (cases_Bool (overflows s)) [ inl t ↦ rw t (omega arith) | inr f ↦ rw f (omega (arith, ltb-false 65534 (length s.sites) f)) ]

pub header_numbers : (b : List ℕ) (i n c r : ℕ) (s : ObjSection) → section_size s < 4294967296 → pointer (length s.bytes) c < 4294967296 → pointer (length s.sites) r < 4294967296 → section_flags s < 4294967296 → HeaderParts b (section_place i) n c r s → HeaderNumbers b i c r s
unfolding raw_size raw_place rows_place row_field raw_flags
header_numbers b i n c r s few place rows flags h = record {
  size = dword_has b (section_place i + 16) (section_size s) few h.size;
  contents = dword_has b (section_place i + 20) (pointer (length s.bytes) c) place h.contents;
  rows = dword_has b (section_place i + 24) (pointer (length s.sites) r) rows h.rows;
  count = word_has b (section_place i + 32) (site_count s) (count_small s) h.count;
  flags = dword_has b (section_place i + 36) (section_flags s) flags h.flags;
}

-- ---- the flags

pub record HeaderFlags (b : List ℕ) (i : ℕ) (s : ObjSection) : Type 0 where
  pub over : fields.has_flag b i 16777216 ≡ overflows s
  pub gone : fields.has_flag b i 2560 ≡ false
  pub zeros : fields.has_flag b i 128 ≡ valid.has_flag s 128
  pub comdat : fields.has_flag b i 4096 ≡ s.comdat
  pub code : fields.has_flag b i 536870912 ≡ valid.has_flag s 536870912
  pub back : flags_of b i ≡ s.flags

comdat_case : (c f : Bool) → cond c f (not f) ≡ true → f ≡ c
comdat_case true f e = e
comdat_case false f e = not-true f e

comdat_flag : (s : ObjSection) → has_right_flags s ≡ true → not (eqb (bit_and s.flags 4096) 0) ≡ s.comdat
unfolding has_right_flags valid.has_flag
comdat_flag s e = comdat_case s.comdat (not (eqb (bit_and s.flags 4096) 0)) (and_parts _ (has_right_comdat s) e).1

pub header_flags : (b : List ℕ) (i : ℕ) (s : ObjSection) → s.flags < 4294967296 → has_right_flags s ≡ true → raw_flags b i ≡ section_flags s → HeaderFlags b i s
unfolding fields.has_flag valid.has_flag flags_of
header_flags b i s lt e h =
    let f = flag_fields s lt e in
    record {
      over = ap (λ g. not (eqb (bit_and g 16777216) 0)) h ∙ f.over;
      gone = ap (λ g. not (eqb (bit_and g 2560) 0)) h ∙ ap (λ g. not (eqb g 0)) f.gone;
      zeros = ap (λ g. not (eqb (bit_and g 128) 0)) h ∙ ap (λ g. not (eqb g 0)) f.zeros;
      comdat = ap (λ g. not (eqb (bit_and g 4096) 0)) h ∙ ap (λ g. not (eqb g 0)) f.comdat ∙ comdat_flag s e;
      code = ap (λ g. not (eqb (bit_and g 536870912) 0)) h ∙ ap (λ g. not (eqb g 0)) f.code;
      back = ap (λ g. cond (not (eqb (bit_and g 16777216) 0)) (g - 16777216) g) h ∙ f.back;
    }
