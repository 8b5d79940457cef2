-- The image that a file has is one that the tests allow.
use Rattle.std.proofs.Common.{◌≡◌, ℕ, zero, suc, ◌+◌, ◌%◌, ◌<◌, ◌≤◌, Bool, true, false, cond, not, ◌||◌, ◌&&◌, eqb, ltb, leb, List, [], ◌∷◌, ◌++◌, length, get_or, take, drop, Option, Some, None, Ok, refl, sym, ap, subst, ◌∙◌, arith, inl, inr}
use Rattle.std.specs.Prelude.{min, bit_and, is_some}
use Rattle.std.specs.List.{list_all, list_any, position_or_len}
use Rattle.std.proofs.lemmas.Bool.{and_parts, and_from, or_parts, or_cases, or_left, or_right, not-false, not_from_false, ltb-false, lt-ltb, le-leb, leb-true, eqb-true, cond-true, cond-false, cases_Bool, cases_eq, cases_lt}
use Rattle.std.proofs.lemmas.List.{length-take}
use Rattle.hx_words.specs.LittleEndian.{AreBytes}
use Rattle.hx_words.proofs.LittleEndianLaws.{AreBytes-take, AreBytes-drop}
use Rattle.file_words.specs.Fields.{byte_of, word_of, dword_of, part_of, until_zero}
use Rattle.file_words.specs.Below.{any_below, first_below, or_else, table, gathered}
use Rattle.file_words.specs.Firsts.{NoneHolds}
use Rattle.file_words.proofs.BelowLaws.{none_below, length_table}
use Rattle.file_words.proofs.FirstLaws.{first_accepted}
use Rattle.chpe_types.specs.declared.image.Image.{Image}
use Rattle.chpe_types.specs.declared.image.ImageSection.{ImageSection}
use Rattle.chpe_meta.specs.Reading.{meta_in}
use Rattle.pe_fields.specs.Headers.{qword_of, base, entry, image_size, stack, section_count, section_rva, virtual_size, raw_size, raw_place, section_flags, section_place, section_name, section_bytes, section, sections, directory_rva, directory_size}
use Rattle.pe_fields.specs.Space.{has_part, is_mapped, rest_at}
use Rattle.pe_fields.specs.Imports.{same_text, bad_imports, slots}
use Rattle.pe_fields.specs.Relocations as blocks
use Rattle.pe_fields.specs.Hybrid.{meta_rva, bad_config, bad_hybrid, bad_entry}
use Rattle.pe_read.specs.Refusals.{bad_image_size, bad_stack, bad_section_table, first_place, bad_home, bad_contents, has_flag, bad_rights, bad_section, bad_section_range, is_used, is_known, bad_use, bad_directory, bad_import, bad_base_relocation, bad_load_config, header_rva, bad_metadata, bad_entry_point, holds, refusals}
use Rattle.pe_read.specs.Images.{imports, sites, image_in, image_of}
use Rattle.pe_write_laws.specs.Places.{same_lists, same_slot, is_import_place, has_sites, size_at, is_blocks_place, has_meta, is_config_place}
use Rattle.pe_write_laws.specs.Allowed.{fits, is_paged, has_numbers, is_byte, is_letter, is_name, has_home, has_contents, has_rights, is_section, are_placed, has_sections, where_some, has_places, is_allowed}
use Rattle.pe_write_laws.proofs.Room.{mapped_between}
use Rattle.pe_write_laws.proofs.Alike.{same_itself, slots_itself, meta_itself}
use Rattle.pe_write_laws.proofs.FileBytes.{bytes_all}

-- ---- numbers

byte_lt : (b : List ℕ) (p : ℕ) → AreBytes b → get_or b p 0 < 256
byte_lt [] p h = omega arith
byte_lt (x ∷ xs) zero h = h.0
byte_lt (x ∷ xs) (suc p) h = byte_lt xs p h.1

dword_lt : (b : List ℕ) (p : ℕ) → AreBytes b → dword_of b p < 4294967296
unfolding dword_of word_of byte_of
dword_lt b p h = omega (arith, byte_lt b p h, byte_lt b (p + 1) h, byte_lt b (p + 2) h, byte_lt b (p + 2 + 1) h)

qword_lt : (b : List ℕ) (p : ℕ) → AreBytes b → qword_of b p < 18446744073709551616
unfolding qword_of
qword_lt b p h = omega (arith, dword_lt b p h, dword_lt b (p + 4) h)

dword_fits : (b : List ℕ) (p : ℕ) → AreBytes b → fits (dword_of b p) ≡ true
dword_fits b p h = lt-ltb (dword_of b p) 4294967296 (dword_lt b p h)

paged : (most n : ℕ) → (not (eqb (n % 4096) 0) || ltb most n) ≡ false → is_paged most n ≡ true
paged most n f =
    let h = or_parts (not (eqb (n % 4096) 0)) (ltb most n) f in
    and_from (eqb (n % 4096) 0) (leb n most) (not-false (eqb (n % 4096) 0) h.0) (le-leb n most (ltb-false most n h.1))

size_paged : (b : List ℕ) → bad_image_size b ≡ false → is_paged 134217728 (image_size b) ≡ true
unfolding bad_image_size
size_paged b f = paged 134217728 (image_size b) (or_parts (eqb (image_size b) 0) _ f).1

stack_paged : (b : List ℕ) → bad_stack b ≡ false → is_paged 268435456 (stack b) ≡ true
unfolding bad_stack
stack_paged b f = paged 268435456 (stack b) f

base_fits : (b : List ℕ) → AreBytes b → ltb (base b) 18446744073709551616 ≡ true
unfolding base
base_fits b h = lt-ltb _ 18446744073709551616 (qword_lt b _ h)

entry_fits : (b : List ℕ) → AreBytes b → fits (entry b) ≡ true
unfolding entry
entry_fits b h = dword_fits b _ h

numbers_had : (b : List ℕ) → AreBytes b → bad_image_size b ≡ false → bad_stack b ≡ false → has_numbers (image_in b) ≡ true
unfolding has_numbers image_in
numbers_had b h size room = and_from (is_paged 134217728 (image_size b)) _ (size_paged b size) (and_from (is_paged 268435456 (stack b)) _ (stack_paged b room) (and_from (ltb (base b) 18446744073709551616) (fits (entry b)) (base_fits b h) (entry_fits b h)))

-- ---- a section

letters_case : (t : Bool) (x m : ℕ) (xs : List ℕ) → eqb x 0 ≡ t → is_byte x ≡ true → list_all is_letter (take m xs) ≡ true → list_all is_letter (take (cond (not t) (1 + m) 0) (x ∷ xs)) ≡ true
letters_case true x m xs e byte h = refl
letters_case false x m xs e byte h = let s : 1 + m ≡ suc m = omega arith in rw s (and_from (is_letter x) (list_all is_letter (take m xs)) (and_from (not (eqb x 0)) (is_byte x) (not_from_false (eqb x 0) e) byte) h)

letters : (xs : List ℕ) → AreBytes xs → list_all is_letter (until_zero xs) ≡ true
letters [] h = refl
letters (x ∷ xs) h = letters_case (eqb x 0) x (position_or_len (λ c. eqb c 0) xs) xs refl (lt-ltb x 256 h.0) (letters xs h.1)

cut_short : (n : ℕ) (xs : List ℕ) → length (take n xs) ≤ length xs
cut_short n xs = omega (arith, length-take n xs)

name_short : (b : List ℕ) (j : ℕ) → length (section_name b j) ≤ 8
unfolding section_name part_of
name_short b j =
    let xs : List ℕ = take 8 (drop (section_place b j) b) in
    let some : length xs ≤ 8 = omega (arith, length-take 8 (drop (section_place b j) b)) in
    let cut : length (until_zero xs) ≤ length xs = cut_short (position_or_len (λ c. eqb c 0) xs) xs in
    omega arith

name_letters : (b : List ℕ) (j : ℕ) → AreBytes b → list_all is_letter (section_name b j) ≡ true
unfolding section_name part_of
name_letters b j h = letters (take 8 (drop (section_place b j) b)) (AreBytes-take 8 (drop (section_place b j) b) (AreBytes-drop (section_place b j) b h))

name_had : (b : List ℕ) (j : ℕ) → AreBytes b → is_name (section_name b j) ≡ true
name_had b j h = and_from (leb (length (section_name b j)) 8) (list_all is_letter (section_name b j)) (le-leb (length (section_name b j)) 8 (name_short b j)) (name_letters b j h)

flags_fit : (b : List ℕ) (j : ℕ) → AreBytes b → fits (section_flags b j) ≡ true
unfolding section_flags
flags_fit b j h = dword_fits b _ h

rights_had : (b : List ℕ) (j : ℕ) → bad_rights b j ≡ false → not (not (eqb (bit_and (section_flags b j) 2147483648) 0) && not (eqb (bit_and (section_flags b j) 536870912) 0)) ≡ true
unfolding bad_rights has_flag
rights_had b j f = ap not f

contents_bytes : (b : List ℕ) (j : ℕ) → AreBytes b → list_all is_byte (section_bytes b j) ≡ true
unfolding section_bytes part_of
contents_bytes b j h = bytes_all _ (AreBytes-take (min (raw_size b j) (virtual_size b j)) (drop (raw_place b j) b) (AreBytes-drop (raw_place b j) b h))

contents_few : (b : List ℕ) (j : ℕ) → length (section_bytes b j) ≤ virtual_size b j
unfolding section_bytes part_of
contents_few b j = omega (arith, length-take (min (raw_size b j) (virtual_size b j)) (drop (raw_place b j) b))

contents_had : (b : List ℕ) (j : ℕ) → AreBytes b → has_contents (section b j) ≡ true
unfolding section
contents_had b j h = and_from (list_all is_byte (section_bytes b j)) _ (contents_bytes b j h) (le-leb (length (section_bytes b j)) (virtual_size b j) (contents_few b j))

section_name_had : (b : List ℕ) (j : ℕ) → AreBytes b → is_name (section b j).name ≡ true
unfolding section
section_name_had b j h = name_had b j h

section_rights : (b : List ℕ) (j : ℕ) → AreBytes b → bad_rights b j ≡ false → has_rights (section b j) ≡ true
unfolding section
section_rights b j h f = and_from (fits (section_flags b j)) _ (flags_fit b j h) (rights_had b j f)

section_had : (b : List ℕ) (j : ℕ) → AreBytes b → bad_section b j ≡ false → is_section (section b j) ≡ true
unfolding is_section bad_section
section_had b j h f =
    let g = or_parts (bad_home b j) _ f in
    let k = or_parts (bad_contents b j) (bad_rights b j) g.1 in
    and_from (is_name (section b j).name) _ (section_name_had b j h) (and_from (has_contents (section b j)) _ (contents_had b j h) (section_rights b j h k.1))

home_had : (b : List ℕ) (j : ℕ) → bad_section b j ≡ false → has_home (image_size b) (first_place b j) (section b j) ≡ true
unfolding bad_section bad_home section
home_had b j f =
    let g = or_parts (bad_home b j) _ f in
    let h = or_parts (not (eqb (section_rva b j % 4096) 0)) _ g.0 in
    let k = or_parts (ltb (section_rva b j) (first_place b j)) _ h.1 in
    let l = or_parts (eqb (virtual_size b j) 0) _ k.1 in
    and_from (eqb (section_rva b j % 4096) 0) _ (not-false (eqb (section_rva b j % 4096) 0) h.0)
    (and_from (leb (first_place b j) (section_rva b j)) _ (le-leb (first_place b j) (section_rva b j) (ltb-false (section_rva b j) (first_place b j) k.0))
    (and_from (not (eqb (virtual_size b j) 0)) _ (not_from_false (eqb (virtual_size b j) 0) l.0)
    (le-leb (section_rva b j + virtual_size b j) (image_size b) (ltb-false (image_size b) (section_rva b j + virtual_size b j) l.1))))

-- ---- all of them

abbrev end_from : ℕ → List ImageSection → ℕ
end_from first [] = first
end_from first (s ∷ ss) = end_from (s.rva + s.size) ss

end_pushed : (first : ℕ) (ss : List ImageSection) (s : ImageSection) → end_from first (ss ++ s ∷ []) ≡ s.rva + s.size
end_pushed first [] s = refl
end_pushed first (t ∷ ss) s = end_pushed (t.rva + t.size) ss s

placed_push : (size first : ℕ) (ss : List ImageSection) (s : ImageSection) → are_placed size first ss ≡ true → has_home size (end_from first ss) s ≡ true → is_section s ≡ true → are_placed size first (ss ++ s ∷ []) ≡ true
placed_push size first [] s h home sound = and_from (has_home size first s && is_section s) true (and_from (has_home size first s) (is_section s) home sound) refl
placed_push size first (t ∷ ss) s h home sound =
    let g = and_parts (has_home size first t && is_section t) _ h in
    and_from (has_home size first t && is_section t) _ g.0 (placed_push size (t.rva + t.size) ss s g.1 home sound)

ends_there : (b : List ℕ) (n : ℕ) → end_from 4096 (table (section b) n) ≡ first_place b n
unfolding table first_place section
ends_there b zero = refl
ends_there b (suc n) = end_pushed 4096 (table (section b) n) (section b n)

placed_table : (b : List ℕ) (n : ℕ) → AreBytes b → ((j : ℕ) → j < n → bad_section b j ≡ false) → are_placed (image_size b) 4096 (table (section b) n) ≡ true
unfolding table
placed_table b zero h good = refl
placed_table b (suc n) h good =
    let f = good n (omega arith) in
    placed_push (image_size b) 4096 (table (section b) n) (section b n) (placed_table b n h (λ j lt. good j (omega arith)))
    (ap (λ (p : ℕ). has_home (image_size b) p (section b n)) (ends_there b n) ∙ home_had b n f) (section_had b n h f)

pub all_placed : (b : List ℕ) → AreBytes b → bad_section_range b ≡ false → are_placed (image_size b) 4096 (sections b) ≡ true
unfolding bad_section_range sections
all_placed b h f = placed_table b (section_count b) h (λ j lt. none_below (bad_section b) (section_count b) j f lt)

sections_long : (b : List ℕ) → length (sections b) ≡ section_count b
unfolding sections
sections_long b = length_table (section b) (section_count b)

sections_had : (b : List ℕ) → AreBytes b → bad_section_table b ≡ false → bad_section_range b ≡ false → has_sections (image_in b) ≡ true
unfolding has_sections image_in bad_section_table
sections_had b h f g =
    let k = or_parts (eqb (section_count b) 0) _ f in
    let l = or_parts (ltb 94 (section_count b)) _ k.1 in
    and_from (not (eqb (length (sections b)) 0)) _ (ap (λ (n : ℕ). not (eqb n 0)) (sections_long b) ∙ not_from_false (eqb (section_count b) 0) k.0)
    (and_from (leb (length (sections b)) 94) _ (ap (λ (n : ℕ). leb n 94) (sections_long b) ∙ le-leb (section_count b) 94 (ltb-false 94 (section_count b) l.0)) (all_placed b h g))

-- ---- directories

or_some : (o : Option ℕ) (k : ℕ) → is_some o ≡ true → (t : Bool) → is_some (or_else o (cond t (Some k) None)) ≡ true
or_some (Some x) k h t = refl
or_some None k h t = absurd cc

or_last : (o : Option ℕ) (k : ℕ) → is_some (or_else o (Some k)) ≡ true
or_last (Some x) k = refl
or_last None k = refl

first_some : (p : ℕ → Bool) (n k : ℕ) → k < n → p k ≡ true → is_some (first_below p n) ≡ true
unfolding first_below
first_some p zero k lt t = absurd (omega arith)
first_some p (suc n) k lt t = elim (cases_eq k n) [
  | inl same ↦ rw (ap p (sym same) ∙ t) (or_last (first_below p n) n)
  | inr other ↦ or_some (first_below p n) n (first_some p n k (omega (arith, other)) t) (p n)
]

where_none : {X : Type 0} (xs : List X) (t : Bool) → xs ≡ [] → where_some xs t ≡ true
where_none xs t e = ap (λ ys. where_some ys t) e

where_found : {X : Type 0} (xs : List X) (t : Bool) → t ≡ true → where_some xs t ≡ true
where_found [] t e = refl
where_found (x ∷ xs) t e = e

wider : (ss : List ImageSection) (a m n : ℕ) → m ≤ n → list_any (has_part a n) ss ≡ true → list_any (has_part a m) ss ≡ true
wider [] a m n le h = absurd cc
wider (s ∷ ss) a m n le h = elim (or_cases (has_part a n s) (list_any (has_part a n) ss) h) [
  | inl here ↦
      let g = and_parts (leb s.rva a) (leb (a + n) (s.rva + s.size)) here in
      or_left (has_part a m s) _ (and_from (leb s.rva a) _ g.0 (le-leb (a + m) (s.rva + s.size) (omega (arith, leb-true (a + n) (s.rva + s.size) g.1))))
  | inr later ↦ or_right (has_part a m s) _ (wider ss a m n le later)
]

less_mapped : (ss : List ImageSection) (a m n : ℕ) → m ≤ n → is_mapped ss a n ≡ true → is_mapped ss a m ≡ true
unfolding is_mapped
less_mapped ss a m n le h = wider ss a m n le h

size_is_40 : (ss : List ImageSection) (a n : ℕ) → bad_imports ss a n ≡ false → n ≡ 40
unfolding bad_imports
size_is_40 ss a n f = let g = or_parts (not (eqb n 40)) _ f in eqb-true n 40 (not-false (eqb n 40) g.0)

no_blocks : (r : List ℕ) → blocks.sites r 0 ≡ []
unfolding blocks.sites gathered
no_blocks r = refl

config_208 : (ss : List ImageSection) (at a n : ℕ) → bad_config ss at a n ≡ false → (208 ≤ n) × (bad_config ss at a 208 ≡ false)
unfolding bad_config
config_208 ss at a n f = let g = or_parts (ltb n 208) _ f in (ltb-false n 208 g.0, g.1)

module _ (b : List ℕ) (h : AreBytes b) (range : bad_section_range b ≡ false) (uses : bad_directory b ≡ false) where
  within : (a n : ℕ) → is_mapped (sections b) a n ≡ true → (4096 ≤ a) × (a + n ≤ image_size b)
  unfolding is_mapped
  within a n m = mapped_between (image_size b) 4096 (sections b) a n (all_placed b h range) m

  there : (d : ℕ) → d < 16 → is_used b d ≡ true → is_mapped (sections b) (directory_rva b d) (directory_size b d) ≡ true
  unfolding bad_directory bad_use
  there d lt used =
      let f : bad_use b d ≡ false = none_below (bad_use b) 16 d (or_parts (not _) (any_below (bad_use b) 16) uses).1 lt in
      let g : (not (is_known d) || not (is_mapped (sections b) (directory_rva b d) (directory_size b d))) ≡ false = ap (λ (t : Bool). t && (not (is_known d) || not (is_mapped (sections b) (directory_rva b d) (directory_size b d)))) (sym used) ∙ f in
      not-false (is_mapped (sections b) (directory_rva b d) (directory_size b d)) (or_parts (not (is_known d)) _ g).1

  -- imports
  import_good : bad_import b ≡ false → is_used b 1 ≡ true → bad_imports (sections b) (directory_rva b 1) (directory_size b 1) ≡ false
  unfolding bad_import
  import_good f used = ap (λ (t : Bool). t && bad_imports (sections b) (directory_rva b 1) (directory_size b 1)) (sym used) ∙ f

  import_there : bad_import b ≡ false → is_used b 1 ≡ true → is_import_place (image_in b) (directory_rva b 1) ≡ true
  unfolding image_in imports
  import_there f used =
      let good = import_good f used in
      let forty : directory_size b 1 ≡ 40 = size_is_40 (sections b) (directory_rva b 1) (directory_size b 1) good in
      let are : slots (sections b) (directory_rva b 1) ≡ cond (is_used b 1) (slots (sections b) (directory_rva b 1)) [] = sym (cond-true (is_used b 1) (slots (sections b) (directory_rva b 1)) [] used) in
      and_from (is_mapped (sections b) (directory_rva b 1) 40) _ (subst (λ (n : ℕ). is_mapped (sections b) (directory_rva b 1) n ≡ true) forty (there 1 (omega arith) used))
      (and_from (not (bad_imports (sections b) (directory_rva b 1) 40)) _ (not_from_false (bad_imports (sections b) (directory_rva b 1) 40) (subst (λ (n : ℕ). bad_imports (sections b) (directory_rva b 1) n ≡ false) forty good))
      (subst (λ ys. same_lists same_slot (slots (sections b) (directory_rva b 1)) ys ≡ true) are (slots_itself (slots (sections b) (directory_rva b 1)))))

  import_low : bad_import b ≡ false → is_used b 1 ≡ true → directory_rva b 1 < image_size b
  import_low f used =
      let low = within (directory_rva b 1) (directory_size b 1) (there 1 (omega arith) used) in
      omega (arith, low.1, size_is_40 (sections b) (directory_rva b 1) (directory_size b 1) (import_good f used))

  no_imports : is_used b 1 ≡ false → imports b ≡ []
  unfolding imports
  no_imports f = cond-false (is_used b 1) (slots (sections b) (directory_rva b 1)) [] f

  imports_had : bad_import b ≡ false → where_some (imports b) (is_some (first_below (is_import_place (image_in b)) (image_size b))) ≡ true
  imports_had f = elim (cases_Bool (is_used b 1)) [
    | inl used ↦ where_found (imports b) (is_some (first_below (is_import_place (image_in b)) (image_size b)))
        (first_some (is_import_place (image_in b)) (image_size b) (directory_rva b 1) (import_low f used) (import_there f used))
    | inr not_used ↦ where_none (imports b) (is_some (first_below (is_import_place (image_in b)) (image_size b))) (no_imports not_used)
  ]

  -- base relocations
  blocks_good : bad_base_relocation b ≡ false → is_used b 5 ≡ true → blocks.bad_relocations (rest_at (sections b) (directory_rva b 5)) (directory_size b 5) ≡ false
  unfolding bad_base_relocation
  blocks_good f used = ap (λ (t : Bool). t && blocks.bad_relocations (rest_at (sections b) (directory_rva b 5)) (directory_size b 5)) (sym used) ∙ f

  sites_there : bad_base_relocation b ≡ false → is_used b 5 ≡ true → has_sites (image_in b) (directory_rva b 5) (directory_size b 5) ≡ true
  unfolding image_in sites
  sites_there f used =
      let r : List ℕ = rest_at (sections b) (directory_rva b 5) in
      let n : ℕ = directory_size b 5 in
      let are : blocks.sites r n ≡ cond (is_used b 5) (blocks.sites r n) [] = sym (cond-true (is_used b 5) (blocks.sites r n) [] used) in
      and_from (is_mapped (sections b) (directory_rva b 5) n) _ (there 5 (omega arith) used)
      (and_from (not (blocks.bad_relocations r n)) _ (not_from_false (blocks.bad_relocations r n) (blocks_good f used))
      (subst (λ ys. same_text (blocks.sites r n) ys ≡ true) are (same_itself (blocks.sites r n))))

  no_sites : is_used b 5 ≡ false → sites b ≡ []
  unfolding sites
  no_sites f = cond-false (is_used b 5) (blocks.sites (rest_at (sections b) (directory_rva b 5)) (directory_size b 5)) [] f

  size_found : bad_base_relocation b ≡ false → is_used b 5 ≡ true → is_blocks_place (image_in b) (directory_rva b 5) ≡ true
  unfolding size_at image_in
  size_found f used =
      let low = within (directory_rva b 5) (directory_size b 5) (there 5 (omega arith) used) in
      first_some (has_sites (image_in b) (directory_rva b 5)) (image_size b) (directory_size b 5) (omega (arith, low.0, low.1)) (sites_there f used)

  empty_sites : is_used b 5 ≡ true → directory_size b 5 ≡ 0 → sites b ≡ []
  unfolding sites
  empty_sites used e = cond-true (is_used b 5) (blocks.sites (rest_at (sections b) (directory_rva b 5)) (directory_size b 5)) [] used ∙ ap (blocks.sites (rest_at (sections b) (directory_rva b 5))) e ∙ no_blocks (rest_at (sections b) (directory_rva b 5))

  sites_had : bad_base_relocation b ≡ false → where_some (sites b) (is_some (first_below (is_blocks_place (image_in b)) (image_size b))) ≡ true
  sites_had f = elim (cases_Bool (is_used b 5)) [
    | inl used ↦ elim (cases_lt 0 (directory_size b 5)) [
      | inl some ↦
          let low = within (directory_rva b 5) (directory_size b 5) (there 5 (omega arith) used) in
          where_found (sites b) (is_some (first_below (is_blocks_place (image_in b)) (image_size b)))
          (first_some (is_blocks_place (image_in b)) (image_size b) (directory_rva b 5) (omega (arith, low.1)) (size_found f used))
      | inr none ↦ where_none (sites b) (is_some (first_below (is_blocks_place (image_in b)) (image_size b))) (empty_sites used (omega arith))
    ]
    | inr not_used ↦ where_none (sites b) (is_some (first_below (is_blocks_place (image_in b)) (image_size b))) (no_sites not_used)
  ]

  -- the load configuration
  config_parts : bad_load_config b ≡ false → (is_used b 10 ≡ true) × (bad_config (sections b) (base b) (directory_rva b 10) (directory_size b 10) ≡ false)
  unfolding bad_load_config
  config_parts f = let g = or_parts (not (is_used b 10)) _ f in (not-false (is_used b 10) g.0, g.1)

  meta_there : bad_metadata b ≡ false → has_meta (image_in b) (meta_rva (sections b) (base b) (directory_rva b 10)) ≡ true
  unfolding has_meta image_in bad_metadata header_rva
  meta_there f =
      let at : ℕ = meta_rva (sections b) (base b) (directory_rva b 10) in
      and_from (not (bad_hybrid (sections b) at)) _ (not_from_false (bad_hybrid (sections b) at) f) (meta_itself (meta_in (rest_at (sections b) at) at))

  config_there : bad_load_config b ≡ false → bad_metadata b ≡ false → is_config_place (image_in b) (directory_rva b 10) ≡ true
  unfolding image_in
  config_there f g =
      let p = config_parts f in
      let c = config_208 (sections b) (base b) (directory_rva b 10) (directory_size b 10) p.1 in
      and_from (is_mapped (sections b) (directory_rva b 10) 208) _ (less_mapped (sections b) (directory_rva b 10) 208 (directory_size b 10) c.0 (there 10 (omega arith) p.0))
      (and_from (not (bad_config (sections b) (base b) (directory_rva b 10) 208)) _ (not_from_false (bad_config (sections b) (base b) (directory_rva b 10) 208) c.1) (meta_there g))

  config_had : bad_load_config b ≡ false → bad_metadata b ≡ false → is_some (first_below (is_config_place (image_in b)) (image_size b)) ≡ true
  config_had f g =
      let p = config_parts f in
      let c = config_208 (sections b) (base b) (directory_rva b 10) (directory_size b 10) p.1 in
      let low = within (directory_rva b 10) (directory_size b 10) (there 10 (omega arith) p.0) in
      first_some (is_config_place (image_in b)) (image_size b) (directory_rva b 10) (omega (arith, low.1, c.0)) (config_there f g)

  places_had : bad_import b ≡ false → bad_base_relocation b ≡ false → bad_load_config b ≡ false → bad_metadata b ≡ false → has_places (image_in b) ≡ true
  unfolding has_places image_in
  places_had f g k l =
      and_from (where_some (imports b) (is_some (first_below (is_import_place (image_in b)) (image_size b)))) _ (imports_had f)
      (and_from (where_some (sites b) (is_some (first_below (is_blocks_place (image_in b)) (image_size b)))) _ (sites_had g) (config_had k l))

-- ---- the whole

starts : (b : List ℕ) → bad_entry_point b ≡ false → not (bad_entry (meta_in (rest_at (sections b) (header_rva b)) (header_rva b)) (entry b)) ≡ true
unfolding bad_entry_point
starts b f = ap not f

entry_had : (b : List ℕ) → bad_entry_point b ≡ false → not (bad_entry (image_in b).meta (image_in b).entry) ≡ true
unfolding image_in
entry_had b f = starts b f

in_allowed : (b : List ℕ) → AreBytes b → NoneHolds (holds b) refusals → is_allowed (image_in b) ≡ true
unfolding is_allowed
in_allowed b h none =
    let size = none.1.1.1.1.1.1.1.1.1.0 in
    let room = none.1.1.1.1.1.1.1.1.1.1.0 in
    let rows = none.1.1.1.1.1.1.1.1.1.1.1.0 in
    let range = none.1.1.1.1.1.1.1.1.1.1.1.1.0 in
    let uses = none.1.1.1.1.1.1.1.1.1.1.1.1.1.0 in
    let imports_good = none.1.1.1.1.1.1.1.1.1.1.1.1.1.1.0 in
    let sites_good = none.1.1.1.1.1.1.1.1.1.1.1.1.1.1.1.0 in
    let config = none.1.1.1.1.1.1.1.1.1.1.1.1.1.1.1.1.0 in
    let meta = none.1.1.1.1.1.1.1.1.1.1.1.1.1.1.1.1.1.0 in
    let entry = none.1.1.1.1.1.1.1.1.1.1.1.1.1.1.1.1.1.1.0 in
    and_from (has_numbers (image_in b)) _ (numbers_had b h size room)
    (and_from (has_sections (image_in b)) _ (sections_had b h rows range)
    (and_from (has_places (image_in b)) _ (places_had b h range uses imports_good sites_good config meta) (entry_had b entry)))

pub read_allowed : (b : List ℕ) (i : Image) → AreBytes b → image_of b ≡ Ok i → is_allowed i ≡ true
unfolding image_of
read_allowed b i h e = let g = first_accepted (holds b) refusals (image_in b) i e in subst (λ (x : Image). is_allowed x ≡ true) g.1 (in_allowed b h g.0)
