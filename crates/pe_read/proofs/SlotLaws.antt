-- The slots of an image's imports lie in its sections, which end by its size.
use Rattle.std.proofs.Common.{◌≡◌, ℕ, zero, suc, ◌+◌, ◌*◌, ◌%◌, ◌<◌, ◌≤◌, Bool, true, false, not, ◌||◌, ◌&&◌, eqb, ltb, leb, List, [], ◌∷◌, ◌++◌, Option, Some, None, refl, sym, ap, subst, ◌∙◌, arith, inl, inr}
use Rattle.std.specs.List.{list_any}
use Rattle.std.proofs.lemmas.Bool.{and_parts, or_parts, or_cases, not-false, ltb-false, leb-true}
use Rattle.file_words.specs.Below.{any_below, table}
use Rattle.file_words.proofs.BelowLaws.{none_below}
use Rattle.chpe_types.specs.declared.image.ImageSection.{ImageSection}
use Rattle.pe_fields.specs.Headers.{section_count, section_rva, virtual_size, image_size, section, sections, directory_rva, directory_size}
use Rattle.pe_fields.specs.Space.{has_part, is_mapped}
use Rattle.pe_fields.specs.Imports.{is_more, bad_library, lookup_rva, address_rva, lookup_bytes, entry_count, count_or_none, bad_tables, bad_count, bad_imports}
use Rattle.pe_read.specs.Refusals.{bad_image_size, first_place, bad_home, bad_section, bad_section_range, is_used, bad_import}

or_end : (b : Bool) → (b || false) ≡ b
or_end true = refl
or_end false = refl

or_shift : (a b c : Bool) → (a || (b || c)) ≡ ((a || b) || c)
or_shift true b c = refl
or_shift false b c = refl

any_push : {X : Type 0} (p : X → Bool) (xs : List X) (y : X) → list_any p (xs ++ y ∷ []) ≡ (list_any p xs || p y)
any_push p [] y = or_end (p y)
any_push p (x ∷ xs) y = ap (λ (t : Bool). p x || t) (any_push p xs y) ∙ or_shift (p x) (list_any p xs) (p y)

-- what follows of each that passes follows where one does
from_table : {X : Type 0} (p : X → Bool) (f : ℕ → X) (n : ℕ) (Q : Type 0) → ((i : ℕ) → i < n → p (f i) ≡ true → Q) → list_any p (table f n) ≡ true → Q
unfolding table
from_table p f zero Q h e = cc
from_table p f (suc n) Q h e =
    elim (or_cases (list_any p (table f n)) (p (f n)) (sym (any_push p (table f n) (f n)) ∙ e)) [
      | inl before ↦ from_table p f n Q (λ i lt. h i (omega arith)) before
      | inr here ↦ h n (omega arith) here
    ]

size_low : (b : List ℕ) → bad_image_size b ≡ false → image_size b ≤ 134217728
unfolding bad_image_size
size_low b f =
    let h = or_parts (eqb (image_size b) 0) _ f in
    let i = or_parts (not (eqb (image_size b % 4096) 0)) _ h.1 in
    ltb-false 134217728 (image_size b) i.1

home_low : (b : List ℕ) (i : ℕ) → bad_section b i ≡ false → section_rva b i + virtual_size b i ≤ image_size b
unfolding bad_section bad_home
home_low b i f =
    let h = or_parts (bad_home b i) _ f in
    let j = or_parts (not (eqb (section_rva b i % 4096) 0)) _ h.0 in
    let k = or_parts (ltb (section_rva b i) (first_place b i)) _ j.1 in
    let l = or_parts (eqb (virtual_size b i) 0) _ k.1 in
    ltb-false (image_size b) (section_rva b i + virtual_size b i) l.1

part_low : (b : List ℕ) (rva n i : ℕ) → has_part rva n (section b i) ≡ true → rva + n ≤ section_rva b i + virtual_size b i
unfolding section
part_low b rva n i h = leb-true (rva + n) (section_rva b i + virtual_size b i) (and_parts (leb (section_rva b i) rva) (leb (rva + n) (section_rva b i + virtual_size b i)) h).1

-- what lies in a section lies in the image
pub mapped_low : (b : List ℕ) (rva n : ℕ) → bad_image_size b ≡ false → bad_section_range b ≡ false → is_mapped (sections b) rva n ≡ true → rva + n ≤ 134217728
unfolding bad_section_range is_mapped sections
mapped_low b rva n size good there = from_table (has_part rva n) (section b) (section_count b) (rva + n ≤ 134217728) (λ i lt h. omega (arith, part_low b rva n i h, home_low b i (none_below (bad_section b) (section_count b) i good lt), size_low b size)) there

counted : (ss : List ImageSection) (rva : ℕ) (o : Option ℕ) → bad_count ss rva o ≡ false → is_mapped ss (address_rva ss rva) (8 * count_or_none o + 8) ≡ true
unfolding bad_count bad_tables
counted ss rva None f = cc
counted ss rva (Some n) f =
    let h = or_parts (not (is_mapped ss (lookup_rva ss rva) (8 * n + 8))) _ f in
    let i = or_parts (not (is_mapped ss (address_rva ss rva) (8 * n + 8))) _ h.1 in
    not-false (is_mapped ss (address_rva ss rva) (8 * n + 8)) i.0

pub table_there : (ss : List ImageSection) (rva size : ℕ) → bad_imports ss rva size ≡ false → is_mapped ss (address_rva ss rva) (8 * count_or_none (entry_count (lookup_bytes ss rva)) + 8) ≡ true
unfolding bad_imports
table_there ss rva size f =
    let h = or_parts (not (eqb size 40)) _ f in
    let i = or_parts (any_below (is_more ss rva) 5) _ h.1 in
    let j = or_parts (bad_library ss rva) _ i.1 in
    counted ss rva (entry_count (lookup_bytes ss rva)) j.1

pub used_import : (b : List ℕ) → bad_import b ≡ false → is_used b 1 ≡ true → bad_imports (sections b) (directory_rva b 1) (directory_size b 1) ≡ false
unfolding bad_import
used_import b f t = ap (λ (x : Bool). x && bad_imports (sections b) (directory_rva b 1) (directory_size b 1)) (sym t) ∙ f

-- the slots end in the image
pub slots_low : (b : List ℕ) (ss : List ImageSection) → ss ≡ sections b → bad_image_size b ≡ false → bad_section_range b ≡ false → bad_import b ≡ false → is_used b 1 ≡ true → address_rva ss (directory_rva b 1) + 8 * count_or_none (entry_count (lookup_bytes ss (directory_rva b 1))) < 4294967296
slots_low b ss known size good f t = subst (λ (xs : List ImageSection). address_rva xs (directory_rva b 1) + 8 * count_or_none (entry_count (lookup_bytes xs (directory_rva b 1))) < 4294967296) (sym known) (omega (arith, mapped_low b (address_rva (sections b) (directory_rva b 1)) (8 * count_or_none (entry_count (lookup_bytes (sections b) (directory_rva b 1))) + 8) size good (table_there (sections b) (directory_rva b 1) (directory_size b 1) (used_import b f t))))
