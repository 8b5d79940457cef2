-- The tests of a written file's sections fail, and its sections are the image's.
use Rattle.std.proofs.Common.{◌≡◌, ℕ, zero, suc, ◌+◌, ◌*◌, ◌/◌, ◌%◌, ◌<◌, ◌≤◌, false, not, ◌||◌, ◌&&◌, eqb, ltb, [], length, get_or, take, refl, sym, ap, ◌∙◌, arith}
use Rattle.std.specs.Prelude.{bit_and}
use Rattle.std.proofs.lemmas.Bool.{or_from, le-ltb, ne_eqb, eq-eqb, not_from_true}
use Rattle.file_words.specs.Below.{table}
use Rattle.file_words.proofs.BelowLaws.{any_never, table_is}
use Rattle.chpe_types.specs.declared.image.Image.{Image}
use Rattle.chpe_types.specs.declared.image.ImageSection.{ImageSection}
use Rattle.pe_fields.specs.Headers.{pe_place, section_count, section_place, image_size, virtual_size, section_rva, raw_size, raw_place, section, sections}
use Rattle.pe_read.specs.Refusals.{limit, too_large, short, bad_place, bad_section_table, first_place, bad_home, bad_contents, has_flag, bad_rights, bad_section, bad_section_range}
use Rattle.pe_write_laws.specs.Format.{blocks, headers_size, contents_size, image_bytes}
use Rattle.pe_write_laws.proofs.Header.{pe_place_is, count_is, size_is}
use Rattle.pe_write_laws.proofs.Room.{Placed, Allowed, first_of, first_here, first_after, placed_at, contents_fit}
use Rattle.pe_write_laws.proofs.Rows.{Row, row_fields, row_at, rows_has, contents_has, contents_at, contents_within, section_back, file_long}

-- a section for places past the last
nowhere : ImageSection
nowhere = record { name = []; rva = 0; size = 0; flags = 0; bytes = [] }

-- section j of the image, and the place of its contents
abbrev nth : Image → ℕ → ImageSection
nth i j = get_or i.sections j nowhere

abbrev place_of : Image → ℕ → ℕ
place_of i j = blocks (headers_size i) + contents_size (take j i.sections)

front_small : (n : ℕ) → n ≤ 94 → blocks (328 + 40 * n) ≤ 4096
front_small n le = omega arith

headers_in : (n : ℕ) → 328 + 40 * n ≤ blocks (328 + 40 * n)
headers_in n = omega arith

home_good : (rva first size end : ℕ) → rva % 4096 ≡ 0 → first ≤ rva → 0 < size → rva + size ≤ end → (not (eqb (rva % 4096) 0) || (ltb rva first || (eqb size 0 || ltb end (rva + size)))) ≡ false
home_good rva first size end page le some fits =
    or_from (not (eqb (rva % 4096) 0)) _ (not_from_true (eqb (rva % 4096) 0) (eq-eqb (rva % 4096) 0 page))
    (or_from (ltb rva first) _ (le-ltb rva first le) (or_from (eqb size 0) _ (ne_eqb size 0 (λ e. omega arith)) (le-ltb end (rva + size) fits)))

contents_good : (long place raw size : ℕ) → place + raw ≤ long → raw ≤ size → (ltb long (place + raw) || ltb ((size + 511) / 512 * 512) raw) ≡ false
contents_good long place raw size within held = or_from (ltb long (place + raw)) _ (le-ltb long (place + raw) within) (le-ltb ((size + 511) / 512 * 512) raw (omega arith))

module _ (i : Image) (a : Allowed i) where
  front_fits : blocks (headers_size i) ≤ 4096
  front_fits = front_small (length i.sections) a.few

  pub count_here : section_count (image_bytes i) ≡ length i.sections
  count_here = count_is i (omega (arith, a.few))

  pub size_here : image_size (image_bytes i) ≡ i.size
  size_here = size_is i (omega (arith, a.most))

  long_is : length (image_bytes i) ≡ blocks (headers_size i) + contents_size i.sections
  long_is = file_long i a.placed

  at : (j : ℕ) → j < length i.sections → Placed i.size (first_of 4096 i.sections j) (nth i j)
  at j lt = placed_at i.size 4096 i.sections j nowhere a.placed lt

  within : (j : ℕ) → j < length i.sections → place_of i j + length (nth i j).bytes ≤ length (image_bytes i)
  within j lt = omega (arith, contents_within i.sections j nowhere lt, long_is)

  row : (j : ℕ) → j < length i.sections → Row (image_bytes i) j (place_of i j) (nth i j)
  row j lt =
      let p = at j lt in
      row_fields (image_bytes i) j (place_of i j) (nth i j) (pe_place_is i) (row_at (image_bytes i) i.size 4096 328 (blocks (headers_size i)) i.sections j nowhere a.placed (rows_has i a.placed) lt) p.sound
      (omega (arith, p.home.ends, a.most)) (omega (arith, p.home.ends, a.most)) (omega (arith, p.sound.held, p.home.ends, a.most)) (omega (arith, front_fits, contents_within i.sections j nowhere lt, contents_fit i a, a.most))

  section_here : (j : ℕ) → j < length i.sections → section (image_bytes i) j ≡ nth i j
  section_here j lt =
      let p = at j lt in
      section_back (image_bytes i) j (place_of i j) (nth i j) (row j lt) (contents_at (image_bytes i) (blocks (headers_size i)) i.sections j nowhere (contents_has i a.placed) lt) p.sound.held

  pub sections_here : sections (image_bytes i) ≡ i.sections
  unfolding sections
  sections_here = ap (table (section (image_bytes i))) count_here ∙ sym (table_is (section (image_bytes i)) (length i.sections) i.sections nowhere refl (λ j lt. sym (section_here j lt)))

  -- ---- the tests

  pub large_fails : too_large (image_bytes i) ≡ false
  unfolding too_large
  large_fails = le-ltb limit (length (image_bytes i)) (omega (arith, long_is, front_fits, contents_fit i a, a.most))

  pub short_fails : short (image_bytes i) ≡ false
  unfolding short
  short_fails = le-ltb (length (image_bytes i)) 64 (omega (arith, long_is, headers_in (length i.sections)))

  pub place_fails : bad_place (image_bytes i) ≡ false
  unfolding bad_place
  place_fails = or_from (not (eqb (pe_place (image_bytes i) % 8) 0)) _ (ap (λ (n : ℕ). not (eqb (n % 8) 0)) (pe_place_is i)) (le-ltb (length (image_bytes i)) (pe_place (image_bytes i) + 264) (omega (arith, pe_place_is i, long_is, headers_in (length i.sections))))

  pub table_fails : bad_section_table (image_bytes i) ≡ false
  unfolding bad_section_table section_place
  table_fails =
      or_from (eqb (section_count (image_bytes i)) 0) _ (ne_eqb (section_count (image_bytes i)) 0 (λ e. omega (arith, count_here, a.some)))
      (or_from (ltb 94 (section_count (image_bytes i))) _ (le-ltb 94 (section_count (image_bytes i)) (omega (arith, count_here, a.few)))
      (le-ltb (length (image_bytes i)) (pe_place (image_bytes i) + 264 + 40 * section_count (image_bytes i)) (omega (arith, pe_place_is i, count_here, long_is, headers_in (length i.sections)))))

  first_here_is : (j : ℕ) → j < length i.sections → first_place (image_bytes i) j ≡ first_of 4096 i.sections j
  unfolding first_place
  first_here_is zero lt = sym (first_here 4096 i.sections)
  first_here_is (suc k) lt =
      let r = row k (omega arith) in
      omega (arith, r.rva_is, r.size_is, first_after 4096 i.sections k nowhere (omega arith))

  home_fails : (j : ℕ) → j < length i.sections → bad_home (image_bytes i) j ≡ false
  unfolding bad_home
  home_fails j lt =
      let p = at j lt in
      let r = row j lt in
      home_good (section_rva (image_bytes i) j) (first_place (image_bytes i) j) (virtual_size (image_bytes i) j) (image_size (image_bytes i))
      (ap (λ (n : ℕ). n % 4096) r.rva_is ∙ p.home.page) (omega (arith, r.rva_is, first_here_is j lt, p.home.starts)) (omega (arith, r.size_is, p.home.some)) (omega (arith, r.rva_is, r.size_is, size_here, p.home.ends))

  contents_fails : (j : ℕ) → j < length i.sections → bad_contents (image_bytes i) j ≡ false
  unfolding bad_contents
  contents_fails j lt =
      let p = at j lt in
      let r = row j lt in
      contents_good (length (image_bytes i)) (raw_place (image_bytes i) j) (raw_size (image_bytes i) j) (virtual_size (image_bytes i) j)
      (omega (arith, r.place_is, r.raw_is, within j lt)) (omega (arith, r.raw_is, r.size_is, p.sound.held))

  rights_fail : (j : ℕ) → j < length i.sections → bad_rights (image_bytes i) j ≡ false
  unfolding bad_rights has_flag
  rights_fail j lt = ap (λ (f : ℕ). not (eqb (bit_and f 2147483648) 0) && not (eqb (bit_and f 536870912) 0)) (let r = row j lt in r.flags_is) ∙ (let p = at j lt in p.sound.rights)

  section_fails : (j : ℕ) → j < length i.sections → bad_section (image_bytes i) j ≡ false
  unfolding bad_section
  section_fails j lt = or_from (bad_home (image_bytes i) j) _ (home_fails j lt) (or_from (bad_contents (image_bytes i) j) _ (contents_fails j lt) (rights_fail j lt))

  pub range_fails : bad_section_range (image_bytes i) ≡ false
  unfolding bad_section_range
  range_fails = any_never (bad_section (image_bytes i)) (section_count (image_bytes i)) (λ j lt. section_fails j (omega (arith, count_here)))
