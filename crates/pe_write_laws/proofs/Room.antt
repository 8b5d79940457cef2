-- What the tests of an image say, and that its file has room for it.
use Rattle.std.proofs.Common.{◌≡◌, ℕ, zero, suc, ◌+◌, ◌%◌, ◌<◌, ◌≤◌, true, false, not, ◌&&◌, eqb, ltb, leb, List, [], ◌∷◌, length, get_or, refl, arith, inl, inr}
use Rattle.std.specs.List.{list_all, list_any}
use Rattle.std.proofs.lemmas.Bool.{and_parts, or_cases, not-true, leb-true, ltb-true, eqb-true, eqb-false}
use Rattle.chpe_types.specs.declared.image.Image.{Image}
use Rattle.chpe_types.specs.declared.image.ImageSection.{ImageSection}
use Rattle.pe_fields.specs.Space.{has_part, is_mapped}
use Rattle.pe_fields.specs.Hybrid.{bad_entry}
use Rattle.pe_write_laws.specs.Allowed.{fits, is_paged, has_numbers, is_byte, is_letter, is_name, has_home, has_contents, lacks_flag, is_section, are_placed, has_sections, has_places, is_allowed}
use Rattle.pe_write_laws.specs.Format.{blocks, contents_size}

-- ---- one section

pub record Home (size first : ℕ) (s : ImageSection) : Type 0 where
  pub page : s.rva % 4096 ≡ 0
  pub starts : first ≤ s.rva
  pub some : 0 < s.size
  pub ends : s.rva + s.size ≤ size

pub home_is : (size first : ℕ) (s : ImageSection) → has_home size first s ≡ true → Home size first s
home_is size first s h =
    let g = and_parts (eqb (s.rva % 4096) 0) _ h in
    let k = and_parts (leb first s.rva) _ g.1 in
    let l = and_parts (not (eqb s.size 0)) _ k.1 in
    let full = eqb-false s.size 0 (not-true (eqb s.size 0) l.0) in
    record { page = eqb-true (s.rva % 4096) 0 g.0; starts = leb-true first s.rva k.0; some = omega (arith, full); ends = leb-true (s.rva + s.size) size l.1 }

pub record Section (s : ImageSection) : Type 0 where
  pub short : length s.name ≤ 8
  pub letters : list_all is_letter s.name ≡ true
  pub bytes : list_all is_byte s.bytes ≡ true
  pub held : length s.bytes ≤ s.size
  pub flags : s.flags < 4294967296
  pub rights : (not (lacks_flag s 2147483648) && not (lacks_flag s 536870912)) ≡ false

pub section_is : (s : ImageSection) → is_section s ≡ true → Section s
unfolding is_section
section_is s h =
    let g = and_parts (is_name s.name) _ h in
    let n = and_parts (leb (length s.name) 8) _ g.0 in
    let k = and_parts (has_contents s) _ g.1 in
    let c = and_parts (list_all is_byte s.bytes) _ k.0 in
    let r = and_parts (fits s.flags) _ k.1 in
    record { short = leb-true (length s.name) 8 n.0; letters = n.1; bytes = c.0; held = leb-true (length s.bytes) s.size c.1; flags = ltb-true s.flags 4294967296 r.0; rights = not-true _ r.1 }

pub record Placed (size first : ℕ) (s : ImageSection) : Type 0 where
  pub home : Home size first s
  pub sound : Section s

pub placed_parts : (size first : ℕ) (s : ImageSection) (ss : List ImageSection) → are_placed size first (s ∷ ss) ≡ true → Placed size first s × (are_placed size (s.rva + s.size) ss ≡ true)
placed_parts size first s ss h =
    let g = and_parts (has_home size first s && is_section s) _ h in
    let k = and_parts (has_home size first s) (is_section s) g.0 in
    (record { home = home_is size first s k.0; sound = section_is s k.1 }, g.1)

-- where the section before number j ends
abbrev pub first_of : ℕ → List ImageSection → ℕ → ℕ
first_of first ss zero = first
first_of first [] (suc j) = first
first_of first (s ∷ ss) (suc j) = first_of (s.rva + s.size) ss j

pub placed_at : (size first : ℕ) (ss : List ImageSection) (j : ℕ) (d : ImageSection) → are_placed size first ss ≡ true → j < length ss → Placed size (first_of first ss j) (get_or ss j d)
placed_at size first [] j d h lt = absurd (omega arith)
placed_at size first (s ∷ ss) zero d h lt = (placed_parts size first s ss h).0
placed_at size first (s ∷ ss) (suc j) d h lt = placed_at size (s.rva + s.size) ss j d (placed_parts size first s ss h).1 (omega arith)

pub first_here : (first : ℕ) (ss : List ImageSection) → first_of first ss zero ≡ first
first_here first ss = refl

pub first_after : (first : ℕ) (ss : List ImageSection) (j : ℕ) (d : ImageSection) → j < length ss → first_of first ss (suc j) ≡ (get_or ss j d).rva + (get_or ss j d).size
first_after first [] j d lt = absurd (omega arith)
first_after first (s ∷ ss) zero d lt = first_here (s.rva + s.size) ss
first_after first (s ∷ ss) (suc j) d lt = first_after (s.rva + s.size) ss j d (omega arith)

-- ---- all of them

-- a part of a section lies between the first place and the end of the image
pub mapped_between : (size first : ℕ) (ss : List ImageSection) (rva n : ℕ) → are_placed size first ss ≡ true → list_any (has_part rva n) ss ≡ true → (first ≤ rva) × (rva + n ≤ size)
mapped_between size first [] rva n h m = absurd cc
mapped_between size first (s ∷ ss) rva n h m =
    let p = placed_parts size first s ss h in
    elim (or_cases (has_part rva n s) (list_any (has_part rva n) ss) m) [
      | inl here ↦
          let g = and_parts (leb s.rva rva) (leb (rva + n) (s.rva + s.size)) here in
          (omega (arith, leb-true s.rva rva g.0, p.0.home.starts), omega (arith, leb-true (rva + n) (s.rva + s.size) g.1, p.0.home.ends))
      | inr later ↦ let k = mapped_between size (s.rva + s.size) ss rva n p.1 later in (omega (arith, k.0, p.0.home.starts), k.1)
    ]

room_base : (size first : ℕ) → first ≤ size → size % 4096 ≡ 0 → blocks first + 0 ≤ size
room_base size first le page = omega arith

room_step : (size first rva n k c : ℕ) → rva % 4096 ≡ 0 → first ≤ rva → k ≤ n → blocks (rva + n) + c ≤ size → blocks first + (blocks k + c) ≤ size
room_step size first rva n k c page le held room = omega arith

-- contents that each begin at a multiple of 512 need no more room than the sections, which begin at pages
pub room : (size first : ℕ) (ss : List ImageSection) → are_placed size first ss ≡ true → first ≤ size → size % 4096 ≡ 0 → blocks first + contents_size ss ≤ size
room size first [] h le page = room_base size first le page
room size first (s ∷ ss) h le page =
    let p = placed_parts size first s ss h in
    room_step size first s.rva s.size (length s.bytes) (contents_size ss) p.0.home.page p.0.home.starts p.0.sound.held (room size (s.rva + s.size) ss p.1 p.0.home.ends page)

-- ---- the image

pub record Allowed (i : Image) : Type 0 where
  pub page : i.size % 4096 ≡ 0
  pub most : i.size ≤ 134217728
  pub stack_page : i.stack % 4096 ≡ 0
  pub stack_most : i.stack ≤ 268435456
  pub base : i.base < 18446744073709551616
  pub entry : i.entry < 4294967296
  pub some : 0 < length i.sections
  pub few : length i.sections ≤ 94
  pub placed : are_placed i.size 4096 i.sections ≡ true
  pub places : has_places i ≡ true
  pub starts : bad_entry i.meta i.entry ≡ false

paged : (most n : ℕ) → is_paged most n ≡ true → (n % 4096 ≡ 0) × (n ≤ most)
paged most n h = let g = and_parts (eqb (n % 4096) 0) (leb n most) h in (eqb-true (n % 4096) 0 g.0, leb-true n most g.1)

pub allowed_is : (i : Image) → is_allowed i ≡ true → Allowed i
unfolding is_allowed has_numbers has_sections
allowed_is i h =
    let a = and_parts (has_numbers i) _ h in
    let b = and_parts (has_sections i) _ a.1 in
    let c = and_parts (has_places i) _ b.1 in
    let n = and_parts (is_paged 134217728 i.size) _ a.0 in
    let o = and_parts (is_paged 268435456 i.stack) _ n.1 in
    let p = and_parts (ltb i.base 18446744073709551616) (fits i.entry) o.1 in
    let s = and_parts (not (eqb (length i.sections) 0)) _ b.0 in
    let t = and_parts (leb (length i.sections) 94) _ s.1 in
    let size = paged 134217728 i.size n.0 in
    let stack = paged 268435456 i.stack o.0 in
    let full = eqb-false (length i.sections) 0 (not-true (eqb (length i.sections) 0) s.0) in
    record {
      page = size.0;
      most = size.1;
      stack_page = stack.0;
      stack_most = stack.1;
      base = ltb-true i.base 18446744073709551616 p.0;
      entry = ltb-true i.entry 4294967296 p.1;
      some = omega (arith, full);
      few = leb-true (length i.sections) 94 t.0;
      placed = t.1;
      places = c.0;
      starts = not-true (bad_entry i.meta i.entry) c.1;
    }

some_size : (size first : ℕ) (ss : List ImageSection) → 0 < length ss → are_placed size first ss ≡ true → first < size
some_size size first [] lt h = absurd (omega arith)
some_size size first (s ∷ ss) lt h = let p = placed_parts size first s ss h in omega (arith, p.0.home.starts, p.0.home.some, p.0.home.ends)

module _ (i : Image) (a : Allowed i) where
  pub size_some : 4096 < i.size
  size_some = some_size i.size 4096 i.sections a.some a.placed

  pub contents_fit : 4096 + contents_size i.sections ≤ i.size
  contents_fit = omega (arith, room i.size 4096 i.sections a.placed (omega (arith, size_some)) a.page)

  pub mapped_in : (rva n : ℕ) → is_mapped i.sections rva n ≡ true → (4096 ≤ rva) × (rva + n ≤ i.size)
  unfolding is_mapped
  mapped_in rva n h = mapped_between i.size 4096 i.sections rva n a.placed h

-- ---- what the writer's calls ask for

pub few_sections : (i : Image) → is_allowed i ≡ true → length i.sections ≤ 94
few_sections i h = let a = allowed_is i h in a.few

pub room_for : (i : Image) → is_allowed i ≡ true → 4096 + contents_size i.sections < 4294967296
room_for i h = let a = allowed_is i h in omega (arith, contents_fit i a, a.most)

pub mapped_low : (i : Image) → is_allowed i ≡ true → (rva n : ℕ) → is_mapped i.sections rva n ≡ true → rva + n ≤ 134217728
mapped_low i h rva n m = let a = allowed_is i h in omega (arith, (mapped_in i a rva n m).1, a.most)
