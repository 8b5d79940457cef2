-- The directories of a written file are read as the image's imports, sites and metadata.
use Rattle.std.proofs.Common.{◌≡◌, ℕ, zero, suc, ◌<◌, Bool, true, false, cond, not, eqb, List, [], ◌∷◌, Option, Some, None, refl, sym, ap, ◌∙◌, arith, inl, inr, ◌⊎◌}
use Rattle.std.specs.Prelude.{is_some}
use Rattle.std.proofs.lemmas.Bool.{and_parts, and_left, and_right, or_from, not-true, not_from_true, ne_eqb, cond-true, cond-false}
use Rattle.file_words.specs.Below.{any_below, first_below, or_else}
use Rattle.chpe_types.specs.declared.image.Image.{Image}
use Rattle.chpe_types.specs.declared.image.ImageSection.{ImageSection}
use Rattle.chpe_types.specs.declared.image.Meta.{Meta}
use Rattle.chpe_meta.specs.Reading.{meta_in}
use Rattle.pe_fields.specs.Headers.{base, sections, entry, directory_count, directory_rva, directory_size}
use Rattle.pe_fields.specs.Space.{is_mapped, rest_at}
use Rattle.pe_fields.specs.Imports.{bad_imports, slots}
use Rattle.pe_fields.specs.Relocations as blocks
use Rattle.pe_fields.specs.Hybrid.{meta_rva, bad_config, bad_hybrid, bad_entry}
use Rattle.pe_read.specs.Refusals.{is_used, is_known, bad_use, bad_directory, bad_import, bad_base_relocation, bad_load_config, header_rva, bad_metadata, bad_entry_point}
use Rattle.pe_read.specs.Images.{imports, sites}
use Rattle.pe_write_laws.specs.Places.{or_zero, if_some, is_import_place, found_imports, import_place, has_sites, size_at, is_blocks_place, found_blocks, blocks_place, blocks_size, has_meta, is_config_place, config_place}
use Rattle.pe_write_laws.specs.Allowed.{where_some, has_places}
use Rattle.pe_write_laws.specs.Format.{image_bytes}
use Rattle.pe_write_laws.proofs.Header.{base_is, entry_is, directory_count_is, import_rva_is, import_size_is, blocks_rva_is, blocks_size_is, config_rva_is, config_size_is, unused}
use Rattle.pe_write_laws.proofs.Room.{Allowed, mapped_in}
use Rattle.pe_write_laws.proofs.Alike.{text_same, slots_alike, meta_alike}
use Rattle.pe_write_laws.proofs.SectionTests.{sections_here}

-- ---- the first place that passes

first_case : (p : ℕ → Bool) (n : ℕ) (o : Option ℕ) → (is_some o ≡ true → (p (or_zero o) ≡ true) × (or_zero o < n)) → (t : Bool) → p n ≡ t → is_some (or_else o (cond t (Some n) None)) ≡ true → (p (or_zero (or_else o (cond t (Some n) None))) ≡ true) × (or_zero (or_else o (cond t (Some n) None)) < suc n)
first_case p n (Some k) h t e some = let g = h refl in (g.0, omega (arith, g.1))
first_case p n None h true e some = (e, omega arith)
first_case p n None h false e some = absurd cc

first_passes : (p : ℕ → Bool) (n : ℕ) → is_some (first_below p n) ≡ true → (p (or_zero (first_below p n)) ≡ true) × (or_zero (first_below p n) < n)
unfolding first_below
first_passes p zero some = absurd cc
first_passes p (suc n) some = first_case p n (first_below p n) (first_passes p n) (p n) refl some

used_or : {X : Type 0} (xs : List X) (n : ℕ) (b : Bool) → where_some xs b ≡ true → ((xs ≡ []) × (if_some xs n ≡ 0)) ⊎ ((b ≡ true) × (if_some xs n ≡ n))
used_or [] n b h = inl (refl, refl)
used_or (x ∷ xs) n b h = inr (h, refl)

if_same : {X : Type 0} (xs : List X) (m n : ℕ) → 0 < m → if_some xs m ≡ m → if_some xs n ≡ n
if_same [] m n lt e = absurd (omega arith)
if_same (x ∷ xs) m n lt e = refl

-- ---- uses

unused_is : (b : List ℕ) (d : ℕ) → directory_rva b d ≡ 0 → is_used b d ≡ false
unfolding is_used
unused_is b d e = ap (λ (n : ℕ). not (eqb n 0)) e

used_is : (b : List ℕ) (d a : ℕ) → directory_rva b d ≡ a → 0 < a → is_used b d ≡ true
unfolding is_used
used_is b d a e lt = ap (λ (n : ℕ). not (eqb n 0)) e ∙ ap not (ne_eqb a 0 (λ z. omega arith))

no_use : (b : List ℕ) (d : ℕ) → directory_rva b d ≡ 0 → bad_use b d ≡ false
unfolding bad_use
no_use b d e = and_left (is_used b d) _ (unused_is b d e)

good_use : (b : List ℕ) (d : ℕ) → is_known d ≡ true → is_mapped (sections b) (directory_rva b d) (directory_size b d) ≡ true → bad_use b d ≡ false
unfolding bad_use
good_use b d known there = and_right (is_used b d) _ (or_from (not (is_known d)) _ (not_from_true (is_known d) known) (not_from_true (is_mapped (sections b) (directory_rva b d) (directory_size b d)) there))

mapped_same : (ss ts : List ImageSection) (a b m n : ℕ) → ss ≡ ts → a ≡ b → m ≡ n → is_mapped ss a m ≡ is_mapped ts b n
mapped_same ss ts a b m n e f g = rw (e, f, g) refl

size_used : (a n : ℕ) → 0 < a → cond (eqb a 0) 0 n ≡ n
size_used a n lt = cond-false (eqb a 0) 0 n (ne_eqb a 0 (λ z. omega arith))

imports_same : (ss ts : List ImageSection) (a b m n : ℕ) → ss ≡ ts → a ≡ b → m ≡ n → bad_imports ss a m ≡ bad_imports ts b n
imports_same ss ts a b m n e f g = rw (e, f, g) refl

slots_same : (ss ts : List ImageSection) (a b : ℕ) → ss ≡ ts → a ≡ b → slots ss a ≡ slots ts b
slots_same ss ts a b e f = rw (e, f) refl

blocks_same : (ss ts : List ImageSection) (a b m n : ℕ) → ss ≡ ts → a ≡ b → m ≡ n → blocks.bad_relocations (rest_at ss a) m ≡ blocks.bad_relocations (rest_at ts b) n
blocks_same ss ts a b m n e f g = rw (e, f, g) refl

sites_same : (ss ts : List ImageSection) (a b m n : ℕ) → ss ≡ ts → a ≡ b → m ≡ n → blocks.sites (rest_at ss a) m ≡ blocks.sites (rest_at ts b) n
sites_same ss ts a b m n e f g = rw (e, f, g) refl

config_same : (ss ts : List ImageSection) (c d a b m n : ℕ) → ss ≡ ts → c ≡ d → a ≡ b → m ≡ n → bad_config ss c a m ≡ bad_config ts d b n
config_same ss ts c d a b m n e h f g = rw (e, h, f, g) refl

hybrid_same : (b : List ℕ) (ss : List ImageSection) (at : ℕ) → sections b ≡ ss → header_rva b ≡ at → bad_metadata b ≡ bad_hybrid ss at
unfolding bad_metadata
hybrid_same b ss at e f = rw (e, f) refl

meta_same : (ss ts : List ImageSection) (a b : ℕ) → ss ≡ ts → a ≡ b → meta_in (rest_at ss a) a ≡ meta_in (rest_at ts b) b
meta_same ss ts a b e f = rw (e, f) refl

-- sixteen numbers that don't pass
more : (p : ℕ → Bool) (n : ℕ) → any_below p n ≡ false → p n ≡ false → any_below p (suc n) ≡ false
unfolding any_below
more p n e f = or_from (any_below p n) (p n) e f

none : (p : ℕ → Bool) → any_below p 0 ≡ false
unfolding any_below
none p = refl

sixteen : (p : ℕ → Bool) → p 0 ≡ false → p 1 ≡ false → p 2 ≡ false → p 3 ≡ false → p 4 ≡ false → p 5 ≡ false → p 6 ≡ false → p 7 ≡ false → p 8 ≡ false → p 9 ≡ false → p 10 ≡ false → p 11 ≡ false → p 12 ≡ false → p 13 ≡ false → p 14 ≡ false → p 15 ≡ false → any_below p 16 ≡ false
sixteen p h0 h1 h2 h3 h4 h5 h6 h7 h8 h9 h10 h11 h12 h13 h14 h15 =
    more p 15 (more p 14 (more p 13 (more p 12 (more p 11 (more p 10 (more p 9 (more p 8 (more p 7 (more p 6 (more p 5 (more p 4 (more p 3 (more p 2 (more p 1 (more p 0 (none p) h0) h1) h2) h3) h4) h5) h6) h7) h8) h9) h10) h11) h12) h13) h14) h15

-- ---- imports

record Imports (i : Image) : Type 0 where
  used : bad_use (image_bytes i) 1 ≡ false
  good : bad_import (image_bytes i) ≡ false
  are : imports (image_bytes i) ≡ i.imports

no_imports : (i : Image) (b : List ℕ) → directory_rva b 1 ≡ 0 → i.imports ≡ [] → (bad_import b ≡ false) × (imports b ≡ i.imports)
unfolding bad_import imports
no_imports i b e none = (and_left (is_used b 1) _ (unused_is b 1 e), cond-false (is_used b 1) (slots (sections b) (directory_rva b 1)) [] (unused_is b 1 e) ∙ sym none)

some_imports : (i : Image) (b : List ℕ) (a : ℕ) → sections b ≡ i.sections → directory_rva b 1 ≡ a → directory_size b 1 ≡ 40 → 0 < a → bad_imports i.sections a 40 ≡ false → slots i.sections a ≡ i.imports → (bad_import b ≡ false) × (imports b ≡ i.imports)
unfolding bad_import imports
some_imports i b a same rva size lt good are = (
  and_right (is_used b 1) _ (imports_same (sections b) i.sections (directory_rva b 1) a (directory_size b 1) 40 same rva size ∙ good),
  cond-true (is_used b 1) (slots (sections b) (directory_rva b 1)) [] (used_is b 1 a rva lt) ∙ slots_same (sections b) i.sections (directory_rva b 1) a same rva ∙ are,
)

record ImportPlace (i : Image) (a : ℕ) : Type 0 where
  there : is_mapped i.sections a 40 ≡ true
  good : bad_imports i.sections a 40 ≡ false
  are : slots i.sections a ≡ i.imports

import_place_is : (i : Image) (a : ℕ) → is_import_place i a ≡ true → ImportPlace i a
import_place_is i a h =
    let g = and_parts (is_mapped i.sections a 40) _ h in
    let k = and_parts (not (bad_imports i.sections a 40)) _ g.1 in
    record { there = g.0; good = not-true (bad_imports i.sections a 40) k.0; are = slots_alike (slots i.sections a) i.imports k.1 }

-- ---- base relocations

no_blocks : (i : Image) (b : List ℕ) → directory_rva b 5 ≡ 0 → i.sites ≡ [] → (bad_base_relocation b ≡ false) × (sites b ≡ i.sites)
unfolding bad_base_relocation sites
no_blocks i b e none = (and_left (is_used b 5) _ (unused_is b 5 e), cond-false (is_used b 5) (blocks.sites (rest_at (sections b) (directory_rva b 5)) (directory_size b 5)) [] (unused_is b 5 e) ∙ sym none)

some_blocks : (i : Image) (b : List ℕ) (a n : ℕ) → sections b ≡ i.sections → directory_rva b 5 ≡ a → directory_size b 5 ≡ n → 0 < a → blocks.bad_relocations (rest_at i.sections a) n ≡ false → blocks.sites (rest_at i.sections a) n ≡ i.sites → (bad_base_relocation b ≡ false) × (sites b ≡ i.sites)
unfolding bad_base_relocation sites
some_blocks i b a n same rva size lt good are = (
  and_right (is_used b 5) _ (blocks_same (sections b) i.sections (directory_rva b 5) a (directory_size b 5) n same rva size ∙ good),
  cond-true (is_used b 5) (blocks.sites (rest_at (sections b) (directory_rva b 5)) (directory_size b 5)) [] (used_is b 5 a rva lt) ∙ sites_same (sections b) i.sections (directory_rva b 5) a (directory_size b 5) n same rva size ∙ are,
)

record BlocksPlace (i : Image) (a n : ℕ) : Type 0 where
  there : is_mapped i.sections a n ≡ true
  good : blocks.bad_relocations (rest_at i.sections a) n ≡ false
  are : blocks.sites (rest_at i.sections a) n ≡ i.sites

blocks_place_is : (i : Image) (a n : ℕ) → has_sites i a n ≡ true → BlocksPlace i a n
blocks_place_is i a n h =
    let g = and_parts (is_mapped i.sections a n) _ h in
    let k = and_parts (not (blocks.bad_relocations (rest_at i.sections a) n)) _ g.1 in
    record { there = g.0; good = not-true (blocks.bad_relocations (rest_at i.sections a) n) k.0; are = text_same (blocks.sites (rest_at i.sections a) n) i.sites k.1 }

-- ---- the load configuration

record ConfigPlace (i : Image) (a : ℕ) : Type 0 where
  there : is_mapped i.sections a 208 ≡ true
  good : bad_config i.sections i.base a 208 ≡ false
  hybrid : bad_hybrid i.sections (meta_rva i.sections i.base a) ≡ false
  is : meta_in (rest_at i.sections (meta_rva i.sections i.base a)) (meta_rva i.sections i.base a) ≡ i.meta

meta_had : (i : Image) (at : ℕ) → has_meta i at ≡ true → (bad_hybrid i.sections at ≡ false) × (meta_in (rest_at i.sections at) at ≡ i.meta)
unfolding has_meta
meta_had i at h = let g = and_parts (not (bad_hybrid i.sections at)) _ h in (not-true (bad_hybrid i.sections at) g.0, meta_alike (meta_in (rest_at i.sections at) at) i.meta g.1)

config_place_is : (i : Image) (a : ℕ) → is_config_place i a ≡ true → ConfigPlace i a
config_place_is i a h =
    let g = and_parts (is_mapped i.sections a 208) _ h in
    let k = and_parts (not (bad_config i.sections i.base a 208)) _ g.1 in
    let m = meta_had i (meta_rva i.sections i.base a) k.1 in
    record { there = g.0; good = not-true (bad_config i.sections i.base a 208) k.0; hybrid = m.0; is = m.1 }

config_used : (b : List ℕ) (ss : List ImageSection) (a n : ℕ) → sections b ≡ ss → base b ≡ n → directory_rva b 10 ≡ a → directory_size b 10 ≡ 208 → 0 < a → bad_config ss n a 208 ≡ false → bad_load_config b ≡ false
unfolding bad_load_config
config_used b ss a n same at rva size lt good =
    or_from (not (is_used b 10)) _ (not_from_true (is_used b 10) (used_is b 10 a rva lt)) (config_same (sections b) ss (base b) n (directory_rva b 10) a (directory_size b 10) 208 same at rva size ∙ good)

header_at : (b : List ℕ) (ss : List ImageSection) (a n : ℕ) → sections b ≡ ss → base b ≡ n → directory_rva b 10 ≡ a → header_rva b ≡ meta_rva ss n a
unfolding header_rva
header_at b ss a n same at rva = rw (same, at, rva) refl

-- ---- the file of an image

record Config (i : Image) : Type 0 where
  used : bad_use (image_bytes i) 10 ≡ false
  good : bad_load_config (image_bytes i) ≡ false
  hybrid : bad_metadata (image_bytes i) ≡ false
  is : meta_in (rest_at (sections (image_bytes i)) (header_rva (image_bytes i))) (header_rva (image_bytes i)) ≡ i.meta

record Sites (i : Image) : Type 0 where
  used : bad_use (image_bytes i) 5 ≡ false
  good : bad_base_relocation (image_bytes i) ≡ false
  are : sites (image_bytes i) ≡ i.sites

record Needs (i : Image) : Type 0 where
  imports : where_some i.imports (is_some (first_below (is_import_place i) i.size)) ≡ true
  sites : where_some i.sites (is_some (first_below (is_blocks_place i) i.size)) ≡ true
  config : is_some (first_below (is_config_place i) i.size) ≡ true

needs : (i : Image) → has_places i ≡ true → Needs i
unfolding has_places
needs i h =
    let g = and_parts (where_some i.imports (is_some (first_below (is_import_place i) i.size))) _ h in
    let k = and_parts (where_some i.sites (is_some (first_below (is_blocks_place i) i.size))) _ g.1 in
    record { imports = g.0; sites = k.0; config = k.1 }

module _ (i : Image) (a : Allowed i) where
  import_found : is_some (first_below (is_import_place i) i.size) ≡ true → (is_import_place i (found_imports i) ≡ true) × (found_imports i < i.size)
  unfolding found_imports
  import_found some = first_passes (is_import_place i) i.size some

  with_imports : (n : ℕ) → import_place i ≡ n → is_import_place i n ≡ true → n < i.size → Imports i
  with_imports n e h lt =
      let p = import_place_is i n h in
      let low = mapped_in i a n 40 p.there in
      let some : 0 < n = omega (arith, low.0) in
      let rva : directory_rva (image_bytes i) 1 ≡ n = import_rva_is i (omega (arith, a.most)) ∙ e in
      let size_40 : cond (eqb (import_place i) 0) 0 40 ≡ 40 = size_used (import_place i) 40 (omega (arith, e, some)) in
      let small : cond (eqb (import_place i) 0) 0 40 < 4294967296 = omega (arith, size_40) in
      let size : directory_size (image_bytes i) 1 ≡ 40 = import_size_is i small ∙ size_40 in
      let g = some_imports i (image_bytes i) n (sections_here i a) rva size some p.good p.are in
      record { used = good_use (image_bytes i) 1 refl (mapped_same (sections (image_bytes i)) i.sections (directory_rva (image_bytes i) 1) n (directory_size (image_bytes i) 1) 40 (sections_here i a) rva size ∙ p.there); good = g.0; are = g.1 }

  without_imports : import_place i ≡ 0 → i.imports ≡ [] → Imports i
  without_imports e none =
      let rva : directory_rva (image_bytes i) 1 ≡ 0 = import_rva_is i (omega arith) ∙ e in
      let g = no_imports i (image_bytes i) rva none in
      record { used = no_use (image_bytes i) 1 rva; good = g.0; are = g.1 }

  imports_here : Imports i
  imports_here =
      let n = needs i a.places in
      elim (used_or i.imports (found_imports i) (is_some (first_below (is_import_place i) i.size)) n.imports) [
        | inl none ↦ without_imports none.1 none.0
        | inr some ↦ let f = import_found some.0 in with_imports (found_imports i) some.1 f.0 f.1
      ]

  blocks_found : is_some (first_below (is_blocks_place i) i.size) ≡ true → (is_blocks_place i (found_blocks i) ≡ true) × (found_blocks i < i.size)
  unfolding found_blocks
  blocks_found some = first_passes (is_blocks_place i) i.size some

  size_found : (n : ℕ) → is_blocks_place i n ≡ true → (has_sites i n (or_zero (size_at i n)) ≡ true) × (or_zero (size_at i n) < i.size)
  unfolding size_at
  size_found n some = first_passes (has_sites i n) i.size some

  with_blocks : (n m : ℕ) → blocks_place i ≡ n → (0 < n → blocks_size i ≡ m) → has_sites i n m ≡ true → n < i.size → m < i.size → Sites i
  with_blocks n m e f h lt small =
      let p = blocks_place_is i n m h in
      let low = mapped_in i a n m p.there in
      let rva : directory_rva (image_bytes i) 5 ≡ n = blocks_rva_is i (omega (arith, a.most)) ∙ e in
      let size_m : cond (eqb (blocks_place i) 0) 0 (blocks_size i) ≡ m = size_used (blocks_place i) (blocks_size i) (omega (arith, low.0)) ∙ f (omega (arith, low.0)) in
      let size : directory_size (image_bytes i) 5 ≡ m = blocks_size_is i (omega (arith, size_m, a.most)) ∙ size_m in
      let g = some_blocks i (image_bytes i) n m (sections_here i a) rva size (omega (arith, low.0)) p.good p.are in
      record { used = good_use (image_bytes i) 5 refl (mapped_same (sections (image_bytes i)) i.sections (directory_rva (image_bytes i) 5) n (directory_size (image_bytes i) 5) m (sections_here i a) rva size ∙ p.there); good = g.0; are = g.1 }

  without_blocks : blocks_place i ≡ 0 → i.sites ≡ [] → Sites i
  without_blocks e none =
      let rva : directory_rva (image_bytes i) 5 ≡ 0 = blocks_rva_is i (omega arith) ∙ e in
      let g = no_blocks i (image_bytes i) rva none in
      record { used = no_use (image_bytes i) 5 rva; good = g.0; are = g.1 }

  sites_here : Sites i
  sites_here =
      let n = needs i a.places in
      elim (used_or i.sites (found_blocks i) (is_some (first_below (is_blocks_place i) i.size)) n.sites) [
        | inl none ↦ without_blocks none.1 none.0
        | inr some ↦
            let f = blocks_found some.0 in
            let s = size_found (found_blocks i) f.0 in
            with_blocks (found_blocks i) (or_zero (size_at i (found_blocks i))) some.1 (λ lt. if_same i.sites (found_blocks i) (or_zero (size_at i (found_blocks i))) lt some.1) s.0 f.1 s.1
      ]

  config_found : is_some (first_below (is_config_place i) i.size) ≡ true → (is_config_place i (config_place i) ≡ true) × (config_place i < i.size)
  unfolding config_place
  config_found some = first_passes (is_config_place i) i.size some

  with_config : is_config_place i (config_place i) ≡ true → config_place i < i.size → Config i
  with_config h lt =
      let p = config_place_is i (config_place i) h in
      let low = mapped_in i a (config_place i) 208 p.there in
      let some : 0 < config_place i = omega (arith, low.0) in
      let at : base (image_bytes i) ≡ i.base = base_is i a.base in
      let rva : directory_rva (image_bytes i) 10 ≡ config_place i = config_rva_is i (omega (arith, a.most)) in
      let size_208 : cond (eqb (config_place i) 0) 0 208 ≡ 208 = size_used (config_place i) 208 some in
      let small : cond (eqb (config_place i) 0) 0 208 < 4294967296 = omega (arith, size_208) in
      let size : directory_size (image_bytes i) 10 ≡ 208 = config_size_is i small ∙ size_208 in
      let header : header_rva (image_bytes i) ≡ meta_rva i.sections i.base (config_place i) = header_at (image_bytes i) i.sections (config_place i) i.base (sections_here i a) at rva in
      record {
        used = good_use (image_bytes i) 10 refl (mapped_same (sections (image_bytes i)) i.sections (directory_rva (image_bytes i) 10) (config_place i) (directory_size (image_bytes i) 10) 208 (sections_here i a) rva size ∙ p.there);
        good = config_used (image_bytes i) i.sections (config_place i) i.base (sections_here i a) at rva size some p.good;
        hybrid = hybrid_same (image_bytes i) i.sections (meta_rva i.sections i.base (config_place i)) (sections_here i a) header ∙ p.hybrid;
        is = meta_same (sections (image_bytes i)) i.sections (header_rva (image_bytes i)) (meta_rva i.sections i.base (config_place i)) (sections_here i a) header ∙ p.is;
      }

  config_here : Config i
  config_here = let n = needs i a.places in let f = config_found n.config in with_config f.0 f.1

  -- ---- what the reader finds

  pub imports_read : imports (image_bytes i) ≡ i.imports
  imports_read = let x = imports_here in x.are

  pub sites_read : sites (image_bytes i) ≡ i.sites
  sites_read = let x = sites_here in x.are

  pub meta_read : meta_in (rest_at (sections (image_bytes i)) (header_rva (image_bytes i))) (header_rva (image_bytes i)) ≡ i.meta
  meta_read = let x = config_here in x.is

  pub import_fails : bad_import (image_bytes i) ≡ false
  import_fails = let x = imports_here in x.good

  pub blocks_fail : bad_base_relocation (image_bytes i) ≡ false
  blocks_fail = let x = sites_here in x.good

  pub config_fails : bad_load_config (image_bytes i) ≡ false
  config_fails = let x = config_here in x.good

  pub meta_fails : bad_metadata (image_bytes i) ≡ false
  meta_fails = let x = config_here in x.hybrid

  pub entry_fails : bad_entry_point (image_bytes i) ≡ false
  unfolding bad_entry_point
  entry_fails = ap (λ (m : Meta). bad_entry m (entry (image_bytes i))) meta_read ∙ ap (bad_entry i.meta) (entry_is i a.entry) ∙ a.starts

  pub directory_fails : bad_directory (image_bytes i) ≡ false
  unfolding bad_directory
  directory_fails =
      let u = unused i in
      let x = imports_here in
      let y = sites_here in
      let z = config_here in
      or_from (not (eqb (directory_count (image_bytes i)) 16)) _ (ap (λ (n : ℕ). not (eqb n 16)) (directory_count_is i))
      (sixteen (bad_use (image_bytes i)) (no_use (image_bytes i) 0 u.d0) x.used (no_use (image_bytes i) 2 u.d2) (no_use (image_bytes i) 3 u.d3) (no_use (image_bytes i) 4 u.d4) y.used (no_use (image_bytes i) 6 u.d6) (no_use (image_bytes i) 7 u.d7)
      (no_use (image_bytes i) 8 u.d8) (no_use (image_bytes i) 9 u.d9) z.used (no_use (image_bytes i) 11 u.d11) (no_use (image_bytes i) 12 u.d12) (no_use (image_bytes i) 13 u.d13) (no_use (image_bytes i) 14 u.d14) (no_use (image_bytes i) 15 u.d15))
