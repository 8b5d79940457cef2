-- What the reader of the metadata says of a file.
use Rattle.std.proofs.Common.{◌≡◌, ℕ, ◌≤◌, Bool, true, false, cond, not, ◌&&◌, ltb, List, Result, Ok, Err, refl, sym, ap, subst, ◌∙◌}
use Rattle.std.proofs.lemmas.Bool.{and_parts, or_parts, or_from, or_left, or_right, not-false, ltb-false}
use Rattle.chpe_types.specs.declared.image.ImageSection.{ImageSection}
use Rattle.chpe_types.specs.declared.image.Meta.{Meta}
use Rattle.chpe_types.specs.Looks.{valid_meta_of}
use Rattle.chpe_meta.specs.declared.refusal.MetaRefusal.{MetaRefusal}
use Rattle.chpe_meta.specs.declared.refusal.MetaRefusal.TheVariants.{Bad as BadMeta}
use Rattle.chpe_meta.specs.Allowed.{in_order}
use Rattle.chpe_meta.specs.Reading.{bad_places, bad_meta, meta_in, meta_of}
use Rattle.pe_fields.specs.Headers.{sections, base, directory_rva, directory_size}
use Rattle.pe_fields.specs.Space.{rest_at}
use Rattle.pe_fields.specs.Hybrid.{config_size, meta_pointer, meta_rva, bad_config, bad_code, bad_hybrid}
use Rattle.pe_read.specs.Refusals.{is_used, bad_base_relocation, bad_load_config, header_rva, bad_metadata}
use Rattle.pe_fields.specs.Relocations.{bad_relocations}
use Rattle.pe_read.specs.Stages.{meta_at, MetaTells}

-- the header's place is one of an image
pub header_fits : (b : List ℕ) → bad_load_config b ≡ false → header_rva b ≤ 4294967295
unfolding bad_load_config bad_config header_rva
header_fits b f =
    let h = or_parts (not (is_used b 10)) _ f in
    let i = or_parts (ltb (directory_size b 10) 208) _ h.1 in
    let j = or_parts (ltb (config_size (sections b) (directory_rva b 10)) 208) _ i.1 in
    let k = or_parts (ltb (meta_pointer (sections b) (directory_rva b 10)) (base b)) _ j.1 in
    let l = or_parts (ltb 4294967295 (meta_rva (sections b) (base b) (directory_rva b 10))) _ k.1 in
    ltb-false 4294967295 (meta_rva (sections b) (base b) (directory_rva b 10)) l.0

case_ok : (t : Bool) (x m : Meta) → (let r : Result Meta MetaRefusal = cond t (Err BadMeta) (Ok x) in r) ≡ Ok m → (t ≡ false) × (x ≡ m)
case_ok true x m e = cc
case_ok false x m e = (refl, cc)

case_bad : (t : Bool) (x : Meta) → (let r : Result Meta MetaRefusal = cond t (Err BadMeta) (Ok x) in r) ≡ Err BadMeta → t ≡ true
case_bad true x e = refl
case_bad false x e = cc

read_is : (r : List ℕ) (at : ℕ) (m : Meta) → meta_of r at ≡ Ok m → (bad_meta r at ≡ false) × (meta_in r at ≡ m)
unfolding meta_of
read_is r at m e = case_ok (bad_meta r at) (meta_in r at) m e

-- metadata that was read has its tables in order
pub read_valid : (r : List ℕ) (at : ℕ) (m : Meta) → meta_of r at ≡ Ok m → valid_meta_of m ≡ true
unfolding bad_meta
read_valid r at m e =
    let h = read_is r at m e in
    let order : in_order (meta_in r at) ≡ true = not-false (in_order (meta_in r at)) (or_parts (bad_places r at) _ h.0).1 in
    subst (λ (x : Meta). valid_meta_of x ≡ true) h.1 (and_parts (valid_meta_of (meta_in r at)) _ order).0

module _ (b : List ℕ) (ss : List ImageSection) (at : ℕ) (known : ss ≡ sections b) (place : at ≡ header_rva b) where
  hybrid_at : bad_hybrid ss at ≡ bad_metadata b
  unfolding bad_metadata
  hybrid_at = rw (known, place) refl

  meta_there : meta_in (rest_at ss at) at ≡ meta_at b
  unfolding meta_at
  meta_there = rw (known, place) refl

  pub meta_read : (m : Meta) → meta_of (rest_at ss at) at ≡ Ok m → bad_code ss m ≡ false → MetaTells b (Ok m)
  unfolding bad_hybrid
  meta_read m e f =
      let h = read_is (rest_at ss at) at m e in
      let good : bad_hybrid ss at ≡ false = or_from (bad_meta (rest_at ss at) at) _ h.0 (ap (bad_code ss) h.1 ∙ f) in
      (sym hybrid_at ∙ good, (sym h.1 ∙ meta_there, read_valid (rest_at ss at) at m e))

  pub code_refused : (m : Meta) → meta_of (rest_at ss at) at ≡ Ok m → bad_code ss m ≡ true → bad_metadata b ≡ true
  unfolding bad_hybrid
  code_refused m e t =
      let h = read_is (rest_at ss at) at m e in
      sym hybrid_at ∙ or_right (bad_meta (rest_at ss at) at) _ (ap (bad_code ss) h.1 ∙ t)

  pub bytes_refused : meta_of (rest_at ss at) at ≡ Err BadMeta → bad_metadata b ≡ true
  unfolding bad_hybrid meta_of
  bytes_refused e = sym hybrid_at ∙ or_left (bad_meta (rest_at ss at) at) _ (case_bad (bad_meta (rest_at ss at) at) (meta_in (rest_at ss at) at) e)

-- base relocations that are used
pub used_blocks : (b : List ℕ) (ss : List ImageSection) → ss ≡ sections b → bad_base_relocation b ≡ false → is_used b 5 ≡ true → bad_relocations (rest_at ss (directory_rva b 5)) (directory_size b 5) ≡ false
unfolding bad_base_relocation
used_blocks b ss known f t = ap (λ (xs : List ImageSection). bad_relocations (rest_at xs (directory_rva b 5)) (directory_size b 5)) known ∙ ap (λ (x : Bool). x && bad_relocations (rest_at (sections b) (directory_rva b 5)) (directory_size b 5)) (sym t) ∙ f
