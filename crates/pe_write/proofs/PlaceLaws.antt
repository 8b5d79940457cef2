-- The first places that read as what an image has.
use Rattle.std.proofs.Common.{◌≡◌, ℕ, ◌<◌, ◌≤◌, Bool, true, false, cond, not, ◌&&◌, ltb, List, [], ◌∷◌, length, None, Result, Ok, Err, refl, sym, ap, subst, ◌∙◌, arith}
use Rattle.std.proofs.lemmas.Bool.{and_parts, or_parts, or_from, or_left, or_right, not-false, ltb-false}
use Rattle.file_words.specs.Below.{first_below}
use Rattle.chpe_types.specs.declared.image.Image.{Image}
use Rattle.chpe_types.specs.declared.image.ImageSection.{ImageSection}
use Rattle.chpe_types.specs.declared.image.Meta.{Meta}
use Rattle.chpe_types.specs.Looks.{valid_meta_of}
use Rattle.chpe_meta.specs.declared.refusal.MetaRefusal.{MetaRefusal}
use Rattle.chpe_meta.specs.declared.refusal.MetaRefusal.TheVariants.{Bad}
use Rattle.chpe_meta.specs.Allowed.{in_order}
use Rattle.chpe_meta.specs.Reading.{bad_places, bad_meta, meta_in, meta_of}
use Rattle.pe_fields.specs.Space.{rest_at}
use Rattle.pe_fields.specs.Hybrid.{config_size, meta_pointer, meta_rva, bad_config, bad_code, bad_hybrid}
use Rattle.pe_fields.proofs.ImportLaws.{first_is}
use Rattle.pe_write_laws.specs.Places.{same_meta, or_zero, if_some, is_import_place, found_imports, import_place, has_meta, is_config_place, config_place}

-- ---- the metadata at a place

case_ok : (t : Bool) (x m : Meta) → (let r : Result Meta MetaRefusal = cond t (Err Bad) (Ok x) in r) ≡ Ok m → (t ≡ false) × (x ≡ m)
case_ok true x m e = cc
case_ok false x m e = (refl, cc)

case_bad : (t : Bool) (x : Meta) → (let r : Result Meta MetaRefusal = cond t (Err Bad) (Ok x) in r) ≡ Err Bad → t ≡ true
case_bad true x e = refl
case_bad false x e = cc

read_is : (r : List ℕ) (at : ℕ) (m : Meta) → meta_of r at ≡ Ok m → (bad_meta r at ≡ false) × (meta_in r at ≡ m)
unfolding meta_of
read_is r at m e = case_ok (bad_meta r at) (meta_in r at) m e

pub read_valid : (r : List ℕ) (at : ℕ) (m : Meta) → meta_of r at ≡ Ok m → valid_meta_of m ≡ true
unfolding bad_meta
read_valid r at m e =
    let h = read_is r at m e in
    let order : in_order (meta_in r at) ≡ true = not-false (in_order (meta_in r at)) (or_parts (bad_places r at) _ h.0).1 in
    subst (λ (x : Meta). valid_meta_of x ≡ true) h.1 (and_parts (valid_meta_of (meta_in r at)) _ order).0

refused : (i : Image) (at : ℕ) → bad_hybrid i.sections at ≡ true → false ≡ has_meta i at
unfolding has_meta
refused i at t = rw t refl

pub other_code : (i : Image) (at : ℕ) (m : Meta) → meta_of (rest_at i.sections at) at ≡ Ok m → true ≡ bad_code i.sections m → false ≡ has_meta i at
unfolding bad_hybrid
other_code i at m e t =
    let h = read_is (rest_at i.sections at) at m e in
    refused i at (or_right (bad_meta (rest_at i.sections at) at) _ (ap (bad_code i.sections) h.1 ∙ sym t))

pub good_code : (i : Image) (at : ℕ) (m : Meta) → meta_of (rest_at i.sections at) at ≡ Ok m → false ≡ bad_code i.sections m → same_meta m i.meta ≡ has_meta i at
unfolding has_meta bad_hybrid
good_code i at m e f =
    let h = read_is (rest_at i.sections at) at m e in
    let good : bad_hybrid i.sections at ≡ false = or_from (bad_meta (rest_at i.sections at) at) _ h.0 (ap (bad_code i.sections) h.1 ∙ sym f) in
    ap (λ (x : Meta). same_meta x i.meta) (sym h.1) ∙ ap (λ (b : Bool). not b && same_meta (meta_in (rest_at i.sections at) at) i.meta) (sym good)

pub no_meta : (i : Image) (at : ℕ) → meta_of (rest_at i.sections at) at ≡ Err Bad → false ≡ has_meta i at
unfolding bad_hybrid meta_of
no_meta i at e = refused i at (or_left (bad_meta (rest_at i.sections at) at) _ (case_bad (bad_meta (rest_at i.sections at) at) (meta_in (rest_at i.sections at) at) e))

-- ---- the load configuration

pub pointer_fits : (ss : List ImageSection) (base rva size : ℕ) → false ≡ bad_config ss base rva size → meta_rva ss base rva ≤ 4294967295
unfolding bad_config
pointer_fits ss base rva size f =
    let i = or_parts (ltb size 208) _ (sym f) in
    let j = or_parts (ltb (config_size ss rva) 208) _ i.1 in
    let k = or_parts (ltb (meta_pointer ss rva) base) _ j.1 in
    let l = or_parts (ltb 4294967295 (meta_rva ss base rva)) _ k.1 in
    ltb-false 4294967295 (meta_rva ss base rva) l.0

pub config_first : (i : Image) (k : ℕ) → None ≡ first_below (is_config_place i) k → is_config_place i k ≡ true → k < i.size → k ≡ config_place i
unfolding config_place
config_first i k e t lt = ap or_zero (first_is (is_config_place i) k i.size e t lt)

pub config_none : (i : Image) → None ≡ first_below (is_config_place i) i.size → 0 ≡ config_place i
unfolding config_place
config_none i e = ap or_zero e

-- ---- imports

pub imports_first : (i : Image) (k : ℕ) → None ≡ first_below (is_import_place i) k → is_import_place i k ≡ true → k < i.size → k ≡ found_imports i
unfolding found_imports
imports_first i k e t lt = ap or_zero (first_is (is_import_place i) k i.size e t lt)

pub imports_none : (i : Image) → None ≡ first_below (is_import_place i) i.size → 0 ≡ found_imports i
unfolding found_imports
imports_none i e = ap or_zero e

pub empty_none : {X : Type 0} (xs : List X) (n : ℕ) → length xs ≡ 0 → 0 ≡ if_some xs n
empty_none [] n e = refl
empty_none (x ∷ xs) n e = absurd (omega arith)

pub some_there : {X : Type 0} (xs : List X) (n : ℕ) → 0 < length xs → n ≡ if_some xs n
some_there [] n lt = absurd (omega arith)
some_there (x ∷ xs) n lt = refl

pub imports_unused : (i : Image) → length i.imports ≡ 0 → 0 ≡ import_place i
imports_unused i e = empty_none i.imports (found_imports i) e

pub imports_used : (i : Image) → 0 < length i.imports → found_imports i ≡ import_place i
imports_used i lt = some_there i.imports (found_imports i) lt
