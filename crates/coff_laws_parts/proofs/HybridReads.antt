-- The section of hybrid rows of the file of an object, as the reader takes it.
use Rattle.std.proofs.Common.{◌≡◌, ℕ, ◌+◌, ◌*◌, ◌<◌, false, List, [], ◌∷◌, ◌++◌, length, get_or, refl, ◌∙◌, arith}
use Rattle.std.specs.List.{concat}
use Rattle.std.proofs.lemmas.Bool.{ne_eqb}
use Rattle.coff_write.specs.declared.object.HybridRow.{HybridRow}
use Rattle.coff_write.specs.declared.object.Object.{Object}
use Rattle.coff_write.specs.Format.{word, dword, numbers, hybrid_row, hybrid_name, hybrid_head, hybrid_tail, hybrid_header, hybrid_place, object_bytes}
use Rattle.coff_write.specs.Valid.{HasRoom}
use Rattle.file_words.specs.Standing.{Has}
use Rattle.file_words.specs.Fields.{byte_of}
use Rattle.file_words.proofs.HasLaws.{has_left, has_same, byte_has, dword_has}
use Rattle.coff_fields.specs.Fields.{section_place, raw_size, raw_place, raw_flags}
use Rattle.coff_fields.specs.Names.{is_slash, section_name, bad_section_name}
use Rattle.coff_laws_base.specs.Records.{no_row}
use Rattle.coff_laws_base.proofs.Sizes.{two, four, parts5}
use Rattle.coff_laws_base.proofs.Rows.{has_next}
use Rattle.coff_laws_base.proofs.Symbols.{hybrid_rows_at}
use Rattle.coff_laws_base.proofs.Names.{field_short}
use Rattle.coff_laws_parts.proofs.Parts.{hybrid_header_there, hybrid_rows_there}

pub record HybridParts (b : List ℕ) (p c n : ℕ) : Type 0 where
  pub name : Has b p hybrid_name
  pub size : Has b (p + 16) (dword n)
  pub contents : Has b (p + 20) (dword c)
  pub rows : Has b (p + 24) (dword 0)
  pub count : Has b (p + 32) (word 0)
  pub flags : Has b (p + 36) (dword 3146240)

hybrid_parts : (b : List ℕ) (p c n : ℕ) → Has b p (concat (hybrid_head c n) ++ concat hybrid_tail) → HybridParts b p c n
hybrid_parts b p c n h =
    let front = has_left b p (concat (hybrid_head c n)) (concat hybrid_tail) h in
    let f1 = has_next b p (p + 8) hybrid_name (concat (dword 0 ∷ dword 0 ∷ dword n ∷ dword c ∷ [])) (omega arith) front in
    let f2 = has_next b (p + 8) (p + 12) (dword 0) (concat (dword 0 ∷ dword n ∷ dword c ∷ [])) (omega (arith, four 0)) f1 in
    let f3 = has_next b (p + 12) (p + 16) (dword 0) (concat (dword n ∷ dword c ∷ [])) (omega (arith, four 0)) f2 in
    let f4 = has_next b (p + 16) (p + 20) (dword n) (concat (dword c ∷ [])) (omega (arith, four n)) f3 in
    let t0 = has_next b p (p + 24) (concat (hybrid_head c n)) (concat hybrid_tail) (omega (arith, head_long)) h in
    let t1 = has_next b (p + 24) (p + 28) (dword 0) (concat (dword 0 ∷ word 0 ∷ word 0 ∷ dword 3146240 ∷ [])) (omega (arith, four 0)) t0 in
    let t2 = has_next b (p + 28) (p + 32) (dword 0) (concat (word 0 ∷ word 0 ∷ dword 3146240 ∷ [])) (omega (arith, four 0)) t1 in
    let t3 = has_next b (p + 32) (p + 34) (word 0) (concat (word 0 ∷ dword 3146240 ∷ [])) (omega (arith, two 0)) t2 in
    let t4 = has_next b (p + 34) (p + 36) (word 0) (concat (dword 3146240 ∷ [])) (omega (arith, two 0)) t3 in
    record {
      name = has_left b p hybrid_name _ front;
      size = has_left b (p + 16) (dword n) _ f3;
      contents = has_left b (p + 20) (dword c) _ f4;
      rows = has_left b (p + 24) (dword 0) _ t0;
      count = has_left b (p + 32) (word 0) _ t2;
      flags = has_left b (p + 36) (dword 3146240) _ t4;
    }
  where
    head_long : length (concat (hybrid_head c n)) ≡ 24
    head_long = parts5 hybrid_name (dword 0) (dword 0) (dword n) (dword c) ∙ omega (arith, four 0, four n, four c)

-- ---- what is read

pub record HybridRead (o : Object) (b : List ℕ) (i : ℕ) : Type 0 where
  pub name : section_name b i ≡ hybrid_name
  pub good_name : bad_section_name b i ≡ false
  pub size : raw_size b i ≡ 12 * length o.hybrid
  pub contents : raw_place b i ≡ hybrid_place o
  pub flags : raw_flags b i ≡ 3146240

hybrid_named : (b : List ℕ) (i : ℕ) → Has b (section_place i) hybrid_name → (section_name b i ≡ hybrid_name) × (bad_section_name b i ≡ false)
unfolding section_name bad_section_name is_slash
hybrid_named b i h =
    let first : byte_of b (section_place i) ≡ 46 = byte_has b (section_place i) 0 (section_place i) hybrid_name h (omega arith) (omega arith) in
    (rw first (field_short b (section_place i) hybrid_name (omega arith) refl h), rw first refl)

some_rows : (p : ℕ) (rs : List HybridRow) → 0 < length rs → hybrid_header p rs ≡ concat (hybrid_head p (12 * length rs)) ++ concat hybrid_tail
unfolding hybrid_header
some_rows p rs some = rw (ne_eqb (length rs) 0 (λ e. omega (arith, e))) refl

pub hybrid_read : (o : Object) → HasRoom o → 0 < length o.hybrid → HybridRead o (object_bytes o) (length o.sections)
unfolding raw_size raw_place raw_flags
hybrid_read o room some =
    let b = object_bytes o in
    let p = section_place (length o.sections) in
    let h = hybrid_parts b p (hybrid_place o) (12 * length o.hybrid) (has_same b p (hybrid_header (hybrid_place o) o.hybrid) _ (some_rows (hybrid_place o) o.hybrid some) (hybrid_header_there o)) in
    let named = hybrid_named b (length o.sections) h.name in
    record {
      name = named.0;
      good_name = named.1;
      size = dword_has b (p + 16) (12 * length o.hybrid) (omega (arith, room.size)) h.size;
      contents = dword_has b (p + 20) (hybrid_place o) (omega (arith, room.size)) h.contents;
      flags = dword_has b (p + 36) 3146240 (omega arith) h.flags;
    }

pub hybrid_row_there : (o : Object) (r : ℕ) → r < length o.hybrid → Has (object_bytes o) (hybrid_place o + 12 * r) (hybrid_row (numbers o) (get_or o.hybrid r no_row))
hybrid_row_there o r lt = hybrid_rows_at (object_bytes o) (hybrid_place o) (numbers o) o.hybrid r no_row lt (hybrid_rows_there o)
