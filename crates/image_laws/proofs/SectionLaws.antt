-- The sections of a file that isn't refused stand in order, and hold no more than their sizes.
use Rattle.std.proofs.Common.{◌≡◌, ℕ, zero, suc, ◌+◌, ◌%◌, ◌<◌, ◌≤◌, false, not, eqb, ltb, List, [], ◌∷◌, ◌++◌, length, refl, arith}
use Rattle.std.specs.Prelude.{min, drop}
use Rattle.std.proofs.lemmas.Bool.{or_parts, ltb-false}
use Rattle.std.proofs.lemmas.List.{length-take}
use Rattle.file_words.specs.Fields.{part_of}
use Rattle.file_words.specs.Below.{table}
use Rattle.chpe_types.specs.declared.image.ImageSection.{ImageSection}
use Rattle.pe_fields.specs.Headers.{section_rva, virtual_size, raw_size, raw_place, image_size, section, section_bytes}
use Rattle.pe_read.specs.Refusals.{first_place, bad_home, bad_section}
use Rattle.pe_loader.specs.Loading.{InOrder, HoldNoMore}

-- where the last of them ends
abbrev pub end_from : ℕ → List ImageSection → ℕ
end_from from [] = from
end_from from (s ∷ ss) = end_from (s.rva + s.size) ss

end_pushed : (from : ℕ) (ss : List ImageSection) (s : ImageSection) → end_from from (ss ++ s ∷ []) ≡ s.rva + s.size
end_pushed from [] s = refl
end_pushed from (t ∷ ss) s = end_pushed (t.rva + t.size) ss s

order_pushed : (from to : ℕ) (ss : List ImageSection) (s : ImageSection) → InOrder from to ss → end_from from ss ≤ s.rva → s.rva + s.size ≤ to → InOrder from to (ss ++ s ∷ [])
order_pushed from to [] s h low high = (low, high, tt)
order_pushed from to (t ∷ ss) s h low high = (h.0, h.1, order_pushed (t.rva + t.size) to ss s h.2 low high)

held_pushed : (ss : List ImageSection) (s : ImageSection) → HoldNoMore ss → length s.bytes ≤ s.size → HoldNoMore (ss ++ s ∷ [])
held_pushed [] s h few = (few, tt)
held_pushed (t ∷ ss) s h few = (h.0, held_pushed ss s h.1 few)

-- ---- one section

starts : (b : List ℕ) (i : ℕ) → bad_section b i ≡ false → first_place b i ≤ section_rva b i
unfolding bad_section bad_home
starts b i f =
    let h = or_parts (bad_home b i) _ f in
    let j = or_parts (not (eqb (section_rva b i % 4096) 0)) _ h.0 in
    let k = or_parts (ltb (section_rva b i) (first_place b i)) _ j.1 in
    ltb-false (section_rva b i) (first_place b i) k.0

ends : (b : List ℕ) (i : ℕ) → bad_section b i ≡ false → section_rva b i + virtual_size b i ≤ image_size b
unfolding bad_section bad_home
ends b i f =
    let h = or_parts (bad_home b i) _ f in
    let j = or_parts (not (eqb (section_rva b i % 4096) 0)) _ h.0 in
    let k = or_parts (ltb (section_rva b i) (first_place b i)) _ j.1 in
    let l = or_parts (eqb (virtual_size b i) 0) _ k.1 in
    ltb-false (image_size b) (section_rva b i + virtual_size b i) l.1

holds_few : (b : List ℕ) (i : ℕ) → length (section_bytes b i) ≤ virtual_size b i
unfolding section_bytes part_of
holds_few b i = omega (arith, length-take (min (raw_size b i) (virtual_size b i)) (drop (raw_place b i) b))

-- ---- all of them

pub placed : (b : List ℕ) (n : ℕ) → ((i : ℕ) → i < n → bad_section b i ≡ false) → InOrder 0 (image_size b) (table (section b) n) × (end_from 0 (table (section b) n) ≤ first_place b n)
unfolding table section first_place
placed b zero good = (tt, (let e : 0 ≤ 4096 = omega arith in e))
placed b (suc n) good =
    let before = placed b n (λ i lt. good i (omega arith)) in
    let here : bad_section b n ≡ false = good n (omega arith) in
    let low : end_from 0 (table (section b) n) ≤ section_rva b n = omega (arith, before.1, starts b n here) in
    let end : end_from 0 (table (section b) n ++ section b n ∷ []) ≡ section_rva b n + virtual_size b n = end_pushed 0 (table (section b) n) (section b n) in
    let last : end_from 0 (table (section b) n ++ section b n ∷ []) ≤ section_rva b n + virtual_size b n = omega (arith, end) in
    (order_pushed 0 (image_size b) (table (section b) n) (section b n) before.0 low (ends b n here), last)

pub held : (b : List ℕ) (n : ℕ) → HoldNoMore (table (section b) n)
unfolding table section
held b zero = tt
held b (suc n) = held_pushed (table (section b) n) (section b n) (held b n) (holds_few b n)
