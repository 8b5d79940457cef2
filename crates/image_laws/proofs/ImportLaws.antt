-- Each import slot of a file that isn't refused lies in one of its sections.
use Rattle.std.proofs.Common.{◌≡◌, ℕ, zero, suc, ◌+◌, ◌*◌, ◌<◌, ◌≤◌, Bool, true, false, leb, List, [], ◌∷◌, ◌++◌, refl, cond, arith, inl, inr}
use Rattle.std.specs.List.{list_any}
use Rattle.std.proofs.lemmas.Bool.{and_parts, and_from, or_cases, or_left, or_right, leb-true, le-leb}
use Rattle.file_words.specs.Below.{table}
use Rattle.chpe_types.specs.declared.image.ImageSection.{ImageSection}
use Rattle.chpe_types.specs.declared.image.ImportSlot.{ImportSlot}
use Rattle.pe_fields.specs.Headers.{sections, directory_rva, directory_size}
use Rattle.pe_fields.specs.Space.{has_part, is_mapped}
use Rattle.pe_fields.specs.Imports.{address_rva, lookup_bytes, entry_count, count_or_none, bad_imports, slot, slots}
use Rattle.pe_read.specs.Refusals.{is_used, bad_import}
use Rattle.pe_read.specs.Images.{imports}
use Rattle.pe_read.proofs.SlotLaws.{table_there, used_import}
use Rattle.pe_loader.specs.Refusals.{lies_in, lies_in_one}
use Rattle.pe_loader.specs.Loading.{SlotsLie}

-- 8 bytes within a part of a section
part_lies : (rva n k : ℕ) (s : ImageSection) → k + 8 ≤ n → has_part rva n s ≡ true → lies_in (rva + k) s ≡ true
part_lies rva n k s fits h =
    let p = and_parts (leb s.rva rva) (leb (rva + n) (s.rva + s.size)) h in
    let low : s.rva ≤ rva = leb-true s.rva rva p.0 in
    let high : rva + n ≤ s.rva + s.size = leb-true (rva + n) (s.rva + s.size) p.1 in
    and_from (leb s.rva (rva + k)) (leb (rva + k + 8) (s.rva + s.size)) (le-leb s.rva (rva + k) (omega (arith, low))) (le-leb (rva + k + 8) (s.rva + s.size) (omega (arith, high, fits)))

mapped_lies : (rva n k : ℕ) (ss : List ImageSection) → k + 8 ≤ n → list_any (has_part rva n) ss ≡ true → lies_in_one ss (rva + k) ≡ true
mapped_lies rva n k [] fits h = cc
mapped_lies rva n k (s ∷ ss) fits h =
    elim (or_cases (has_part rva n s) (list_any (has_part rva n) ss) h) [
      | inl here ↦ or_left (lies_in (rva + k) s) (lies_in_one ss (rva + k)) (part_lies rva n k s fits here)
      | inr later ↦ or_right (lies_in (rva + k) s) (lies_in_one ss (rva + k)) (mapped_lies rva n k ss fits later)
    ]

pushed : (ss : List ImageSection) (xs : List ImportSlot) (x : ImportSlot) → SlotsLie ss xs → lies_in_one ss x.rva ≡ true → SlotsLie ss (xs ++ x ∷ [])
pushed ss [] x h there = (there, tt)
pushed ss (y ∷ xs) x h there = (h.0, pushed ss xs x h.1 there)

slots_below : (ss : List ImageSection) (rva n : ℕ) → ((k : ℕ) → k < n → lies_in_one ss (address_rva ss rva + 8 * k) ≡ true) → SlotsLie ss (table (slot ss rva) n)
unfolding table slot
slots_below ss rva zero h = tt
slots_below ss rva (suc n) h = pushed ss (table (slot ss rva) n) (slot ss rva n) (slots_below ss rva n (λ k lt. h k (omega arith))) (h n (omega arith))

slots_lie : (ss : List ImageSection) (rva size : ℕ) → bad_imports ss rva size ≡ false → SlotsLie ss (slots ss rva)
unfolding slots is_mapped
slots_lie ss rva size f =
    let n : ℕ = count_or_none (entry_count (lookup_bytes ss rva)) in
    slots_below ss rva n (λ k lt. mapped_lies (address_rva ss rva) (8 * n + 8) (8 * k) ss (omega arith) (table_there ss rva size f))

used_or_not : (b : List ℕ) (used : Bool) → is_used b 1 ≡ used → bad_import b ≡ false → SlotsLie (sections b) (cond used (slots (sections b) (directory_rva b 1)) [])
used_or_not b true e f = slots_lie (sections b) (directory_rva b 1) (directory_size b 1) (used_import b f e)
used_or_not b false e f = tt

pub imports_lie : (b : List ℕ) → bad_import b ≡ false → SlotsLie (sections b) (imports b)
unfolding imports
imports_lie b f = used_or_not b (is_used b 1) refl f
