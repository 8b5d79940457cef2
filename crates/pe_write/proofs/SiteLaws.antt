-- Sites that are left, and the places of base relocations.
use Rattle.std.proofs.Common.{◌≡◌, ℕ, ◌+◌, ◌-◌, ◌<◌, ◌&&◌, eqb, true, false, List, ◌++◌, length, take, drop, None, refl, sym, ap, subst, ◌∙◌, arith}
use Rattle.std.proofs.lemmas.Bool.{both_ways}
use Rattle.std.proofs.lemmas.List.{length-append, length-drop, take_at, take_all, take-append-drop}
use Rattle.file_words.specs.Below.{first_below}
use Rattle.chpe_types.specs.declared.image.Image.{Image}
use Rattle.pe_fields.specs.Space.{is_mapped, rest_at}
use Rattle.pe_fields.specs.Imports.{same_text}
use Rattle.pe_fields.specs.Relocations.{block_size, bad_block, block_sites}
use Rattle.pe_fields.proofs.ImportLaws.{first_is}
use Rattle.pe_write_laws.specs.Places.{or_zero, is_blocks_place, found_blocks, blocks_place, blocks_size, size_at}
use Rattle.pe_write_laws.proofs.Alike.{text_same, same_itself}
use Rattle.pe_write.proofs.PlaceLaws.{empty_none, some_there}
use Rattle.pe_write.proofs.BlockWalk.{Walk, walk_start, walk_next}

front_whole : (xs : List ℕ) (n : ℕ) → take n xs ++ drop n xs ≡ xs
front_whole xs n = take-append-drop n xs

pub front_some : (xs ys : List ℕ) → true ≡ same_text (take (length ys) xs) ys → ys ++ take (length xs - length ys) (drop (length ys) xs) ≡ xs
front_some xs ys t =
    ap (λ (zs : List ℕ). ys ++ zs) (take_all (length xs - length ys) (drop (length ys) xs) (omega (arith, length-drop (length ys) xs)))
    ∙ ap (λ (zs : List ℕ). zs ++ drop (length ys) xs) (sym (text_same (take (length ys) xs) ys (sym t))) ∙ front_whole xs (length ys)

pub front_short : (xs ys rest : List ℕ) → length xs < length ys → ys ++ rest ≡ xs → ⊥
front_short xs ys rest lt e = omega (arith, length-append ys rest, ap length e)

pub front_other : (xs ys rest : List ℕ) → false ≡ same_text (take (length ys) xs) ys → ys ++ rest ≡ xs → ⊥
front_other xs ys rest f e =
    let front : take (length ys) xs ≡ ys = ap (take (length ys)) (sym e) ∙ take_at ys rest (length ys) refl in
    both_ways (same_text (take (length ys) xs) ys) (sym f) (ap (λ (zs : List ℕ). same_text zs ys) front ∙ same_itself ys)

pub walk_begun : (i : Image) (a : ℕ) (r left : List ℕ) → left ≡ i.sites → Walk i a r 0 0 left
walk_begun i a r left e = rw e (walk_start i a r)

pub walk_on : (i : Image) (a k e : ℕ) (r left : List ℕ) → Walk i a r k e left → r ≡ rest_at i.sections a → false ≡ (eqb (length left) 0 && is_mapped i.sections a e) → e < i.size → false ≡ bad_block r e (i.size - e) → (ys rest : List ℕ) (n : ℕ) → n ≡ block_size r e → ys ≡ block_sites r e → ys ++ rest ≡ left → Walk i a r (k + 1) (e + n) rest
walk_on i a k e r left walk known whole lt block ys rest n size is parts =
    subst (λ (m : ℕ). Walk i a r (k + 1) (e + m) rest) (sym size) (walk_next i a k e r left walk known whole lt block ys rest is parts)

pub blocks_first : (i : Image) (k : ℕ) → None ≡ first_below (is_blocks_place i) k → is_blocks_place i k ≡ true → k < i.size → k ≡ found_blocks i
unfolding found_blocks
blocks_first i k e t lt = ap or_zero (first_is (is_blocks_place i) k i.size e t lt)

pub blocks_none : (i : Image) → None ≡ first_below (is_blocks_place i) i.size → 0 ≡ found_blocks i
unfolding found_blocks
blocks_none i e = ap or_zero e

pub blocks_unused : (i : Image) → length i.sites ≡ 0 → 0 ≡ blocks_place i
blocks_unused i e = empty_none i.sites (found_blocks i) e

pub blocks_used : (i : Image) → 0 < length i.sites → found_blocks i ≡ blocks_place i
blocks_used i lt = some_there i.sites (found_blocks i) lt

pub size_unused : (i : Image) → length i.sites ≡ 0 → 0 ≡ blocks_size i
size_unused i e = empty_none i.sites (or_zero (size_at i (found_blocks i))) e

pub size_used : (i : Image) (place : ℕ) → 0 < length i.sites → place ≡ blocks_place i → or_zero (size_at i place) ≡ blocks_size i
size_used i place lt e = ap (λ (p : ℕ). or_zero (size_at i p)) (e ∙ sym (blocks_used i lt)) ∙ some_there i.sites (or_zero (size_at i (found_blocks i))) lt
