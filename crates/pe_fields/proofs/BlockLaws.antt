-- Blocks one after the other.
use Rattle.std.proofs.Common.{◌≡◌, ℕ, zero, suc, ◌+◌, ◌-◌, ◌%◌, ◌<◌, ◌≤◌, Bool, true, false, not, ◌&&◌, eqb, ltb, List, [], ◌++◌, refl, sym, ap, subst, ◌∙◌, arith, add-one, inl, inr}
use Rattle.std.proofs.lemmas.Bool.{and_from, and_left, and_right, or_parts, not-false, eqb-true, ltb-false, lt-ltb, le-ltb, cases_lt}
use Rattle.file_words.specs.Below.{any_below, gathered}
use Rattle.file_words.proofs.BelowLaws.{any_found, any_never, none_below, any_none, any_step, gathered_none, gathered_yes, gathered_no}
use Rattle.pe_fields.specs.Relocations.{page_of, block_size, bad_head, bad_block, block_sites, block_place, is_block, is_bad, bad_relocations, sites_in}

pub first_place : (r : List ℕ) → 0 ≡ block_place r 0
unfolding block_place
first_place r = refl

pub next_place : (r : List ℕ) (k p : ℕ) → p ≡ block_place r k → p + block_size r p ≡ block_place r (k + 1)
unfolding block_place
next_place r k p e = rw (add-one, e) refl

pub none_yet : (r : List ℕ) (size : ℕ) → any_below (is_bad r size) 0 ≡ false
none_yet r size = sym (any_none (is_bad r size))

good_here : (r : List ℕ) (size k p : ℕ) → p ≡ block_place r k → bad_block r p (size - p) ≡ false → is_bad r size k ≡ false
unfolding is_bad
good_here r size k p e f = and_right (is_block r size k) _ (ap (λ (q : ℕ). bad_block r q (size - q)) (sym e) ∙ f)

pub none_more : (r : List ℕ) (size k p : ℕ) → p ≡ block_place r k → bad_block r p (size - p) ≡ false → any_below (is_bad r size) k ≡ false → any_below (is_bad r size) (k + 1) ≡ false
none_more r size k p e f h = sym (any_step (is_bad r size) k false false (sym h) (sym (good_here r size k p e f)))

pub bad_here : (r : List ℕ) (size k p : ℕ) → p ≡ block_place r k → p < size → k < size → true ≡ bad_block r p (size - p) → true ≡ any_below (is_bad r size) size
unfolding is_bad is_block
bad_here r size k p e lt k_lt t =
    let here : is_bad r size k ≡ true = and_from (ltb (block_place r k) size) _ (lt-ltb (block_place r k) size (omega arith)) (ap (λ (q : ℕ). bad_block r q (size - q)) (sym e) ∙ sym t) in
    sym (any_found (is_bad r size) size k k_lt here)

later : (r : List ℕ) (k j : ℕ) → k ≤ j → block_place r k ≤ block_place r j
unfolding block_place
later r k zero le = let same : k ≡ 0 = omega arith in subst (λ (i : ℕ). block_place r i ≤ 0) (sym same) (omega arith)
later r k (suc j) le = elim (cases_lt j k) [
  | inl lt ↦ let same : k ≡ suc j = omega arith in subst (λ (i : ℕ). block_place r i ≤ block_place r j + block_size r (block_place r j)) (sym same) (omega arith)
  | inr ge ↦ omega (arith, later r k j ge)
]

past_end : (r : List ℕ) (size k : ℕ) → size ≤ block_place r k → is_bad r size k ≡ false
unfolding is_bad is_block
past_end r size k le = and_left (ltb (block_place r k) size) _ (le-ltb (block_place r k) size le)

-- none after the end of the directory
pub none_later : (r : List ℕ) (size k p : ℕ) → p ≡ block_place r k → size ≤ p → any_below (is_bad r size) k ≡ false → false ≡ any_below (is_bad r size) size
none_later r size k p e le h = sym (any_never (is_bad r size) size (λ j lt. elim (cases_lt j k) [
  | inl below ↦ none_below (is_bad r size) k j h below
  | inr above ↦ past_end r size j (omega (arith, later r k j above))
]))

-- ---- a good block

head_parts : (r : List ℕ) (p left : ℕ) → bad_block r p left ≡ false → bad_head r p left ≡ false
unfolding bad_block
head_parts r p left f = (or_parts (bad_head r p left) _ f).0

-- it passes no end
pub fits : (r : List ℕ) (p left : ℕ) → bad_block r p left ≡ false → block_size r p ≤ left
unfolding bad_head
fits r p left f =
    let h = or_parts (ltb left 8) _ (head_parts r p left f) in
    let i = or_parts (not (eqb (page_of r p % 4096) 0)) _ h.1 in
    let j = or_parts (ltb (block_size r p) 8) _ i.1 in
    let k = or_parts (not (eqb (block_size r p % 4) 0)) _ j.1 in
    ltb-false left (block_size r p) k.1

-- its page is one
pub aligned : (r : List ℕ) (p left : ℕ) → bad_block r p left ≡ false → page_of r p % 4096 ≡ 0
unfolding bad_head
aligned r p left f =
    let h = or_parts (ltb left 8) _ (head_parts r p left f) in
    let i = or_parts (not (eqb (page_of r p % 4096) 0)) _ h.1 in
    eqb-true (page_of r p % 4096) 0 (not-false (eqb (page_of r p % 4096) 0) i.0)

-- ---- the blocks of a directory that isn't refused

pub good_block : (r : List ℕ) (size k p : ℕ) → bad_relocations r size ≡ false → p ≡ block_place r k → p < size → k < size → bad_block r p (size - p) ≡ false
unfolding bad_relocations is_bad is_block
good_block r size k p f e lt k_lt =
    let h : is_bad r size k ≡ false = none_below (is_bad r size) size k f k_lt in
    let there : is_block r size k ≡ true = lt-ltb (block_place r k) size (omega (arith, e)) in
    ap (λ (q : ℕ). bad_block r q (size - q)) e ∙ ap (λ (b : Bool). b && bad_block r (block_place r k) (size - block_place r k)) (sym there) ∙ h

pub block_there : (r : List ℕ) (size k p : ℕ) → p ≡ block_place r k → p < size → is_block r size k ≡ true
unfolding is_block
block_there r size k p e lt = lt-ltb (block_place r k) size (omega (arith, e))

pub sites_none : (r : List ℕ) (size : ℕ) → [] ≡ gathered (is_block r size) (sites_in r) 0
sites_none r size = gathered_none (is_block r size) (sites_in r)

pub sites_more : (r : List ℕ) (size k p : ℕ) (xs ys : List ℕ) → p ≡ block_place r k → p < size → xs ≡ gathered (is_block r size) (sites_in r) k → ys ≡ block_sites r p → xs ++ ys ≡ gathered (is_block r size) (sites_in r) (k + 1)
sites_more r size k p xs ys e lt g h = gathered_yes (is_block r size) (sites_in r) k xs ys g (block_there r size k p e lt) (h ∙ ap (λ (q : ℕ). block_sites r q) e)

not_block : (r : List ℕ) (size k j : ℕ) → size ≤ block_place r k → k ≤ j → is_block r size j ≡ false
unfolding is_block
not_block r size k j le up = le-ltb (block_place r j) size (omega (arith, later r k j up))

sites_until : (r : List ℕ) (size k d : ℕ) (xs : List ℕ) → size ≤ block_place r k → xs ≡ gathered (is_block r size) (sites_in r) k → xs ≡ gathered (is_block r size) (sites_in r) (k + d)
sites_until r size k zero xs le e = e ∙ ap (gathered (is_block r size) (sites_in r)) (omega arith)
sites_until r size k (suc d) xs le e = gathered_no (is_block r size) (sites_in r) (k + d) xs (sites_until r size k d xs le e) (not_block r size k (k + d) le (omega arith)) ∙ ap (gathered (is_block r size) (sites_in r)) (omega arith)

-- no sites after the end of the directory
pub sites_later : (r : List ℕ) (size k p : ℕ) (xs : List ℕ) → p ≡ block_place r k → size ≤ p → k ≤ size → xs ≡ gathered (is_block r size) (sites_in r) k → xs ≡ gathered (is_block r size) (sites_in r) size
sites_later r size k p xs e le k_le g = sites_until r size k (size - k) xs (omega (arith, e)) g ∙ ap (gathered (is_block r size) (sites_in r)) (omega arith)
