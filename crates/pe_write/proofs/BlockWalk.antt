-- A walk over blocks of base relocations: which sizes are those of a directory with the sites of an image.
use Rattle.std.proofs.Common.{◌≡◌, ℕ, zero, suc, ◌+◌, ◌-◌, ◌%◌, ◌<◌, ◌≤◌, Bool, true, false, cond, not, ◌&&◌, eqb, ltb, List, [], ◌++◌, length, Option, Some, None, refl, sym, ap, subst, ◌∙◌, append_assoc, arith, add-one, inl, inr}
use Rattle.std.proofs.lemmas.Bool.{both_ways, cases_eq, cases_lt, and_cases, and_from, and_left, and_right, or_parts, or_from, not_from_true, not_from_false, lt-ltb, le-ltb, ltb-false, eqb-false, false_from_ne_true, true_from_ne_false}
use Rattle.std.proofs.lemmas.List.{append-nil, append_cancel_left, nil_from_length}
use Rattle.file_words.specs.Below.{any_below, first_below, or_else, gathered}
use Rattle.file_words.proofs.BelowLaws.{any_found, any_never, none_below, any_step, gathered_yes, first_none, first_kept}
use Rattle.chpe_types.specs.declared.image.Image.{Image}
use Rattle.pe_fields.specs.Space.{is_mapped, rest_at}
use Rattle.pe_fields.specs.Imports.{same_text}
use Rattle.pe_fields.specs.Relocations.{page_of, block_size, bad_type, entry_count, bad_head, bad_block, block_sites, block_place, is_block, is_bad, bad_relocations, sites_in, sites}
use Rattle.pe_fields.proofs.ImportLaws.{first_is}
use Rattle.pe_fields.proofs.BlockLaws.{first_place, next_place, sites_later}
use Rattle.pe_write_laws.specs.Places.{has_sites, size_at}
use Rattle.pe_write_laws.proofs.Alike.{text_same, same_itself}

-- ---- no number below n passes

none_all : (p : ℕ → Bool) (m : ℕ) → ((n : ℕ) → n < m → p n ≡ false) → None ≡ first_below p m
none_all p zero h = first_none p
none_all p (suc m) h = none_all p m (λ n lt. h n (omega arith)) ∙ first_kept p m (h m (omega arith)) ∙ ap (first_below p) (add-one m)

none_parts : (m : ℕ) (o : Option ℕ) (b : Bool) → None ≡ or_else o (cond b (Some m) None) → (None ≡ o) × (b ≡ false)
none_parts m (Some x) b e = absurd cc
none_parts m None true e = absurd cc
none_parts m None false e = (refl, refl)

any_first : (p : ℕ → Bool) (m : ℕ) → None ≡ first_below p m → any_below p m ≡ false
unfolding any_below first_below
any_first p zero e = refl
any_first p (suc m) e = let h = none_parts m (first_below p m) (p m) e in or_from (any_below p m) (p m) (any_first p m h.0) h.1

none_more : (p : ℕ → Bool) (m n : ℕ) → None ≡ first_below p m → ((j : ℕ) → m ≤ j → j < n → p j ≡ false) → None ≡ first_below p n
none_more p m n e h = none_all p n (λ j lt. elim (cases_lt j m) [
  | inl below ↦ none_below p m j (any_first p m e) below
  | inr above ↦ h j above lt
])

-- ---- blocks by themselves

-- block j fails, with no more bytes than its own
abbrev pub alone : List ℕ → ℕ → Bool
alone r j = bad_block r (block_place r j) (block_size r (block_place r j))

-- the sites of the first blocks
abbrev pub sites_before : List ℕ → ℕ → List ℕ
sites_before r k = gathered (λ j. true) (sites_in r) k

pub later : (r : List ℕ) (k j : ℕ) → k ≤ j → block_place r k ≤ block_place r j
unfolding block_place
later r k zero le = let same : k ≡ 0 = omega arith in subst (λ (i : ℕ). block_place r i ≤ 0) (sym same) (omega arith)
later r k (suc j) le = elim (cases_lt j k) [
  | inl lt ↦ let same : k ≡ suc j = omega arith in subst (λ (i : ℕ). block_place r i ≤ block_place r j + block_size r (block_place r j)) (sym same) (omega arith)
  | inr ge ↦ omega (arith, later r k j ge)
]

record Good (r : List ℕ) (p : ℕ) : Type 0 where
  page : not (eqb (page_of r p % 4096) 0) ≡ false
  some : ltb (block_size r p) 8 ≡ false
  whole : not (eqb (block_size r p % 4) 0) ≡ false
  types : any_below (bad_type r p) (entry_count r p) ≡ false

good_parts : (r : List ℕ) (p left : ℕ) → bad_block r p left ≡ false → Good r p × (block_size r p ≤ left)
unfolding bad_block bad_head
good_parts r p left f =
    let g = or_parts (bad_head r p left) _ f in
    let h = or_parts (ltb left 8) _ g.0 in
    let i = or_parts (not (eqb (page_of r p % 4096) 0)) _ h.1 in
    let j = or_parts (ltb (block_size r p) 8) _ i.1 in
    let k = or_parts (not (eqb (block_size r p % 4) 0)) _ j.1 in
    (record { page = i.0; some = j.0; whole = k.0; types = g.1 }, ltb-false left (block_size r p) k.1)

good_from : (r : List ℕ) (p left : ℕ) → Good r p → block_size r p ≤ left → bad_block r p left ≡ false
unfolding bad_block bad_head
good_from r p left g le =
    let eight : 8 ≤ block_size r p = ltb-false (block_size r p) 8 g.some in
    or_from (bad_head r p left) _
    (or_from (ltb left 8) _ (le-ltb left 8 (omega arith)) (or_from (not (eqb (page_of r p % 4096) 0)) _ g.page (or_from (ltb (block_size r p) 8) _ g.some (or_from (not (eqb (block_size r p % 4) 0)) _ g.whole (le-ltb left (block_size r p) le)))))
    g.types

-- with fewer bytes left than a block needs, it is refused
short_bad : (r : List ℕ) (p left : ℕ) → left < block_size r p → bad_block r p left ≡ true
short_bad r p left lt = true_from_ne_false (bad_block r p left) (λ f. let g = good_parts r p left f in omega (arith, g.1))

-- what is refused is refused with fewer bytes
less_bad : (r : List ℕ) (p left less : ℕ) → less ≤ left → bad_block r p left ≡ true → bad_block r p less ≡ true
less_bad r p left less le t = true_from_ne_false (bad_block r p less) (λ f. let g = good_parts r p less f in both_ways (bad_block r p left) (good_from r p left g.0 (omega (arith, g.1))) t)

block_ends : (r : List ℕ) (k j : ℕ) → j < k → block_place r j + block_size r (block_place r j) ≤ block_place r k
block_ends r k j lt = omega (arith, next_place r j (block_place r j) refl, later r (j + 1) k (omega arith))

block_some : (r : List ℕ) (j : ℕ) → alone r j ≡ false → 8 ≤ block_size r (block_place r j)
block_some r j f = let g = good_parts r (block_place r j) (block_size r (block_place r j)) f in ltb-false (block_size r (block_place r j)) 8 g.0.some

-- ---- a directory that ends where a block does

good_there : (r : List ℕ) (k j : ℕ) → any_below (alone r) k ≡ false → is_bad r (block_place r k) j ≡ false
unfolding is_bad is_block
good_there r k j good = elim (cases_lt j k) [
  | inl lt ↦
      let own : alone r j ≡ false = none_below (alone r) k j good lt in
      let g = good_parts r (block_place r j) (block_size r (block_place r j)) own in
      and_right (ltb (block_place r j) (block_place r k)) _ (good_from r (block_place r j) (block_place r k - block_place r j) g.0 (omega (arith, block_ends r k j lt)))
  | inr ge ↦ and_left (ltb (block_place r j) (block_place r k)) _ (le-ltb (block_place r j) (block_place r k) (later r k j ge))
]

pub good_whole : (r : List ℕ) (k : ℕ) → any_below (alone r) k ≡ false → bad_relocations r (block_place r k) ≡ false
unfolding bad_relocations
good_whole r k good = any_never (is_bad r (block_place r k)) (block_place r k) (λ j lt. good_there r k j good)

gathered_same : {X : Type 0} (p q : ℕ → Bool) (f : ℕ → List X) (n : ℕ) → ((i : ℕ) → i < n → p i ≡ q i) → gathered p f n ≡ gathered q f n
unfolding gathered
gathered_same p q f zero h = refl
gathered_same p q f (suc n) h = rw (gathered_same p q f n (λ i lt. h i (omega arith)), h n (omega arith)) refl

-- blocks that begin before an end
before_end : (r : List ℕ) (n k : ℕ) → ((j : ℕ) → j < k → block_place r j < n) → gathered (is_block r n) (sites_in r) k ≡ sites_before r k
unfolding is_block
before_end r n k h = gathered_same (is_block r n) (λ j. true) (sites_in r) k (λ j lt. lt-ltb (block_place r j) n (h j lt))

pub sites_whole : (r : List ℕ) (k : ℕ) → any_below (alone r) k ≡ false → k ≤ block_place r k → sites r (block_place r k) ≡ sites_before r k
unfolding sites
sites_whole r k good le =
    sym (sites_later r (block_place r k) k (block_place r k) (gathered (is_block r (block_place r k)) (sites_in r) k) refl (omega arith) le refl)
    ∙ before_end r (block_place r k) k (λ j lt. omega (arith, block_ends r k j lt, block_some r j (none_below (alone r) k j good lt)))

-- ---- a directory that goes on

front_step : {X : Type 0} (p : ℕ → Bool) (f : ℕ → List X) (m d : ℕ) (rest : List X) → gathered p f (m + d) ≡ gathered p f m ++ rest → gathered p f (m + suc d) ≡ gathered p f m ++ (rest ++ cond (p (m + d)) (f (m + d)) [])
unfolding gathered
front_step p f m d rest e =
    let next : m + suc d ≡ suc (m + d) = omega arith in
    rw (next, e) (append_assoc (gathered p f m) rest (cond (p (m + d)) (f (m + d)) []))

gathered_front : {X : Type 0} (p : ℕ → Bool) (f : ℕ → List X) (m d : ℕ) → (rest : List X) × (gathered p f (m + d) ≡ gathered p f m ++ rest)
gathered_front {X} p f m zero = ([], ap (gathered p f) (omega arith) ∙ sym (append-nil (gathered p f m)))
gathered_front {X} p f m (suc d) =
    let h = gathered_front p f m d in
    let more : List X = cond (p (m + d)) (f (m + d)) [] in
    (h.0 ++ more, front_step p f m d h.0 h.1)

-- the sites begin with those of the first blocks
sites_begin : (r : List ℕ) (n k : ℕ) → k ≤ n → ((j : ℕ) → j < k → block_place r j < n) → (rest : List ℕ) × (sites r n ≡ sites_before r k ++ rest)
unfolding sites
sites_begin r n k le h =
    let g = gathered_front (is_block r n) (sites_in r) k (n - k) in
    let whole : gathered (is_block r n) (sites_in r) n ≡ gathered (is_block r n) (sites_in r) (k + (n - k)) = ap (gathered (is_block r n) (sites_in r)) (omega arith) in
    (g.0, whole ∙ g.1 ∙ ap (λ (xs : List ℕ). xs ++ g.0) (before_end r n k h))

-- block k is refused there
bad_there : (r : List ℕ) (n k : ℕ) → block_place r k < n → k < n → bad_block r (block_place r k) (n - block_place r k) ≡ true → bad_relocations r n ≡ true
unfolding bad_relocations is_bad is_block
bad_there r n k lt k_lt t = any_found (is_bad r n) n k k_lt (and_from (ltb (block_place r k) n) _ (lt-ltb (block_place r k) n lt) t)

-- ---- the walk

-- k blocks up to an end are good, their sites and those left are the image's, and no size before the end does
pub record Walk (i : Image) (a : ℕ) (r : List ℕ) (k e : ℕ) (left : List ℕ) : Type 0 where
  pub end_is : e ≡ block_place r k
  pub within : e ≤ i.size
  pub beyond : k ≤ e
  pub good : any_below (alone r) k ≡ false
  pub sites_are : sites_before r k ++ left ≡ i.sites
  pub none : None ≡ first_below (has_sites i a) e

pub walk_start : (i : Image) (a : ℕ) (r : List ℕ) → Walk i a r 0 0 i.sites
unfolding any_below gathered
walk_start i a r = record { end_is = first_place r; within = omega arith; beyond = omega arith; good = refl; sites_are = refl; none = first_none (has_sites i a) }

has_is : (i : Image) (a n : ℕ) (r : List ℕ) → r ≡ rest_at i.sections a → has_sites i a n ≡ (is_mapped i.sections a n && (not (bad_relocations r n) && same_text (sites r n) i.sites))
has_is i a n r known = ap (λ (q : List ℕ). is_mapped i.sections a n && (not (bad_relocations q n) && same_text (sites q n) i.sites)) (sym known)

lacks_bad : (i : Image) (a n : ℕ) (r : List ℕ) → r ≡ rest_at i.sections a → bad_relocations r n ≡ true → has_sites i a n ≡ false
lacks_bad i a n r known t = has_is i a n r known ∙ and_right (is_mapped i.sections a n) _ (and_left (not (bad_relocations r n)) _ (not_from_true (bad_relocations r n) t))

lacks_text : (i : Image) (a n : ℕ) (r : List ℕ) → r ≡ rest_at i.sections a → same_text (sites r n) i.sites ≡ false → has_sites i a n ≡ false
lacks_text i a n r known f = has_is i a n r known ∙ and_right (is_mapped i.sections a n) _ (and_right (not (bad_relocations r n)) _ f)

module _ (i : Image) (a k e : ℕ) (r left : List ℕ) (walk : Walk i a r k e left) (known : r ≡ rest_at i.sections a) where
  bad_relocations_here : bad_relocations r e ≡ false
  bad_relocations_here = ap (bad_relocations r) walk.end_is ∙ good_whole r k walk.good

  sites_here : sites r e ≡ sites_before r k
  sites_here = ap (sites r) walk.end_is ∙ sites_whole r k walk.good (subst (λ (p : ℕ). k ≤ p) walk.end_is walk.beyond)

  -- the sites so far are all exactly where none is left
  pub walk_found : length left ≡ 0 → is_mapped i.sections a e ≡ true → e < i.size → Some e ≡ size_at i a
  unfolding size_at
  walk_found none there lt =
      let empty : left ≡ [] = nil_from_length left none in
      let all : sites r e ≡ i.sites = sites_here ∙ sym (append-nil (sites_before r k)) ∙ ap (λ (xs : List ℕ). sites_before r k ++ xs) (sym empty) ∙ walk.sites_are in
      let same : same_text (sites r e) i.sites ≡ true = ap (λ (xs : List ℕ). same_text xs i.sites) all ∙ same_itself i.sites in
      let has : has_sites i a e ≡ true = has_is i a e r known ∙ and_from (is_mapped i.sections a e) _ there (and_from (not (bad_relocations r e)) _ (not_from_false (bad_relocations r e) bad_relocations_here) same) in
      first_is (has_sites i a) e i.size walk.none has lt

  pub walk_ended : i.size ≤ e → None ≡ size_at i a
  unfolding size_at
  walk_ended le = let same : e ≡ i.size = omega (arith, walk.within) in walk.none ∙ ap (first_below (has_sites i a)) same

  not_here : false ≡ (eqb (length left) 0 && is_mapped i.sections a e) → has_sites i a e ≡ false
  not_here f = elim (and_cases (eqb (length left) 0) (is_mapped i.sections a e) (sym f)) [
    | inl some ↦ lacks_text i a e r known (false_from_ne_true (same_text (sites r e) i.sites) (λ t.
        let all : sites_before r k ++ [] ≡ sites_before r k ++ left = append-nil (sites_before r k) ∙ sym sites_here ∙ text_same (sites r e) i.sites t ∙ sym walk.sites_are in
        let none : [] ≡ left = append_cancel_left (sites_before r k) [] left all in
        eqb-false (length left) 0 some (ap length (sym none))))
    | inr away ↦ and_left (is_mapped i.sections a e) _ away
  ]

  -- no size from here on up to an end is one
  lacks_until : (m : ℕ) → false ≡ (eqb (length left) 0 && is_mapped i.sections a e) → ((n : ℕ) → e < n → n < m → has_sites i a n ≡ false) → None ≡ first_below (has_sites i a) m
  lacks_until m f h = none_more (has_sites i a) e m walk.none (λ n le lt. elim (cases_eq n e) [
    | inl same ↦ ap (has_sites i a) same ∙ not_here f
    | inr other ↦ h n (omega (arith, other)) lt
  ])

  bad_from : (n : ℕ) → e < n → bad_block r e (n - e) ≡ true → has_sites i a n ≡ false
  bad_from n lt t = lacks_bad i a n r known (bad_there r n k (omega (arith, walk.end_is)) (omega (arith, walk.beyond)) (ap (λ (p : ℕ). bad_block r p (n - p)) (sym walk.end_is) ∙ t))

  pub walk_bad : false ≡ (eqb (length left) 0 && is_mapped i.sections a e) → true ≡ bad_block r e (i.size - e) → None ≡ size_at i a
  unfolding size_at
  walk_bad f t = lacks_until i.size f (λ n lt below. bad_from n lt (less_bad r e (i.size - e) (n - e) (omega arith) (sym t)))

  module _ (whole : false ≡ (eqb (length left) 0 && is_mapped i.sections a e)) (lt : e < i.size) (block : false ≡ bad_block r e (i.size - e)) where
    own : alone r k ≡ false
    own = let g = good_parts r e (i.size - e) (sym block) in
        subst (λ (p : ℕ). bad_block r p (block_size r p) ≡ false) walk.end_is (good_from r e (block_size r e) g.0 (omega arith))

    next_is : e + block_size r e ≡ block_place r (k + 1)
    next_is = next_place r k e walk.end_is

    eight : 8 ≤ block_size r e
    eight = let g = good_parts r e (i.size - e) (sym block) in ltb-false (block_size r e) 8 g.0.some

    lacks_within : (n : ℕ) → e < n → n < e + block_size r e → has_sites i a n ≡ false
    lacks_within n low high = bad_from n low (short_bad r e (n - e) (omega arith))

    sites_next : (ys : List ℕ) → ys ≡ block_sites r e → sites_before r k ++ ys ≡ sites_before r (k + 1)
    sites_next ys is = gathered_yes (λ j. true) (sites_in r) k (sites_before r k) ys refl refl (is ∙ ap (block_sites r) walk.end_is)

    pub walk_next : (ys rest : List ℕ) → ys ≡ block_sites r e → ys ++ rest ≡ left → Walk i a r (k + 1) (e + block_size r e) rest
    walk_next ys rest is parts =
        let g = good_parts r e (i.size - e) (sym block) in
        record {
          end_is = next_is;
          within = omega (arith, g.1);
          beyond = omega (arith, eight, walk.beyond);
          good = sym (any_step (alone r) k false false (sym walk.good) (sym own));
          sites_are = ap (λ (xs : List ℕ). xs ++ rest) (sym (sites_next ys is)) ∙ append_assoc (sites_before r k) ys rest ∙ ap (λ (xs : List ℕ). sites_before r k ++ xs) parts ∙ walk.sites_are;
          none = lacks_until (e + block_size r e) whole lacks_within;
        }

    -- a later block begins after this one
    pub walk_other : (ys : List ℕ) → ys ≡ block_sites r e → ((rest : List ℕ) → ys ++ rest ≡ left → ⊥) → None ≡ size_at i a
    unfolding size_at
    walk_other ys is never = lacks_until i.size whole (λ n low high.
        lacks_text i a n r known (false_from_ne_true (same_text (sites r n) i.sites) (λ t.
        let b = sites_begin r n (k + 1) (omega (arith, walk.beyond)) (λ j j_lt. omega (arith, later r j k (omega arith), walk.end_is)) in
        never b.0 (append_cancel_left (sites_before r k) (ys ++ b.0) left (sym (append_assoc (sites_before r k) ys b.0) ∙ ap (λ (xs : List ℕ). xs ++ b.0) (sites_next ys is) ∙ sym b.1 ∙ text_same (sites r n) i.sites t ∙ sym walk.sites_are)))))
