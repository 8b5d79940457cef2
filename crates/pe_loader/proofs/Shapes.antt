-- What the loader writes leaves all regions where they are and as long as they are.
use Rattle.std.proofs.Common.{◌≡◌, ℕ, ◌+◌, ◌-◌, ◌^◌, ◌<◌, ◌≤◌, true, false, ◌&&◌, ◌||◌, cond, leb, ltb, List, [], ◌∷◌, length, length-append, get_or, take, drop, Option, Some, None, is_some, refl, sym, ap, ap₂, subst, ◌∙◌, arith}
use Rattle.std.proofs.lemmas.Bool.{cond-true, cond-false, leb-true, le-leb, and_parts, false≢true}
use Rattle.std.proofs.lemmas.List.{length-replicate, drop_more}
use Rattle.hx_words.specs.LittleEndian.{bytes_of, number_of}
use Rattle.hx_words.proofs.LittleEndianLaws.{length-bytes_of}
use Rattle.hx_mem.specs.Segments.{Segment}
use Rattle.hx_mem.specs.Space.{has, splice, read, read_in, end_of}
use Rattle.hx_mem.proofs.Splices.{length-splice}
use Rattle.hx_mem.specs.Found.{IsFoundAt}
use Rattle.hx_mem.proofs.First.{read_of_region, region_at_place}
use Rattle.hx_mem.proofs.Writes.{has-true, has_from, has_above}
use Rattle.chpe_types.specs.declared.image.Image.{Image}
use Rattle.chpe_types.specs.declared.image.ImageSection.{ImageSection}
use Rattle.chpe_types.specs.declared.image.ImportSlot.{ImportSlot}
use Rattle.x64_exec.specs.Words.{plus, minus}
use Rattle.machine_rules.specs.declared.places.Service.{Service}
use Rattle.machine_rules.specs.Layout.{service_named, address_of}
use Rattle.machine_rules.specs.Loads.{zeros, contents_of, segment_of, segments_of, overwritten, sum_over, relocated_at, relocated, with_service, bound, base_allowed, loaded_segments}
use Rattle.pe_loader.specs.Loading.{HoldNoMore, InOrder, StandFrom, Holds, SlotsHold, SlotsLie, CanLoad}
use Rattle.pe_loader.specs.Refusals.{lies_in, lies_in_one}

abbrev pub SameShape : List Segment → List Segment → Type 0
SameShape [] [] = Unit {0}
SameShape [] (s ∷ ss) = ⊥
SameShape (r ∷ rs) [] = ⊥
SameShape (r ∷ rs) (s ∷ ss) = (s.start ≡ r.start) × (length s.bytes ≡ length r.bytes) × SameShape rs ss

pub same_shape : (rs : List Segment) → SameShape rs rs
same_shape [] = tt
same_shape (r ∷ rs) = (refl, refl, same_shape rs)

pub then_shape : (rs ss ts : List Segment) → SameShape rs ss → SameShape ss ts → SameShape rs ts
then_shape [] [] [] p q = tt
then_shape [] [] (t ∷ ts) p q = absurd q
then_shape [] (s ∷ ss) ts p q = absurd p
then_shape (r ∷ rs) [] ts p q = absurd p
then_shape (r ∷ rs) (s ∷ ss) [] p q = absurd q
then_shape (r ∷ rs) (s ∷ ss) (t ∷ ts) p q = (q.0 ∙ p.0, q.1 ∙ p.1, then_shape rs ss ts p.2 q.2)

-- what depends on places and lengths alone
has-shape : (r s : Segment) (a : ℕ) → s.start ≡ r.start → length s.bytes ≡ length r.bytes → has s a ≡ has r a
unfolding has
has-shape r s a e f = ap₂ (λ x n. leb x a && ltb a (x + n)) e f

some_in : (r : Segment) (a n : ℕ) → is_some (read_in r a n) ≡ leb (a + n) (end_of r)
unfolding read_in
some_in r a n =
    elim (leb (a + n) (end_of r)) as (λ c. is_some (cond c (Some (take n (drop (a - r.start) r.bytes))) None) ≡ c) [
      | true ↦ refl
      | false ↦ refl
    ]

pub some-shape : (rs ss : List Segment) (a n : ℕ) → SameShape rs ss → is_some (read ss a n) ≡ is_some (read rs a n)
some-shape [] [] a n p = refl
some-shape [] (s ∷ ss) a n p = absurd p
some-shape (r ∷ rs) [] a n p = absurd p
some-shape (r ∷ rs) (s ∷ ss) a n p =
    ap (λ c. is_some (cond c (read_in s a n) (read ss a n))) (has-shape r s a p.0 p.1)
    ∙ elim (has r a) as (λ c. is_some (cond c (read_in s a n) (read ss a n)) ≡ is_some (cond c (read_in r a n) (read rs a n))) [
      | true ↦ some_in s a n ∙ ap₂ (λ x k. leb (a + n) (x + k)) p.0 p.1 ∙ sym (some_in r a n)
      | false ↦ some-shape rs ss a n p.2
    ]

pub Slots-shape : (base : ℕ) (slots : List ImportSlot) (rs ss : List Segment) → SameShape rs ss → SlotsHold base slots rs → SlotsHold base slots ss
Slots-shape base [] rs ss p h = tt
Slots-shape base (slot ∷ slots) rs ss p h = (some-shape rs ss (base + slot.rva) 8 p ∙ h.0, Slots-shape base slots rs ss p h.1)

pub Stand-shape : (from to : ℕ) (rs ss : List Segment) → SameShape rs ss → StandFrom from to rs → StandFrom from to ss
Stand-shape from to [] [] p h = tt
Stand-shape from to [] (s ∷ ss) p h = absurd p
Stand-shape from to (r ∷ rs) [] p h = absurd p
Stand-shape from to (r ∷ rs) (s ∷ ss) p h =
    let e : end_of s ≡ end_of r = ap₂ (λ x n. x + n) p.0 p.1 in
    (subst (λ x. from ≤ x) (sym p.0) h.0, subst (λ x. x ≤ to) (sym e) h.1, subst (λ x. StandFrom x to ss) (sym e) (Stand-shape (end_of r) to rs ss p.2 h.2))

-- writes keep the shape
pub fits_of : (rs : List Segment) (a : ℕ) (r : Segment) (ss : List Segment) → rs ≡ r ∷ ss → has r a ≡ true → Holds rs a → a + 8 ≤ end_of r
fits_of rs a r ss e h some =
    let here : is_some (read (r ∷ ss) a 8) ≡ true = ap (λ l. is_some (read l a 8)) (sym e) ∙ some in
    leb-true _ _ (sym (some_in r a 8) ∙ sym (ap is_some (cond-true (has r a) (read_in r a 8) (read ss a 8) h)) ∙ here)

pub fits_at : (rs : List Segment) (a i : ℕ) (d : Segment) → IsFoundAt rs a i → Holds rs a → a + 8 ≤ end_of (get_or rs i d)
fits_at rs a i d f h =
    leb-true _ _ (sym (some_in (get_or rs i d) a 8) ∙ sym (ap is_some (read_of_region rs a 8 (get_or rs i d) (region_at_place rs a i f d))) ∙ h)

pub shape-overwritten : (rs : List Segment) (a v : ℕ) → Holds rs a → SameShape rs (overwritten rs a (bytes_of 8 v))
shape-overwritten [] a v h = tt
shape-overwritten (r ∷ rs) a v h =
    elim (has r a) as (λ c. has r a ≡ c → SameShape (r ∷ rs) (cond c (record r { bytes = splice r.bytes (a - r.start) (bytes_of 8 v) } ∷ rs) (r ∷ overwritten rs a (bytes_of 8 v)))) [
      | true ↦ λ e.
          let long : length (bytes_of 8 v) ≡ 8 = length-bytes_of 8 v in
          let fits : a + 8 ≤ end_of r = fits_of (r ∷ rs) a r rs refl e h in
          (refl, length-splice r.bytes (a - r.start) (bytes_of 8 v) (omega (arith, long, fits, has-true r a e)), same_shape rs)
      | false ↦ λ e. (refl, refl, shape-overwritten rs a v (sym (ap is_some (cond-false (has r a) (read_in r a 8) (read rs a 8) e)) ∙ h))
    ] refl

pub shape-relocated_at : (rs : List Segment) (a delta : ℕ) → SameShape rs (relocated_at a delta rs)
shape-relocated_at rs a delta =
    elim (read rs a 8) as (λ o. read rs a 8 ≡ o → SameShape rs (sum_over rs a delta o)) [
      | Some bytes ↦ λ e. shape-overwritten rs a (plus (number_of bytes) delta) (ap is_some e)
      | None ↦ λ e. same_shape rs
    ] refl

pub shape-relocated : (base delta : ℕ) (sites : List ℕ) (rs : List Segment) → SameShape rs (relocated base delta sites rs)
shape-relocated base delta [] rs = same_shape rs
shape-relocated base delta (site ∷ sites) rs =
    then_shape rs (relocated_at (base + site) delta rs) (relocated base delta sites (relocated_at (base + site) delta rs)) (shape-relocated_at rs (base + site) delta) (shape-relocated base delta sites (relocated_at (base + site) delta rs))

pub shape-with_service : (service : Option Service) (a : ℕ) (rs : List Segment) → Holds rs a → SameShape rs (with_service service a rs)
shape-with_service (Some service) a rs h = shape-overwritten rs a (address_of service) h
shape-with_service None a rs h = same_shape rs

pub shape-bound : (base : ℕ) (slots : List ImportSlot) (rs : List Segment) → SlotsHold base slots rs → SameShape rs (bound base slots rs)
shape-bound base [] rs h = same_shape rs
shape-bound base (slot ∷ slots) rs h =
    let next : List Segment = with_service (service_named slot.name) (base + slot.rva) rs in
    let p : SameShape rs next = shape-with_service (service_named slot.name) (base + slot.rva) rs h.0 in
    then_shape rs next (bound base slots next) p (shape-bound base slots next (Slots-shape base slots rs next p h.1))

-- one more slot
module _ (base k : ℕ) (slots : List ImportSlot) (slot : ImportSlot) (rs : List Segment) (l : k < length slots) (at : slot ≡ get_or slots k slot) where
  left : drop k slots ≡ slot ∷ drop (k + 1) slots
  left = drop_more slots k slot l ∙ ap (λ s. s ∷ drop (k + 1) slots) (sym at)

  slots_now : SlotsHold base (drop k slots) rs → SlotsHold base (slot ∷ drop (k + 1) slots) rs
  slots_now h = subst (λ ss. SlotsHold base ss rs) left h

  pub slot_now : SlotsHold base (drop k slots) rs → Holds rs (base + slot.rva)
  slot_now h = (slots_now h).0

  pub bound_then : (next whole : List Segment) → next ≡ with_service (service_named slot.name) (base + slot.rva) rs → bound base (drop k slots) rs ≡ whole → bound base (drop (k + 1) slots) next ≡ whole
  bound_then next whole is e = ap (bound base (drop (k + 1) slots)) is ∙ sym (ap (λ ss. bound base ss rs) left) ∙ e

  pub slots_then : (next : List Segment) → next ≡ with_service (service_named slot.name) (base + slot.rva) rs → SlotsHold base (drop k slots) rs → SlotsHold base (drop (k + 1) slots) next
  slots_then next is h =
      let p : SameShape rs (with_service (service_named slot.name) (base + slot.rva) rs) = shape-with_service (service_named slot.name) (base + slot.rva) rs (slot_now h) in
      subst (λ ss. SlotsHold base (drop (k + 1) slots) ss) (sym is) (Slots-shape base (drop (k + 1) slots) rs _ p (slots_now h).1)

-- sections as regions
length-zeros : (n : ℕ) → length (zeros n) ≡ n
unfolding zeros
length-zeros n = length-replicate n 0

pub end_of_section : (base : ℕ) (s : ImageSection) → length s.bytes ≤ s.size → end_of (segment_of base s) ≡ base + s.rva + s.size
end_of_section base s h =
    let long : length (contents_of s) ≡ s.size = length-append s.bytes (zeros (s.size - length s.bytes)) ∙ ap (λ n. length s.bytes + n) (length-zeros (s.size - length s.bytes)) ∙ (let e : length s.bytes + (s.size - length s.bytes) ≡ s.size = omega arith in e) in
    ap (λ n. base + s.rva + n) long

sections_stand : (base from to : ℕ) (ss : List ImageSection) → InOrder from to ss → HoldNoMore ss → base + to ≤ 2 ^ 46 → StandFrom (base + from) (2 ^ 46) (segments_of base ss)
sections_stand base from to [] o h l = tt
sections_stand base from to (s ∷ ss) o h l =
    let e : end_of (segment_of base s) ≡ base + s.rva + s.size = end_of_section base s h.0 in (
      omega (arith, o.0),
      subst (λ x. x ≤ 2 ^ 46) (sym e) (omega (arith, o.1, l)),
      subst (λ x. StandFrom x (2 ^ 46) (segments_of base ss)) (let q : base + (s.rva + s.size) ≡ end_of (segment_of base s) = omega (arith, e) in q) (sections_stand base (s.rva + s.size) to ss o.2 h.1 l),
    )

stand_lower : (from lower to : ℕ) (rs : List Segment) → lower ≤ from → StandFrom from to rs → StandFrom lower to rs
stand_lower from lower to [] l h = tt
stand_lower from lower to (r ∷ rs) l h = (omega (arith, l, h.0), h.1, h.2)

pub all_stand : (base size : ℕ) (ss : List ImageSection) → InOrder 0 size ss → HoldNoMore ss → base + size ≤ 2 ^ 46 → StandFrom 0 (2 ^ 46) (segments_of base ss)
all_stand base size ss o h l = stand_lower (base + 0) 0 (2 ^ 46) (segments_of base ss) (omega arith) (sections_stand base 0 size ss o h l)

-- the slots of an image that may be loaded
lies_from : (from to : ℕ) (ss : List ImageSection) (rva : ℕ) → InOrder from to ss → lies_in_one ss rva ≡ true → from ≤ rva
lies_from from to [] rva o e = absurd (false≢true e)
lies_from from to (s ∷ ss) rva o e =
    elim (lies_in rva s) as (λ c. lies_in rva s ≡ c → (c || lies_in_one ss rva) ≡ true → from ≤ rva) [
      | true ↦ λ h k. let p : (leb s.rva rva ≡ true) × (leb (rva + 8) (s.rva + s.size) ≡ true) = and_parts _ _ h in omega (arith, leb-true _ _ p.0, o.0)
      | false ↦ λ h k. omega (arith, lies_from (s.rva + s.size) to ss rva o.2 k, o.0)
    ] refl e

has_section : (base : ℕ) (s : ImageSection) (rva : ℕ) → length s.bytes ≤ s.size → lies_in rva s ≡ true → has (segment_of base s) (base + rva) ≡ true
has_section base s rva h e =
    let p : (leb s.rva rva ≡ true) × (leb (rva + 8) (s.rva + s.size) ≡ true) = and_parts _ _ e in
    let e : end_of (segment_of base s) ≡ base + s.rva + s.size = end_of_section base s h in
    has_from (segment_of base s) (base + rva) (omega (arith, leb-true _ _ p.0)) (omega (arith, e, leb-true _ _ p.1))

slot_holds : (base from to : ℕ) (ss : List ImageSection) (rva : ℕ) → InOrder from to ss → HoldNoMore ss → lies_in_one ss rva ≡ true → Holds (segments_of base ss) (base + rva)
slot_holds base from to [] rva o h e = absurd (false≢true e)
slot_holds base from to (s ∷ ss) rva o h e =
    let r : Segment = segment_of base s in
    let last : end_of r ≡ base + s.rva + s.size = end_of_section base s h.0 in
    elim (lies_in rva s) as (λ c. lies_in rva s ≡ c → (c || lies_in_one ss rva) ≡ true → Holds (r ∷ segments_of base ss) (base + rva)) [
      | true ↦ λ q k.
          let p : (leb s.rva rva ≡ true) × (leb (rva + 8) (s.rva + s.size) ≡ true) = and_parts _ _ q in
          ap is_some (cond-true (has r (base + rva)) (read_in r (base + rva) 8) (read (segments_of base ss) (base + rva) 8) (has_section base s rva h.0 q))
          ∙ some_in r (base + rva) 8 ∙ le-leb _ _ (omega (arith, last, leb-true _ _ p.1))
      | false ↦ λ q k.
          let past : s.rva + s.size ≤ rva = lies_from (s.rva + s.size) to ss rva o.2 k in
          ap is_some (cond-false (has r (base + rva)) (read_in r (base + rva) 8) (read (segments_of base ss) (base + rva) 8) (has_above r (base + rva) (omega (arith, last, past))))
          ∙ slot_holds base (s.rva + s.size) to ss rva o.2 h.1 k
    ] refl e

pub slots_hold : (base size : ℕ) (ss : List ImageSection) (slots : List ImportSlot) → InOrder 0 size ss → HoldNoMore ss → SlotsLie ss slots → SlotsHold base slots (segments_of base ss)
slots_hold base size ss [] o h l = tt
slots_hold base size ss (slot ∷ slots) o h l = (slot_holds base 0 size ss slot.rva o h l.0, slots_hold base size ss slots o h l.1)

-- of an image that may be loaded
pub ends_low : (size base : ℕ) → base_allowed size base ≡ true → base + size ≤ 2 ^ 46
ends_low size base h = leb-true _ _ (and_parts _ _ (and_parts _ _ h).1).1

pub image_slots : (i : Image) (base : ℕ) → CanLoad i → SlotsHold base i.imports (segments_of base i.sections)
image_slots i base can = slots_hold base i.size i.sections i.imports can.order can.contents can.slots

pub image_stands : (i : Image) (base : ℕ) → CanLoad i → base_allowed i.size base ≡ true → StandFrom 0 (2 ^ 46) (loaded_segments i base)
image_stands i base can h =
    let rs : List Segment = segments_of base i.sections in
    let ss : List Segment = relocated base (minus base i.base) i.sites rs in
    let p : SameShape rs ss = shape-relocated base (minus base i.base) i.sites rs in
    let q : SameShape ss (bound base i.imports ss) = shape-bound base i.imports ss (Slots-shape base i.imports rs ss p (image_slots i base can)) in
    Stand-shape 0 (2 ^ 46) rs (bound base i.imports ss) (then_shape rs ss (bound base i.imports ss) p q) (all_stand base i.size i.sections can.order can.contents (ends_low i.size base h))
