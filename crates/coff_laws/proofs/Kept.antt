-- Every section and symbol of the file of an object is kept, in its order and under its number.
use Rattle.std.proofs.Common.{◌≡◌, ◌≢◌, ℕ, zero, suc, ◌+◌, ◌-◌, ◌<◌, ◌≤◌, Bool, true, false, cond, not, ◌&&◌, ◌||◌, eqb, ltb, List, [], ◌∷◌, length, refl, sym, ap, subst, ◌∙◌, arith, inl, inr, ◌⊎◌}
use Rattle.std.proofs.lemmas.Bool.{and_parts, not-true, eqb-true, eqb-false, ne_eqb, eq-eqb, cases_eq}
use Rattle.coff_write.specs.declared.object.ObjSymbol.{ObjSymbol}
use Rattle.coff_write.specs.declared.object.HybridRow.{HybridRow}
use Rattle.coff_write.specs.declared.object.Object.{Object}
use Rattle.coff_write.specs.Format.{class_of, hybrid_sections, hybrid_name}
use Rattle.coff_write.specs.Valid.{begins, is_reserved}
use Rattle.file_words.specs.Below.{any_below, count_below}
use Rattle.file_words.proofs.BelowLaws.{any_never, any_found}
use Rattle.coff_fields.specs.Fields.{section_count, site_count, site_symbol, skip_at, in_section}
use Rattle.coff_read.specs.Kept.{is_hybrid, keeps_section, new_section, may_stay, names_in, is_named, stays, new_symbol}
use Rattle.coff_laws_base.specs.Records.{has_more}
use Rattle.coff_laws_base.proofs.Validity.{section_valid}
use Rattle.coff_laws_parts.proofs.SectionReads.{SectionRead}
use Rattle.coff_laws_parts.proofs.SymbolReads.{SymbolRead}
use Rattle.coff_laws_base.proofs.Walks.{OnlyMain, begins_at, count_records}
use Rattle.coff_laws_parts.proofs.FileReads.{IsRead, IsNamed, IsPlaced, placed, record_at, section_at, symbol_at}
use Rattle.coff_laws_parts.proofs.Sites.{SiteRead, site_read, sites_counted}

-- ---- sections

pub section_kept : (o : Object) (b : List ℕ) (i : ℕ) → IsRead o b → i < length o.sections → keeps_section b i ≡ true
unfolding keeps_section
section_kept o b i h lt =
    let read : SectionRead o b i (section_at o i) = h.sections i lt in
    rw (read.name, (section_valid o i h.valid lt).kept, read.flags.gone) refl

hybrid_reserved : is_reserved hybrid_name ≡ true
unfolding is_reserved
hybrid_reserved = refl

pub hybrid_dropped : (o : Object) (b : List ℕ) → IsRead o b → 0 < length o.hybrid → keeps_section b (length o.sections) ≡ false
unfolding keeps_section
hybrid_dropped o b h some = rw ((h.hybrid some).name, hybrid_reserved) refl

reserved_case : (a c d l e f : Bool) → (a || (c || (d || (l && (e || f))))) ≡ false → (l && f) ≡ false
reserved_case true c d l e f h = absurd cc
reserved_case false true d l e f h = absurd cc
reserved_case false false true l e f h = absurd cc
reserved_case false false false false e f h = refl
reserved_case false false false true true f h = absurd cc
reserved_case false false false true false f h = h

other_name : (n : List ℕ) → is_reserved n ≡ false → (eqb (length n) 8 && begins n hybrid_name) ≡ false
unfolding is_reserved
other_name n e =
    reserved_case (begins n (46 ∷ 112 ∷ 100 ∷ 97 ∷ 116 ∷ 97 ∷ [])) (begins n (46 ∷ 120 ∷ 100 ∷ 97 ∷ 116 ∷ 97 ∷ [])) (begins n (46 ∷ 100 ∷ 101 ∷ 98 ∷ 117 ∷ 103 ∷ [])) (eqb (length n) 8)
    (begins n (46 ∷ 100 ∷ 114 ∷ 101 ∷ 99 ∷ 116 ∷ 118 ∷ 101 ∷ [])) (begins n hybrid_name) e

pub section_other : (o : Object) (b : List ℕ) (i : ℕ) → IsRead o b → i < length o.sections → is_hybrid b i ≡ false
unfolding is_hybrid
section_other o b i h lt = rw (h.sections i lt).name (other_name (section_at o i).name (section_valid o i h.valid lt).kept)

pub hybrid_found : (o : Object) (b : List ℕ) → IsRead o b → 0 < length o.hybrid → is_hybrid b (length o.sections) ≡ true
unfolding is_hybrid
hybrid_found o b h some = rw (h.hybrid some).name refl

-- the sections of the file are those of the object, and one of hybrid rows if there are any
hybrid_count : (rs : List HybridRow) → ((length rs ≡ 0) × (hybrid_sections rs ≡ 0)) ⊎ ((0 < length rs) × (hybrid_sections rs ≡ 1))
hybrid_count [] = inl (refl, refl)
hybrid_count (r ∷ rs) = inr (omega arith, rw (ne_eqb (suc (length rs)) 0 (λ e. omega (arith, e))) refl)

pub record Counted (o : Object) (b : List ℕ) : Type 0 where
  pub is : ((length o.hybrid ≡ 0) × (section_count b ≡ length o.sections)) ⊎ ((0 < length o.hybrid) × (section_count b ≡ length o.sections + 1))

pub sections_counted : (o : Object) (b : List ℕ) → IsRead o b → Counted o b
sections_counted o b h = elim (hybrid_count o.hybrid) [
  | inl e ↦ record { is = inl (e.0, omega (arith, h.header.sections, e.1)) }
  | inr e ↦ record { is = inr (e.0, omega (arith, h.header.sections, e.1)) }
]

pub section_within : (o : Object) (b : List ℕ) (i : ℕ) → IsRead o b → i < length o.sections → i < section_count b
section_within o b i h lt = omega (arith, h.header.sections)

-- a test that no section passes
pub no_section_passes : (o : Object) (b : List ℕ) (p : ℕ → Bool) → IsRead o b → ((i : ℕ) → i < length o.sections → p i ≡ false) → (0 < length o.hybrid → p (length o.sections) ≡ false) → any_below p (section_count b) ≡ false
no_section_passes o b p h each last = elim (sections_counted o b h).is [
  | inl e ↦ any_never p (section_count b) (λ i lt. each i (omega (arith, e.1)))
  | inr e ↦ any_never p (section_count b) (λ i lt. elim (cases_eq i (length o.sections)) [
    | inl same ↦ subst (λ (k : ℕ). p k ≡ false) (sym same) (last e.0)
    | inr ne ↦ each i (omega (arith, e.1, ne))
  ])
]

-- ---- symbols

not_file : (e : Bool) → eqb (class_of e) 103 ≡ false
not_file true = refl
not_file false = refl

pub symbol_begins : (o : Object) (b : List ℕ) (k : ℕ) → IsRead o b → k ≤ length o.symbols → skip_at b (record_at o k) ≡ 0
symbol_begins o b k h le = begins_at b (has_more o.sections o.symbols) (length o.symbols) k h.table le

home_kept : (o : Object) (b : List ℕ) (k : ℕ) (s : ObjSymbol) (x : Bool) → IsRead o b → IsPlaced o k s → in_section s.section ≡ x → (not x || keeps_section b (s.section - 1)) ≡ true
home_kept o b k s true h p e = section_kept o b (s.section - 1) h (p.home e).0
home_kept o b k s false h p e = refl

pub symbol_may_stay : (o : Object) (b : List ℕ) (k : ℕ) → IsRead o b → k < length o.symbols → may_stay b (record_at o k) ≡ true
unfolding may_stay
symbol_may_stay o b k h lt =
    let s = symbol_at o k in
    let read : SymbolRead o b k (record_at o k) s = h.symbols k lt in
    rw (symbol_begins o b k h (omega arith), read.class, not_file s.external, read.section) (home_kept o b k s (in_section s.section) h (placed o k h.valid lt) refl)

symbol_named : (o : Object) (b : List ℕ) (k : ℕ) → IsRead o b → IsNamed o k → is_named b (record_at o k) ≡ true
unfolding is_named names_in
symbol_named o b k h n =
    let i = n.section in
    let read : SiteRead o b i n.site _ = site_read o b i n.site h n.within n.counted in
    let same : site_symbol b i n.site ≡ record_at o k = read.symbol ∙ ap (record_at o) n.is in
    let here : any_below (λ r. eqb (site_symbol b i r) (record_at o k)) (site_count b i) ≡ true = any_found (λ r. eqb (site_symbol b i r) (record_at o k)) (site_count b i) n.site (omega (arith, n.counted, sites_counted o b i h n.within)) (eq-eqb _ _ same) in
    any_found (names_in b (record_at o k)) (section_count b) i (section_within o b i h n.within) (rw (section_kept o b i h n.within, here) refl)

stays_case : (o : Object) (b : List ℕ) (k : ℕ) (s : ObjSymbol) (x : Bool) → IsRead o b → IsPlaced o k s → eqb s.section 65535 ≡ x → (not x || is_named b (record_at o k)) ≡ true
stays_case o b k s true h p e = symbol_named o b k h (p.named (eqb-true s.section 65535 e))
stays_case o b k s false h p e = refl

pub symbol_stays : (o : Object) (b : List ℕ) (k : ℕ) → IsRead o b → k < length o.symbols → stays b (record_at o k) ≡ true
unfolding stays
symbol_stays o b k h lt = rw (symbol_may_stay o b k h lt, (h.symbols k lt).section) (stays_case o b k (symbol_at o k) (eqb (symbol_at o k).section 65535) h (placed o k h.valid lt) refl)

pub stays_main : (b : List ℕ) → OnlyMain b (stays b)
unfolding stays may_stay
stays_main b = record { main = λ j ne. rw (ne_eqb (skip_at b j) 0 ne) refl }

pub new_symbol_is : (o : Object) (b : List ℕ) (k : ℕ) → IsRead o b → k ≤ length o.symbols → new_symbol b (record_at o k) ≡ k
unfolding new_symbol
new_symbol_is o b k h le =
    sym (count_records b (has_more o.sections o.symbols) (stays b) k (record { counts = λ i lt. h.table.counts i (omega arith) }) (stays_main b) (λ i lt. symbol_stays o b i h (omega arith)))

-- ---- the numbers of sections

count_all : (p : ℕ → Bool) (n : ℕ) → ((i : ℕ) → i < n → p i ≡ true) → count_below p n ≡ n
unfolding count_below
count_all p zero h = refl
count_all p (suc n) h = rw (h n (omega arith), count_all p n (λ i lt. h i (omega arith))) (omega arith)

new_home : (o : Object) (b : List ℕ) (k : ℕ) (s : ObjSymbol) (x : Bool) → IsRead o b → IsPlaced o k s → in_section s.section ≡ x → cond x (count_below (keeps_section b) (s.section - 1) + 1) s.section ≡ s.section
new_home o b k s true h p e =
    let within = (p.home e).0 in
    let some : s.section ≢ 0 = eqb-false s.section 0 (not-true (eqb s.section 0) (and_parts (not (eqb s.section 0)) (ltb s.section 65534) e).0) in
    let same : count_below (keeps_section b) (s.section - 1) ≡ s.section - 1 = count_all (keeps_section b) (s.section - 1) (λ i lt. section_kept o b i h (omega (arith, within))) in
    omega (arith, same, some)
new_home o b k s false h p e = refl

pub new_section_is : (o : Object) (b : List ℕ) (k : ℕ) → IsRead o b → k < length o.symbols → new_section b (symbol_at o k).section ≡ (symbol_at o k).section
unfolding new_section
new_section_is o b k h lt = new_home o b k (symbol_at o k) (in_section (symbol_at o k).section) h (placed o k h.valid lt) refl
