-- The object in the file of an object is that object.
use Rattle.std.proofs.Common.{◌≡◌, ℕ, zero, suc, ◌+◌, ◌*◌, ◌/◌, ◌<◌, Bool, true, false, ◌||◌, eqb, List, [], ◌∷◌, length, get_or, refl, sym, ap, ◌∙◌, arith, inl, inr}
use Rattle.std.specs.Prelude.{slice_index}
use Rattle.std.specs.List.{concat}
use Rattle.std.proofs.lemmas.Bool.{cases_Bool, eqb-true}
use Rattle.hx_names.specs.declared.pieces.SiteKind.{SiteKind}
use Rattle.coff_write.specs.declared.object.ObjMachine.{ObjMachine}
use Rattle.coff_write.specs.declared.object.ObjSite.{ObjSite}
use Rattle.coff_write.specs.declared.object.ObjSection.{ObjSection}
use Rattle.coff_write.specs.declared.object.ObjSymbol.{ObjSymbol}
use Rattle.coff_write.specs.declared.object.HybridRow.{HybridRow}
use Rattle.coff_write.specs.declared.object.Object.{Object}
use Rattle.coff_write.specs.Format.{dword, class_of, numbers, hybrid_place, object_bytes}
use Rattle.coff_write.specs.Format as format
use Rattle.file_words.specs.Standing.{Has}
use Rattle.file_words.specs.Below.{table, chosen, gathered}
use Rattle.file_words.proofs.HasLaws.{has_left, dword_has}
use Rattle.file_words.proofs.BelowLaws.{table_is, chosen_no, gathered_none, gathered_yes, gathered_no}
use Rattle.coff_fields.specs.Fields.{section_count, symbol_count, site_count, raw_place, contents_size, has_flag, hybrid_source, hybrid_thunk, hybrid_kind}
use Rattle.coff_fields.specs.Fields as fields
use Rattle.coff_read.specs.Kept.{is_hybrid, keeps_section, stays, new_symbol, new_section}
use Rattle.coff_read.specs.Refusals.{known_or_nothing, site_kind}
use Rattle.coff_read.specs.Objects.{site, section, symbol, hybrid_row, hybrid_rows, object_in}
use Rattle.coff_laws_base.specs.Records.{no_section, no_symbol, no_site, no_row, has_more}
use Rattle.coff_laws_base.proofs.Sizes.{four}
use Rattle.coff_laws_base.proofs.Rows.{has_next}
use Rattle.coff_laws_base.proofs.Validity.{RowValid, row_valid}
use Rattle.coff_laws_parts.proofs.SectionReads.{SectionRead, contents_read}
use Rattle.coff_laws_parts.proofs.SymbolReads.{SymbolRead}
use Rattle.coff_laws_base.proofs.Walks.{chosen_records}
use Rattle.coff_laws_parts.proofs.FileReads.{IsRead, record_at, section_at, symbol_at}
use Rattle.coff_laws_parts.proofs.Sites.{SiteRead, site_read, sites_counted, record_small}
use Rattle.coff_laws.proofs.Kept.{section_kept, hybrid_dropped, section_other, hybrid_found, sections_counted, symbol_stays, stays_main, new_symbol_is, new_section_is}

-- a list is the table of its items
table_of : {X : Type 0} (f : ℕ → X) (xs : List X) (d : X) → ((i : ℕ) → i < length xs → f i ≡ get_or xs i d) → table f (length xs) ≡ xs
table_of f xs d h = sym (table_is f (length xs) xs d refl (λ i lt. sym (h i lt)))

-- ---- sites

same_site : (t : ObjSite) (a s : ℕ) (k : SiteKind) → a ≡ t.at → s ≡ t.symbol → k ≡ t.kind → (let x : ObjSite = record { at = a; symbol = s; kind = k } in x) ≡ t
same_site t a s k e f g = rw (e, f, g) refl

pub kind_read : (o : Object) (b : List ℕ) (i r : ℕ) (t : ObjSite) → SiteRead o b i r t → site_kind b i r ≡ t.kind
unfolding site_kind
kind_read o b i r t h = ap known_or_nothing h.kind

site_is : (o : Object) (b : List ℕ) (i r : ℕ) → IsRead o b → i < length o.sections → r < length (section_at o i).sites → site b i r ≡ get_or (section_at o i).sites r no_site
unfolding site
site_is o b i r h lt rlt =
    let t = get_or (section_at o i).sites r no_site in
    let read : SiteRead o b i r t = site_read o b i r h lt rlt in
    let below : t.symbol < length o.symbols = read.ok.symbol in
    same_site t _ _ _ read.at (ap (new_symbol b) read.symbol ∙ new_symbol_is o b t.symbol h (omega (arith, below))) (kind_read o b i r t read)

-- ---- sections

same_section : (s : ObjSection) (n : List ℕ) (f : ℕ) (c : List ℕ) (z : ℕ) (x : Bool) (t : List ObjSite) → n ≡ s.name → f ≡ s.flags → c ≡ s.bytes → z ≡ s.zeros → x ≡ s.comdat → t ≡ s.sites → (let y : ObjSection = record { name = n; flags = f; bytes = c; zeros = z; comdat = x; sites = t } in y) ≡ s
same_section s n f c z x t e1 e2 e3 e4 e5 e6 = rw (e1, e2, e3, e4, e5, e6) refl

section_is : (o : Object) (b : List ℕ) (i : ℕ) → IsRead o b → i < length o.sections → section b i ≡ section_at o i
unfolding section
section_is o b i h lt =
    let s = section_at o i in
    let read : SectionRead o b i s = h.sections i lt in
    let sites_are : table (site b i) (site_count b i) ≡ s.sites = ap (table (site b i)) (sites_counted o b i h lt) ∙ table_of (site b i) s.sites no_site (λ r rlt. site_is o b i r h lt rlt) in
    same_section s _ _ _ _ _ _ read.name read.flags.back (contents_read o b i s read) read.zeros read.flags.comdat sites_are

chosen_all : {X : Type 0} (p : ℕ → Bool) (f : ℕ → X) (n : ℕ) → ((i : ℕ) → i < n → p i ≡ true) → chosen p f n ≡ table f n
unfolding chosen table
chosen_all p f zero h = refl
chosen_all p f (suc n) h = rw (h n (omega arith), chosen_all p f n (λ i lt. h i (omega arith))) refl

sections_are : (o : Object) (b : List ℕ) → IsRead o b → chosen (keeps_section b) (section b) (section_count b) ≡ o.sections
sections_are o b h =
    let all : chosen (keeps_section b) (section b) (length o.sections) ≡ o.sections = chosen_all (keeps_section b) (section b) (length o.sections) (λ i lt. section_kept o b i h lt) ∙ table_of (section b) o.sections no_section (λ i lt. section_is o b i h lt) in
    elim (sections_counted o b h).is [
      | inl e ↦ ap (chosen (keeps_section b) (section b)) e.1 ∙ all
      | inr e ↦ ap (chosen (keeps_section b) (section b)) e.1 ∙ sym (chosen_no (keeps_section b) (section b) (length o.sections) o.sections (sym all) (hybrid_dropped o b h e.0))
    ]

-- ---- symbols

same_symbol : (s : ObjSymbol) (n : List ℕ) (v m : ℕ) (e : Bool) → n ≡ s.name → v ≡ s.value → m ≡ s.section → e ≡ s.external → (let x : ObjSymbol = record { name = n; value = v; section = m; external = e } in x) ≡ s
same_symbol s n v m e e1 e2 e3 e4 = rw (e1, e2, e3, e4) refl

class_again : (e : Bool) → eqb (class_of e) 2 ≡ e
class_again true = refl
class_again false = refl

symbol_is : (o : Object) (b : List ℕ) (k : ℕ) → IsRead o b → k < length o.symbols → symbol b (record_at o k) ≡ symbol_at o k
unfolding symbol
symbol_is o b k h lt =
    let s = symbol_at o k in
    let read : SymbolRead o b k (record_at o k) s = h.symbols k lt in
    same_symbol s _ _ _ _ read.name read.value (ap (new_section b) read.section ∙ new_section_is o b k h lt) (ap (λ c. eqb c 2) read.class ∙ class_again s.external)

symbols_are : (o : Object) (b : List ℕ) → IsRead o b → chosen (stays b) (symbol b) (symbol_count b) ≡ o.symbols
symbols_are o b h =
    ap (chosen (stays b) (symbol b)) h.count
    ∙ sym (chosen_records b (has_more o.sections o.symbols) (stays b) (symbol b) (length o.symbols) h.table (stays_main b) (λ k lt. symbol_stays o b k h lt))
    ∙ table_of (λ k. symbol b (record_at o k)) o.symbols no_symbol (λ k lt. symbol_is o b k h lt)

-- ---- hybrid rows

record RowParts (b : List ℕ) (p : ℕ) (records : List ℕ) (r : HybridRow) : Type 0 where
  source : Has b p (dword (slice_index records r.source))
  thunk : Has b (p + 4) (dword (slice_index records r.thunk))
  kind : Has b (p + 8) (dword r.kind)

row_parts : (b : List ℕ) (p : ℕ) (records : List ℕ) (r : HybridRow) → Has b p (format.hybrid_row records r) → RowParts b p records r
unfolding format.hybrid_row
row_parts b p records r h =
    let x = dword (slice_index records r.source) in
    let y = dword (slice_index records r.thunk) in
    let z = dword r.kind in
    let f1 = has_next b p (p + 4) x (concat (y ∷ z ∷ [])) (omega (arith, four (slice_index records r.source))) h in
    let f2 = has_next b (p + 4) (p + 8) y (concat (z ∷ [])) (omega (arith, four (slice_index records r.thunk))) f1 in
    record { source = has_left b p x _ h; thunk = has_left b (p + 4) y _ f1; kind = has_left b (p + 8) z [] f2 }

pub record RowRead (o : Object) (b : List ℕ) (r : ℕ) (x : HybridRow) : Type 0 where
  pub source : hybrid_source b (length o.sections) r ≡ record_at o x.source
  pub thunk : hybrid_thunk b (length o.sections) r ≡ record_at o x.thunk
  pub kind : hybrid_kind b (length o.sections) r ≡ x.kind

kind_small : (k : ℕ) → (eqb k 0 || (eqb k 1 || eqb k 4)) ≡ true → k < 4294967296
kind_small k e = elim (cases_Bool (eqb k 0)) [
  | inl y ↦ omega (arith, eqb-true k 0 y)
  | inr n ↦ elim (cases_Bool (eqb k 1)) [
    | inl y ↦ omega (arith, eqb-true k 1 y)
    | inr m ↦ omega (arith, eqb-true k 4 (rw (n, m) at e))
  ]
]

pub row_read : (o : Object) (b : List ℕ) (r : ℕ) → IsRead o b → r < length o.hybrid → RowRead o b r (get_or o.hybrid r no_row)
unfolding hybrid_source hybrid_thunk hybrid_kind fields.hybrid_place
row_read o b r h lt =
    let i = length o.sections in
    let x = get_or o.hybrid r no_row in
    let p = hybrid_place o + 12 * r in
    let ok : RowValid (length o.symbols) x = row_valid o r h.valid lt in
    let parts = row_parts b p (numbers o) x (h.rows r lt) in
    let place : raw_place b i ≡ hybrid_place o = (h.hybrid (omega arith)).contents in
    let source : slice_index (numbers o) x.source ≡ record_at o x.source = h.numbers_are x.source ok.source in
    let thunk : slice_index (numbers o) x.thunk ≡ record_at o x.thunk = h.numbers_are x.thunk ok.thunk in
    record {
      source = rw place (dword_has b p (slice_index (numbers o) x.source) (omega (arith, source, (record_small o b x.source h ok.source).1)) parts.source ∙ source);
      thunk = rw place (dword_has b (p + 4) (slice_index (numbers o) x.thunk) (omega (arith, thunk, (record_small o b x.thunk h ok.thunk).1)) parts.thunk ∙ thunk);
      kind = rw place (dword_has b (p + 8) x.kind (kind_small x.kind ok.kind) parts.kind);
    }

same_row : (x : HybridRow) (s t k : ℕ) → s ≡ x.source → t ≡ x.thunk → k ≡ x.kind → (let y : HybridRow = record { source = s; thunk = t; kind = k } in y) ≡ x
same_row x s t k e f g = rw (e, f, g) refl

row_is : (o : Object) (b : List ℕ) (r : ℕ) → IsRead o b → r < length o.hybrid → hybrid_row b (length o.sections) r ≡ get_or o.hybrid r no_row
unfolding hybrid_row
row_is o b r h lt =
    let x = get_or o.hybrid r no_row in
    let ok : RowValid (length o.symbols) x = row_valid o r h.valid lt in
    let read : RowRead o b r x = row_read o b r h lt in
    let s = ok.source in
    let t = ok.thunk in
    same_row x _ _ _ (ap (new_symbol b) read.source ∙ new_symbol_is o b x.source h (omega (arith, s))) (ap (new_symbol b) read.thunk ∙ new_symbol_is o b x.thunk h (omega (arith, t))) read.kind

pub hybrid_size : (o : Object) (b : List ℕ) → IsRead o b → 0 < length o.hybrid → contents_size b (length o.sections) ≡ 12 * length o.hybrid
unfolding contents_size has_flag
hybrid_size o b h some = rw ((h.hybrid some).flags, (h.hybrid some).size) refl

pub twelfth : (n : ℕ) → 12 * n / 12 ≡ n
twelfth n = omega arith

rows_are : (o : Object) (b : List ℕ) → IsRead o b → 0 < length o.hybrid → hybrid_rows b (length o.sections) ≡ o.hybrid
unfolding hybrid_rows
rows_are o b h some =
    ap (λ n. table (hybrid_row b (length o.sections)) (n / 12)) (hybrid_size o b h some) ∙ ap (table (hybrid_row b (length o.sections))) (twelfth (length o.hybrid)) ∙ table_of (hybrid_row b (length o.sections)) o.hybrid no_row (λ r lt. row_is o b r h lt)

gathered_never : {X : Type 0} (p : ℕ → Bool) (f : ℕ → List X) (n : ℕ) → ((i : ℕ) → i < n → p i ≡ false) → [] ≡ gathered p f n
gathered_never p f zero h = gathered_none p f
gathered_never p f (suc n) h = let same : n + 1 ≡ suc n = omega arith in gathered_no p f n [] (gathered_never p f n (λ i lt. h i (omega arith))) (h n (omega arith)) ∙ ap (gathered p f) same

no_items : {X : Type 0} (xs : List X) → length xs ≡ 0 → [] ≡ xs
no_items [] e = refl
no_items (x ∷ xs) e = absurd (omega (arith, e))

hybrid_are : (o : Object) (b : List ℕ) → IsRead o b → gathered (is_hybrid b) (hybrid_rows b) (section_count b) ≡ o.hybrid
hybrid_are o b h =
    let none : [] ≡ gathered (is_hybrid b) (hybrid_rows b) (length o.sections) = gathered_never (is_hybrid b) (hybrid_rows b) (length o.sections) (λ i lt. section_other o b i h lt) in
    elim (sections_counted o b h).is [
      | inl e ↦ ap (gathered (is_hybrid b) (hybrid_rows b)) e.1 ∙ sym none ∙ no_items o.hybrid e.0
      | inr e ↦ ap (gathered (is_hybrid b) (hybrid_rows b)) e.1 ∙ sym (gathered_yes (is_hybrid b) (hybrid_rows b) (length o.sections) [] o.hybrid none (hybrid_found o b h e.0) (sym (rows_are o b h e.0)))
    ]

-- ---- the object

same_object : (o : Object) (m : ObjMachine) (s : List ObjSection) (t : List ObjSymbol) (r : List HybridRow) → m ≡ o.machine → s ≡ o.sections → t ≡ o.symbols → r ≡ o.hybrid → (let x : Object = record { machine = m; sections = s; symbols = t; hybrid = r } in x) ≡ o
same_object o m s t r e1 e2 e3 e4 = rw (e1, e2, e3, e4) refl

pub object_in_is : (o : Object) (b : List ℕ) → IsRead o b → object_in b ≡ o
unfolding object_in
object_in_is o b h = same_object o _ _ _ _ h.machine (sections_are o b h) (symbols_are o b h) (hybrid_are o b h)
