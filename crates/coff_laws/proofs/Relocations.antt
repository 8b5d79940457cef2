-- No refusal of relocation records or of hybrid rows holds in the file of an object.
use Rattle.std.proofs.Common.{◌≡◌, ℕ, ◌+◌, ◌*◌, ◌/◌, ◌%◌, ◌<◌, ◌≤◌, Bool, true, false, not, ◌&&◌, eqb, ltb, List, length, get_or, refl, ap, arith}
use Rattle.std.proofs.lemmas.Bool.{and_right, lt-ltb, le-ltb, ltb-true, or_from}
use Rattle.coff_write.specs.declared.object.ObjSection.{ObjSection}
use Rattle.coff_write.specs.declared.object.Object.{Object}
use Rattle.coff_write.specs.Format.{overflows, row_count}
use Rattle.coff_write.specs.Valid.{site_size}
use Rattle.file_words.specs.Below.{any_below}
use Rattle.file_words.proofs.BelowLaws.{any_never}
use Rattle.coff_fields.specs.Fields.{section_count, symbol_count, rows_place, contents_size, site_count, site_at, site_symbol, site_type, machine_of, hybrid_source, hybrid_thunk, hybrid_kind}
use Rattle.coff_fields.specs.Fields as fields
use Rattle.coff_read.specs.Kept.{keeps_section, may_stay}
use Rattle.coff_read.specs.Refusals.{bad_rows, bad_relocation_range, is_known, site_kind, bad_type, bad_types, bad_relocation_kind, bad_place, bad_places, bad_relocation_place, bad_index, is_row_kind, bad_row, bad_hybrid, bad_hybrid_record}
use Rattle.coff_laws_base.specs.Records.{no_site, no_row}
use Rattle.coff_laws_base.proofs.Validity.{RowValid, row_valid}
use Rattle.coff_laws_parts.proofs.SectionReads.{SectionRead, enough_rows, overflow_read, row_count_read}
use Rattle.coff_laws_parts.proofs.FileReads.{IsRead, record_at, section_at}
use Rattle.coff_laws_parts.proofs.Sites.{SiteRead, site_read, sites_counted, record_small}
use Rattle.coff_laws.proofs.Kept.{hybrid_dropped, section_other, no_section_passes, symbol_may_stay, symbol_stays}
use Rattle.coff_laws.proofs.ObjectReads.{kind_read, RowRead, row_read, hybrid_size, twelfth}

-- a test of kept sections
kept_alone : (o : Object) (b : List ℕ) (x : Bool) → IsRead o b → 0 < length o.hybrid → (keeps_section b (length o.sections) && x) ≡ false
kept_alone o b x h some = rw (hybrid_dropped o b h some) refl

-- ---- the ranges of relocation records

overflow_case : (s : ObjSection) (x : Bool) (size place : ℕ) → overflows s ≡ x → place + 10 * row_count s ≤ size → (x && ltb size (place + 10)) ≡ false
overflow_case s true size place e le = let many : 65534 < length s.sites = ltb-true 65534 (length s.sites) e in le-ltb size (place + 10) (omega (arith, le, many, enough_rows s))
overflow_case s false size place e le = refl

rows_good : (o : Object) (b : List ℕ) (i : ℕ) → IsRead o b → i < length o.sections → bad_rows b i ≡ false
unfolding bad_rows
rows_good o b i h lt =
    let s = section_at o i in
    let read : SectionRead o b i s = h.sections i lt in
    let within = read.rows_within in
    and_right _ _ (or_from _ _ (rw (overflow_read o b i s read) (overflow_case s (overflows s) (length b) (rows_place b i) refl within)) (le-ltb (length b) (rows_place b i + 10 * fields.row_count b i) (omega (arith, row_count_read o b i s h.small read, within))))

pub ranges_good : (o : Object) (b : List ℕ) → IsRead o b → bad_relocation_range b ≡ false
unfolding bad_relocation_range bad_rows
ranges_good o b h = no_section_passes o b (bad_rows b) h (λ i lt. rows_good o b i h lt) (λ some. kept_alone o b _ h some)

-- ---- the kinds of relocations

type_good : (o : Object) (b : List ℕ) (i r : ℕ) → IsRead o b → i < length o.sections → r < length (section_at o i).sites → bad_type b i r ≡ false
unfolding bad_type
type_good o b i r h lt rlt = ap (λ k. not (is_known k)) (site_read o b i r h lt rlt).kind

types_good : (o : Object) (b : List ℕ) (i : ℕ) → IsRead o b → i < length o.sections → bad_types b i ≡ false
unfolding bad_types
types_good o b i h lt = and_right _ _ (any_never (bad_type b i) (site_count b i) (λ r rlt. type_good o b i r h lt (omega (arith, rlt, sites_counted o b i h lt))))

pub types_known : (o : Object) (b : List ℕ) → IsRead o b → bad_relocation_kind b ≡ false
unfolding bad_relocation_kind bad_types
types_known o b h = no_section_passes o b (bad_types b) h (λ i lt. types_good o b i h lt) (λ some. kept_alone o b _ h some)

-- ---- the places of relocations

place_good : (o : Object) (b : List ℕ) (i r : ℕ) → IsRead o b → i < length o.sections → r < length (section_at o i).sites → bad_place b i r ≡ false
unfolding bad_place
place_good o b i r h lt rlt =
    let t = get_or (section_at o i).sites r no_site in
    let read : SiteRead o b i r t = site_read o b i r h lt rlt in
    let within = read.ok.within in
    let size : contents_size b i ≡ length (section_at o i).bytes = (h.sections i lt).bytes in
    let inside : ltb (contents_size b i) (site_at b i r + site_size (site_kind b i r)) ≡ false = rw (read.at, kind_read o b i r t read, size) (le-ltb (length (section_at o i).bytes) (t.at + site_size t.kind) within) in
    let counted : not (ltb (site_symbol b i r) (symbol_count b)) ≡ false = rw read.symbol (ap not (lt-ltb (record_at o t.symbol) (symbol_count b) (record_small o b t.symbol h read.ok.symbol).0)) in
    let there : not (may_stay b (site_symbol b i r)) ≡ false = rw read.symbol (ap not (symbol_may_stay o b t.symbol h read.ok.symbol)) in
    or_from _ _ inside (or_from _ _ counted there)

places_good : (o : Object) (b : List ℕ) (i : ℕ) → IsRead o b → i < length o.sections → bad_places b i ≡ false
unfolding bad_places
places_good o b i h lt = and_right _ _ (any_never (bad_place b i) (site_count b i) (λ r rlt. place_good o b i r h lt (omega (arith, rlt, sites_counted o b i h lt))))

pub places_within : (o : Object) (b : List ℕ) → IsRead o b → bad_relocation_place b ≡ false
unfolding bad_relocation_place bad_places
places_within o b h = no_section_passes o b (bad_places b) h (λ i lt. places_good o b i h lt) (λ some. kept_alone o b _ h some)

-- ---- hybrid rows

index_good : (o : Object) (b : List ℕ) (k : ℕ) → IsRead o b → k < length o.symbols → bad_index b (record_at o k) ≡ false
unfolding bad_index
index_good o b k h lt = or_from _ _ (ap not (lt-ltb (record_at o k) (symbol_count b) (record_small o b k h lt).0)) (ap not (symbol_stays o b k h lt))

row_good : (o : Object) (b : List ℕ) (r : ℕ) → IsRead o b → r < length o.hybrid → bad_row b (length o.sections) r ≡ false
unfolding bad_row
row_good o b r h lt =
    let x = get_or o.hybrid r no_row in
    let read : RowRead o b r x = row_read o b r h lt in
    let ok : RowValid (length o.symbols) x = row_valid o r h.valid lt in
    let source : bad_index b (hybrid_source b (length o.sections) r) ≡ false = rw read.source (index_good o b x.source h ok.source) in
    let thunk : bad_index b (hybrid_thunk b (length o.sections) r) ≡ false = rw read.thunk (index_good o b x.thunk h ok.thunk) in
    let kind : not (is_row_kind (hybrid_kind b (length o.sections) r)) ≡ false = rw read.kind (ap not ok.kind) in
    or_from _ _ source (or_from _ _ thunk kind)

whole_rows : (n : ℕ) → not (eqb (12 * n % 12) 0) ≡ false
whole_rows n = let z : 12 * n % 12 ≡ 0 = omega arith in rw z refl

hybrid_good : (o : Object) (b : List ℕ) → IsRead o b → 0 < length o.hybrid → bad_hybrid b (length o.sections) ≡ false
unfolding bad_hybrid
hybrid_good o b h some =
    let i = length o.sections in
    let whole : not (eqb (contents_size b i % 12) 0) ≡ false = rw (hybrid_size o b h some) (whole_rows (length o.hybrid)) in
    let rows : any_below (bad_row b i) (contents_size b i / 12) ≡ false = rw (hybrid_size o b h some, twelfth (length o.hybrid)) (any_never (bad_row b i) (length o.hybrid) (λ r lt. row_good o b r h lt)) in
    and_right _ _ (or_from _ _ whole rows)

section_plain : (o : Object) (b : List ℕ) (i : ℕ) → IsRead o b → i < length o.sections → bad_hybrid b i ≡ false
unfolding bad_hybrid
section_plain o b i h lt = rw (section_other o b i h lt) refl

pub hybrids_good : (o : Object) (b : List ℕ) → IsRead o b → bad_hybrid_record b ≡ false
unfolding bad_hybrid_record
hybrids_good o b h = no_section_passes o b (bad_hybrid b) h (λ i lt. section_plain o b i h lt) (hybrid_good o b h)
