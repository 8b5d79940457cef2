-- No refusal of the kinds of symbols or of COMDAT sections holds in the file of an object.
use Rattle.std.proofs.Common.{◌≡◌, ◌≢◌, ℕ, zero, suc, ◌+◌, ◌-◌, ◌<◌, Bool, true, false, cond, not, ◌&&◌, ◌||◌, eqb, ltb, leb, List, [], ◌∷◌, length, get_or, take, Some, refl, ap, ◌∙◌, arith, inl, inr}
use Rattle.std.specs.Prelude.{slice_index, slice_get}
use Rattle.std.proofs.lemmas.Bool.{and_parts, and_right, eqb-true, ltb-true, ne_eqb, eq-eqb, or_from, cases_Bool}
use Rattle.std.proofs.lemmas.Option.{slice_get-get_or}
use Rattle.coff_write.specs.declared.object.ObjMachine.{ObjMachine}
use Rattle.coff_write.specs.declared.object.ObjMachine.TheVariants.{Amd64, Arm64Ec}
use Rattle.coff_write.specs.declared.object.ObjSection.{ObjSection}
use Rattle.coff_write.specs.declared.object.ObjSymbol.{ObjSymbol}
use Rattle.coff_write.specs.declared.object.Object.{Object}
use Rattle.coff_write.specs.Format.{machine_number, section_size, class_of, is_start_of, has_start, is_comdat, section_of, is_section_symbol}
use Rattle.coff_write.specs.Valid.{valid_in, is_body, valid_body, has_symbol}
use Rattle.coff_write.specs.Valid as valid
use Rattle.file_words.specs.Below.{first_below}
use Rattle.coff_fields.specs.Fields.{machine_field, raw_size, has_flag, skip_at, in_section}
use Rattle.coff_read.specs.Kept.{is_start, section_symbol}
use Rattle.coff_read.specs.Refusals.{bad_class, bad_debug, bad_body_home, bad_body, bad_kind, bad_symbol_kind, bad_definition, bad_comdat_section, bad_comdat}
use Rattle.coff_laws_base.specs.Records.{no_section, no_symbol, has_more}
use Rattle.coff_laws_base.proofs.Validity.{section_valid}
use Rattle.coff_laws_parts.proofs.SectionReads.{SectionRead}
use Rattle.coff_laws_parts.proofs.SymbolReads.{SymbolRead}
use Rattle.coff_laws_base.proofs.Walks.{OnlyMain, first_records}
use Rattle.coff_laws_parts.proofs.FileReads.{IsRead, IsPlaced, placed, record_at, section_at, symbol_at}
use Rattle.coff_laws.proofs.Kept.{no_section_passes, symbol_begins}
use Rattle.coff_laws.proofs.RangeRefusals.{no_symbol_passes}

-- ---- classes and sections of symbols

known_class : (e : Bool) → (not (eqb (class_of e) 2) && (not (eqb (class_of e) 3) && not (eqb (class_of e) 103))) ≡ false
known_class true = refl
known_class false = refl

-- ---- code that is marked by its name

body_facts : (m : ObjMachine) (home : ObjSection) (s : ObjSymbol) → valid_body m home s ≡ true → (s.value < section_size home) × (valid.has_flag home 536870912 ≡ true) × (eqb (machine_number m) 34404 ≡ false)
unfolding valid_body
body_facts Amd64 home s e = absurd cc
body_facts Arm64Ec home s e = let h = and_parts (ltb s.value (section_size home)) (valid.has_flag home 536870912) e in (ltb-true s.value (section_size home) h.0, h.1, refl)

body_home : (m : ObjMachine) (home : ObjSection) (s : ObjSymbol) → valid_in m home s ≡ true → is_body s ≡ true → valid_body m home s ≡ true
body_home m home s e y = let h : cond (is_body s) (valid_body m home s) true ≡ true = (and_parts (leb s.value (section_size home)) _ e).1 in rw y at h

bad_home_not : (o : Object) (b : List ℕ) (k : ℕ) (s : ObjSymbol) → IsRead o b → IsPlaced o k s → in_section s.section ≡ true → is_body s ≡ true → (eqb s.value (raw_size b (s.section - 1)) || (not (has_flag b (s.section - 1) 536870912) || eqb (machine_field b) 34404)) ≡ false
bad_home_not o b k s h p e y =
    let home = p.home e in
    let i = s.section - 1 in
    let read : SectionRead o b i (section_at o i) = h.sections i home.0 in
    let facts = body_facts o.machine (section_at o i) s (body_home o.machine (section_at o i) s home.1 y) in
    let code : has_flag b i 536870912 ≡ true = read.flags.code ∙ facts.1 in
    let size : raw_size b i ≡ section_size (section_at o i) = read.size in
    let below : s.value < section_size (section_at o i) = facts.0 in
    or_from _ _ (ne_eqb s.value (raw_size b i) (λ z. omega (arith, size, below, z))) (or_from _ _ (ap not code) (ap (λ m. eqb m 34404) h.header.machine ∙ facts.2))

class_body : (e : Bool) → eqb (class_of e) 2 ≡ e
class_body true = refl
class_body false = refl

body_case : (x y z w : Bool) → (y ≡ true → (x && z) ≡ true → w ≡ false) → (x && (y && (z && w))) ≡ false
body_case true true true w h = h refl refl
body_case true true false w h = refl
body_case true false z w h = refl
body_case false y z w h = refl

body_good : (o : Object) (b : List ℕ) (k j : ℕ) (s : ObjSymbol) → IsRead o b → IsPlaced o k s → SymbolRead o b k j s → bad_body b j ≡ false
unfolding bad_body bad_body_home
body_good o b k j s h p read =
    rw (read.class, class_body s.external, read.section, read.name, read.value)
    (body_case s.external (in_section s.section) (eqb (slice_index s.name 0) 35) _ (λ e y. bad_home_not o b k s h p e y))

kind_main : (b : List ℕ) → OnlyMain b (bad_kind b)
unfolding bad_kind
kind_main b = record { main = λ j ne. rw (ne_eqb (skip_at b j) 0 ne) refl }

class_good : (o : Object) (b : List ℕ) (k j : ℕ) (s : ObjSymbol) → SymbolRead o b k j s → bad_class b j ≡ false
unfolding bad_class
class_good o b k j s read = rw read.class (known_class s.external)

debug_good : (o : Object) (b : List ℕ) (k j : ℕ) (s : ObjSymbol) → IsPlaced o k s → SymbolRead o b k j s → bad_debug b j ≡ false
unfolding bad_debug
debug_good o b k j s p read = and_right _ _ (ap (λ n. eqb n 65534) read.section ∙ p.known)

kind_good : (o : Object) (b : List ℕ) (k : ℕ) → IsRead o b → k < length o.symbols → bad_kind b (record_at o k) ≡ false
unfolding bad_kind
kind_good o b k h lt =
    let s = symbol_at o k in
    let read : SymbolRead o b k (record_at o k) s = h.symbols k lt in
    let p : IsPlaced o k s = placed o k h.valid lt in
    and_right _ _ (or_from _ _ (class_good o b k (record_at o k) s read) (or_from _ _ (debug_good o b k (record_at o k) s p read) (body_good o b k (record_at o k) s h p read)))

pub kinds_good : (o : Object) (b : List ℕ) → IsRead o b → bad_symbol_kind b ≡ false
unfolding bad_symbol_kind
kinds_good o b h = no_symbol_passes o b (bad_kind b) h (kind_main b) (λ k lt. kind_good o b k h lt)

-- ---- section symbols

start_case : (e v : Bool) (n i : ℕ) → (eqb (class_of e) 3 && (v && (in_section n && eqb n (i + 1)))) ≡ (not e && (v && (eqb n (i + 1) && ltb n 65534)))
start_case true v n i = refl
start_case false false n i = refl
start_case false true n i = elim (cases_Bool (eqb n (i + 1))) [
  | inl y ↦ let some : n ≢ 0 = (λ z. omega (arith, eqb-true n (i + 1) y, z)) in rw (y, ne_eqb n 0 some) (and_true (ltb n 65534))
  | inr m ↦ rw m (and_right (in_section n) false refl)
]
  where
    and_true : (x : Bool) → (x && true) ≡ x
    and_true true = refl
    and_true false = refl

-- record k begins a symbol that may be that of section i exactly where the object says so
start_read : (o : Object) (b : List ℕ) (i k : ℕ) → IsRead o b → k < length o.symbols → is_start b i (record_at o k) ≡ is_start_of (i + 1) (symbol_at o k)
unfolding is_start
start_read o b i k h lt =
    let s = symbol_at o k in
    let read : SymbolRead o b k (record_at o k) s = h.symbols k lt in
    rw (symbol_begins o b k h (omega arith), read.class, read.value, read.section) (start_case s.external (eqb s.value 0) s.section i)

start_main : (b : List ℕ) (i : ℕ) → OnlyMain b (is_start b i)
unfolding is_start
start_main b i = record { main = λ j ne. rw (ne_eqb (skip_at b j) 0 ne) refl }

-- the first symbol that may be that of section n
record FirstStart (n : ℕ) (symbols : List ObjSymbol) : Type 0 where
  symbol : ℕ
  within : symbol < length symbols
  is : is_start_of n (get_or symbols symbol no_symbol) ≡ true
  none : has_start n (take symbol symbols) ≡ false
  before : (j : ℕ) → j < symbol → is_start_of n (get_or symbols j no_symbol) ≡ false

before_cons : (n : ℕ) (s : ObjSymbol) (ss : List ObjSymbol) (k : ℕ) → is_start_of n s ≡ false → ((j : ℕ) → j < k → is_start_of n (get_or ss j no_symbol) ≡ false) → (j : ℕ) → j < suc k → is_start_of n (get_or (s ∷ ss) j no_symbol) ≡ false
before_cons n s ss k e h zero lt = e
before_cons n s ss k e h (suc j) lt = h j (omega arith)

first_start : (n : ℕ) (ss : List ObjSymbol) → has_start n ss ≡ true → FirstStart n ss
first_start n [] e = absurd cc
first_start n (s ∷ ss) e = elim (cases_Bool (is_start_of n s)) [
  | inl y ↦ record { symbol = 0; within = omega arith; is = y; none = refl; before = λ j lt. absurd (omega arith) }
  | inr m ↦ let h = first_start n ss (rw m at e) in record { symbol = suc h.symbol; within = omega (arith, h.within); is = h.is; none = rw m h.none; before = before_cons n s ss h.symbol m h.before }
]

start_again : (n : ℕ) (s : ObjSymbol) → is_start_of n s ≡ true → (s.section ≡ n) × (is_start_of s.section s ≡ true)
start_again n s e =
    let a = and_parts (not s.external) _ e in
    let v = and_parts (eqb s.value 0) (eqb s.section n && ltb s.section 65534) a.1 in
    let q = and_parts (eqb s.section n) (ltb s.section 65534) v.1 in
    (eqb-true s.section n q.0, rw (a.0, v.0, eq-eqb s.section s.section refl, q.1) refl)

comdat_home : (sections : List ObjSection) (i n : ℕ) → n ≡ i + 1 → i < length sections → (get_or sections i no_section).comdat ≡ true → is_comdat (section_of sections n) ≡ true
comdat_home sections i zero e lt c = absurd (omega arith)
comdat_home sections i (suc k) e lt c =
    let same : k ≡ i = omega arith in
    ap (λ j. is_comdat (slice_get sections j)) same ∙ ap is_comdat (slice_get-get_or sections i no_section lt) ∙ c

-- so the first has a second record
first_more : (o : Object) (i : ℕ) (f : FirstStart (i + 1) o.symbols) → i < length o.sections → (section_at o i).comdat ≡ true → has_more o.sections o.symbols f.symbol ≡ true
unfolding has_more is_section_symbol
first_more o i f lt c =
    let s = symbol_at o f.symbol in
    let again = start_again (i + 1) s f.is in
    let free : has_start s.section (take f.symbol o.symbols) ≡ false = ap (λ n. has_start n (take f.symbol o.symbols)) again.0 ∙ f.none in
    rw (again.1, comdat_home o.sections i s.section again.0 lt c, free) refl

symbol_found : (o : Object) (b : List ℕ) (i : ℕ) (f : FirstStart (i + 1) o.symbols) → IsRead o b → section_symbol b i ≡ Some (record_at o f.symbol)
unfolding section_symbol
symbol_found o b i f h =
    let within = f.within in
    ap (first_below (is_start b i)) h.count
    ∙ first_records b (has_more o.sections o.symbols) (is_start b i) (length o.symbols) f.symbol h.table (start_main b i) f.within (start_read o b i f.symbol h f.within ∙ f.is) (λ j lt. start_read o b i j h (omega (arith, within, lt)) ∙ f.before j lt)

definition_good : (o : Object) (b : List ℕ) (k : ℕ) → IsRead o b → k < length o.symbols → has_more o.sections o.symbols k ≡ true → bad_definition b (Some (record_at o k)) ≡ false
unfolding bad_definition
definition_good o b k h lt e =
    let read : SymbolRead o b k (record_at o k) (symbol_at o k) = h.symbols k lt in
    rw (read.more, e, read.selects e) refl

has_its_symbol : (o : Object) (i : ℕ) (s : ObjSection) → has_symbol o.symbols (i + 1) s ≡ true → s.comdat ≡ true → has_start (i + 1) o.symbols ≡ true
has_its_symbol o i s e c = rw c at e

comdat_case : (o : Object) (b : List ℕ) (i : ℕ) (x : Bool) → IsRead o b → i < length o.sections → (section_at o i).comdat ≡ x → (x && bad_definition b (section_symbol b i)) ≡ false
comdat_case o b i true h lt c =
    let f = first_start (i + 1) o.symbols (has_its_symbol o i (section_at o i) (section_valid o i h.valid lt).symbol c) in
    ap (bad_definition b) (symbol_found o b i f h) ∙ definition_good o b f.symbol h f.within (first_more o i f lt c)
comdat_case o b i false h lt c = refl

comdat_good : (o : Object) (b : List ℕ) (i : ℕ) → IsRead o b → i < length o.sections → bad_comdat_section b i ≡ false
unfolding bad_comdat_section
comdat_good o b i h lt = rw (h.sections i lt).flags.comdat (comdat_case o b i (section_at o i).comdat h lt refl)

hybrid_single : (o : Object) (b : List ℕ) → IsRead o b → 0 < length o.hybrid → bad_comdat_section b (length o.sections) ≡ false
unfolding bad_comdat_section has_flag
hybrid_single o b h some = rw (h.hybrid some).flags refl

pub comdats_good : (o : Object) (b : List ℕ) → IsRead o b → bad_comdat b ≡ false
unfolding bad_comdat
comdats_good o b h = no_section_passes o b (bad_comdat_section b) h (λ i lt. comdat_good o b i h lt) (hybrid_single o b h)
