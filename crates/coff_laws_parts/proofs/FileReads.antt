-- What the reader takes from the file of an object, and the places of symbols in it.
use Rattle.std.proofs.Common.{◌≡◌, ◌≢◌, ℕ, zero, suc, ◌+◌, ◌-◌, ◌*◌, ◌<◌, ◌≤◌, Bool, true, false, cond, not, ◌&&◌, eqb, ltb, List, [], ◌∷◌, length, get_or, refl, sym, ap, subst, ◌∙◌, arith, inl, inr}
use Rattle.std.specs.Prelude.{slice_get}
use Rattle.std.proofs.lemmas.Bool.{and_parts, not-true, eqb-true, eqb-false, ltb-true, ne_eqb, cases_Bool}
use Rattle.coff_write.specs.declared.object.ObjMachine.{ObjMachine}
use Rattle.coff_write.specs.declared.object.ObjSite.{ObjSite}
use Rattle.coff_write.specs.declared.object.ObjSection.{ObjSection}
use Rattle.coff_write.specs.declared.object.ObjSymbol.{ObjSymbol}
use Rattle.coff_write.specs.declared.object.Object.{Object}
use Rattle.coff_write.specs.Format.{numbers, record_count, section_of, hybrid_place, hybrid_row, file_size, object_bytes}
use Rattle.coff_write.specs.Valid.{any_names, is_named, valid_in, valid_home, valid_place}
use Rattle.file_words.specs.Standing.{Has}
use Rattle.coff_fields.specs.Fields.{symbol_count, machine_of, in_section}
use Rattle.coff_laws_parts.specs.Ranges.{HasRanges}
use Rattle.coff_laws_base.specs.Records.{no_section, no_symbol, no_site, no_row, record_of, has_more}
use Rattle.coff_laws_base.proofs.Sizes.{length-object_bytes}
use Rattle.coff_laws_base.proofs.Symbols.{follows_all, record_none, numbers_at, total_is}
use Rattle.coff_laws_parts.proofs.Parts.{HeaderFields, StringFields, header_fields, string_fields, machine_is}
use Rattle.coff_laws_base.proofs.Validity.{IsValid, symbol_valid}
use Rattle.coff_laws_parts.proofs.SectionReads.{SectionRead, section_read, file_small}
use Rattle.coff_laws_parts.proofs.HybridReads.{HybridRead, hybrid_read, hybrid_row_there}
use Rattle.coff_laws_parts.proofs.SymbolReads.{SymbolRead, symbol_read}
use Rattle.coff_laws_base.proofs.Walks.{IsTable}

-- the number of the record of symbol k
abbrev pub record_at : Object → ℕ → ℕ
record_at o k = record_of (has_more o.sections o.symbols) k

abbrev pub section_at : Object → ℕ → ObjSection
section_at o i = get_or o.sections i no_section

abbrev pub symbol_at : Object → ℕ → ObjSymbol
symbol_at o k = get_or o.symbols k no_symbol

pub record IsRead (o : Object) (b : List ℕ) : Type 0 where
  pub valid : IsValid o
  pub header : HeaderFields o b
  pub texts : StringFields o b
  pub machine : machine_of b ≡ o.machine
  pub small : length b ≤ 134217728
  pub size : length b ≡ file_size o
  pub sections : (i : ℕ) → i < length o.sections → SectionRead o b i (section_at o i)
  pub hybrid : 0 < length o.hybrid → HybridRead o b (length o.sections)
  pub rows : (r : ℕ) → r < length o.hybrid → Has b (hybrid_place o + 12 * r) (hybrid_row (numbers o) (get_or o.hybrid r no_row))
  pub symbols : (k : ℕ) → k < length o.symbols → SymbolRead o b k (record_at o k) (symbol_at o k)
  pub count : symbol_count b ≡ record_at o (length o.symbols)
  pub numbers_are : (k : ℕ) → k < length o.symbols → get_or (numbers o) k 0 ≡ record_at o k
  pub table : IsTable b (has_more o.sections o.symbols) (length o.symbols)

pub record_count_is : (o : Object) → record_count o ≡ record_at o (length o.symbols)
record_count_is o =
    let more = has_more o.sections o.symbols in
    let there = total_is o.sections o.symbols 0 0 o.symbols (follows_all o.symbols) (sym (record_none more)) in
    let same : 0 + length o.symbols ≡ length o.symbols = omega arith in
    let all : 0 + record_count o ≡ record_count o = omega arith in
    sym all ∙ there ∙ ap (record_of more) same

number_is : (o : Object) (k : ℕ) → k < length o.symbols → get_or (numbers o) k 0 ≡ record_at o k
number_is o k lt =
    let more = has_more o.sections o.symbols in
    let same : 0 + k ≡ k = omega arith in
    numbers_at o.sections o.symbols 0 0 o.symbols k (follows_all o.symbols) (sym (record_none more)) lt ∙ ap (record_of more) same

pub is_read : (o : Object) → IsValid o → HasRanges o → IsRead o (object_bytes o)
is_read o v g = record {
  valid = v;
  header = header_fields o v.room;
  texts = string_fields o v.room;
  machine = machine_is o v.room;
  small = file_small o v.room;
  size = length-object_bytes o;
  sections = λ i lt. section_read o i v g lt;
  hybrid = λ some. hybrid_read o v.room some;
  rows = λ r lt. hybrid_row_there o r lt;
  symbols = λ k lt. symbol_read o k v g lt;
  count = (header_fields o v.room).records ∙ record_count_is o;
  numbers_are = λ k lt. number_is o k lt;
  table = record { counts = λ k lt. (symbol_read o k v g lt).more };
}

-- ---- the section that a symbol is in

home_at : (m : ObjMachine) (sections : List ObjSection) (k : ℕ) (s : ObjSymbol) → valid_home m (slice_get sections k) s ≡ true → (k < length sections) × (valid_in m (get_or sections k no_section) s ≡ true)
unfolding valid_home
home_at m [] k s e = absurd cc
home_at m (x ∷ xs) zero s e = (omega arith, e)
home_at m (x ∷ xs) (suc k) s e = let h = home_at m xs k s e in (omega (arith, h.0), h.1)

home_of : (m : ObjMachine) (sections : List ObjSection) (n : ℕ) (s : ObjSymbol) → 0 < n → valid_home m (section_of sections n) s ≡ true → (n - 1 < length sections) × (valid_in m (get_or sections (n - 1) no_section) s ≡ true)
home_of m sections zero s some e = absurd (omega arith)
home_of m sections (suc k) s some e =
    let same : k ≡ suc k - 1 = omega arith in
    subst (λ (i : ℕ). (i < length sections) × (valid_in m (get_or sections i no_section) s ≡ true)) same (home_at m sections k s e)

-- a site of some section names the symbol
pub record IsNamed (o : Object) (k : ℕ) : Type 0 where
  pub section : ℕ
  pub site : ℕ
  pub within : section < length o.sections
  pub counted : site < length (section_at o section).sites
  pub is : (get_or (section_at o section).sites site no_site).symbol ≡ k

record Naming (k : ℕ) (ts : List ObjSite) : Type 0 where
  site : ℕ
  counted : site < length ts
  is : (get_or ts site no_site).symbol ≡ k

naming_site : (k : ℕ) (ts : List ObjSite) → any_names k ts ≡ true → Naming k ts
naming_site k [] e = absurd cc
naming_site k (t ∷ ts) e = elim (cases_Bool (eqb t.symbol k)) [
  | inl y ↦ record { site = 0; counted = omega arith; is = eqb-true t.symbol k y }
  | inr n ↦ let h = naming_site k ts (rw n at e) in record { site = suc h.site; counted = omega (arith, h.counted); is = h.is }
]

record NamingIn (k : ℕ) (ss : List ObjSection) : Type 0 where
  section : ℕ
  site : ℕ
  within : section < length ss
  counted : site < length (get_or ss section no_section).sites
  is : (get_or (get_or ss section no_section).sites site no_site).symbol ≡ k

naming_section : (k : ℕ) (ss : List ObjSection) → is_named k ss ≡ true → NamingIn k ss
naming_section k [] e = absurd cc
naming_section k (s ∷ ss) e = elim (cases_Bool (any_names k s.sites)) [
  | inl y ↦ let h = naming_site k s.sites y in record { section = 0; site = h.site; within = omega arith; counted = h.counted; is = h.is }
  | inr n ↦ let h = naming_section k ss (rw n at e) in record { section = suc h.section; site = h.site; within = omega (arith, h.within); counted = h.counted; is = h.is }
]

named_symbol : (o : Object) (k : ℕ) → is_named k o.sections ≡ true → IsNamed o k
named_symbol o k e = let h = naming_section k o.sections e in record { section = h.section; site = h.site; within = h.within; counted = h.counted; is = h.is }

-- what the place of a symbol says
pub record IsPlaced (o : Object) (k : ℕ) (s : ObjSymbol) : Type 0 where
  pub home : in_section s.section ≡ true → (s.section - 1 < length o.sections) × (valid_in o.machine (section_at o (s.section - 1)) s ≡ true)
  pub named : s.section ≡ 65535 → IsNamed o k
  pub known : eqb s.section 65534 ≡ false

placed_case : (o : Object) (k : ℕ) (s : ObjSymbol) (a c : Bool) → eqb s.section 0 ≡ a → eqb s.section 65535 ≡ c → cond a true (cond c (is_named k o.sections) (ltb s.section 65534 && valid_home o.machine (section_of o.sections s.section) s)) ≡ true → IsPlaced o k s
placed_case o k s true c ea ec e =
    let z : s.section ≡ 0 = eqb-true s.section 0 ea in
    record {
      home = λ y. absurd (absurd_zero s.section z y);
      named = λ y. absurd (omega (arith, z, y));
      known = ne_eqb s.section 65534 (λ y. omega (arith, z, y));
    }
  where
    absurd_zero : (n : ℕ) → n ≡ 0 → in_section n ≡ true → ⊥
    absurd_zero n z y = eqb-false n 0 (not-true (eqb n 0) (and_parts (not (eqb n 0)) (ltb n 65534) y).0) z
placed_case o k s false true ea ec e =
    let z : s.section ≡ 65535 = eqb-true s.section 65535 ec in
    record {
      home = λ y. absurd (absurd_last s.section z y);
      named = λ y. named_symbol o k e;
      known = ne_eqb s.section 65534 (λ y. omega (arith, z, y));
    }
  where
    absurd_last : (n : ℕ) → n ≡ 65535 → in_section n ≡ true → ⊥
    absurd_last n z y = let lt : n < 65534 = ltb-true n 65534 (and_parts (not (eqb n 0)) (ltb n 65534) y).1 in omega (arith, lt, z)
placed_case o k s false false ea ec e =
    let ne : s.section ≢ 0 = eqb-false s.section 0 ea in
    let h = and_parts (ltb s.section 65534) (valid_home o.machine (section_of o.sections s.section) s) e in
    let lt : s.section < 65534 = ltb-true s.section 65534 h.0 in
    record {
      home = λ y. home_of o.machine o.sections s.section s (omega (arith, ne)) h.1;
      named = λ y. absurd (eqb-false s.section 65535 ec y);
      known = ne_eqb s.section 65534 (λ y. omega (arith, lt, y));
    }

place_parts : (o : Object) (k : ℕ) (s : ObjSymbol) → valid_place o k s ≡ true → IsPlaced o k s
unfolding valid_place
place_parts o k s e = placed_case o k s (eqb s.section 0) (eqb s.section 65535) refl refl e

pub placed : (o : Object) (k : ℕ) → IsValid o → k < length o.symbols → IsPlaced o k (symbol_at o k)
placed o k v lt = place_parts o k (symbol_at o k) (symbol_valid o k v lt).1
