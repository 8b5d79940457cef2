-- What validity says of each section, site, symbol and hybrid row.
use Rattle.std.proofs.Common.{◌≡◌, ℕ, zero, suc, ◌+◌, ◌<◌, ◌≤◌, Bool, true, false, not, ◌&&◌, ◌||◌, eqb, ltb, leb, List, [], ◌∷◌, length, get_or, take, subst, arith}
use Rattle.std.proofs.lemmas.Bool.{and_parts, not-true, leb-true, ltb-true}
use Rattle.coff_write.specs.declared.object.ObjMachine.{ObjMachine}
use Rattle.coff_write.specs.declared.object.ObjSite.{ObjSite}
use Rattle.coff_write.specs.declared.object.ObjSection.{ObjSection}
use Rattle.coff_write.specs.declared.object.ObjSymbol.{ObjSymbol}
use Rattle.coff_write.specs.declared.object.HybridRow.{HybridRow}
use Rattle.coff_write.specs.declared.object.Object.{Object}
use Rattle.coff_write.specs.Format.{site_code, is_short_section, name_size, section_count, section_names_size, file_size}
use Rattle.coff_write.specs.Valid.{no_zero, is_reserved, has_right_contents, has_right_flags, site_size, has_code, valid_site, valid_sites, has_kept_name, has_symbol, valid_section, valid_sections, short_places, valid_place, valid_symbol, valid_symbols, valid_row, valid_rows, limit, fits, is_valid, HasRoom}
use Rattle.coff_laws_base.specs.Records.{no_section, no_symbol, no_site, no_row}

-- ---- the parts of validity

pub record IsValid (o : Object) : Type 0 where
  pub room : HasRoom o
  pub places : short_places 4 o.sections ≡ true
  pub sections : valid_sections o 1 o.sections ≡ true
  pub symbols : valid_symbols o 0 o.symbols ≡ true
  pub rows : valid_rows (length o.symbols) o.hybrid ≡ true

pub valid_parts : (o : Object) → is_valid o ≡ true → IsValid o
unfolding is_valid fits
valid_parts o e =
    let a = and_parts (leb (section_count o) 65535 && (leb (file_size o) limit && short_places 4 o.sections)) (valid_sections o 1 o.sections && (valid_symbols o 0 o.symbols && valid_rows (length o.symbols) o.hybrid)) e in
    let f = and_parts (leb (section_count o) 65535) (leb (file_size o) limit && short_places 4 o.sections) a.0 in
    let g = and_parts (leb (file_size o) limit) (short_places 4 o.sections) f.1 in
    let h = and_parts (valid_sections o 1 o.sections) (valid_symbols o 0 o.symbols && valid_rows (length o.symbols) o.hybrid) a.1 in
    let k = and_parts (valid_symbols o 0 o.symbols) (valid_rows (length o.symbols) o.hybrid) h.1 in
    record { room = record { count = leb-true (section_count o) 65535 f.0; size = leb-true (file_size o) limit g.0 }; places = g.1; sections = h.0; symbols = k.0; rows = k.1 }

-- ---- sections

pub record SectionValid (o : Object) (i : ℕ) (s : ObjSection) : Type 0 where
  pub closed : no_zero s.name ≡ true
  pub kept : is_reserved s.name ≡ false
  pub contents : has_right_contents s ≡ true
  pub flags : has_right_flags s ≡ true
  pub symbol : has_symbol o.symbols (i + 1) s ≡ true
  pub sites : valid_sites o.machine (length s.bytes) (length o.symbols) s.sites ≡ true

each_section : (o : Object) (n : ℕ) (ss : List ObjSection) (i : ℕ) (d : ObjSection) → valid_sections o n ss ≡ true → i < length ss → valid_section o (n + i) (get_or ss i d) ≡ true
each_section o n [] i d e lt = absurd (omega arith)
each_section o n (s ∷ ss) zero d e lt = let same : n ≡ n + 0 = omega arith in subst (λ (k : ℕ). valid_section o k s ≡ true) same (and_parts (valid_section o n s) (valid_sections o (n + 1) ss) e).0
each_section o n (s ∷ ss) (suc i) d e lt =
    let same : n + 1 + i ≡ n + suc i = omega arith in
    subst (λ (k : ℕ). valid_section o k (get_or ss i d) ≡ true) same (each_section o (n + 1) ss i d (and_parts (valid_section o n s) (valid_sections o (n + 1) ss) e).1 (omega arith))

section_parts : (o : Object) (i : ℕ) (s : ObjSection) → valid_section o (1 + i) s ≡ true → SectionValid o i s
unfolding valid_section
section_parts o i s e =
    let a = and_parts (has_kept_name s) _ e in
    let n = and_parts (no_zero s.name) (not (is_reserved s.name)) a.0 in
    let c = and_parts (has_right_contents s) _ a.1 in
    let f = and_parts (has_right_flags s) _ c.1 in
    let g = and_parts (has_symbol o.symbols (1 + i) s) _ f.1 in
    let same : 1 + i ≡ i + 1 = omega arith in
    record { closed = n.0; kept = not-true (is_reserved s.name) n.1; contents = c.0; flags = f.0; symbol = subst (λ (k : ℕ). has_symbol o.symbols k s ≡ true) same g.0; sites = g.1 }

pub section_valid : (o : Object) (i : ℕ) → IsValid o → i < length o.sections → SectionValid o i (get_or o.sections i no_section)
section_valid o i v lt = section_parts o i (get_or o.sections i no_section) (each_section o 1 o.sections i no_section v.sections lt)

-- the place of a long name has seven digits
short_place : (s : ObjSection) (n : ℕ) → (is_short_section s.name || leb n 9999999) ≡ true → is_short_section s.name ≡ false → n ≤ 9999999
short_place s n e f = leb-true n 9999999 (or_case (is_short_section s.name) (leb n 9999999) e f)
  where
    or_case : (x y : Bool) → (x || y) ≡ true → x ≡ false → y ≡ true
    or_case true y e f = absurd cc
    or_case false y e f = e

each_place : (n : ℕ) (ss : List ObjSection) (i : ℕ) (d : ObjSection) → short_places n ss ≡ true → i < length ss → is_short_section (get_or ss i d).name ≡ false → n + section_names_size (take i ss) ≤ 9999999
each_place n [] i d e lt f = absurd (omega arith)
each_place n (s ∷ ss) zero d e lt f = omega (arith, short_place s n (and_parts (is_short_section s.name || leb n 9999999) (short_places (n + name_size s) ss) e).0 f)
each_place n (s ∷ ss) (suc i) d e lt f = omega (arith, each_place (n + name_size s) ss i d (and_parts (is_short_section s.name || leb n 9999999) (short_places (n + name_size s) ss) e).1 (omega arith) f)

pub section_digits : (o : Object) (i : ℕ) → IsValid o → i < length o.sections → is_short_section (get_or o.sections i no_section).name ≡ false → 4 + section_names_size (take i o.sections) ≤ 9999999
section_digits o i v lt f = each_place 4 o.sections i no_section v.places lt f

-- ---- sites

pub record SiteValid (machine : ObjMachine) (bytes symbols : ℕ) (t : ObjSite) : Type 0 where
  pub within : t.at + site_size t.kind ≤ bytes
  pub symbol : t.symbol < symbols
  pub kind : has_code (site_code machine t.kind) ≡ true

each_site : (machine : ObjMachine) (bytes symbols : ℕ) (ts : List ObjSite) (r : ℕ) (d : ObjSite) → valid_sites machine bytes symbols ts ≡ true → r < length ts → valid_site machine bytes symbols (get_or ts r d) ≡ true
each_site machine bytes symbols [] r d e lt = absurd (omega arith)
each_site machine bytes symbols (t ∷ ts) zero d e lt = (and_parts (valid_site machine bytes symbols t) (valid_sites machine bytes symbols ts) e).0
each_site machine bytes symbols (t ∷ ts) (suc r) d e lt = each_site machine bytes symbols ts r d (and_parts (valid_site machine bytes symbols t) (valid_sites machine bytes symbols ts) e).1 (omega arith)

pub site_valid : (machine : ObjMachine) (bytes symbols : ℕ) (ts : List ObjSite) (r : ℕ) → valid_sites machine bytes symbols ts ≡ true → r < length ts → SiteValid machine bytes symbols (get_or ts r no_site)
unfolding valid_site
site_valid machine bytes symbols ts r e lt =
    let t = get_or ts r no_site in
    let a = and_parts (leb (t.at + site_size t.kind) bytes) (ltb t.symbol symbols && has_code (site_code machine t.kind)) (each_site machine bytes symbols ts r no_site e lt) in
    let c = and_parts (ltb t.symbol symbols) (has_code (site_code machine t.kind)) a.1 in
    record { within = leb-true (t.at + site_size t.kind) bytes a.0; symbol = ltb-true t.symbol symbols c.0; kind = c.1 }

-- ---- symbols and rows

each_symbol : (o : Object) (j : ℕ) (ss : List ObjSymbol) (k : ℕ) (d : ObjSymbol) → valid_symbols o j ss ≡ true → k < length ss → valid_symbol o (j + k) (get_or ss k d) ≡ true
each_symbol o j [] k d e lt = absurd (omega arith)
each_symbol o j (s ∷ ss) zero d e lt = let same : j ≡ j + 0 = omega arith in subst (λ (q : ℕ). valid_symbol o q s ≡ true) same (and_parts (valid_symbol o j s) (valid_symbols o (j + 1) ss) e).0
each_symbol o j (s ∷ ss) (suc k) d e lt =
    let same : j + 1 + k ≡ j + suc k = omega arith in
    subst (λ (q : ℕ). valid_symbol o q (get_or ss k d) ≡ true) same (each_symbol o (j + 1) ss k d (and_parts (valid_symbol o j s) (valid_symbols o (j + 1) ss) e).1 (omega arith))

pub symbol_valid : (o : Object) (j : ℕ) → IsValid o → j < length o.symbols → (no_zero (get_or o.symbols j no_symbol).name ≡ true) × (valid_place o j (get_or o.symbols j no_symbol) ≡ true)
symbol_valid o j v lt =
    let s = get_or o.symbols j no_symbol in
    let e = each_symbol o 0 o.symbols j no_symbol v.symbols lt in
    let same : 0 + j ≡ j = omega arith in
    and_parts (no_zero s.name) (valid_place o j s) (subst (λ (q : ℕ). valid_symbol o q s ≡ true) same e)

pub record RowValid (symbols : ℕ) (r : HybridRow) : Type 0 where
  pub source : r.source < symbols
  pub thunk : r.thunk < symbols
  pub kind : (eqb r.kind 0 || (eqb r.kind 1 || eqb r.kind 4)) ≡ true

each_row : (n : ℕ) (rs : List HybridRow) (r : ℕ) (d : HybridRow) → valid_rows n rs ≡ true → r < length rs → valid_row n (get_or rs r d) ≡ true
each_row n [] r d e lt = absurd (omega arith)
each_row n (x ∷ rs) zero d e lt = (and_parts (valid_row n x) (valid_rows n rs) e).0
each_row n (x ∷ rs) (suc r) d e lt = each_row n rs r d (and_parts (valid_row n x) (valid_rows n rs) e).1 (omega arith)

pub row_valid : (o : Object) (r : ℕ) → IsValid o → r < length o.hybrid → RowValid (length o.symbols) (get_or o.hybrid r no_row)
unfolding valid_row
row_valid o r v lt =
    let x = get_or o.hybrid r no_row in
    let a = and_parts (ltb x.source (length o.symbols) && ltb x.thunk (length o.symbols)) _ (each_row (length o.symbols) o.hybrid r no_row v.rows lt) in
    let c = and_parts (ltb x.source (length o.symbols)) (ltb x.thunk (length o.symbols)) a.0 in
    record { source = ltb-true x.source (length o.symbols) c.0; thunk = ltb-true x.thunk (length o.symbols) c.1; kind = a.1 }
