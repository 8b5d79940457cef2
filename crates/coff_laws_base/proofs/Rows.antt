-- Where the entries of the tables of a file stand.
use Rattle.std.proofs.Common.{◌≡◌, ℕ, zero, suc, ◌+◌, ◌*◌, ◌<◌, List, [], ◌∷◌, ◌++◌, length, get_or, take, arith}
use Rattle.coff_write.specs.declared.object.ObjMachine.{ObjMachine}
use Rattle.coff_write.specs.declared.object.ObjSite.{ObjSite}
use Rattle.coff_write.specs.declared.object.ObjSection.{ObjSection}
use Rattle.coff_write.specs.declared.object.ObjSymbol.{ObjSymbol}
use Rattle.coff_write.specs.Format.{is_short_section, is_short_symbol, long_text, row_count, name_size, section_header, section_headers, section_contents, section_texts, section_names_size, contents_size, rows_count, symbol_name_size, symbol_texts, symbol_names_size, relocation, relocations, count_row, section_relocations}
use Rattle.file_words.specs.Standing.{Has}
use Rattle.file_words.proofs.HasLaws.{has_left, has_right, has_moved}
use Rattle.coff_laws_base.proofs.Sizes.{header_long, text_long, relocation_long, rows_long}

-- what follows a part
pub has_next : (b : List ℕ) (p q : ℕ) (x y : List ℕ) → p + length x ≡ q → Has b p (x ++ y) → Has b q y
has_next b p q x y e h = has_moved b (p + length x) q y e (has_right b p x y h)

at_header : (b : List ℕ) (p q n m c d r t : ℕ) (s : ObjSection) → p ≡ q → n ≡ m → c ≡ d → r ≡ t → Has b p (section_header n c r s) → Has b q (section_header m d t s)
at_header b p q n m c d r t s e f g k h = rw (← e, ← f, ← g, ← k) h

pub headers_at : (b : List ℕ) (p n c r : ℕ) (ss : List ObjSection) (i : ℕ) (d : ObjSection) → i < length ss → Has b p (section_headers n c r ss) → Has b (p + 40 * i) (section_header (n + section_names_size (take i ss)) (c + contents_size (take i ss)) (r + 10 * rows_count (take i ss)) (get_or ss i d))
headers_at b p n c r [] i d lt h = absurd (omega arith)
headers_at b p n c r (s ∷ ss) zero d lt h = at_header b p (p + 40 * 0) n (n + 0) c (c + 0) r (r + 10 * 0) s (omega arith) (omega arith) (omega arith) (omega arith) (has_left b p (section_header n c r s) _ h)
headers_at b p n c r (s ∷ ss) (suc i) d lt h =
    let rest = section_headers (n + name_size s) (c + length s.bytes) (r + 10 * row_count s) ss in
    let there = headers_at b (p + 40) (n + name_size s) (c + length s.bytes) (r + 10 * row_count s) ss i d (omega arith) (has_next b p (p + 40) (section_header n c r s) rest (omega (arith, header_long n c r s)) h) in
    at_header b _ (p + 40 * suc i) _ (n + (name_size s + section_names_size (take i ss))) _ (c + (length s.bytes + contents_size (take i ss))) _ (r + 10 * (row_count s + rows_count (take i ss))) (get_or ss i d) (omega arith) (omega arith) (omega arith) (omega arith) there

pub contents_at : (b : List ℕ) (p : ℕ) (ss : List ObjSection) (i : ℕ) (d : ObjSection) → i < length ss → Has b p (section_contents ss) → Has b (p + contents_size (take i ss)) (get_or ss i d).bytes
contents_at b p [] i d lt h = absurd (omega arith)
contents_at b p (s ∷ ss) zero d lt h = has_moved b p (p + 0) s.bytes (omega arith) (has_left b p s.bytes (section_contents ss) h)
contents_at b p (s ∷ ss) (suc i) d lt h = has_moved b (p + length s.bytes + contents_size (take i ss)) _ (get_or ss i d).bytes (omega arith) (contents_at b (p + length s.bytes) ss i d (omega arith) (has_right b p s.bytes (section_contents ss) h))

pub rows_at : (b : List ℕ) (p : ℕ) (m : ObjMachine) (records : List ℕ) (ss : List ObjSection) (i : ℕ) (d : ObjSection) → i < length ss → Has b p (section_relocations m records ss) → Has b (p + 10 * rows_count (take i ss)) (count_row (get_or ss i d) ++ relocations m records (get_or ss i d).sites)
rows_at b p m records [] i d lt h = absurd (omega arith)
rows_at b p m records (s ∷ ss) zero d lt h = has_moved b p (p + 10 * 0) _ (omega arith) (has_left b p (count_row s ++ relocations m records s.sites) (section_relocations m records ss) h)
rows_at b p m records (s ∷ ss) (suc i) d lt h =
    let there = has_next b p (p + 10 * row_count s) (count_row s ++ relocations m records s.sites) (section_relocations m records ss) (omega (arith, rows_long m records s)) h in
    has_moved b (p + 10 * row_count s + 10 * rows_count (take i ss)) _ (count_row (get_or ss i d) ++ relocations m records (get_or ss i d).sites) (omega arith) (rows_at b (p + 10 * row_count s) m records ss i d (omega arith) there)

pub relocations_at : (b : List ℕ) (p : ℕ) (m : ObjMachine) (records : List ℕ) (ts : List ObjSite) (r : ℕ) (d : ObjSite) → r < length ts → Has b p (relocations m records ts) → Has b (p + 10 * r) (relocation m records (get_or ts r d))
relocations_at b p m records [] r d lt h = absurd (omega arith)
relocations_at b p m records (t ∷ ts) zero d lt h = has_moved b p (p + 10 * 0) _ (omega arith) (has_left b p (relocation m records t) (relocations m records ts) h)
relocations_at b p m records (t ∷ ts) (suc r) d lt h =
    has_moved b (p + 10 + 10 * r) _ (relocation m records (get_or ts r d)) (omega arith) (relocations_at b (p + 10) m records ts r d (omega arith) (has_next b p (p + 10) (relocation m records t) (relocations m records ts) (omega (arith, relocation_long m records t)) h))

pub section_texts_at : (b : List ℕ) (p : ℕ) (ss : List ObjSection) (i : ℕ) (d : ObjSection) → i < length ss → Has b p (section_texts ss) → Has b (p + section_names_size (take i ss)) (long_text (is_short_section (get_or ss i d).name) (get_or ss i d).name)
section_texts_at b p [] i d lt h = absurd (omega arith)
section_texts_at b p (s ∷ ss) zero d lt h = has_moved b p (p + 0) _ (omega arith) (has_left b p (long_text (is_short_section s.name) s.name) (section_texts ss) h)
section_texts_at b p (s ∷ ss) (suc i) d lt h =
    has_moved b (p + name_size s + section_names_size (take i ss)) _ _ (omega arith) (section_texts_at b (p + name_size s) ss i d (omega arith) (has_next b p (p + name_size s) (long_text (is_short_section s.name) s.name) (section_texts ss) (omega (arith, text_long (is_short_section s.name) s.name)) h))

pub symbol_texts_at : (b : List ℕ) (p : ℕ) (ss : List ObjSymbol) (j : ℕ) (d : ObjSymbol) → j < length ss → Has b p (symbol_texts ss) → Has b (p + symbol_names_size (take j ss)) (long_text (is_short_symbol (get_or ss j d).name) (get_or ss j d).name)
symbol_texts_at b p [] j d lt h = absurd (omega arith)
symbol_texts_at b p (s ∷ ss) zero d lt h = has_moved b p (p + 0) _ (omega arith) (has_left b p (long_text (is_short_symbol s.name) s.name) (symbol_texts ss) h)
symbol_texts_at b p (s ∷ ss) (suc j) d lt h =
    has_moved b (p + symbol_name_size s + symbol_names_size (take j ss)) _ _ (omega arith) (symbol_texts_at b (p + symbol_name_size s) ss j d (omega arith) (has_next b p (p + symbol_name_size s) (long_text (is_short_symbol s.name) s.name) (symbol_texts ss) (omega (arith, text_long (is_short_symbol s.name) s.name)) h))
