-- Where the records of symbols and the hybrid rows stand.
use Rattle.std.proofs.Common.{◌≡◌, ℕ, zero, suc, ◌+◌, ◌*◌, ◌<◌, Bool, List, [], ◌∷◌, length, get_or, take, refl, sym, ap, ◌∙◌, arith, add-one}
use Rattle.coff_write.specs.declared.object.ObjSection.{ObjSection}
use Rattle.coff_write.specs.declared.object.ObjSymbol.{ObjSymbol}
use Rattle.coff_write.specs.declared.object.HybridRow.{HybridRow}
use Rattle.coff_write.specs.Format.{is_section_symbol, records_in, record_numbers, records_total, symbol_records_of, symbol_name_size, symbol_names_size, symbol_table, hybrid_row, hybrid_rows}
use Rattle.file_words.specs.Standing.{Has}
use Rattle.file_words.proofs.HasLaws.{has_left, has_moved}
use Rattle.coff_laws_base.specs.Records.{no_symbol, record_of, has_more}
use Rattle.coff_laws_base.proofs.Sizes.{hybrid_row_long, records_long, comdat_of}
use Rattle.coff_laws_base.proofs.Rows.{has_next}

pub hybrid_rows_at : (b : List ℕ) (p : ℕ) (records : List ℕ) (rs : List HybridRow) (r : ℕ) (d : HybridRow) → r < length rs → Has b p (hybrid_rows records rs) → Has b (p + 12 * r) (hybrid_row records (get_or rs r d))
hybrid_rows_at b p records [] r d lt h = absurd (omega arith)
hybrid_rows_at b p records (x ∷ rs) zero d lt h = has_moved b p (p + 12 * 0) _ (omega arith) (has_left b p (hybrid_row records x) (hybrid_rows records rs) h)
hybrid_rows_at b p records (x ∷ rs) (suc r) d lt h =
    has_moved b (p + 12 + 12 * r) _ (hybrid_row records (get_or rs r d)) (omega arith) (hybrid_rows_at b (p + 12) records rs r d (omega arith) (has_next b p (p + 12) (hybrid_row records x) (hybrid_rows records rs) (omega (arith, hybrid_row_long records x)) h))

pub record_none : (more : ℕ → Bool) → record_of more 0 ≡ 0
unfolding record_of
record_none more = refl

pub record_more : (more : ℕ → Bool) (j : ℕ) → record_of more (j + 1) ≡ record_of more j + records_in (more j)
unfolding record_of
record_more more j = rw add-one refl

-- the symbols from j on
pub record Follows (symbols : List ObjSymbol) (j : ℕ) (ss : List ObjSymbol) : Type 0 where
  pub same : (k : ℕ) → k < length ss → get_or symbols (j + k) no_symbol ≡ get_or ss k no_symbol

pub follows_all : (symbols : List ObjSymbol) → Follows symbols 0 symbols
follows_all symbols = record { same = λ k lt. let e : 0 + k ≡ k = omega arith in ap (λ (q : ℕ). get_or symbols q no_symbol) e }

follows_rest : (symbols : List ObjSymbol) (j : ℕ) (s : ObjSymbol) (ss : List ObjSymbol) → Follows symbols j (s ∷ ss) → Follows symbols (j + 1) ss
follows_rest symbols j s ss h = record { same = λ k lt. let e : j + 1 + k ≡ j + suc k = omega arith in ap (λ (q : ℕ). get_or symbols q no_symbol) e ∙ h.same (suc k) (omega arith) }

follows_first : (symbols : List ObjSymbol) (j : ℕ) (s : ObjSymbol) (ss : List ObjSymbol) → Follows symbols j (s ∷ ss) → get_or symbols j no_symbol ≡ s
follows_first symbols j s ss h = let e : j ≡ j + 0 = omega arith in ap (λ (q : ℕ). get_or symbols q no_symbol) e ∙ h.same 0 (omega arith)

more_first : (sections : List ObjSection) (symbols : List ObjSymbol) (j : ℕ) (s : ObjSymbol) (ss : List ObjSymbol) → Follows symbols j (s ∷ ss) → has_more sections symbols j ≡ is_section_symbol sections (take j symbols) s
unfolding has_more
more_first sections symbols j s ss h = ap (is_section_symbol sections (take j symbols)) (follows_first symbols j s ss h)

record_next : (sections : List ObjSection) (symbols : List ObjSymbol) (j n : ℕ) (s : ObjSymbol) (ss : List ObjSymbol) → Follows symbols j (s ∷ ss) → n ≡ record_of (has_more sections symbols) j → n + records_in (is_section_symbol sections (take j symbols) s) ≡ record_of (has_more sections symbols) (j + 1)
record_next sections symbols j n s ss h e = rw (e, ← more_first sections symbols j s ss h) (sym (record_more (has_more sections symbols) j))

pub numbers_at : (sections : List ObjSection) (symbols : List ObjSymbol) (j n : ℕ) (ss : List ObjSymbol) (k : ℕ) → Follows symbols j ss → n ≡ record_of (has_more sections symbols) j → k < length ss → get_or (record_numbers sections symbols j n ss) k 0 ≡ record_of (has_more sections symbols) (j + k)
numbers_at sections symbols j n [] k h e lt = absurd (omega arith)
numbers_at sections symbols j n (s ∷ ss) zero h e lt = e ∙ ap (record_of (has_more sections symbols)) (omega arith)
numbers_at sections symbols j n (s ∷ ss) (suc k) h e lt =
    numbers_at sections symbols (j + 1) (n + records_in (is_section_symbol sections (take j symbols) s)) ss k (follows_rest symbols j s ss h) (record_next sections symbols j n s ss h e) (omega arith)
    ∙ ap (record_of (has_more sections symbols)) (omega arith)

pub total_is : (sections : List ObjSection) (symbols : List ObjSymbol) (j n : ℕ) (ss : List ObjSymbol) → Follows symbols j ss → n ≡ record_of (has_more sections symbols) j → n + records_total sections symbols j ss ≡ record_of (has_more sections symbols) (j + length ss)
total_is sections symbols j n [] h e = omega arith ∙ e ∙ ap (record_of (has_more sections symbols)) (omega arith)
total_is sections symbols j n (s ∷ ss) h e =
    let here = is_section_symbol sections (take j symbols) s in
    let there = total_is sections symbols (j + 1) (n + records_in here) ss (follows_rest symbols j s ss h) (record_next sections symbols j n s ss h e) in
    let step : n + (records_in here + records_total sections symbols (j + 1) ss) ≡ n + records_in here + records_total sections symbols (j + 1) ss = omega arith in
    step ∙ there ∙ ap (record_of (has_more sections symbols)) (omega arith)

at_records : (b : List ℕ) (sections : List ObjSection) (p q n m : ℕ) (x y : Bool) (s : ObjSymbol) → p ≡ q → n ≡ m → x ≡ y → Has b p (symbol_records_of sections n x s) → Has b q (symbol_records_of sections m y s)
at_records b sections p q n m x y s e f g h = rw (← e, ← f, ← g) h

pub symbols_at : (b : List ℕ) (p : ℕ) (sections : List ObjSection) (symbols : List ObjSymbol) (j q n : ℕ) (ss : List ObjSymbol) (k : ℕ) → Follows symbols j ss → q ≡ p + 18 * record_of (has_more sections symbols) j → k < length ss → Has b q (symbol_table sections symbols j n ss) →
    Has b (p + 18 * record_of (has_more sections symbols) (j + k)) (symbol_records_of sections (n + symbol_names_size (take k ss)) (has_more sections symbols (j + k)) (get_or ss k no_symbol))
symbols_at b p sections symbols j q n [] k h e lt t = absurd (omega arith)
symbols_at b p sections symbols j q n (s ∷ ss) zero h e lt t =
    let same : j ≡ j + 0 = omega arith in
    at_records b sections q _ n (n + 0) _ _ s (e ∙ ap (λ i. p + 18 * record_of (has_more sections symbols) i) same) (omega arith) (sym (more_first sections symbols j s ss h) ∙ ap (has_more sections symbols) same)
    (has_left b q (symbol_records_of sections n (is_section_symbol sections (take j symbols) s) s) (symbol_table sections symbols (j + 1) (n + symbol_name_size s) ss) t)
symbols_at b p sections symbols j q n (s ∷ ss) (suc k) h e lt t =
    let more = is_section_symbol sections (take j symbols) s in
    let same : j + 1 + k ≡ j + suc k = omega arith in
    let long : length (symbol_records_of sections n more s) ≡ 18 * records_in more = records_long sections n more s (comdat_of sections (take j symbols) s) in
    let next : record_of (has_more sections symbols) j + records_in more ≡ record_of (has_more sections symbols) (j + 1) = record_next sections symbols j (record_of (has_more sections symbols) j) s ss h refl in
    at_records b sections _ _ (n + symbol_name_size s + symbol_names_size (take k ss)) (n + (symbol_name_size s + symbol_names_size (take k ss))) _ _ (get_or ss k no_symbol)
    (ap (λ i. p + 18 * record_of (has_more sections symbols) i) same) (omega arith) (ap (has_more sections symbols) same)
    (symbols_at b p sections symbols (j + 1) (q + 18 * records_in more) (n + symbol_name_size s) ss k (follows_rest symbols j s ss h) (omega (arith, e, next)) (omega arith)
    (has_next b q (q + 18 * records_in more) (symbol_records_of sections n more s) (symbol_table sections symbols (j + 1) (n + symbol_name_size s) ss) (omega (arith, long)) t))
