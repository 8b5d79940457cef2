-- The first static symbol of each section.
use Rattle.std.proofs.Common.{◌≡◌, ◌≢◌, ℕ, ◌+◌, ◌-◌, ◌<◌, ◌≤◌, Bool, true, false, cond, ◌&&◌, ◌||◌, List, get_or, set, eqb, Option, Some, None, refl, sym, ap, ◌∙◌, arith, inl, inr}
use Rattle.std.specs.Prelude.{replicate}
use Rattle.std.proofs.lemmas.Bool.{eq-eqb, ne_eqb, cases_eq}
use Rattle.file_words.specs.Below.{table}
use Rattle.file_words.proofs.BelowLaws.{first_none, first_kept, first_stays, first_found, table_same, table_set, table_at, table_replicate}
use Rattle.coff_fields.specs.Fields.{symbol_count, symbol_section, symbol_class, symbol_value, skip_at, in_section}
use Rattle.coff_read.specs.Kept.{is_start, section_symbol}
use Rattle.coff_read.specs.Stages.{start_before}

-- ---- which section record j begins

start_case : (m c v h : Bool) (s i n : ℕ) → n ≡ cond (m && (c && (v && h))) s 0 → ((m && c) && (v && (h && eqb s (i + 1)))) ≡ eqb n (i + 1)
start_case true true true true s i n e = ap (λ (k : ℕ). eqb k (i + 1)) (sym e)
start_case true true true false s i n e = sym (ne_eqb n (i + 1) (λ f. omega (arith, e, f)))
start_case true true false h s i n e = sym (ne_eqb n (i + 1) (λ f. omega (arith, e, f)))
start_case true false v h s i n e = sym (ne_eqb n (i + 1) (λ f. omega (arith, e, f)))
start_case false c v h s i n e = sym (ne_eqb n (i + 1) (λ f. omega (arith, e, f)))

pub starts_in : (b : List ℕ) (j k n i : ℕ) → k ≡ skip_at b j → n ≡ cond (eqb k 0 && (eqb (symbol_class b j) 3 && (eqb (symbol_value b j) 0 && in_section (symbol_section b j)))) (symbol_section b j) 0 → is_start b i j ≡ eqb n (i + 1)
unfolding is_start
starts_in b j k n i e s = start_case (eqb (skip_at b j) 0) (eqb (symbol_class b j) 3) (eqb (symbol_value b j) 0) (in_section (symbol_section b j)) (symbol_section b j) i n (rw (sym e) s)

-- ---- tables of the first ones

first_start : (b : List ℕ) (i : ℕ) → None ≡ start_before b 0 i
unfolding start_before
first_start b i = first_none (is_start b i)

pub starts_first : (b : List ℕ) (n : ℕ) → replicate n None ≡ table (start_before b 0) n
starts_first b n = table_replicate n None ∙ table_same (λ i. None) (start_before b 0) n (λ i lt. first_start b i)

start_kept : (b : List ℕ) (j i : ℕ) → is_start b i j ≡ false → start_before b j i ≡ start_before b (j + 1) i
unfolding start_before
start_kept b j i e = first_kept (is_start b i) j e

start_stays : (b : List ℕ) (j i k : ℕ) → start_before b j i ≡ Some k → start_before b j i ≡ start_before b (j + 1) i
unfolding start_before
start_stays b j i k e = first_stays (is_start b i) j k e

start_found : (b : List ℕ) (j i : ℕ) → start_before b j i ≡ None → is_start b i j ≡ true → Some j ≡ start_before b (j + 1) i
unfolding start_before
start_found b j i e t = first_found (is_start b i) j e t

pub none_noted : (b : List ℕ) (j n : ℕ) (s : ℕ) → ((i : ℕ) → is_start b i j ≡ eqb s (i + 1)) → s ≡ 0 → table (start_before b j) n ≡ table (start_before b (j + 1)) n
none_noted b j n s h z = table_same (start_before b j) (start_before b (j + 1)) n (λ i lt. start_kept b j i (h i ∙ ne_eqb s (i + 1) (λ f. omega (arith, z, f))))

pub past_noted : (b : List ℕ) (j n : ℕ) (s : ℕ) → ((i : ℕ) → is_start b i j ≡ eqb s (i + 1)) → n ≤ s - 1 → table (start_before b j) n ≡ table (start_before b (j + 1)) n
past_noted b j n s h le = table_same (start_before b j) (start_before b (j + 1)) n (λ i lt. start_kept b j i (h i ∙ ne_eqb s (i + 1) (λ f. omega (arith, le, lt, f))))

-- section s has one before
pub stays_noted : (b : List ℕ) (j n s k : ℕ) (xs : List (Option ℕ)) → ((i : ℕ) → is_start b i j ≡ eqb s (i + 1)) → xs ≡ table (start_before b j) n → get_or xs (s - 1) None ≡ Some k → xs ≡ table (start_before b (j + 1)) n
stays_noted b j n s k xs h e found = e ∙ table_same (start_before b j) (start_before b (j + 1)) n (λ i lt. elim (cases_eq i (s - 1)) [
  | inl same ↦ start_stays b j i k (sym (table_at (start_before b j) n xs i None e lt) ∙ ap (λ (q : ℕ). get_or xs q None) same ∙ found)
  | inr ne ↦ start_kept b j i (h i ∙ ne_eqb s (i + 1) (λ f. ne (omega (arith, f))))
])

pub start_noted : (b : List ℕ) (j n s : ℕ) (xs : List (Option ℕ)) → ((i : ℕ) → is_start b i j ≡ eqb s (i + 1)) → xs ≡ table (start_before b j) n → get_or xs (s - 1) None ≡ None → 0 < s → set xs (s - 1) (Some j) ≡ table (start_before b (j + 1)) n
start_noted b j n s xs h e none positive = table_set (start_before b j) (start_before b (j + 1)) n (s - 1) xs (Some j) e
    (λ lt. start_found b j (s - 1) (sym (table_at (start_before b j) n xs (s - 1) None e lt) ∙ none) (h (s - 1) ∙ eq-eqb s (s - 1 + 1) (omega (arith, positive))))
    (λ i lt ne. start_kept b j i (h i ∙ ne_eqb s (i + 1) (λ f. ne (omega (arith, f)))))

whole : (b : List ℕ) (i : ℕ) → start_before b (symbol_count b) i ≡ section_symbol b i
unfolding start_before section_symbol
whole b i = refl

pub starts_whole : (b : List ℕ) (n : ℕ) → table (start_before b (symbol_count b)) n ≡ table (section_symbol b) n
starts_whole b n = table_same (start_before b (symbol_count b)) (section_symbol b) n (λ i lt. whole b i)
