-- Tables of what is kept.
use Rattle.std.proofs.Common.{◌≡◌, ◌≢◌, ℕ, ◌+◌, ◌-◌, ◌<◌, ◌≤◌, Bool, true, false, not, ◌&&◌, ◌||◌, List, get_or, set, eqb, ltb, refl, sym, ap, ◌∙◌, arith, add-one}
use Rattle.std.specs.Prelude.{replicate}
use Rattle.std.proofs.lemmas.Bool.{eq-eqb, ne_eqb, or_right, and_parts, eqb-false, not-true}
use Rattle.file_words.specs.Below.{any_below, table}
use Rattle.file_words.proofs.BelowLaws.{any_none, table_same, table_set, table_at, table_replicate, count_le}
use Rattle.coff_fields.specs.Fields.{section_count, site_symbol, site_count, in_section}
use Rattle.coff_read.specs.Kept.{keeps_section, new_section, names_in, is_named}
use Rattle.coff_read.specs.Stages.{section_number, named_before, named_until}

or_none : (x : Bool) → (x || false) ≡ x
or_none true = refl
or_none false = refl

first_mark : (b : List ℕ) (j : ℕ) → false ≡ named_before b 0 j
unfolding named_before
first_mark b j = any_none (names_in b j)

pub marks_first : (b : List ℕ) (n : ℕ) → replicate n false ≡ table (named_before b 0) n
marks_first b n = table_replicate n false ∙ table_same (λ j. false) (named_before b 0) n (λ j lt. first_mark b j)

no_site : (b : List ℕ) (i j : ℕ) → named_before b i j ≡ named_until b i 0 j
unfolding named_until any_below
no_site b i j = sym (or_none (named_before b i j))

pub marks_none : (b : List ℕ) (i n : ℕ) → table (named_before b i) n ≡ table (named_until b i 0) n
marks_none b i n = table_same (named_before b i) (named_until b i 0) n (λ j lt. no_site b i j)

mark_here : (b : List ℕ) (i r k : ℕ) → k ≡ site_symbol b i r → true ≡ named_until b i (r + 1) k
unfolding named_until any_below
mark_here b i r k e = rw (add-one r, eq-eqb (site_symbol b i r) k (sym e)) (sym (or_right (named_before b i k) (any_below (λ q. eqb (site_symbol b i q) k) r || true) (or_right (any_below (λ q. eqb (site_symbol b i q) k) r) true refl)))

mark_other : (b : List ℕ) (i r k j : ℕ) → k ≡ site_symbol b i r → j ≢ k → named_until b i r j ≡ named_until b i (r + 1) j
unfolding named_until any_below
mark_other b i r k j e ne = rw (add-one r, ne_eqb (site_symbol b i r) j (λ s. ne (sym (e ∙ s)))) (ap (λ x. named_before b i j || x) (sym (or_none (any_below (λ q. eqb (site_symbol b i q) j) r))))

pub marks_step : (b : List ℕ) (i r n k : ℕ) (xs : List Bool) → xs ≡ table (named_until b i r) n → k ≡ site_symbol b i r → set xs k true ≡ table (named_until b i (r + 1)) n
marks_step b i r n k xs e s = table_set (named_until b i r) (named_until b i (r + 1)) n k xs true e (λ lt. mark_here b i r k s) (λ j lt ne. mark_other b i r k j s ne)

all_sites : (b : List ℕ) (i j : ℕ) → keeps_section b i ≡ true → named_until b i (site_count b i) j ≡ named_before b (i + 1) j
unfolding named_until named_before any_below names_in
all_sites b i j t = rw (add-one i, t) refl

pub marks_all : (b : List ℕ) (i n : ℕ) → keeps_section b i ≡ true → table (named_until b i (site_count b i)) n ≡ table (named_before b (i + 1)) n
marks_all b i n t = table_same (named_until b i (site_count b i)) (named_before b (i + 1)) n (λ j lt. all_sites b i j t)

dropped_same : (b : List ℕ) (i j : ℕ) → keeps_section b i ≡ false → named_before b i j ≡ named_before b (i + 1) j
unfolding named_before any_below names_in
dropped_same b i j t = rw (add-one i, t) (sym (or_none (any_below (names_in b j) i)))

pub marks_dropped : (b : List ℕ) (i n : ℕ) → keeps_section b i ≡ false → table (named_before b i) n ≡ table (named_before b (i + 1)) n
marks_dropped b i n t = table_same (named_before b i) (named_before b (i + 1)) n (λ j lt. dropped_same b i j t)

whole : (b : List ℕ) (j : ℕ) → named_before b (section_count b) j ≡ is_named b j
unfolding named_before is_named
whole b j = refl

pub marks_named : (b : List ℕ) (n : ℕ) → table (named_before b (section_count b)) n ≡ table (is_named b) n
marks_named b n = table_same (named_before b (section_count b)) (is_named b) n (λ j lt. whole b j)

-- ---- the new numbers of sections

pub section_number_le : (b : List ℕ) (i : ℕ) → section_number b i ≤ i
unfolding section_number
section_number_le b i = count_le (keeps_section b) i

pub home_number : (b : List ℕ) (xs : List ℕ) (s : ℕ) → xs ≡ table (section_number b) (section_count b) → in_section s ≡ true → s ≤ section_count b → get_or xs (s - 1) 0 + 1 ≡ new_section b s
unfolding new_section section_number
home_number b xs s e t le =
    let h = and_parts (not (eqb s 0)) (ltb s 65534) t in
    let ne : s ≢ 0 = eqb-false s 0 (not-true (eqb s 0) h.0) in
    rw (h.0, h.1) (ap (λ k. k + 1) (table_at (section_number b) (section_count b) xs (s - 1) 0 e (omega (arith, ne))))
