-- What is read has rows.
use Rattle.std.proofs.Common.{◌≡◌, ℕ, zero, suc, ◌+◌, ◌-◌, ◌%◌, ◌<◌, Bool, true, false, cond, not, eqb, List, [], ◌∷◌, ◌++◌, get_or, take, drop, Result, Ok, Err, refl, subst, arith}
use Rattle.std.specs.List.{list_all, position_or_len}
use Rattle.std.proofs.lemmas.Bool.{and_parts, and_from, or_parts, not-false, not_from_false, lt-ltb, eq-eqb}
use Rattle.hx_words.specs.LittleEndian.{AreBytes}
use Rattle.file_words.specs.Fields.{byte_of, word_of, dword_of, until_zero}
use Rattle.file_words.specs.Below.{table}
use Rattle.chpe_types.specs.declared.image.Meta.{Meta}
use Rattle.chpe_meta.specs.declared.refusal.MetaRefusal.{MetaRefusal}
use Rattle.chpe_meta.specs.declared.refusal.MetaRefusal.TheVariants.{Bad}
use Rattle.chpe_meta.specs.Fields.{range_count, redirect_count, row_count, range_place, raw_start, range, redirect_place, redirect, row_place, name_rva, name, row}
use Rattle.chpe_meta.specs.Allowed.{in_order, fits, is_letter, has_range_row, has_redirect_row, has_function_row, has_rows, is_allowed}
use Rattle.chpe_meta.specs.Reading.{bad_places, meta_in, bad_meta, meta_of}

-- ---- tables

all_push : {X : Type 0} (p : X → Bool) (xs : List X) (y : X) → list_all p xs ≡ true → p y ≡ true → list_all p (xs ++ y ∷ []) ≡ true
all_push p [] y h e = and_from (p y) true e refl
all_push p (x ∷ xs) y h e = let k = and_parts (p x) (list_all p xs) h in and_from (p x) (list_all p (xs ++ y ∷ [])) k.0 (all_push p xs y k.1 e)

all_table : {X : Type 0} (p : X → Bool) (f : ℕ → X) (n : ℕ) → ((i : ℕ) → p (f i) ≡ true) → list_all p (table f n) ≡ true
unfolding table
all_table p f zero h = refl
all_table p f (suc n) h = all_push p (table f n) (f n) (all_table p f n h) (h n)

-- ---- names

letters_case : (t : Bool) (x m : ℕ) (xs : List ℕ) → eqb x 0 ≡ t → list_all is_letter (take m xs) ≡ true → list_all is_letter (take (cond (not t) (1 + m) 0) (x ∷ xs)) ≡ true
letters_case true x m xs e h = refl
letters_case false x m xs e h = let s : 1 + m ≡ suc m = omega arith in rw s (and_from (is_letter x) (list_all is_letter (take m xs)) (not_from_false (eqb x 0) e) h)

letters : (xs : List ℕ) → list_all is_letter (until_zero xs) ≡ true
letters [] = refl
letters (x ∷ xs) = letters_case (eqb x 0) x (position_or_len (λ c. eqb c 0) xs) xs refl (letters xs)

-- ---- numbers

byte_lt : (b : List ℕ) (p : ℕ) → AreBytes b → get_or b p 0 < 256
byte_lt [] p h = omega arith
byte_lt (x ∷ xs) zero h = h.0
byte_lt (x ∷ xs) (suc p) h = byte_lt xs p h.1

dword_lt : (b : List ℕ) (p : ℕ) → AreBytes b → dword_of b p < 4294967296
unfolding dword_of word_of byte_of
dword_lt b p h = omega (arith, byte_lt b p h, byte_lt b (p + 1) h, byte_lt b (p + 2) h, byte_lt b (p + 2 + 1) h)

dword_fits : (b : List ℕ) (p : ℕ) → AreBytes b → fits (dword_of b p) ≡ true
dword_fits b p h = lt-ltb (dword_of b p) 4294967296 (dword_lt b p h)

-- ---- rows

start_low : (v : ℕ) → (v - v % 4) % 4 ≡ 0
start_low v = omega arith

range_had : (b : List ℕ) (at i : ℕ) → AreBytes b → has_range_row (range b at i) ≡ true
unfolding range raw_start
range_had b at i h =
    let v = dword_of b (range_place b at i) in
    and_from (eqb ((v - v % 4) % 4) 0) _ (eq-eqb ((v - v % 4) % 4) 0 (start_low v))
    (and_from (fits (v - v % 4)) _ (lt-ltb (v - v % 4) 4294967296 (omega (arith, dword_lt b (range_place b at i) h))) (dword_fits b (range_place b at i + 4) h))

redirect_had : (b : List ℕ) (at i : ℕ) → AreBytes b → has_redirect_row (redirect b at i) ≡ true
unfolding redirect
redirect_had b at i h = and_from (fits (dword_of b (redirect_place b at i))) _ (dword_fits b (redirect_place b at i) h) (dword_fits b (redirect_place b at i + 4) h)

name_had : (b : List ℕ) (at i : ℕ) → list_all is_letter (name b at i) ≡ true
unfolding name
name_had b at i = letters (drop (name_rva b at i - at) b)

row_had : (b : List ℕ) (at i : ℕ) → AreBytes b → has_function_row (row b at i) ≡ true
unfolding row
row_had b at i h =
    and_from (list_all is_letter (name b at i)) _ (name_had b at i)
    (and_from (fits (dword_of b (row_place b at i))) _ (dword_fits b (row_place b at i) h)
    (and_from (fits (dword_of b (row_place b at i + 8))) _ (dword_fits b (row_place b at i + 8) h) (dword_fits b (row_place b at i + 12) h)))

rows_had : (b : List ℕ) (at : ℕ) → AreBytes b → has_rows (meta_in b at) ≡ true
unfolding meta_in
rows_had b at h =
    and_from (list_all has_range_row (table (range b at) (range_count b))) _ (all_table has_range_row (range b at) (range_count b) (λ i. range_had b at i h))
    (and_from (list_all has_redirect_row (table (redirect b at) (redirect_count b))) _ (all_table has_redirect_row (redirect b at) (redirect_count b) (λ i. redirect_had b at i h))
    (all_table has_function_row (row b at) (row_count b) (λ i. row_had b at i h)))

accepted_case : (t : Bool) (k : MetaRefusal) (x m : Meta) → (let r : Result Meta MetaRefusal = cond t (Err k) (Ok x) in r) ≡ Ok m → (t ≡ false) × (x ≡ m)
accepted_case true k x m e = absurd cc
accepted_case false k x m e = (refl, cc)

accepted : (b : List ℕ) (at : ℕ) (m : Meta) → meta_of b at ≡ Ok m → (bad_meta b at ≡ false) × (meta_in b at ≡ m)
unfolding meta_of
accepted b at m e = accepted_case (bad_meta b at) Bad (meta_in b at) m e

ordered : (b : List ℕ) (at : ℕ) → bad_meta b at ≡ false → in_order (meta_in b at) ≡ true
unfolding bad_meta
ordered b at f = not-false (in_order (meta_in b at)) (or_parts (bad_places b at) _ f).1

both : (m : Meta) → in_order m ≡ true → has_rows m ≡ true → is_allowed m ≡ true
unfolding is_allowed
both m o h = and_from (in_order m) (has_rows m) o h

pub read_allowed : (b : List ℕ) (at : ℕ) (m : Meta) → AreBytes b → meta_of b at ≡ Ok m → is_allowed m ≡ true
read_allowed b at m bytes e =
    let h = accepted b at m e in
    subst (λ (x : Meta). is_allowed x ≡ true) h.1 (both (meta_in b at) (ordered b at h.0) (rows_had b at bytes))
