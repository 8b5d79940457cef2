-- What is written is read back.
use Rattle.std.proofs.Common.{◌≡◌, ℕ, zero, suc, ◌+◌, ◌-◌, ◌*◌, ◌%◌, ◌<◌, ◌≤◌, ◌⊎◌, inl, inr, Bool, true, false, cond, not, ◌&&◌, eqb, ltb, leb, List, [], ◌∷◌, ◌++◌, length, get_or, take, drop, Ok, refl, sym, ap, ◌∙◌, arith}
use Rattle.std.specs.List.{concat, list_all}
use Rattle.std.proofs.lemmas.Bool.{and_parts, or_from, or_cases, not-true, eqb-true, ltb-true, le-ltb, le-leb, not_from_true}
use Rattle.std.proofs.lemmas.List.{length-append}
use Rattle.file_words.specs.Standing.{Has}
use Rattle.file_words.specs.Fields.{byte_of, dword_of, until_zero}
use Rattle.file_words.specs.Below.{any_below, table}
use Rattle.file_words.proofs.HasLaws.{has_left, has_right, has_within, dword_has, byte_has}
use Rattle.file_words.proofs.BelowLaws.{any_found, any_never, table_is}
use Rattle.chpe_types.specs.declared.image.CodeRange.{CodeRange}
use Rattle.chpe_types.specs.declared.image.Redirect.{Redirect}
use Rattle.chpe_types.specs.declared.image.FnRow.{FnRow}
use Rattle.chpe_types.specs.declared.image.Meta.{Meta}
use Rattle.chpe_types.specs.Looks.{has_side, valid_ranges, valid_meta_of}
use Rattle.chpe_meta.specs.Fields.{version, ranges_rva, range_count, redirects_rva, redirect_count, rows_rva, row_count, range_place, raw_start, range, redirect_place, redirect, row_place, name_rva, name, row, passes, is_zero, open_name}
use Rattle.chpe_meta.specs.Allowed.{in_order, fits, is_letter, has_range_row, has_redirect_row, has_function_row, has_rows, is_allowed}
use Rattle.chpe_meta.specs.Reading.{bad_header, bad_tables, bad_names, bad_places, meta_in, bad_meta, meta_of}
use Rattle.chpe_meta.specs.Format.{dword, range_row, redirect_row, function_row, names_size, redirects_place, rows_place, names_place, meta_size, header, meta_bytes}
use Rattle.chpe_meta.proofs.Sizes.{four, bytes_long, has_next, header_there, ranges_there, redirects_there, rows_there, names_there, range_at, redirect_at, at_row, function_at, name_at, names_before}

-- ---- the header

pub record HeaderFields (m : Meta) (at : ℕ) (b : List ℕ) : Type 0 where
  pub version_is : version b ≡ 1
  pub ranges_are : ranges_rva b ≡ at + 28
  pub range_total : range_count b ≡ length m.ranges
  pub redirects_are : redirects_rva b ≡ at + redirects_place m
  pub redirect_total : redirect_count b ≡ length m.redirects
  pub rows_are : rows_rva b ≡ at + rows_place m
  pub row_total : row_count b ≡ length m.rows

pub header_fields : (m : Meta) (at : ℕ) → at + meta_size m < 4294967296 → HeaderFields m at (meta_bytes m at)
unfolding header version ranges_rva range_count redirects_rva redirect_count rows_rva row_count
header_fields m at room =
    let b = meta_bytes m at in
    let h0 = header_there m at in
    let h1 = has_next b 0 4 (dword 1) (concat (dword (at + 28) ∷ dword (length m.ranges) ∷ dword (at + redirects_place m) ∷ dword (length m.redirects) ∷ dword (at + rows_place m) ∷ dword (length m.rows) ∷ [])) (omega (arith, four 1)) h0 in
    let h2 = has_next b 4 8 (dword (at + 28)) (concat (dword (length m.ranges) ∷ dword (at + redirects_place m) ∷ dword (length m.redirects) ∷ dword (at + rows_place m) ∷ dword (length m.rows) ∷ [])) (omega (arith, four (at + 28))) h1 in
    let h3 = has_next b 8 12 (dword (length m.ranges)) (concat (dword (at + redirects_place m) ∷ dword (length m.redirects) ∷ dword (at + rows_place m) ∷ dword (length m.rows) ∷ [])) (omega (arith, four (length m.ranges))) h2 in
    let h4 = has_next b 12 16 (dword (at + redirects_place m)) (concat (dword (length m.redirects) ∷ dword (at + rows_place m) ∷ dword (length m.rows) ∷ [])) (omega (arith, four (at + redirects_place m))) h3 in
    let h5 = has_next b 16 20 (dword (length m.redirects)) (concat (dword (at + rows_place m) ∷ dword (length m.rows) ∷ [])) (omega (arith, four (length m.redirects))) h4 in
    let h6 = has_next b 20 24 (dword (at + rows_place m)) (concat (dword (length m.rows) ∷ [])) (omega (arith, four (at + rows_place m))) h5 in
    record {
      version_is = dword_has b 0 1 (omega arith) (has_left b 0 (dword 1) _ h0);
      ranges_are = dword_has b 4 (at + 28) (omega arith) (has_left b 4 (dword (at + 28)) _ h1);
      range_total = dword_has b 8 (length m.ranges) (omega arith) (has_left b 8 (dword (length m.ranges)) _ h2);
      redirects_are = dword_has b 12 (at + redirects_place m) (omega arith) (has_left b 12 (dword (at + redirects_place m)) _ h3);
      redirect_total = dword_has b 16 (length m.redirects) (omega arith) (has_left b 16 (dword (length m.redirects)) _ h4);
      rows_are = dword_has b 20 (at + rows_place m) (omega arith) (has_left b 20 (dword (at + rows_place m)) _ h5);
      row_total = dword_has b 24 (length m.rows) (omega arith) (has_left b 24 (dword (length m.rows)) [] h6);
    }

-- ---- rows

all_at : {X : Type 0} (p : X → Bool) (xs : List X) (i : ℕ) (d : X) → list_all p xs ≡ true → i < length xs → p (get_or xs i d) ≡ true
all_at p [] i d h lt = absurd (omega arith)
all_at p (x ∷ xs) zero d h lt = (and_parts (p x) (list_all p xs) h).0
all_at p (x ∷ xs) (suc i) d h lt = all_at p xs i d (and_parts (p x) (list_all p xs) h).1 (omega arith)

side_is : (r : CodeRange) → has_side r ≡ true → (r.kind ≡ 1) ⊎ (r.kind ≡ 2)
side_is r h = elim (or_cases (eqb r.kind 1) (eqb r.kind 2) h) [ inl e ↦ inl (eqb-true r.kind 1 e) | inr e ↦ inr (eqb-true r.kind 2 e) ]

kind_back : (v s k : ℕ) → v ≡ s + k → s % 4 ≡ 0 → (k ≡ 1) ⊎ (k ≡ 2) → (v % 4 ≡ k) × (v - v % 4 ≡ s)
kind_back v s k e z (inl f) = (omega arith, omega arith)
kind_back v s k e z (inr f) = (omega arith, omega arith)

same_range : (s l k : ℕ) (r : CodeRange) → s ≡ r.start → l ≡ r.length → k ≡ r.kind → (let x : CodeRange = record { start = s; length = l; kind = k } in x) ≡ r
same_range s l k r e f g = rw (e, f, g) refl

same_redirect : (s d : ℕ) (r : Redirect) → s ≡ r.source → d ≡ r.destination → (let x : Redirect = record { source = s; destination = d } in x) ≡ r
same_redirect s d r e f = rw (e, f) refl

same_row : (k s e : ℕ) (n : List ℕ) (r : FnRow) → k ≡ r.kind → n ≡ r.name → s ≡ r.start → e ≡ r.end → (let x : FnRow = record { kind = k; name = n; start = s; end = e } in x) ≡ r
same_row k s e n r h1 h2 h3 h4 = rw (h1, h2, h3, h4) refl

range_back : (b : List ℕ) (at p i : ℕ) (r : CodeRange) → ranges_rva b ≡ at + p → has_side r ≡ true → has_range_row r ≡ true → Has b (p + 8 * i) (range_row r) → range b at i ≡ r
unfolding range raw_start range_place range_row
range_back b at p i r e side fit h =
    let place : (ranges_rva b - at) + 8 * i ≡ p + 8 * i = omega arith in
    let f = and_parts (eqb (r.start % 4) 0) (fits r.start && fits r.length) fit in
    let g = and_parts (fits r.start) (fits r.length) f.1 in
    let low : r.start % 4 ≡ 0 = eqb-true (r.start % 4) 0 f.0 in
    let small : r.start < 4294967296 = ltb-true r.start 4294967296 g.0 in
    let short : r.length < 4294967296 = ltb-true r.length 4294967296 g.1 in
    let k = side_is r side in
    let sum : r.start + r.kind < 4294967296 = elim k [ inl o ↦ omega arith | inr o ↦ omega arith ] in
    let first : dword_of b ((ranges_rva b - at) + 8 * i) ≡ r.start + r.kind = ap (dword_of b) place ∙ dword_has b (p + 8 * i) (r.start + r.kind) sum (has_left b (p + 8 * i) (dword (r.start + r.kind)) _ h) in
    let second : dword_of b ((ranges_rva b - at) + 8 * i + 4) ≡ r.length = ap (λ (q : ℕ). dword_of b (q + 4)) place ∙ dword_has b (p + 8 * i + 4) r.length short (has_left b (p + 8 * i + 4) (dword r.length) [] (has_next b (p + 8 * i) (p + 8 * i + 4) (dword (r.start + r.kind)) (concat (dword r.length ∷ [])) (omega (arith, four (r.start + r.kind))) h)) in
    let back = kind_back (dword_of b ((ranges_rva b - at) + 8 * i)) r.start r.kind first low k in
    same_range _ _ _ r back.1 second back.0

redirect_back : (b : List ℕ) (at p i : ℕ) (r : Redirect) → redirects_rva b ≡ at + p → has_redirect_row r ≡ true → Has b (p + 8 * i) (redirect_row r) → redirect b at i ≡ r
unfolding redirect redirect_place redirect_row
redirect_back b at p i r e fit h =
    let place : (redirects_rva b - at) + 8 * i ≡ p + 8 * i = omega arith in
    let f = and_parts (fits r.source) (fits r.destination) fit in
    let first : dword_of b ((redirects_rva b - at) + 8 * i) ≡ r.source = ap (dword_of b) place ∙ dword_has b (p + 8 * i) r.source (ltb-true r.source 4294967296 f.0) (has_left b (p + 8 * i) (dword r.source) _ h) in
    let second : dword_of b ((redirects_rva b - at) + 8 * i + 4) ≡ r.destination = ap (λ (q : ℕ). dword_of b (q + 4)) place ∙ dword_has b (p + 8 * i + 4) r.destination (ltb-true r.destination 4294967296 f.1) (has_left b (p + 8 * i + 4) (dword r.destination) [] (has_next b (p + 8 * i) (p + 8 * i + 4) (dword r.source) (concat (dword r.destination ∷ [])) (omega (arith, four r.source)) h)) in
    same_redirect _ _ r first second

-- ---- names

until_step : (t : Bool) (c m : ℕ) (xs ys : List ℕ) → t ≡ false → take m xs ≡ ys → take (cond (not t) (1 + m) 0) (c ∷ xs) ≡ c ∷ ys
until_step true c m xs ys e h = absurd cc
until_step false c m xs ys e h = let s : 1 + m ≡ suc m = omega arith in rw s (ap (λ (zs : List ℕ). c ∷ zs) h)

until_closed : (n rest : List ℕ) → list_all is_letter n ≡ true → until_zero (n ++ 0 ∷ rest) ≡ n
until_closed [] rest e = refl
until_closed (c ∷ n) rest e = let h = and_parts (is_letter c) (list_all is_letter n) e in until_step (eqb c 0) c _ (n ++ 0 ∷ rest) n (not-true (eqb c 0) h.0) (until_closed n rest h.1)

append_one : (xs rest : List ℕ) → (xs ++ 0 ∷ []) ++ rest ≡ xs ++ 0 ∷ rest
append_one [] rest = refl
append_one (x ∷ xs) rest = ap (λ (ys : List ℕ). x ∷ ys) (append_one xs rest)

text_is : (b : List ℕ) (o : ℕ) (n : List ℕ) → list_all is_letter n ≡ true → Has b o (n ++ 0 ∷ []) → until_zero (drop o b) ≡ n
text_is b o n e h = ap (λ (xs : List ℕ). until_zero xs) (h.is ∙ append_one n h.rest) ∙ until_closed n h.rest e

zero_there : (t : List ℕ) (o : ℕ) (n : List ℕ) → Has t o (n ++ 0 ∷ []) → get_or t (o + length n) 0 ≡ 0
unfolding byte_of
zero_there t o n h = byte_has t (o + length n) 0 (o + length n) (0 ∷ []) (has_right t o n (0 ∷ []) h) (omega arith) (omega arith)

closed : (t : List ℕ) (o : ℕ) (n : List ℕ) → Has t o (n ++ 0 ∷ []) → any_below (λ k. leb o k && is_zero t k) (length t) ≡ true
unfolding is_zero
closed t o n h =
    let long : length (n ++ 0 ∷ []) ≡ length n + 1 = length-append n (0 ∷ []) in
    let within : o + length (n ++ 0 ∷ []) ≤ length t = has_within t o (n ++ 0 ∷ []) (omega (arith, long)) h in
    any_found (λ k. leb o k && is_zero t k) (length t) (o + length n) (omega (arith, long, within)) (rw (le-leb o (o + length n) (omega arith), zero_there t o n h) refl)

-- ---- function rows

pub record RowFields (b : List ℕ) (at p i n : ℕ) (r : FnRow) : Type 0 where
  pub kind : dword_of b (row_place b at i) ≡ r.kind
  pub name_is : name_rva b at i ≡ n
  pub start : dword_of b (row_place b at i + 8) ≡ r.start
  pub end : dword_of b (row_place b at i + 12) ≡ r.end

row_fields : (b : List ℕ) (at p i n : ℕ) (r : FnRow) → rows_rva b ≡ at + p → n < 4294967296 → has_function_row r ≡ true → Has b (p + 16 * i) (function_row n r) → RowFields b at p i n r
unfolding row_place name_rva function_row
row_fields b at p i n r e small fit h0 =
    let place : (rows_rva b - at) + 16 * i ≡ p + 16 * i = omega arith in
    let f = and_parts (list_all is_letter r.name) (fits r.kind && (fits r.start && fits r.end)) fit in
    let g = and_parts (fits r.kind) (fits r.start && fits r.end) f.1 in
    let k = and_parts (fits r.start) (fits r.end) g.1 in
    let h1 = has_next b (p + 16 * i) (p + 16 * i + 4) (dword r.kind) (concat (dword n ∷ dword r.start ∷ dword r.end ∷ [])) (omega (arith, four r.kind)) h0 in
    let h2 = has_next b (p + 16 * i + 4) (p + 16 * i + 8) (dword n) (concat (dword r.start ∷ dword r.end ∷ [])) (omega (arith, four n)) h1 in
    let h3 = has_next b (p + 16 * i + 8) (p + 16 * i + 12) (dword r.start) (concat (dword r.end ∷ [])) (omega (arith, four r.start)) h2 in
    record {
      kind = ap (dword_of b) place ∙ dword_has b (p + 16 * i) r.kind (ltb-true r.kind 4294967296 g.0) (has_left b (p + 16 * i) (dword r.kind) _ h0);
      name_is = ap (λ (q : ℕ). dword_of b (q + 4)) place ∙ dword_has b (p + 16 * i + 4) n small (has_left b (p + 16 * i + 4) (dword n) _ h1);
      start = ap (λ (q : ℕ). dword_of b (q + 8)) place ∙ dword_has b (p + 16 * i + 8) r.start (ltb-true r.start 4294967296 k.0) (has_left b (p + 16 * i + 8) (dword r.start) _ h2);
      end = ap (λ (q : ℕ). dword_of b (q + 12)) place ∙ dword_has b (p + 16 * i + 12) r.end (ltb-true r.end 4294967296 k.1) (has_left b (p + 16 * i + 12) (dword r.end) [] h3);
    }

row_back : (b : List ℕ) (at p q i : ℕ) (r : FnRow) → has_function_row r ≡ true → RowFields b at p i (at + q) r → Has b q (r.name ++ 0 ∷ []) → row b at i ≡ r
unfolding row name
row_back b at p q i r fit g h =
    let place : name_rva b at i - at ≡ q = omega (arith, g.name_is) in
    let text : until_zero (drop (name_rva b at i - at) b) ≡ r.name = ap (λ (k : ℕ). until_zero (drop k b)) place ∙ text_is b q r.name (and_parts (list_all is_letter r.name) _ fit).0 h in
    same_row _ _ _ _ r g.kind text g.start g.end

name_closed : (b : List ℕ) (at p q i : ℕ) (r : FnRow) → RowFields b at p i (at + q) r → Has b q (r.name ++ 0 ∷ []) → open_name b at i ≡ false
unfolding open_name
name_closed b at p q i r g h =
    let place : name_rva b at i - at ≡ q = omega (arith, g.name_is) in
    or_from (ltb (name_rva b at i) at) _ (le-ltb (name_rva b at i) at (omega (arith, g.name_is))) (ap (λ (o : ℕ). not (any_below (λ k. leb o k && is_zero b k) (length b))) place ∙ not_from_true _ (closed b q r.name h))

-- ---- the whole

not_passed : (b : List ℕ) (at p rva n : ℕ) → rva ≡ at + p → p + n ≤ length b → passes b at rva n ≡ false
unfolding passes
not_passed b at p rva n e le = or_from (ltb rva at) _ (le-ltb rva at (omega arith)) (le-ltb (length b) ((rva - at) + n) (omega arith))

module _ (m : Meta) (at : ℕ) (allowed : is_allowed m ≡ true) (room : at + meta_size m < 4294967296) where
  ordered : in_order m ≡ true
  unfolding is_allowed
  ordered = (and_parts (in_order m) (has_rows m) allowed).0

  rows_had : has_rows m ≡ true
  unfolding is_allowed
  rows_had = (and_parts (in_order m) (has_rows m) allowed).1

  sides : list_all has_side m.ranges ≡ true
  sides = (and_parts (list_all has_side m.ranges) _ (and_parts (valid_ranges m.ranges) _ (and_parts (valid_meta_of m) _ ordered).0).0).0

  ranges_had : list_all has_range_row m.ranges ≡ true
  ranges_had = (and_parts (list_all has_range_row m.ranges) _ rows_had).0

  redirects_had : list_all has_redirect_row m.redirects ≡ true
  redirects_had = (and_parts (list_all has_redirect_row m.redirects) _ (and_parts (list_all has_range_row m.ranges) _ rows_had).1).0

  functions_had : list_all has_function_row m.rows ≡ true
  functions_had = (and_parts (list_all has_redirect_row m.redirects) _ (and_parts (list_all has_range_row m.ranges) _ rows_had).1).1

  fields : HeaderFields m at (meta_bytes m at)
  fields = header_fields m at room

  range_again : (i : ℕ) (d : CodeRange) → i < length m.ranges → range (meta_bytes m at) at i ≡ get_or m.ranges i d
  range_again i d lt = range_back (meta_bytes m at) at 28 i (get_or m.ranges i d) fields.ranges_are (all_at has_side m.ranges i d sides lt) (all_at has_range_row m.ranges i d ranges_had lt) (range_at (meta_bytes m at) 28 m.ranges i d lt (ranges_there m at))

  redirect_again : (i : ℕ) (d : Redirect) → i < length m.redirects → redirect (meta_bytes m at) at i ≡ get_or m.redirects i d
  redirect_again i d lt = redirect_back (meta_bytes m at) at (redirects_place m) i (get_or m.redirects i d) fields.redirects_are (all_at has_redirect_row m.redirects i d redirects_had lt) (redirect_at (meta_bytes m at) (redirects_place m) m.redirects i d lt (redirects_there m at))

  row_there : (i : ℕ) (d : FnRow) → i < length m.rows → RowFields (meta_bytes m at) at (rows_place m) i (at + (names_place m + names_size (take i m.rows))) (get_or m.rows i d)
  row_there i d lt =
      let place : at + names_place m + names_size (take i m.rows) ≡ at + (names_place m + names_size (take i m.rows)) = omega arith in
      let h : Has (meta_bytes m at) (rows_place m + 16 * i) (function_row (at + (names_place m + names_size (take i m.rows))) (get_or m.rows i d)) = at_row (meta_bytes m at) (rows_place m + 16 * i) (rows_place m + 16 * i) (at + names_place m + names_size (take i m.rows)) (at + (names_place m + names_size (take i m.rows))) (get_or m.rows i d) refl place (function_at (meta_bytes m at) (rows_place m) (at + names_place m) m.rows i d lt (rows_there m at)) in
      row_fields (meta_bytes m at) at (rows_place m) i (at + (names_place m + names_size (take i m.rows))) (get_or m.rows i d) fields.rows_are (omega (arith, names_before m.rows i d lt)) (all_at has_function_row m.rows i d functions_had lt) h

  text_there : (i : ℕ) (d : FnRow) → i < length m.rows → Has (meta_bytes m at) (names_place m + names_size (take i m.rows)) ((get_or m.rows i d).name ++ 0 ∷ [])
  text_there i d lt = name_at (meta_bytes m at) (names_place m) m.rows i d lt (names_there m at)

  row_again : (i : ℕ) (d : FnRow) → i < length m.rows → row (meta_bytes m at) at i ≡ get_or m.rows i d
  row_again i d lt = row_back (meta_bytes m at) at (rows_place m) (names_place m + names_size (take i m.rows)) i (get_or m.rows i d) (all_at has_function_row m.rows i d functions_had lt) (row_there i d lt) (text_there i d lt)

  no_range : CodeRange
  no_range = record { start = 0; length = 0; kind = 0 }

  no_redirect : Redirect
  no_redirect = record { source = 0; destination = 0 }

  no_row : FnRow
  no_row = record { kind = 0; name = []; start = 0; end = 0 }

  same_meta : (rs : List CodeRange) (ds : List Redirect) (fs : List FnRow) → rs ≡ m.ranges → ds ≡ m.redirects → fs ≡ m.rows → (let x : Meta = record { ranges = rs; redirects = ds; rows = fs } in x) ≡ m
  same_meta rs ds fs e f g = rw (e, f, g) refl

  tables_again : meta_in (meta_bytes m at) at ≡ m
  unfolding meta_in
  tables_again = same_meta _ _ _
      (ap (table (range (meta_bytes m at) at)) fields.range_total ∙ sym (table_is (range (meta_bytes m at) at) (length m.ranges) m.ranges no_range refl (λ i lt. sym (range_again i no_range lt))))
      (ap (table (redirect (meta_bytes m at) at)) fields.redirect_total ∙ sym (table_is (redirect (meta_bytes m at) at) (length m.redirects) m.redirects no_redirect refl (λ i lt. sym (redirect_again i no_redirect lt))))
      (ap (table (row (meta_bytes m at) at)) fields.row_total ∙ sym (table_is (row (meta_bytes m at) at) (length m.rows) m.rows no_row refl (λ i lt. sym (row_again i no_row lt))))

  long : length (meta_bytes m at) ≡ meta_size m
  long = bytes_long m at

  header_good : bad_header (meta_bytes m at) ≡ false
  unfolding bad_header
  header_good = or_from (ltb (length (meta_bytes m at)) 28) _ (le-ltb (length (meta_bytes m at)) 28 (omega (arith, long))) (ap (λ (v : ℕ). not (eqb v 1)) fields.version_is)

  tables_good : bad_tables (meta_bytes m at) at ≡ false
  unfolding bad_tables
  tables_good =
      let b = meta_bytes m at in
      or_from (passes b at (ranges_rva b) (8 * range_count b)) _ (not_passed b at 28 (ranges_rva b) (8 * range_count b) fields.ranges_are (omega (arith, long, fields.range_total)))
      (or_from (passes b at (redirects_rva b) (8 * redirect_count b)) _ (not_passed b at (redirects_place m) (redirects_rva b) (8 * redirect_count b) fields.redirects_are (omega (arith, long, fields.redirect_total)))
      (not_passed b at (rows_place m) (rows_rva b) (16 * row_count b) fields.rows_are (omega (arith, long, fields.row_total))))

  names_good : bad_names (meta_bytes m at) at ≡ false
  unfolding bad_names
  names_good = any_never (open_name (meta_bytes m at) at) (row_count (meta_bytes m at)) (λ i lt. let under : i < length m.rows = omega (arith, fields.row_total) in name_closed (meta_bytes m at) at (rows_place m) (names_place m + names_size (take i m.rows)) i (get_or m.rows i no_row) (row_there i no_row under) (text_there i no_row under))

  places_good : bad_places (meta_bytes m at) at ≡ false
  unfolding bad_places
  places_good = or_from (bad_header (meta_bytes m at)) _ header_good (or_from (bad_tables (meta_bytes m at) at) _ tables_good names_good)

  -- what is written is metadata, and the same
  pub written_is_read : meta_of (meta_bytes m at) at ≡ Ok m
  unfolding meta_of bad_meta
  written_is_read =
      let again : in_order (meta_in (meta_bytes m at) at) ≡ true = ap (λ (x : Meta). in_order x) tables_again ∙ ordered in
      rw (places_good, again) (ap (λ (x : Meta). Ok x) tables_again)

-- whatever spells it
pub spelled_is_read : (m : Meta) (at : ℕ) (b : List ℕ) → is_allowed m ≡ true → at + meta_size m < 4294967296 → b ≡ meta_bytes m at → meta_of b at ≡ Ok m
spelled_is_read m at b allowed room e = ap (λ (x : List ℕ). meta_of x at) e ∙ written_is_read m at allowed room
