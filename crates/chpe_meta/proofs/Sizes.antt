-- How many bytes the parts of written metadata have, and where they stand.
use Rattle.std.proofs.Common.{◌≡◌, ℕ, zero, suc, ◌+◌, ◌*◌, ◌<◌, ◌≤◌, List, [], ◌∷◌, ◌++◌, length, get_or, take, refl, arith}
use Rattle.std.specs.List.{concat}
use Rattle.std.proofs.lemmas.List.{length-append}
use Rattle.hx_words.proofs.LittleEndianLaws.{length-bytes_of}
use Rattle.file_words.specs.Standing.{Has}
use Rattle.file_words.proofs.HasLaws.{has_here, has_left, has_right, has_moved}
use Rattle.chpe_types.specs.declared.image.CodeRange.{CodeRange}
use Rattle.chpe_types.specs.declared.image.Redirect.{Redirect}
use Rattle.chpe_types.specs.declared.image.FnRow.{FnRow}
use Rattle.chpe_types.specs.declared.image.Meta.{Meta}
use Rattle.chpe_meta.specs.Format.{dword, range_row, redirect_row, function_row, range_rows, redirect_rows, function_rows, name_texts, name_size, names_size, redirects_place, rows_place, names_place, meta_size, header, parts, meta_bytes}

pub four : (n : ℕ) → length (dword n) ≡ 4
four n = length-bytes_of 4 n

parts2 : (a b : List ℕ) → length (concat (a ∷ b ∷ [])) ≡ length a + length b
parts2 a b = omega (arith, length-append a (concat (b ∷ [])), length-append b [])

parts4 : (a b c d : List ℕ) → length (concat (a ∷ b ∷ c ∷ d ∷ [])) ≡ length a + length b + length c + length d
parts4 a b c d = omega (arith, length-append a (concat (b ∷ c ∷ d ∷ [])), length-append b (concat (c ∷ d ∷ [])), parts2 c d)

parts5 : (a b c d e : List ℕ) → length (concat (a ∷ b ∷ c ∷ d ∷ e ∷ [])) ≡ length a + length b + length c + length d + length e
parts5 a b c d e = omega (arith, length-append a (concat (b ∷ c ∷ d ∷ e ∷ [])), parts4 b c d e)

parts7 : (a b c d e f g : List ℕ) → length (concat (a ∷ b ∷ c ∷ d ∷ e ∷ f ∷ g ∷ [])) ≡ length a + length b + length c + length d + length e + length f + length g
parts7 a b c d e f g = omega (arith, length-append a (concat (b ∷ c ∷ d ∷ e ∷ f ∷ g ∷ [])), length-append b (concat (c ∷ d ∷ e ∷ f ∷ g ∷ [])), parts5 c d e f g)

pub range_long : (r : CodeRange) → length (range_row r) ≡ 8
unfolding range_row
range_long r = omega (arith, parts2 (dword (r.start + r.kind)) (dword r.length), four (r.start + r.kind), four r.length)

pub redirect_long : (r : Redirect) → length (redirect_row r) ≡ 8
unfolding redirect_row
redirect_long r = omega (arith, parts2 (dword r.source) (dword r.destination), four r.source, four r.destination)

pub function_long : (n : ℕ) (r : FnRow) → length (function_row n r) ≡ 16
unfolding function_row
function_long n r = omega (arith, parts4 (dword r.kind) (dword n) (dword r.start) (dword r.end), four r.kind, four n, four r.start, four r.end)

ranges_long : (rs : List CodeRange) → length (range_rows rs) ≡ 8 * length rs
ranges_long [] = refl
ranges_long (r ∷ rs) = omega (arith, length-append (range_row r) (range_rows rs), range_long r, ranges_long rs)

redirects_long : (rs : List Redirect) → length (redirect_rows rs) ≡ 8 * length rs
redirects_long [] = refl
redirects_long (r ∷ rs) = omega (arith, length-append (redirect_row r) (redirect_rows rs), redirect_long r, redirects_long rs)

functions_long : (n : ℕ) (rs : List FnRow) → length (function_rows n rs) ≡ 16 * length rs
functions_long n [] = refl
functions_long n (r ∷ rs) = omega (arith, length-append (function_row n r) (function_rows (n + name_size r) rs), function_long n r, functions_long (n + name_size r) rs)

text_long : (n : List ℕ) → length (n ++ 0 ∷ []) ≡ length n + 1
text_long n = omega (arith, length-append n (0 ∷ []))

names_long : (rs : List FnRow) → length (name_texts rs) ≡ names_size rs
names_long [] = refl
names_long (r ∷ rs) = omega (arith, length-append (r.name ++ 0 ∷ []) (name_texts rs), text_long r.name, names_long rs)

header_long : (m : Meta) (at : ℕ) → length (header m at) ≡ 28
unfolding header
header_long m at = omega (arith, parts7 (dword 1) (dword (at + 28)) (dword (length m.ranges)) (dword (at + redirects_place m)) (dword (length m.redirects)) (dword (at + rows_place m)) (dword (length m.rows)), four 1, four (at + 28), four (length m.ranges), four (at + redirects_place m), four (length m.redirects), four (at + rows_place m), four (length m.rows))

pub bytes_long : (m : Meta) (at : ℕ) → length (meta_bytes m at) ≡ meta_size m
unfolding meta_bytes
bytes_long m at = omega (arith, parts5 (header m at) (range_rows m.ranges) (redirect_rows m.redirects) (function_rows (at + names_place m) m.rows) (name_texts m.rows), header_long m at, ranges_long m.ranges, redirects_long m.redirects, functions_long (at + names_place m) m.rows, names_long m.rows)

-- ---- where the parts stand

-- what follows a part
pub has_next : (b : List ℕ) (p q : ℕ) (x y : List ℕ) → p + length x ≡ q → Has b p (x ++ y) → Has b q y
has_next b p q x y e h = has_moved b (p + length x) q y e (has_right b p x y h)

module _ (m : Meta) (at : ℕ) where
  whole : Has (meta_bytes m at) 0 (concat (parts m at))
  unfolding meta_bytes
  whole = has_here (concat (parts m at))

  pub header_there : Has (meta_bytes m at) 0 (header m at)
  header_there = has_left (meta_bytes m at) 0 (header m at) _ whole

  after_header : Has (meta_bytes m at) 28 (concat (range_rows m.ranges ∷ redirect_rows m.redirects ∷ function_rows (at + names_place m) m.rows ∷ name_texts m.rows ∷ []))
  after_header = has_next (meta_bytes m at) 0 28 (header m at) _ (omega (arith, header_long m at)) whole

  pub ranges_there : Has (meta_bytes m at) 28 (range_rows m.ranges)
  ranges_there = has_left (meta_bytes m at) 28 (range_rows m.ranges) _ after_header

  after_ranges : Has (meta_bytes m at) (redirects_place m) (concat (redirect_rows m.redirects ∷ function_rows (at + names_place m) m.rows ∷ name_texts m.rows ∷ []))
  after_ranges = has_next (meta_bytes m at) 28 (redirects_place m) (range_rows m.ranges) _ (omega (arith, ranges_long m.ranges)) after_header

  pub redirects_there : Has (meta_bytes m at) (redirects_place m) (redirect_rows m.redirects)
  redirects_there = has_left (meta_bytes m at) (redirects_place m) (redirect_rows m.redirects) _ after_ranges

  after_redirects : Has (meta_bytes m at) (rows_place m) (concat (function_rows (at + names_place m) m.rows ∷ name_texts m.rows ∷ []))
  after_redirects = has_next (meta_bytes m at) (redirects_place m) (rows_place m) (redirect_rows m.redirects) _ (omega (arith, redirects_long m.redirects)) after_ranges

  pub rows_there : Has (meta_bytes m at) (rows_place m) (function_rows (at + names_place m) m.rows)
  rows_there = has_left (meta_bytes m at) (rows_place m) (function_rows (at + names_place m) m.rows) _ after_redirects

  pub names_there : Has (meta_bytes m at) (names_place m) (name_texts m.rows)
  names_there = has_left (meta_bytes m at) (names_place m) (name_texts m.rows) [] (has_next (meta_bytes m at) (rows_place m) (names_place m) (function_rows (at + names_place m) m.rows) _ (omega (arith, functions_long (at + names_place m) m.rows)) after_redirects)

-- ---- where the rows stand

pub range_at : (b : List ℕ) (p : ℕ) (rs : List CodeRange) (i : ℕ) (d : CodeRange) → i < length rs → Has b p (range_rows rs) → Has b (p + 8 * i) (range_row (get_or rs i d))
range_at b p [] i d lt h = absurd (omega arith)
range_at b p (r ∷ rs) zero d lt h = has_moved b p (p + 8 * 0) _ (omega arith) (has_left b p (range_row r) (range_rows rs) h)
range_at b p (r ∷ rs) (suc i) d lt h =
    has_moved b (p + 8 + 8 * i) _ (range_row (get_or rs i d)) (omega arith) (range_at b (p + 8) rs i d (omega arith) (has_next b p (p + 8) (range_row r) (range_rows rs) (omega (arith, range_long r)) h))

pub redirect_at : (b : List ℕ) (p : ℕ) (rs : List Redirect) (i : ℕ) (d : Redirect) → i < length rs → Has b p (redirect_rows rs) → Has b (p + 8 * i) (redirect_row (get_or rs i d))
redirect_at b p [] i d lt h = absurd (omega arith)
redirect_at b p (r ∷ rs) zero d lt h = has_moved b p (p + 8 * 0) _ (omega arith) (has_left b p (redirect_row r) (redirect_rows rs) h)
redirect_at b p (r ∷ rs) (suc i) d lt h =
    has_moved b (p + 8 + 8 * i) _ (redirect_row (get_or rs i d)) (omega arith) (redirect_at b (p + 8) rs i d (omega arith) (has_next b p (p + 8) (redirect_row r) (redirect_rows rs) (omega (arith, redirect_long r)) h))

pub at_row : (b : List ℕ) (p q n k : ℕ) (r : FnRow) → p ≡ q → n ≡ k → Has b p (function_row n r) → Has b q (function_row k r)
at_row b p q n k r e f h = rw (← e, ← f) h

pub function_at : (b : List ℕ) (p n : ℕ) (rs : List FnRow) (i : ℕ) (d : FnRow) → i < length rs → Has b p (function_rows n rs) → Has b (p + 16 * i) (function_row (n + names_size (take i rs)) (get_or rs i d))
function_at b p n [] i d lt h = absurd (omega arith)
function_at b p n (r ∷ rs) zero d lt h = at_row b p (p + 16 * 0) n (n + 0) r (omega arith) (omega arith) (has_left b p (function_row n r) _ h)
function_at b p n (r ∷ rs) (suc i) d lt h =
    at_row b (p + 16 + 16 * i) (p + 16 * suc i) (n + name_size r + names_size (take i rs)) (n + (name_size r + names_size (take i rs))) (get_or rs i d) (omega arith) (omega arith)
    (function_at b (p + 16) (n + name_size r) rs i d (omega arith) (has_next b p (p + 16) (function_row n r) (function_rows (n + name_size r) rs) (omega (arith, function_long n r)) h))

pub name_at : (b : List ℕ) (p : ℕ) (rs : List FnRow) (i : ℕ) (d : FnRow) → i < length rs → Has b p (name_texts rs) → Has b (p + names_size (take i rs)) ((get_or rs i d).name ++ 0 ∷ [])
name_at b p [] i d lt h = absurd (omega arith)
name_at b p (r ∷ rs) zero d lt h = has_moved b p (p + 0) _ (omega arith) (has_left b p (r.name ++ 0 ∷ []) (name_texts rs) h)
name_at b p (r ∷ rs) (suc i) d lt h =
    has_moved b (p + name_size r + names_size (take i rs)) _ _ (omega arith) (name_at b (p + name_size r) rs i d (omega arith) (has_next b p (p + name_size r) (r.name ++ 0 ∷ []) (name_texts rs) (omega (arith, text_long r.name)) h))

pub names_before : (rs : List FnRow) (i : ℕ) (d : FnRow) → i < length rs → names_size (take i rs) + name_size (get_or rs i d) ≤ names_size rs
names_before [] i d lt = absurd (omega arith)
names_before (r ∷ rs) zero d lt = omega arith
names_before (r ∷ rs) (suc i) d lt = omega (arith, names_before rs i d (omega arith))
