-- The bytes of hybrid metadata whose header is at an RVA, at: the header, the three tables, and the
-- names of the function table in the order of its rows.
use Rattle.std.specs.Prelude.{ℕ, ◌+◌, ◌*◌, List, [], ◌∷◌, ◌++◌, length}
use Rattle.std.specs.List.{concat}
use Rattle.hx_words.specs.LittleEndian.{bytes_of}
use Rattle.chpe_types.specs.declared.image.CodeRange.{CodeRange}
use Rattle.chpe_types.specs.declared.image.Redirect.{Redirect}
use Rattle.chpe_types.specs.declared.image.FnRow.{FnRow}
use Rattle.chpe_types.specs.declared.image.Meta.{Meta}

abbrev pub dword : ℕ → List ℕ
dword n = bytes_of 4 n

-- ---- rows

unfoldable pub range_row : CodeRange → List ℕ
range_row r = concat (dword (r.start + r.kind) ∷ dword r.length ∷ [])

unfoldable pub redirect_row : Redirect → List ℕ
redirect_row r = concat (dword r.source ∷ dword r.destination ∷ [])

-- a row whose name stands at an RVA
unfoldable pub function_row : ℕ → FnRow → List ℕ
function_row name r = concat (dword r.kind ∷ dword name ∷ dword r.start ∷ dword r.end ∷ [])

-- ---- tables

abbrev pub range_rows : List CodeRange → List ℕ
range_rows [] = []
range_rows (r ∷ rest) = range_row r ++ range_rows rest

abbrev pub redirect_rows : List Redirect → List ℕ
redirect_rows [] = []
redirect_rows (r ∷ rest) = redirect_row r ++ redirect_rows rest

-- how many bytes the name of a row and its zero have
abbrev pub name_size : FnRow → ℕ
name_size r = length r.name + 1

abbrev pub names_size : List FnRow → ℕ
names_size [] = 0
names_size (r ∷ rest) = name_size r + names_size rest

-- rows whose first name stands at an RVA
abbrev pub function_rows : ℕ → List FnRow → List ℕ
function_rows name [] = []
function_rows name (r ∷ rest) = function_row name r ++ function_rows (name + name_size r) rest

abbrev pub name_texts : List FnRow → List ℕ
name_texts [] = []
name_texts (r ∷ rest) = (r.name ++ 0 ∷ []) ++ name_texts rest

-- ---- the whole

-- where the parts begin, from the header's first byte
abbrev pub redirects_place : Meta → ℕ
redirects_place m = 28 + 8 * length m.ranges

abbrev pub rows_place : Meta → ℕ
rows_place m = redirects_place m + 8 * length m.redirects

abbrev pub names_place : Meta → ℕ
names_place m = rows_place m + 16 * length m.rows

abbrev pub meta_size : Meta → ℕ
meta_size m = names_place m + names_size m.rows

unfoldable pub header : Meta → ℕ → List ℕ
header m at = concat (dword 1 ∷ dword (at + 28) ∷ dword (length m.ranges) ∷ dword (at + redirects_place m) ∷ dword (length m.redirects) ∷ dword (at + rows_place m) ∷ dword (length m.rows) ∷ [])

abbrev pub parts : Meta → ℕ → List (List ℕ)
parts m at = header m at ∷ range_rows m.ranges ∷ redirect_rows m.redirects ∷ function_rows (at + names_place m) m.rows ∷ name_texts m.rows ∷ []

unfoldable pub meta_bytes : Meta → ℕ → List ℕ
meta_bytes m at = concat (parts m at)
