-- The fields of hybrid metadata, as total functions of the bytes from its header on. The header is at
-- an RVA of the image, at; a table or a name at the RVA p begins at byte p - at. The tables are those of
-- Arm64EC images (winnt.h, IMAGE_ARM64EC_METADATA; the low bits of a range's start as in
-- IMAGE_CHPE_RANGE_ENTRY); that the function table has names and kinds is this project's own.
use Rattle.std.specs.Prelude.{ℕ, ◌+◌, ◌-◌, ◌*◌, ◌%◌, Bool, not, ◌&&◌, ◌||◌, List, length, drop, slice_index, ◌==◌, nat_lt, nat_le}
use Rattle.file_words.specs.Fields.{dword_of, until_zero}
use Rattle.file_words.specs.Below.{any_below}
use Rattle.chpe_types.specs.declared.image.CodeRange.{CodeRange}
use Rattle.chpe_types.specs.declared.image.Redirect.{Redirect}
use Rattle.chpe_types.specs.declared.image.FnRow.{FnRow}

-- ---- the header: Version; CodeMap and its count; the redirections and their count; the function
-- table and its count

unfoldable pub version : List ℕ → ℕ
version b = dword_of b 0

unfoldable pub ranges_rva : List ℕ → ℕ
ranges_rva b = dword_of b 4

unfoldable pub range_count : List ℕ → ℕ
range_count b = dword_of b 8

unfoldable pub redirects_rva : List ℕ → ℕ
redirects_rva b = dword_of b 12

unfoldable pub redirect_count : List ℕ → ℕ
redirect_count b = dword_of b 16

unfoldable pub rows_rva : List ℕ → ℕ
rows_rva b = dword_of b 20

unfoldable pub row_count : List ℕ → ℕ
row_count b = dword_of b 24

-- ---- row i of the code map: the start with the kind in its two low bits, and the length

unfoldable pub range_place : List ℕ → ℕ → ℕ → ℕ
range_place b at i = (ranges_rva b - at) + 8 * i

unfoldable pub raw_start : List ℕ → ℕ → ℕ → ℕ
raw_start b at i = dword_of b (range_place b at i)

unfoldable pub range : List ℕ → ℕ → ℕ → CodeRange
range b at i = record { start = raw_start b at i - raw_start b at i % 4; length = dword_of b (range_place b at i + 4); kind = raw_start b at i % 4 }

-- ---- redirection i: source, destination

unfoldable pub redirect_place : List ℕ → ℕ → ℕ → ℕ
redirect_place b at i = (redirects_rva b - at) + 8 * i

unfoldable pub redirect : List ℕ → ℕ → ℕ → Redirect
redirect b at i = record { source = dword_of b (redirect_place b at i); destination = dword_of b (redirect_place b at i + 4) }

-- ---- row i of the function table: kind, the RVA of the name, start, end

unfoldable pub row_place : List ℕ → ℕ → ℕ → ℕ
row_place b at i = (rows_rva b - at) + 16 * i

unfoldable pub name_rva : List ℕ → ℕ → ℕ → ℕ
name_rva b at i = dword_of b (row_place b at i + 4)

-- the bytes from the name's place to the first zero
unfoldable pub name : List ℕ → ℕ → ℕ → List ℕ
name b at i = until_zero (drop (name_rva b at i - at) b)

unfoldable pub row : List ℕ → ℕ → ℕ → FnRow
row b at i = record { kind = dword_of b (row_place b at i); name = name b at i; start = dword_of b (row_place b at i + 8); end = dword_of b (row_place b at i + 12) }

-- ---- what lies in the bytes

-- n bytes at an RVA begin before the header or pass the end
unfoldable pub passes : List ℕ → ℕ → ℕ → ℕ → Bool
passes b at rva n = nat_lt rva at || nat_lt (length b) ((rva - at) + n)

-- byte k is 0
unfoldable pub is_zero : List ℕ → ℕ → Bool
is_zero b k = slice_index b k == 0

-- the name of row i begins before the header, or no zero closes it
unfoldable pub open_name : List ℕ → ℕ → ℕ → Bool
open_name b at i = nat_lt (name_rva b at i) at || not (any_below (λ k. nat_le (name_rva b at i - at) k && is_zero b k) (length b))
