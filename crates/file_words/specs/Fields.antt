-- Fields of the bytes at a place, as total functions: bytes past the end read as 0. Numbers are
-- little-endian, as Microsoft's PE/COFF specification has them.
use Rattle.std.specs.Prelude.{ℕ, ◌+◌, ◌*◌, List, take, drop, ◌==◌, slice_index}
use Rattle.std.specs.List.{before_first}

unfoldable pub byte_of : List ℕ → ℕ → ℕ
byte_of bytes place = slice_index bytes place

unfoldable pub word_of : List ℕ → ℕ → ℕ
word_of bytes place = byte_of bytes place + 256 * byte_of bytes (place + 1)

unfoldable pub dword_of : List ℕ → ℕ → ℕ
dword_of bytes place = word_of bytes place + 65536 * word_of bytes (place + 2)

-- so many bytes from a place on, or as many as there are
unfoldable pub part_of : List ℕ → ℕ → ℕ → List ℕ
part_of bytes place len = take len (drop place bytes)

-- the bytes before the first zero, or all where there is none
abbrev pub until_zero : List ℕ → List ℕ
until_zero xs = before_first (λ c. c == 0) xs
