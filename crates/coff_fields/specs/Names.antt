-- The names of sections and symbols (Microsoft PE/COFF specification: "Section Table", Name;
-- "Symbol Name Representation"; "COFF String Table").
use Rattle.std.specs.Prelude.{ℕ, zero, suc, ◌+◌, ◌-◌, ◌*◌, Bool, not, ◌&&◌, ◌||◌, List, length, take, drop, ◌==◌, nat_lt, nat_le, slice_index, if◌then◌else◌}
use Rattle.file_words.specs.Fields.{byte_of, dword_of, part_of, until_zero}
use Rattle.file_words.specs.Below.{any_below}
use Rattle.coff_fields.specs.Fields.{strings_place, strings_size, section_place, symbol_place}

-- the eight bytes of a name field, without what follows a zero
unfoldable pub field_text : List ℕ → ℕ → List ℕ
field_text b place = until_zero (part_of b place 8)

-- ---- the string table, its size first

unfoldable pub strings : List ℕ → List ℕ
strings b = part_of b (strings_place b) (strings_size b)

-- the name at an offset of it
unfoldable pub string_at : List ℕ → ℕ → List ℕ
string_at b o = until_zero (drop o (strings b))

-- byte k of a text is 0
unfoldable pub is_zero : List ℕ → ℕ → Bool
is_zero text k = slice_index text k == 0

-- the offset points at the size, past the table, or at bytes that no zero of the table closes
unfoldable pub bad_string : List ℕ → ℕ → Bool
bad_string b o = nat_lt o 4 || not (any_below (λ k. nat_le o k && is_zero (strings b) k) (length (strings b)))

-- ---- sections: a slash and decimal digits are an offset

unfoldable pub is_slash : List ℕ → ℕ → Bool
is_slash b i = byte_of b (section_place i) == 47

unfoldable pub digits : List ℕ → ℕ → List ℕ
digits b i = drop 1 (field_text b (section_place i))

abbrev pub is_digit : ℕ → Bool
is_digit c = nat_le 48 c && nat_lt c 58

-- not one digit or more, and nothing else
unfoldable pub bad_digits : List ℕ → Bool
bad_digits text = (length text == 0) || any_below (λ k. not (is_digit (slice_index text k))) (length text)

-- the number that the first n characters spell
unfoldable pub decimal : List ℕ → ℕ → ℕ
decimal text zero = 0
decimal text (suc n) = 10 * decimal text n + (slice_index text n - 48)

unfoldable pub section_offset : List ℕ → ℕ → ℕ
section_offset b i = decimal (digits b i) (length (digits b i))

unfoldable pub section_name : List ℕ → ℕ → List ℕ
section_name b i = if is_slash b i then string_at b (section_offset b i) else field_text b (section_place i)

unfoldable pub bad_section_name : List ℕ → ℕ → Bool
bad_section_name b i = is_slash b i && (bad_digits (digits b i) || bad_string b (section_offset b i))

-- ---- symbols: four zero bytes, and an offset

unfoldable pub is_long : List ℕ → ℕ → Bool
is_long b j = dword_of b (symbol_place b j) == 0

unfoldable pub symbol_offset : List ℕ → ℕ → ℕ
symbol_offset b j = dword_of b (symbol_place b j + 4)

unfoldable pub symbol_name : List ℕ → ℕ → List ℕ
symbol_name b j = if is_long b j then string_at b (symbol_offset b j) else field_text b (symbol_place b j)

-- as much of a name as tells which sections are dropped
abbrev pub front : List ℕ → List ℕ
front name = take 9 name
