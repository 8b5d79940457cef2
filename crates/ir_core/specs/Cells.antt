-- Cells: what slots and globals hold, a byte each. An address is no number here but the name of what it belongs to,
-- with an offset: a machine value stands for it once the names have places.
use Rattle.std.specs.Prelude.{ℕ, ◌+◌, Bool, false, ◌&&◌, nat_eq, nat_le, if◌then◌else◌, List, [], ◌∷◌, ◌++◌, map, length, take, drop, replicate, Option, Some, None, ℤ}
use Rattle.std.specs.Option.{option_map}
use Rattle.std.specs.Str.{bytes_eq}
use Rattle.hx_words.specs.LittleEndian.{number_of, bytes_of}
use Rattle.c_types.specs.declared.types.IntTy.{IntTy}
use Rattle.ir_core.specs.Integers.{bytes_in, bits_in, is_signed, low_bits, of_bits}

-- what an address lies in: a global, by its name
pub data Root : Type 0 where
  Global : (name : List ℕ) → Root

-- an address: so many bytes behind the start of an object, or that of a function or an adjustor
pub data Symbol : Type 0 where
  Inside : (root : Root) (offset : ℕ) → Symbol
  Function : (name : List ℕ) → Symbol

-- a byte, one of the eight bytes of an address, the lowest being part 0, or a byte that nothing has set
pub data Cell : Type 0 where
  Byte : (b : ℕ) → Cell
  Part : (symbol : Symbol) (k : ℕ) → Cell
  Blank : Cell

-- what eight cells make: a number, of which 0 is null, or an address
pub data Word : Type 0 where
  Number : (n : ℕ) → Word
  Address : (symbol : Symbol) → Word

abbrev pub same_root : Root → Root → Bool
same_root (Global a) (Global b) = bytes_eq a b

abbrev pub same_symbol : Symbol → Symbol → Bool
same_symbol (Inside r a) (Inside s b) = same_root r s && nat_eq a b
same_symbol (Function f) (Function g) = bytes_eq f g
same_symbol (Inside r a) (Function g) = false
same_symbol (Function f) (Inside s b) = false

-- the eight parts of an address
abbrev pub symbol_cells : Symbol → List Cell
symbol_cells s = map (Part s) (0 ∷ 1 ∷ 2 ∷ 3 ∷ 4 ∷ 5 ∷ 6 ∷ 7 ∷ [])

-- the bytes of a number
abbrev pub byte_cells : List ℕ → List Cell
byte_cells bs = map Byte bs

-- the bytes of a number of a type, to which it is wrapped
abbrev pub number_cells : IntTy → ℤ → List Cell
number_cells i z = byte_cells (bytes_of (bytes_in i) (low_bits (bits_in i) z))

abbrev pub word_cells : Word → List Cell
word_cells (Number n) = byte_cells (bytes_of 8 n)
word_cells (Address s) = symbol_cells s

-- cells that nothing has set
abbrev pub blanks : ℕ → List Cell
blanks n = replicate n Blank

-- the bytes that cells are; none where one is no byte
abbrev pub plain : List Cell → Option (List ℕ)
plain [] = Some []
plain (Byte b ∷ cs) = option_map (λ bs. b ∷ bs) (plain cs)
plain (Part s k ∷ cs) = None
plain (Blank ∷ cs) = None

-- the number of a type that cells are
unfoldable pub number_in : IntTy → List Cell → Option ℤ
number_in i cs = if nat_eq (length cs) (bytes_in i) then option_map (λ bs. of_bits (is_signed i) (bits_in i) (number_of bs)) (plain cs) else None

abbrev pub is_part : Symbol → ℕ → Cell → Bool
is_part s k (Byte b) = false
is_part s k (Part t j) = same_symbol s t && nat_eq k j
is_part s k Blank = false

-- the cells are the parts of the address from part k on
abbrev pub are_parts : Symbol → ℕ → List Cell → Bool
are_parts s k [] = nat_eq k 8
are_parts s k (c ∷ cs) = is_part s k c && are_parts s (k + 1) cs

-- the number or the address that cells are: eight bytes, or the eight parts of one address
unfoldable pub word_in : List Cell → Option Word
word_in [] = None
word_in (Byte b ∷ cs) = if nat_eq (length cs) 7 then option_map (λ bs. Number (number_of (b ∷ bs))) (plain cs) else None
word_in (Part s k ∷ cs) = if are_parts s 0 (Part s k ∷ cs) then Some (Address s) else None
word_in (Blank ∷ cs) = None

-- so many cells from a place on; none where they aren't all there
unfoldable pub cells_from : List Cell → (at n : ℕ) → Option (List Cell)
cells_from cs at n = if nat_le (at + n) (length cs) then Some (take n (drop at cs)) else None

-- with others in their place
unfoldable pub with_cells : List Cell → (at : ℕ) → List Cell → Option (List Cell)
with_cells cs at new = if nat_le (at + length new) (length cs) then Some (take at cs ++ new ++ drop (at + length new) cs) else None

-- as many cells as a slot has: of a longer value its low bytes, and behind a shorter one anything
unfoldable pub fitted : ℕ → List Cell → List Cell
fitted n cs = take n (cs ++ blanks n)
