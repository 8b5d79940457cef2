-- Reading and writing of slots and globals, and values that may be addresses.
use Rattle.std.specs.Prelude.{ℕ, zero, suc, ◌+◌, ◌%◌, ◌^◌, Bool, true, false, not, ◌&&◌, nat_eq, nat_lt, if◌then◌else◌, List, length, Option, Some, None}
use Rattle.std.specs.Option.{option_map, option_and_then}
use Rattle.std.specs.Str.{bytes_eq}
use Rattle.c_types.specs.declared.types.IntTy.{IntTy}
use Rattle.c_types.specs.declared.types.IntTy.TheVariants.{I8, U8, I16, U16, I32, U32, I64, U64}
use Rattle.ir_core.specs.declared.operations.IrPlace.{IrPlace}
use Rattle.ir_core.specs.declared.operations.IrUnary.{IrUnary}
use Rattle.ir_core.specs.declared.operations.IrUnary.TheVariants.{Negate, Flip, IsZero}
use Rattle.ir_core.specs.declared.operations.IrBinary.{IrBinary}
use Rattle.ir_core.specs.declared.operations.IrBinary.TheVariants as by
use Rattle.ir_core.specs.Integers.{truth, is_zero, unary_worked, worked, unary_type, result_type}
use Rattle.ir_core.specs.Cells.{Cell, Root, Global, Symbol, Inside, Function, Word, Number, Address, same_root, number_cells, word_cells, number_in, word_in, cells_from, with_cells}
use Rattle.ir_core.specs.Worlds.{Frame, Globals, with_slot, with_global}

-- ---- places

abbrev pub plain_number : Word → Option ℕ
plain_number (Number n) = Some n
plain_number (Address s) = None

-- the offset in the place's index
abbrev pub index_in : Frame → Option ℕ → Option ℕ
index_in f None = Some 0
index_in f (Some k) = option_and_then plain_number (word_in (f k))

-- the place's offset, with what its index holds
abbrev pub offset_in : Frame → IrPlace → Option ℕ
offset_in f p = option_map (λ i. p.offset + i) (index_in f p.index)

-- so many cells of a slot
unfoldable pub from_place : Frame → IrPlace → ℕ → Option (List Cell)
from_place f p n = option_and_then (λ at. cells_from (f p.slot) at n) (offset_in f p)

-- a slot with these cells written into it
unfoldable pub to_place : Frame → IrPlace → List Cell → Option Frame
to_place f p new = option_map (with_slot f p.slot) (option_and_then (λ at. with_cells (f p.slot) at new) (offset_in f p))

-- the global, and the place in it, that an address is with an offset added
abbrev pub inside_of : Word → ℕ → Option (List ℕ × ℕ)
inside_of (Number n) more = None
inside_of (Address (Inside (Global name) at)) more = Some (name, (at + more) % 2 ^ 64)
inside_of (Address (Function name)) more = None

-- the bytes that a slot's address and the place's offsets lead to
abbrev pub target_of : Frame → IrPlace → Option (List ℕ × ℕ)
target_of f p = option_and_then (λ a. option_and_then (inside_of a) (offset_in f p)) (word_in (f p.slot))

-- so many cells at an address
unfoldable pub from_address : Globals → Frame → IrPlace → ℕ → Option (List Cell)
from_address g f p n = option_and_then (λ t. cells_from (g t.0) t.1 n) (target_of f p)

-- a global with these cells written at an address
unfoldable pub to_address : Globals → Frame → IrPlace → List Cell → Option Globals
to_address g f p new = option_and_then (λ t. option_map (with_global g t.0) (with_cells (g t.0) t.1 new)) (target_of f p)

-- ---- addresses among values

-- the address is that of a byte of a global, so that no other global and no function has it, and it isn't null
abbrev pub has_byte : Globals → Root → ℕ → Bool
has_byte g (Global name) at = nat_lt at (length (g name))

-- whether a value is 0 or null
unfoldable pub word_is_zero : Globals → Word → Option Bool
word_is_zero g (Number n) = Some (nat_eq n 0)
word_is_zero g (Address (Inside r at)) = if has_byte g r at then Some false else None
word_is_zero g (Address (Function name)) = Some false

-- whether two addresses are one; those of different objects only where each has a byte
abbrev pub same_address : Globals → Symbol → Symbol → Option Bool
same_address g (Inside r a) (Inside s b) = if same_root r s then Some (nat_eq a b) else if has_byte g r a && has_byte g s b then Some false else None
same_address g (Inside r a) (Function name) = if has_byte g r a then Some false else None
same_address g (Function name) (Inside r a) = if has_byte g r a then Some false else None
same_address g (Function name) (Function other) = Some (bytes_eq name other)

-- an address is compared with addresses and null
abbrev pub is_address : Globals → Symbol → ℕ → Option Bool
is_address g s zero = word_is_zero g (Address s)
is_address g s (suc n) = None

unfoldable pub same_word : Globals → Word → Word → Option Bool
same_word g (Number a) (Number b) = Some (nat_eq a b)
same_word g (Address s) (Number n) = is_address g s n
same_word g (Number n) (Address s) = is_address g s n
same_word g (Address s) (Address t) = same_address g s t

-- a number added to an address
abbrev pub moved : Symbol → ℕ → Option Word
moved (Inside r at) n = Some (Address (Inside r ((at + n) % 2 ^ 64)))
moved (Function name) n = None

unfoldable pub sum_of_words : Word → Word → Option Word
sum_of_words (Number a) (Number b) = Some (Number ((a + b) % 2 ^ 64))
sum_of_words (Address s) (Number n) = moved s n
sum_of_words (Number n) (Address s) = moved s n
sum_of_words (Address s) (Address t) = None

-- ---- results

-- an int of a test
abbrev pub int_cells : Bool → List Cell
int_cells b = number_cells I32 (truth b)

abbrev pub is_word : IntTy → Bool
is_word U64 = true
is_word I8 = false
is_word U8 = false
is_word I16 = false
is_word U16 = false
is_word I32 = false
is_word U32 = false
is_word I64 = false

-- whether cells are 0 or null; only with U64 they may be an address
unfoldable pub is_zero_in : Globals → IntTy → List Cell → Option Bool
is_zero_in g i cs = if is_word i then option_and_then (word_is_zero g) (word_in cs) else option_map is_zero (number_in i cs)

abbrev pub unary_number : IrUnary → IntTy → List Cell → Option (List Cell)
unary_number o i cs = option_map (λ z. number_cells (unary_type o i) (unary_worked o z)) (number_in i cs)

unfoldable pub unary_of : Globals → IrUnary → IntTy → List Cell → Option (List Cell)
unary_of g Negate i cs = unary_number Negate i cs
unary_of g Flip i cs = unary_number Flip i cs
unary_of g IsZero i cs = option_map int_cells (is_zero_in g i cs)

-- two numbers of a type
abbrev pub binary_number : IrBinary → IntTy → (a b : List Cell) → Option (List Cell)
binary_number o i a b = option_map (number_cells (result_type o i)) (option_and_then (λ x. option_and_then (worked o i x) (number_in i b)) (number_in i a))

-- two words, of which one or both may be addresses
abbrev pub of_words : {A : Type 0} → (Word → Word → Option A) → (a b : List Cell) → Option A
of_words make a b = option_and_then (λ x. option_and_then (make x) (word_in b)) (word_in a)

unfoldable pub binary_of : Globals → IrBinary → IntTy → (a b : List Cell) → Option (List Cell)
binary_of g by.Add i a b = if is_word i then option_map word_cells (of_words sum_of_words a b) else binary_number by.Add i a b
binary_of g by.Eq i a b = if is_word i then option_map int_cells (of_words (same_word g) a b) else binary_number by.Eq i a b
binary_of g by.Ne i a b = if is_word i then option_map (λ same. int_cells (not same)) (of_words (same_word g) a b) else binary_number by.Ne i a b
binary_of g o i a b = binary_number o i a b

-- a number of one type as one of another
unfoldable pub converted : IntTy → IntTy → List Cell → Option (List Cell)
converted i j cs = option_map (number_cells j) (number_in i cs)
