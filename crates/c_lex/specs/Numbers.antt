-- Integer constants and their types (C, 6.4.4.1), for the suffixes `u`, `ll` and `ull`.
use Rattle.std.specs.Prelude.{◌≡◌, ℕ, ◌+◌, ◌^◌, Bool, true, false, not, ◌&&◌, ◌||◌, ◌==◌, nat_lt, if◌then◌else◌, List, [], ◌∷◌, ◌++◌, length, drop, take, filter, Option, Some, None, option_map, option_and_then, find, slice_index}
use Rattle.std.specs.List.{prefix_len}
use Rattle.std.specs.Char.{is_digit}
use Rattle.std.specs.Str.Parse.{digits_value}
use Rattle.c_types.specs.declared.types.IntTy.{IntTy}
use Rattle.c_types.specs.declared.types.IntTy.TheVariants as int
use Rattle.c_lex.specs.declared.token.TokKind.{TokKind}
use Rattle.c_lex.specs.declared.token.TokKind.TheVariants as kind
use Rattle.c_lex.specs.declared.numbers.Suffix.{Suffix}

infixl 10 ◌>>=◌
abbrev pub ◌>>=◌ : {A B : Type 0} → Option A → (A → Option B) → Option B
o >>= f = option_and_then f o

-- `x`, small or capital
unfoldable pub is_x : ℕ → Bool
is_x b = b == 120 || b == 88

unfoldable pub is_u : ℕ → Bool
is_u b = b == 117 || b == 85

unfoldable pub is_l : ℕ → Bool
is_l b = b == 108 || b == 76

-- the base of a word that begins with a digit: 16 after `0x`, 8 after another 0
unfoldable pub base_of : List ℕ → ℕ
base_of word = if slice_index word 0 == 48 then (if is_x (slice_index word 1) then 16 else 8) else 10

-- how many bytes stand before the digits
unfoldable pub prefix_of : ℕ → ℕ
prefix_of base = if base == 16 then 2 else 0

-- none, `u`, `ll` or `ull`
unfoldable pub suffix_of : List ℕ → Option Suffix
suffix_of text =
    if length text == 0 then Some (record { unsigned = false; long = false })
    else (if length text == 1 && is_u (slice_index text 0) then Some (record { unsigned = true; long = false })
    else (if length text == 2 && (is_l (slice_index text 0) && is_l (slice_index text 1)) then Some (record { unsigned = false; long = true })
    else (if length text == 3 && (is_u (slice_index text 0) && (is_l (slice_index text 1) && is_l (slice_index text 2))) then Some (record { unsigned = true; long = true })
    else None)))

-- the types of a number's list, in order: decimal numbers without `u` are signed, other numbers without
-- `u` are of either sign, and those with `u` are unsigned
unfoldable pub all_types : ℕ → Bool → List IntTy
all_types base unsigned =
    if unsigned then int.U32 ∷ int.U64 ∷ []
    else (if base == 10 then int.I32 ∷ int.I64 ∷ []
    else int.I32 ∷ int.U32 ∷ int.I64 ∷ int.U64 ∷ [])

unfoldable pub has_64_bits : IntTy → Bool
has_64_bits int.I64 = true
has_64_bits int.U64 = true
has_64_bits _ = false

-- `ll` strikes the types of 32 bits
unfoldable pub types_of : ℕ → Suffix → List IntTy
types_of base suffix = filter (λ ty. not suffix.long || has_64_bits ty) (all_types base suffix.unsigned)

-- the numbers of a type that aren't negative end below this
unfoldable pub end_of : IntTy → ℕ
end_of int.I8 = 2 ^ 7
end_of int.U8 = 2 ^ 8
end_of int.I16 = 2 ^ 15
end_of int.U16 = 2 ^ 16
end_of int.I32 = 2 ^ 31
end_of int.U32 = 2 ^ 32
end_of int.I64 = 2 ^ 63
end_of int.U64 = 2 ^ 64

-- the first type of its list that holds the number
unfoldable pub type_of : ℕ → ℕ → Suffix → Option IntTy
type_of value base suffix = find (λ ty. nat_lt value (end_of ty)) (types_of base suffix)

-- how many digits of the base a text begins with
unfoldable pub digits_len : ℕ → List ℕ → ℕ
digits_len base text = prefix_len (λ b. is_digit b base) text

-- a number from its digits and its suffix: one digit at least, and a type that holds it
unfoldable pub number_from : ℕ → List ℕ → List ℕ → Option TokKind
number_from base digits suffix = do
  s ← suffix_of suffix
  ty ← type_of (digits_value base digits) base s
  if length digits == 0 then None else Some (kind.Number (digits_value base digits) ty)

-- the number that a word of digits, letters and `_` spells
unfoldable pub number_of : List ℕ → Option TokKind
number_of word =
    let base = base_of word in
    let body = drop (prefix_of base) word in
    let n = digits_len base body in
    number_from base (take n body) (drop n body)
