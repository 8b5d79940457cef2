-- Character constants and string literals (C, 6.4.4.4 and 6.4.5), over the bytes 20 to 7E.
use Rattle.std.specs.Prelude.{ℕ, zero, suc, ◌+◌, ◌-◌, ◌*◌, Bool, true, false, not, ◌&&◌, ◌||◌, ◌==◌, nat_lt, nat_le, if◌then◌else◌, List, [], ◌∷◌, drop, Option, Some, None, option_map, slice_index}
use Rattle.std.specs.Char.{digit_value}
use Rattle.c_lex.specs.declared.quotes.Quoted.{Quoted}

-- the byte that a letter behind a backslash stands for
unfoldable pub escape_value : ℕ → Option ℕ
escape_value b =
    if b == 110 then Some 10
    else (if b == 116 then Some 9
    else (if b == 114 then Some 13
    else (if b == 48 then Some 0
    else (if b == 92 || b == 39 || b == 34 then Some b
    else None))))

-- `\x` and two hexadecimal digits
unfoldable pub hex_escape : List ℕ → Option Quoted
hex_escape text =
    let high = digit_value (slice_index text 2) in
    let low = digit_value (slice_index text 3) in
    if nat_lt high 16 && nat_lt low 16 then Some (record { value = 16 * high + low; length = 4 }) else None

-- an escape, which begins with a backslash
unfoldable pub escape_at : List ℕ → Option Quoted
escape_at text =
    if slice_index text 1 == 120 then hex_escape text
    else option_map (λ v. record { value = v; length = 2 }) (escape_value (slice_index text 1))

-- a byte that stands for itself between these quotes
unfoldable pub is_plain : ℕ → ℕ → Bool
is_plain quote b = nat_le 32 b && nat_le b 126 && not (b == quote)

-- the character that a text between these quotes begins with: its value, and the bytes that spell it
unfoldable pub quoted_at : ℕ → List ℕ → Option Quoted
quoted_at quote text =
    let b = slice_index text 0 in
    if b == 92 then escape_at text
    else (if is_plain quote b then Some (record { value = b; length = 1 }) else None)

-- a string literal behind its first quote: the bytes that it stands for, and how many spell it
pub record Literal : Type 0 where
  pub bytes : List ℕ
  pub length : ℕ

-- one more byte is spelled
unfoldable pub spelled : Option Literal → Option Literal
spelled None = None
spelled (Some text) = Some (record text { length = text.length + 1 })

unfoldable pub with_byte : ℕ → Option Literal → Option Literal
with_byte v None = None
with_byte v (Some text) = Some (record text { bytes = v ∷ text.bytes })

-- a character, and what is read after the bytes that spell it
unfoldable pub with_quoted : Option Quoted → (ℕ → Option Literal) → Option Literal
with_quoted None more = None
with_quoted (Some q) more = with_byte q.value (spelled (more (q.length - 1)))

-- Reads a string literal up to its last quote. The first number counts the bytes in front that a
-- character takes which has been read.
unfoldable pub literal_from : ℕ → List ℕ → Option Literal
literal_from k [] = None
literal_from (suc k) (b ∷ bs) = spelled (literal_from k bs)
literal_from zero (b ∷ bs) =
    if b == 34 then Some (record { bytes = []; length = 1 })
    else with_quoted (quoted_at 34 (b ∷ bs)) (λ k. literal_from k bs)
