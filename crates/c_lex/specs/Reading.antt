-- The tokens of a text: what stands at a place, and the reading of a whole text from left to right.
use Rattle.std.specs.Prelude.{◌≡◌, ℕ, ℤ, zero, suc, ◌+◌, ◌-◌, Bool, true, false, not, ◌&&◌, ◌||◌, ◌==◌, nat_le, if◌then◌else◌, List, [], ◌∷◌, ◌++◌, length, take, drop, Option, Some, None, option_map, unwrap_or, position, slice_index, Result, Ok, Err}
use Rattle.std.specs.List.{prefix_len, list_any}
use Rattle.std.specs.Global.{Vec}
use Rattle.hx_words.specs.TwosComplement.{signed_of}
use Rattle.c_types.specs.declared.types.Span.{Span}
use Rattle.c_lex.specs.declared.token.TokKind.{TokKind}
use Rattle.c_lex.specs.declared.token.TokKind.TheVariants as kind
use Rattle.c_lex.specs.declared.token.Token.{Token}
use Rattle.c_lex.specs.declared.token.LexRefusal.{LexRefusal}
use Rattle.c_lex.specs.declared.token.LexRefusal.TheVariants as refusal
use Rattle.c_lex.specs.declared.next.Fault.{Fault}
use Rattle.c_lex.specs.declared.next.Fault.TheVariants as fault
use Rattle.c_lex.specs.declared.next.Next.{Next}
use Rattle.c_lex.specs.declared.next.Next.TheVariants as next
use Rattle.c_lex.specs.declared.quotes.Quoted.{Quoted}
use Rattle.c_lex.specs.Bytes.{is_blank, is_letter, is_decimal, is_word_byte, is_in_line}
use Rattle.c_lex.specs.Spelling.{number_of_word, number_of_mark}
use Rattle.c_lex.specs.Numbers.{number_of}
use Rattle.c_lex.specs.Quotes.{Literal, quoted_at, literal_from}

-- how many letters, digits and `_` a text begins with
unfoldable pub word_len : List ℕ → ℕ
word_len text = prefix_len is_word_byte text

-- what a word that begins with a letter is
unfoldable pub name_kind : List ℕ → TokKind
name_kind word = unwrap_or (option_map kind.Word (number_of_word word)) (kind.Ident word)

unfoldable pub found_or : Fault → ℕ → Option TokKind → Next
found_or f n None = next.Refused f
found_or f n (Some k) = next.Found k n

-- a reserved word or an identifier
unfoldable pub name_at : List ℕ → Next
name_at text = next.Found (name_kind (take (word_len text) text)) (word_len text)

-- a number, which all letters, digits and `_` there spell
unfoldable pub number_at : List ℕ → Next
number_at text = found_or fault.BadNumber (word_len text) (number_of (take (word_len text) text))

unfoldable pub char_closed : List ℕ → Option Quoted → Next
char_closed text None = next.Refused fault.Unclosed
char_closed text (Some q) =
    if slice_index text (q.length + 1) == 39 then next.Found (kind.Char (signed_of 8 q.value)) (q.length + 2)
    else next.Refused fault.Unclosed

-- a quote, a character and a quote
unfoldable pub char_at : List ℕ → Next
char_at text = char_closed text (quoted_at 39 (drop 1 text))

unfoldable pub text_closed : Option Literal → Next
text_closed None = next.Refused fault.Unclosed
text_closed (Some literal) = next.Found (kind.Text literal.bytes) (literal.length + 1)

-- a quote, characters and a quote
unfoldable pub text_at : List ℕ → Next
text_at text = text_closed (literal_from 0 (drop 1 text))

-- `*/` stands in front
unfoldable pub closes : List ℕ → Bool
closes text = slice_index text 0 == 42 && slice_index text 1 == 47

-- how many bytes end with the first `*/`
unfoldable pub close_of : List ℕ → Option ℕ
close_of [] = None
close_of (b ∷ bs) = if closes (b ∷ bs) then Some 2 else option_map suc (close_of bs)

unfoldable pub comment_closed : Option ℕ → Next
comment_closed None = next.Refused fault.Unclosed
comment_closed (Some n) = next.Gap (n + 2)

-- the mark that the n bytes in front are
unfoldable pub mark_of : ℕ → List ℕ → Option Next
mark_of n text =
    if nat_le n (length text) then option_map (λ k. next.Found (kind.Mark k) n) (number_of_mark (take n text))
    else None

-- why a byte begins no token
unfoldable pub stray : Bool → ℕ → Next
stray first b = next.Refused (if b == 35 && first then fault.Directive else fault.BadByte)

-- the longest mark
unfoldable pub mark_at : Bool → List ℕ → Next
mark_at first text = unwrap_or (mark_of 3 text) (unwrap_or (mark_of 2 text) (unwrap_or (mark_of 1 text) (stray first (slice_index text 0))))

-- a comment, or a mark
unfoldable pub slash_at : Bool → List ℕ → Next
slash_at first text =
    if slice_index text 1 == 47 then next.Gap (prefix_len is_in_line text)
    else (if slice_index text 1 == 42 then comment_closed (close_of (drop 2 text))
    else mark_at first text)

-- What stands at the front of a text that has a byte: a blank or a comment, a token, or a fault. The flag
-- says that no token stands before it in its line.
unfoldable pub next_of : Bool → List ℕ → Next
next_of first text =
    let b = slice_index text 0 in
    if is_blank b then next.Gap 1
    else (if is_letter b then name_at text
    else (if is_decimal b then number_at text
    else (if b == 39 then char_at text
    else (if b == 34 then text_at text
    else (if b == 47 then slash_at first text
    else mark_at first text)))))

-- a line ends in the text
unfoldable pub ends_line : List ℕ → Bool
ends_line text = list_any (λ b. not (is_in_line b)) text

unfoldable pub token : TokKind → ℕ → ℕ → Token
token k at n = record { kind = k; span = record { start = at; «end» = at + n } }

unfoldable pub refusal_of : Fault → ℕ → LexRefusal
refusal_of fault.BadByte at = refusal.BadByte at
refusal_of fault.BadNumber at = refusal.BadNumber at
refusal_of fault.Unclosed at = refusal.Unclosed at
refusal_of fault.Directive at = refusal.Directive at

-- tokens in front of those that a text has
unfoldable pub with_front : List Token → Result (List Token) LexRefusal → Result (List Token) LexRefusal
with_front front (Ok tokens) = Ok (front ++ tokens)
with_front front (Err e) = Err e

-- One step of a reading at a place, and the reading that goes on behind n bytes.
unfoldable pub read_next : Bool → ℕ → List ℕ → (ℕ → Bool → Result (List Token) LexRefusal) → Next → Result (List Token) LexRefusal
read_next first at text more (next.Gap n) = more n (first || ends_line (take n text))
read_next first at text more (next.Found k n) = with_front (token k at n ∷ []) (more n false)
read_next first at text more (next.Refused f) = Err (refusal_of f at)

-- Reads a text whose first byte stands at a place. The first number counts the bytes in front that have been
-- read.
unfoldable pub reading : ℕ → Bool → ℕ → List ℕ → Result (List Token) LexRefusal
reading k first at [] = Ok []
reading (suc k) first at (b ∷ bs) = reading k first (at + 1) bs
reading zero first at (b ∷ bs) =
    read_next first at (b ∷ bs) (λ n after. reading (n - 1) after (at + 1) bs) (next_of first (b ∷ bs))

-- the tokens of a unit's bytes, or the first place at which no token stands
unfoldable pub tokens_of : List ℕ → Result (List Token) LexRefusal
tokens_of bytes = reading 0 true 0 bytes

-- What a call told, unless memory ran out.
abbrev pub Told : LexRefusal → Result (List Token) LexRefusal → Type 0
Told refusal.NoMemory read = Unit {0}
Told (refusal.BadByte at) read = read ≡ Err (refusal.BadByte at)
Told (refusal.BadNumber at) read = read ≡ Err (refusal.BadNumber at)
Told (refusal.Unclosed at) read = read ≡ Err (refusal.Unclosed at)
Told (refusal.Directive at) read = read ≡ Err (refusal.Directive at)

-- What a call gave is this reading, unless memory ran out.
abbrev pub Gives : Result (Vec Token) LexRefusal → Result (List Token) LexRefusal → Type 0
Gives (Ok tokens) read = read ≡ Ok tokens.items
Gives (Err e) read = Told e read
