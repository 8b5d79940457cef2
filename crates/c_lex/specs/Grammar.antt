-- What the tokens are (C, 6.4), and when one stands at the front of a text. Nothing here says how a text is
-- read: `Reading` does, and the two say the same.
use Rattle.std.specs.Prelude.{◌≡◌, ◌≢◌, ◌⊎◌, ℕ, ℤ, ◌+◌, ◌*◌, ◌<◌, ◌≤◌, Bool, true, false, ◌&&◌, ◌||◌, ◌==◌, if◌then◌else◌, List, [], ◌∷◌, ◌++◌, length, take, drop, Option, Some, None, slice_index}
use Rattle.std.specs.List.{list_all}
use Rattle.std.specs.Char.{digit_value, is_digit}
use Rattle.std.specs.Str.Parse.{digits_value}
use Rattle.hx_words.specs.TwosComplement.{signed_of}
use Rattle.c_types.specs.declared.types.IntTy.{IntTy}
use Rattle.c_lex.specs.declared.token.TokKind.{TokKind}
use Rattle.c_lex.specs.declared.token.TokKind.TheVariants as kind
use Rattle.c_lex.specs.declared.token.Token.{Token}
use Rattle.c_lex.specs.declared.token.LexRefusal.{LexRefusal}
use Rattle.c_lex.specs.declared.token.LexRefusal.TheVariants as refusal
use Rattle.c_lex.specs.declared.next.Fault.{Fault}
use Rattle.c_lex.specs.declared.next.Fault.TheVariants as fault
use Rattle.c_lex.specs.declared.numbers.Suffix.{Suffix}
use Rattle.c_lex.specs.Bytes.{is_blank, is_letter, is_decimal, is_word_byte, is_in_line}
use Rattle.c_lex.specs.Spelling.{number_of_word, number_of_mark}
use Rattle.c_lex.specs.Numbers.{is_x, suffix_of, type_of}
use Rattle.c_lex.specs.Quotes.{escape_value, is_plain}
use Rattle.c_lex.specs.Reading.{closes, ends_line, token, refusal_of}

-- a letter or `_`, and then letters, digits and `_`
unfoldable pub is_name : List ℕ → Bool
is_name [] = false
is_name (b ∷ bs) = is_letter b && list_all is_word_byte bs

-- The digits and the suffix that spell a number of a base: decimal digits that don't begin with 0, octal
-- digits that do, or hexadecimal digits behind `0x`.
pub data IsNumeral (text digits suffix : List ℕ) (base : ℕ) : Type 0 where
  decimal : base ≡ 10 → (slice_index digits 0 == 48) ≡ false → text ≡ digits ++ suffix → IsNumeral text digits suffix base
  octal : base ≡ 8 → (slice_index digits 0 == 48) ≡ true → text ≡ digits ++ suffix → IsNumeral text digits suffix base
  hexadecimal : (x : ℕ) → base ≡ 16 → is_x x ≡ true → text ≡ 48 ∷ x ∷ (digits ++ suffix) → IsNumeral text digits suffix base

-- a text spells a number: its digits, one at least, its suffix, its value and the type that they give it
pub record IsNumber (text : List ℕ) (value : ℕ) (ty : IntTy) : Type 0 where
  pub base : ℕ
  pub digits : List ℕ
  pub suffix : List ℕ
  pub sign : Suffix
  pub spelled : IsNumeral text digits suffix base
  pub some : 0 < length digits
  pub each : list_all (λ b. is_digit b base) digits ≡ true
  pub suffixed : suffix_of suffix ≡ Some sign
  pub written : value ≡ digits_value base digits
  pub typed : type_of value base sign ≡ Some ty

-- a character between these quotes, its value and its spelling: a byte that stands for itself, an escape of
-- one letter, or `\x` and two hexadecimal digits
pub data IsCharacter (quote value : ℕ) (text : List ℕ) : Type 0 where
  plain : (value == 92) ≡ false → is_plain quote value ≡ true → text ≡ value ∷ [] → IsCharacter quote value text
  escaped : (letter : ℕ) → escape_value letter ≡ Some value → text ≡ 92 ∷ letter ∷ [] → IsCharacter quote value text
  coded : (high low : ℕ) → is_digit high 16 ≡ true → is_digit low 16 ≡ true → value ≡ 16 * digit_value high + digit_value low →
      text ≡ 92 ∷ 120 ∷ high ∷ low ∷ [] → IsCharacter quote value text

-- the characters of a string literal, one after another
abbrev pub AreCharacters : List ℕ → List ℕ → Type 0
AreCharacters [] text = text ≡ []
AreCharacters (v ∷ vs) text = (front : List ℕ) × (rest : List ℕ) × IsCharacter 34 v front × AreCharacters vs rest × (text ≡ front ++ rest)

-- the text is this token, from its first byte to its last
abbrev pub IsToken : TokKind → List ℕ → Type 0
IsToken (kind.Ident name) text = (name ≡ text) × (is_name text ≡ true) × (number_of_word text ≡ None)
IsToken (kind.Word n) text = number_of_word text ≡ Some n
IsToken (kind.Number value ty) text = IsNumber text value ty
IsToken (kind.Char z) text = (value : ℕ) × (spelling : List ℕ) × IsCharacter 39 value spelling × (z ≡ signed_of 8 value) × (text ≡ 39 ∷ (spelling ++ 39 ∷ []))
IsToken (kind.Text bytes) text = (spelling : List ℕ) × AreCharacters bytes spelling × (text ≡ 34 ∷ (spelling ++ 34 ∷ []))
IsToken (kind.Mark n) text = number_of_mark text ≡ Some n

abbrev pub is_number : TokKind → Bool
is_number (kind.Number value ty) = true
is_number _ = false

-- `//` or `/*` stands in front
unfoldable pub begins_comment : List ℕ → Bool
begins_comment text = slice_index text 0 == 47 && (slice_index text 1 == 47 || slice_index text 1 == 42)

-- The first n bytes of a text are this token: no longer front is a token, no letter, digit or `_` follows a
-- number, and no comment begins there.
pub record Stands (k : TokKind) (n : ℕ) (text : List ℕ) : Type 0 where
  pub within : n ≤ length text
  pub token : IsToken k (take n text)
  pub longest : (m : ℕ) (other : TokKind) → n < m → m ≤ length text → IsToken other (take m text) → ⊥
  pub apart : is_number k ≡ true → is_word_byte (slice_index text n) ≡ false
  pub no_comment : begins_comment text ≡ false

-- A blank, or a comment: `//` and all that follows it in its line, or `/*` and all up to the first `*/` behind it.
pub data IsGap (n : ℕ) (text : List ℕ) : Type 0 where
  blank : n ≡ 1 → is_blank (slice_index text 0) ≡ true → IsGap n text
  line : slice_index text 0 ≡ 47 → slice_index text 1 ≡ 47 → n ≤ length text → ((i : ℕ) → i < n → is_in_line (slice_index text i) ≡ true) →
      (n < length text → is_in_line (slice_index text n) ≡ false) → IsGap n text
  block : slice_index text 0 ≡ 47 → slice_index text 1 ≡ 42 → (i : ℕ) → n ≡ i + 4 → closes (drop (i + 2) text) ≡ true → ((j : ℕ) → j < i → closes (drop (j + 2) text) ≡ false) → IsGap n text

-- why no token stands in front: what the bytes there begin
unfoldable pub fault_of : Bool → List ℕ → Fault
fault_of first text =
    if is_decimal (slice_index text 0) then fault.BadNumber
    else (if slice_index text 0 == 39 || slice_index text 0 == 34 || begins_comment text then fault.Unclosed
    else (if slice_index text 0 == 35 && first then fault.Directive
    else fault.BadByte))

-- These are the tokens of a text whose first byte stands at this place: between them and around them stand
-- blanks and comments, and nothing else.
pub data AreTokens : ℕ → List ℕ → List Token → Type 0 where
  ends : {at : ℕ} → AreTokens at [] []
  behind_gap : {at : ℕ} {text : List ℕ} {tokens : List Token} (n : ℕ) → IsGap n text → AreTokens (at + n) (drop n text) tokens → AreTokens at text tokens
  next_token : {at : ℕ} {text : List ℕ} {tokens : List Token} (k : TokKind) (n : ℕ) → Stands k n text → AreTokens (at + n) (drop n text) tokens → AreTokens at text (token k at n ∷ tokens)

-- Nothing stands at the place that the refusal names, and blanks, comments and tokens stand before it. The flag
-- says that no token stands in the line before the text.
pub data IsRefusal : Bool → ℕ → List ℕ → LexRefusal → Type 0 where
  refused_behind_gap : {first : Bool} {at : ℕ} {text : List ℕ} {e : LexRefusal} (n : ℕ) → IsGap n text → IsRefusal (first || ends_line (take n text)) (at + n) (drop n text) e → IsRefusal first at text e
  refused_behind_token : {first : Bool} {at : ℕ} {text : List ℕ} {e : LexRefusal} (k : TokKind) (n : ℕ) → Stands k n text → IsRefusal false (at + n) (drop n text) e → IsRefusal first at text e
  refused_here : {first : Bool} {at : ℕ} {text : List ℕ} {e : LexRefusal} → 0 < length text → ((n : ℕ) → IsGap n text → ⊥) → ((k : TokKind) (n : ℕ) → Stands k n text → ⊥) →
      e ≡ refusal_of (fault_of first text) at → IsRefusal first at text e

-- the same of what a call told, unless memory ran out
abbrev pub IsRefusedAs : LexRefusal → List ℕ → Type 0
IsRefusedAs refusal.NoMemory bytes = Unit {0}
IsRefusedAs (refusal.BadByte at) bytes = IsRefusal true 0 bytes (refusal.BadByte at)
IsRefusedAs (refusal.BadNumber at) bytes = IsRefusal true 0 bytes (refusal.BadNumber at)
IsRefusedAs (refusal.Unclosed at) bytes = IsRefusal true 0 bytes (refusal.Unclosed at)
IsRefusedAs (refusal.Directive at) bytes = IsRefusal true 0 bytes (refusal.Directive at)
