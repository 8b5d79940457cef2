-- Units of the first form: C programs whose `main` calls `put_byte` with constants and returns one.
-- Their bytes are a list of tokens, with white space as C has it (C17, 5.1.1.2 and 6.4): it may stand before,
-- between and after tokens and never inside one, and words that would run together have some between them.
use Rattle.std.specs.Prelude.{◌≡◌, ℕ, ◌+◌, ◌-◌, ◌*◌, ◌<◌, ◌≤◌, ◌==◌, nat_le, Bool, true, false, ◌&&◌, ◌||◌, IsTrue, List, [], ◌∷◌, ◌++◌, length, slice_index, codes}
use Rattle.std.specs.List.{list_all}

-- a space, a tab, a carriage return or a line feed
abbrev pub is_blank : ℕ → Bool
is_blank b = b == 32 || b == 9 || b == 13 || b == 10

abbrev pub AreBlanks : List ℕ → Type 0
AreBlanks bytes = IsTrue (list_all is_blank bytes)

-- `0` to `9`
abbrev pub is_digit : ℕ → Bool
is_digit b = nat_le 48 b && nat_le b 57

abbrev pub AreDigits : List ℕ → Type 0
AreDigits text = IsTrue (list_all is_digit text)

-- the number that decimal digits stand for, where those before them stand for n
abbrev pub decimal : ℕ → List ℕ → ℕ
decimal n [] = n
decimal n (b ∷ bs) = decimal (10 * n + (b - 48)) bs

-- one to three decimal digits, and `0` begins none but itself (C17, 6.4.4.1: a 0 in front would make it octal)
pub record IsNumeral (text : List ℕ) (n : ℕ) : Type 0 where
  pub digits : AreDigits text
  pub some : 0 < length text
  pub short : length text ≤ 3
  pub leading : slice_index text 0 ≡ 48 → length text ≡ 1
  pub value : n ≡ decimal 0 text

-- keywords and names by their letters, constants by their values, and punctuators by their marks
pub data Token : Type 0 where
  Word : List ℕ → Token
  Number : ℕ → Token
  Mark : List ℕ → Token

-- what letters and digits make up
abbrev pub is_word : Token → Bool
is_word (Word letters) = true
is_word (Number n) = true
is_word (Mark marks) = false

-- the bytes of a token
abbrev pub IsText : Token → List ℕ → Type 0
IsText (Word letters) text = text ≡ letters
IsText (Number n) text = IsNumeral text n
IsText (Mark marks) text = text ≡ marks

-- The bytes begin with blanks and a token, and then comes the rest. Behind a word a word needs a blank.
pub record IsTokenAt (after_word : Bool) (token : Token) (bytes rest : List ℕ) : Type 0 where
  pub gap : List ℕ
  pub text : List ℕ
  pub whole : bytes ≡ gap ++ (text ++ rest)
  pub blank : AreBlanks gap
  pub apart : IsTrue (after_word && is_word token) → 0 < length gap
  pub spelled : IsText token text

-- the bytes are these tokens and nothing else
unfoldable pub IsSpelled : Bool → List Token → List ℕ → Type 0
IsSpelled after_word [] bytes = AreBlanks bytes
IsSpelled after_word (t ∷ ts) bytes = (rest : List ℕ) × IsTokenAt after_word t bytes rest × IsSpelled (is_word t) ts rest

-- `put_byte(n);`
abbrev pub put_tokens : ℕ → List Token
put_tokens n = Word (codes "put_byte") ∷ Mark (codes "(") ∷ Number n ∷ Mark (codes ")") ∷ Mark (codes ";") ∷ []

-- `return n; }`
abbrev pub end_tokens : ℕ → List Token
end_tokens n = Word (codes "return") ∷ Number n ∷ Mark (codes ";") ∷ Mark (codes "}") ∷ []

-- the calls and the end
unfoldable pub body_tokens : List ℕ → ℕ → List Token
body_tokens [] status = end_tokens status
body_tokens (put ∷ puts) status = put_tokens put ++ body_tokens puts status

-- `int main(void) {`
abbrev pub head_tokens : List Token
head_tokens = Word (codes "int") ∷ Word (codes "main") ∷ Mark (codes "(") ∷ Word (codes "void") ∷ Mark (codes ")") ∷ Mark (codes "{") ∷ []

-- The unit that puts these numbers in order and returns the status.
unfoldable pub IsFirstForm : List ℕ → ℕ → List ℕ → Type 0
IsFirstForm puts status bytes = IsSpelled false (head_tokens ++ body_tokens puts status) bytes

-- numbers of at most three digits
abbrev pub AreBelow : List ℕ → Type 0
AreBelow [] = Unit {0}
AreBelow (n ∷ ns) = (n < 1000) × AreBelow ns
