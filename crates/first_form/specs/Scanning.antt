-- What the scanner reads at the front of bytes, and what it leaves.
use Rattle.std.specs.Prelude.{ℕ, ◌+◌, ◌-◌, ◌*◌, ◌==◌, nat_lt, if◌then◌else◌, List, [], ◌∷◌, length, Option, Some, None, option_and_then, take, drop}
use Rattle.std.specs.List.{prefix_len}
use Rattle.first_form.specs.FirstForm.{is_blank, is_digit}

infixl 10 ◌>>=◌
abbrev pub ◌>>=◌ : {A B : Type 0} → Option A → (A → Option B) → Option B
o >>= f = option_and_then f o

-- from the first byte on that is no blank
unfoldable pub after_blanks : List ℕ → List ℕ
after_blanks bytes = drop (prefix_len is_blank bytes) bytes

-- the same, where a blank begins the bytes
unfoldable pub after_gap : List ℕ → Option (List ℕ)
after_gap bytes = if nat_lt (length (after_blanks bytes)) (length bytes) then Some (after_blanks bytes) else None

-- what follows a text
unfoldable pub after_text : List ℕ → List ℕ → Option (List ℕ)
after_text [] bytes = Some bytes
after_text (t ∷ ts) [] = None
after_text (t ∷ ts) (b ∷ bs) = if b == t then after_text ts bs else None

-- what follows blanks and a text
unfoldable pub after_token : List ℕ → List ℕ → Option (List ℕ)
after_token text bytes = after_text text (after_blanks bytes)

-- the value of a digit
unfoldable pub digit_at : ℕ → Option ℕ
digit_at b = if is_digit b then Some (b - 48) else None

-- the value of a whole numeral
unfoldable pub numeral_at : List ℕ → Option ℕ
numeral_at [] = None
numeral_at (a ∷ []) = digit_at a
numeral_at (a ∷ b ∷ []) = if a == 48 then None else do
  x ← digit_at a
  y ← digit_at b
  Some (10 * x + y)
numeral_at (a ∷ b ∷ c ∷ []) = if a == 48 then None else do
  x ← digit_at a
  y ← digit_at b
  z ← digit_at c
  Some (100 * x + 10 * y + z)
numeral_at (a ∷ b ∷ c ∷ d ∷ ds) = None

-- a number after blanks, and what follows it
unfoldable pub number_at : List ℕ → Option (ℕ × List ℕ)
number_at bytes = do
  let start = after_blanks bytes
  let count = prefix_len is_digit start
  n ← numeral_at (take count start)
  Some (n, drop count start)
