-- Classes of bytes (C, 5.2.1).
use Rattle.std.specs.Prelude.{ℕ, Bool, true, false, if◌then◌else◌, ◌&&◌, ◌||◌, ◌==◌, nat_le}

-- a space, a tab, a carriage return or a line feed
unfoldable pub is_blank : ℕ → Bool
is_blank b = b == 32 || b == 9 || b == 13 || b == 10

-- a letter or `_`
unfoldable pub is_letter : ℕ → Bool
is_letter b = nat_le 65 b && nat_le b 90 || nat_le 97 b && nat_le b 122 || b == 95

-- a decimal digit
unfoldable pub is_decimal : ℕ → Bool
is_decimal b = nat_le 48 b && nat_le b 57

-- a letter, a digit or `_`
unfoldable pub is_word_byte : ℕ → Bool
is_word_byte b = is_letter b || is_decimal b

-- not the end of a line
unfoldable pub is_in_line : ℕ → Bool
is_in_line b = if b == 10 then false else true
