-- Numbers in words: this project's own. One or more decimal digits, or `0x` and one or more hexadecimal
-- digits in small or capital letters, below 2^64; leading zeros count for nothing.
use Rattle.std.specs.Prelude.{ℕ, ◌^◌, ◌+◌, ◌*◌, ◌/◌, List, ◌∷◌, length, Bool, ◌&&◌, ◌==◌, nat_lt, nat_le, Option, Some, None, option_and_then, if◌then◌else◌}
use Rattle.std.specs.List.{list_all}
use Rattle.std.specs.Char.{digit_value}
use Rattle.std.specs.Str.Parse.{digits_value}

-- each byte is a digit of the base
abbrev pub are_digits : ℕ → List ℕ → Bool
are_digits base = list_all (λ d. nat_lt (digit_value d) base)

-- the number below 2^64 that one digit or more of a base write
abbrev pub number_in : ℕ → List ℕ → Option ℕ
number_in base digits =
    if nat_lt 0 (length digits) && (are_digits base digits && nat_lt (digits_value base digits) (2 ^ 64))
    then Some (digits_value base digits) else None

-- `0x` (48, 120) says that hexadecimal digits follow
abbrev pub number_of : List ℕ → Option ℕ
number_of (a ∷ (b ∷ rest)) = if (a == 48) && (b == 120) then number_in 16 rest else number_in 10 (a ∷ (b ∷ rest))
number_of digits = number_in 10 digits

-- the number, if it is one of these
abbrev pub within : ℕ → ℕ → Option ℕ → Option ℕ
within low high = option_and_then (λ n. if nat_le low n && nat_le n high then Some n else None)

-- the number of an option's value, in its range; or the default, where the option isn't there
abbrev pub setting : ℕ → ℕ → ℕ → Option (List ℕ) → Option ℕ
setting default low high None = Some default
setting default low high (Some text) = within low high (number_of text)

-- the next multiple of 4,096
abbrev pub rounded : ℕ → ℕ
rounded n = (n + 4095) / 4096 * 4096
