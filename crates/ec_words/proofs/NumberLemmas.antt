-- Lemmas of numbers.
use Rattle.std.proofs.Common.{◌≡◌, ℕ, ◌+◌, ◌*◌, ◌^◌, ◌<◌, ◌≤◌, ◌&&◌, zero, suc, Bool, true, false, List, [], ◌∷◌, length, Some, None, nat_lt, refl, sym, ap, arith, lt-ltb, le-ltb}
use Rattle.std.specs.Char.{digit_value}
use Rattle.std.specs.Str.Parse.{digits_value_after, digits_value}
use Rattle.ec_words.specs.Numbers.{number_in, are_digits}

times : (n base : ℕ) → 1 ≤ base → n ≤ n * base
times n zero h = absurd (omega arith)
times n (suc b) h = grind arith

-- further digits make no number less
pub grows : (base n : ℕ) (ds : List ℕ) → 1 ≤ base → n ≤ digits_value_after base n ds
grows base n [] h = omega arith
grows base n (d ∷ ds) h =
    let more = grows base (n * base + digit_value d) ds h in
    let at_least = times n base h in omega arith

pub number_is : (base value : ℕ) (ds : List ℕ) → 0 < length ds → are_digits base ds ≡ true → digits_value base ds ≡ value → value < 2 ^ 64 → Some value ≡ number_in base ds
number_is base value ds some digits is small =
    let a : nat_lt 0 (length ds) ≡ true = lt-ltb 0 (length ds) some in
    let b : nat_lt (digits_value base ds) (2 ^ 64) ≡ true = rw is (lt-ltb value (2 ^ 64) small) in
    rw (a, digits, b) (ap (λ n. Some n) (sym is))

and_false : (a b : Bool) → (a && (b && false)) ≡ false
and_false true true = refl
and_false true false = refl
and_false false b = refl

pub number_large : (base : ℕ) (ds : List ℕ) → 2 ^ 64 ≤ digits_value base ds → None ≡ number_in base ds
number_large base ds large =
    let b : nat_lt (digits_value base ds) (2 ^ 64) ≡ false = le-ltb (digits_value base ds) (2 ^ 64) large in
    rw (b, and_false (nat_lt 0 (length ds)) (are_digits base ds)) refl
