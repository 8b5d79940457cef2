-- The little-endian words of `byteorder` are those of `hx_words`.
use Rattle.std.proofs.Common.{◌≡◌, ℕ, zero, suc, ◌+◌, ◌*◌, ◌/◌, ◌%◌, ◌^◌, ◌<◌, ◌≤◌, List, [], ◌∷◌, ◌++◌, length, take, drop, get_or, set, refl, sym, ap, ap₂, ◌∙◌, arith, length-drop, Some}
use Rattle.std.proofs.lemmas.Bool.{le-leb, cond-true}
use Rattle.hx_bits.specs.Numbers.{number_at}
use Rattle.std.proofs.Math.Seq.{drop-cons}
use Rattle.std.proofs.Math.Nat.{div-div-eq-div-mul, div-one, pow-suc}
use Rattle.std.specs.Int.{byte_at, bytes_low_first}
use Rattle.byteorder.specs.Endian.{little_from}
use Rattle.hx_words.specs.LittleEndian.{number_of, bytes_of}
use Rattle.hx_bits.proofs.LowBytes.{bytes_of-mod}

little_from-drop : (n i : ℕ) (xs : List ℕ) → i + n ≤ length xs → little_from i n xs ≡ number_of (take n (drop i xs))
unfolding number_of
little_from-drop zero i xs h = refl
little_from-drop (suc n) i xs h =
    let at : i < length xs = omega arith in
    ap (λ m. get_or xs i 0 + 256 * m) (little_from-drop n (suc i) xs (omega arith))
    ∙ ap (λ l. number_of (take (suc n) l)) (sym (drop-cons xs i 0 at))

-- the number in the first n bytes
pub little_from-number_of : (n : ℕ) (xs : List ℕ) → n ≤ length xs → little_from 0 n xs ≡ number_of (take n xs)
little_from-number_of n xs h = little_from-drop n 0 xs (omega arith)

-- the number in the n bytes from a place on
pub little_from_at : (n at : ℕ) (xs rest : List ℕ) → at + n ≤ length xs → rest ≡ drop at xs → little_from 0 n rest ≡ number_of (take n (drop at xs))
little_from_at n at xs rest h e =
    let l : n ≤ length rest = omega (arith, ap length e, length-drop at xs) in
    little_from-number_of n rest l ∙ ap (λ l. number_of (take n l)) e

byte_at-div : (i v : ℕ) → byte_at i v ≡ v / 256 ^ i % 256
byte_at-div zero v = ap (λ w. w % 256) (sym (div-one v))
byte_at-div (suc i) v = refl

bytes_low_first-from : (n i v : ℕ) → bytes_low_first i n v ≡ bytes_of n (v / 256 ^ i)
unfolding bytes_of
bytes_low_first-from zero i v = refl
bytes_low_first-from (suc n) i v =
    let e : v / 256 ^ suc i ≡ v / 256 ^ i / 256 = ap (λ k. v / k) (pow-suc 256 i) ∙ sym (div-div-eq-div-mul v (256 ^ i) 256) in
    ap₂ (λ b bs. b ∷ bs) (byte_at-div i v) (bytes_low_first-from n (suc i) v ∙ ap (bytes_of n) e)

-- the n low bytes of a number
pub bytes_low_first-bytes_of : (n v : ℕ) → bytes_low_first 0 n v ≡ bytes_of n v
bytes_low_first-bytes_of n v = bytes_low_first-from n 0 v ∙ ap (bytes_of n) (div-one v)

-- and those of its low bits
pub low_first_of_low : (n v m : ℕ) (rest : List ℕ) → m ≡ 256 ^ n → bytes_low_first 0 n (v % m) ++ rest ≡ bytes_of n v ++ rest
low_first_of_low n v m rest e = ap (λ bs. bs ++ rest) (bytes_low_first-bytes_of n (v % m) ∙ ap (λ k. bytes_of n (v % k)) e ∙ bytes_of-mod n v)

-- the first byte replaced
pub set_first : (xs : List ℕ) (v : ℕ) → 0 < length xs → set xs 0 (v % 256) ≡ bytes_of 1 v ++ drop 1 xs
unfolding bytes_of
set_first [] v h = absurd (omega arith)
set_first (x ∷ xs) v h = refl

-- the first byte read
pub first_number : (xs : List ℕ) → 0 < length xs → get_or xs 0 0 ≡ number_of (take 1 xs)
unfolding number_of
first_number [] h = absurd (omega arith)
first_number (x ∷ xs) h = omega arith

-- what is read at a place is the number there
pub number_at_from : (n at v : ℕ) (xs rest : List ℕ) → v ≡ little_from 0 n rest → at + n ≤ length xs → rest ≡ drop at xs → Some v ≡ number_at n xs at
number_at_from n at v xs rest e h r =
    sym (cond-true _ _ _ (le-leb _ _ h) ∙ ap Some (sym (e ∙ little_from_at n at xs rest h r)))
