-- Numbers and their bytes determine each other.
use Rattle.std.proofs.Common.{◌≡◌, ℕ, zero, suc, ◌+◌, ◌*◌, ◌/◌, ◌%◌, ◌^◌, ◌<◌, List, [], ◌∷◌, ◌++◌, length, refl, ap, ap₂, ◌∙◌, arith, mod-lt, take, drop}
use Rattle.std.proofs.lemmas.Nat.{div_below}
use Rattle.hx_words.specs.LittleEndian.{number_of, bytes_of, AreBytes}

pub length-bytes_of : (n v : ℕ) → length (bytes_of n v) ≡ n
unfolding bytes_of
length-bytes_of zero v = refl
length-bytes_of (suc n) v = ap suc (length-bytes_of n (v / 256))

-- a number of n bytes is read back
pub number_of-bytes_of : (n v : ℕ) → v < 256 ^ n → number_of (bytes_of n v) ≡ v
unfolding bytes_of number_of
number_of-bytes_of zero v h = omega arith
number_of-bytes_of (suc n) v h = omega (arith, number_of-bytes_of n (v / 256) (div_below v 256 (256 ^ n) (omega arith) (omega arith)))

lt_more : (k b n : ℕ) → n < 256 ^ k → b < 256 → b + 256 * n < 256 ^ suc k
lt_more k b n h l = omega arith

pub number_of_lt : (bs : List ℕ) → AreBytes bs → number_of bs < 256 ^ length bs
unfolding number_of
number_of_lt [] h = omega arith
number_of_lt (b ∷ bs) h = lt_more (length bs) b (number_of bs) (number_of_lt bs h.1) h.0

pub AreBytes-bytes_of : (n v : ℕ) → AreBytes (bytes_of n v)
unfolding bytes_of
AreBytes-bytes_of zero v = tt
AreBytes-bytes_of (suc n) v = (mod-lt v (omega arith), AreBytes-bytes_of n (v / 256))

-- the bytes of the number that bytes make
pub bytes_of-number_of : (bs : List ℕ) → AreBytes bs → bytes_of (length bs) (number_of bs) ≡ bs
unfolding bytes_of number_of
bytes_of-number_of [] h = refl
bytes_of-number_of (b ∷ bs) h =
    let low : (b + 256 * number_of bs) % 256 ≡ b = omega (arith, h.0) in
    let high : (b + 256 * number_of bs) / 256 ≡ number_of bs = omega (arith, h.0) in
    ap₂ (λ c cs. c ∷ cs) low (ap (bytes_of (length bs)) high ∙ bytes_of-number_of bs h.1)

-- of parts and of lists in a row
pub AreBytes-append : (xs ys : List ℕ) → AreBytes xs → AreBytes ys → AreBytes (xs ++ ys)
AreBytes-append [] ys h g = g
AreBytes-append (x ∷ xs) ys h g = (h.0, AreBytes-append xs ys h.1 g)

pub AreBytes-take : (n : ℕ) (xs : List ℕ) → AreBytes xs → AreBytes (take n xs)
AreBytes-take zero xs h = tt
AreBytes-take (suc n) [] h = tt
AreBytes-take (suc n) (x ∷ xs) h = (h.0, AreBytes-take n xs h.1)

pub AreBytes-drop : (n : ℕ) (xs : List ℕ) → AreBytes xs → AreBytes (drop n xs)
AreBytes-drop zero xs h = h
AreBytes-drop (suc n) [] h = tt
AreBytes-drop (suc n) (x ∷ xs) h = AreBytes-drop n xs h.1
