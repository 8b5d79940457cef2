-- More laws of numbers and their bytes: low bytes, and that each determines the other.
use Rattle.std.proofs.Common.{◌≡◌, ℕ, zero, suc, ◌+◌, ◌*◌, ◌/◌, ◌%◌, ◌^◌, ◌<◌, List, [], ◌∷◌, length, refl, sym, ap, ap₂, ◌∙◌, arith, mod-lt, get_or}
use Rattle.std.proofs.Math.Arith.{mod-mul}
use Rattle.std.proofs.lemmas.Nat.{mod-mul-add, div-mul-add}
use Rattle.hx_words.specs.LittleEndian.{number_of, bytes_of, AreBytes}
use Rattle.hx_words.proofs.LittleEndianLaws.{number_of-bytes_of, bytes_of-number_of}

pow-pos_256 : (k : ℕ) → 0 < 256 ^ k
pow-pos_256 zero = omega arith
pow-pos_256 (suc k) = omega (arith, pow-pos_256 k)

-- the low bytes of a number are those of its low bits, at least as many
pub bytes_of_low : (n j v : ℕ) → bytes_of n (v % 256 ^ (n + j)) ≡ bytes_of n v
unfolding bytes_of
bytes_of_low zero j v = refl
bytes_of_low (suc n) j v =
    let q = v / 256 % 256 ^ (n + j) in
    let r = v % 256 in
    let m : suc n + j ≡ suc (n + j) = omega arith in
    let pw : 256 ^ (suc n + j) ≡ 256 ^ (n + j) * 256 = ap (λ k. 256 ^ k) m ∙ (omega arith) in
    let below : r < 256 = mod-lt v (omega arith) in
    let split : v % 256 ^ (suc n + j) ≡ q * 256 + r = ap (λ k. v % k) pw ∙ mod-mul v {m = 256 ^ (n + j)} {c = 256} (pow-pos_256 (n + j)) (omega arith) in
    ap₂ (λ b bs. b ∷ bs) (ap (λ w. w % 256) split ∙ mod-mul-add q 256 r below)
    (ap (λ w. bytes_of n (w / 256)) split ∙ ap (bytes_of n) (div-mul-add q 256 r below) ∙ bytes_of_low n j (v / 256))

-- as many low bits as there are bytes
pub bytes_of-mod : (n v : ℕ) → bytes_of n (v % 256 ^ n) ≡ bytes_of n v
bytes_of-mod n v = let e : n ≡ n + 0 = omega arith in ap (λ k. bytes_of n (v % 256 ^ k)) e ∙ bytes_of_low n 0 v

-- the number of the n low bytes of a number is its low bits
pub number_of-low_bytes : (n v : ℕ) → number_of (bytes_of n v) ≡ v % 256 ^ n
number_of-low_bytes n v =
    ap number_of (sym (bytes_of-mod n v)) ∙ number_of-bytes_of n (v % 256 ^ n) (mod-lt v (pow-pos_256 n))

-- numbers of the same n bytes are equal, and bytes of the same number
pub bytes_of-injective : (n v w : ℕ) → v < 256 ^ n → w < 256 ^ n → bytes_of n v ≡ bytes_of n w → v ≡ w
bytes_of-injective n v w h k e = sym (number_of-bytes_of n v h) ∙ ap number_of e ∙ number_of-bytes_of n w k

pub number_of-injective : (xs ys : List ℕ) → AreBytes xs → AreBytes ys → length xs ≡ length ys → number_of xs ≡ number_of ys → xs ≡ ys
number_of-injective xs ys h k l e =
    sym (bytes_of-number_of xs h) ∙ ap₂ bytes_of l e ∙ bytes_of-number_of ys k

-- items of which each is below 256 are bytes
pub AreBytes-from_items : (xs : List ℕ) → ((k : ℕ) → get_or xs k 0 < 256) → AreBytes xs
AreBytes-from_items [] h = tt
AreBytes-from_items (x ∷ xs) h = (h 0, AreBytes-from_items xs (λ k. h (suc k)))

pub AreBytes-item : (xs : List ℕ) (k : ℕ) → AreBytes xs → get_or xs k 0 < 256
AreBytes-item [] k h = omega arith
AreBytes-item (x ∷ xs) zero h = h.0
AreBytes-item (x ∷ xs) (suc k) h = AreBytes-item xs k h.1
