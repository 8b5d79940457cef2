-- Numbers that stand in bytes.
use Rattle.std.proofs.Common.{◌≡◌, ℕ, ◌+◌, ◌%◌, ◌^◌, ◌<◌, ◌≤◌, List, ◌++◌, length, take, drop, Some, None, refl, sym, ap, ◌∙◌, arith, length-append, length-drop, subst}
use Rattle.std.proofs.lemmas.Bool.{le-leb, lt-leb, leb-true, cond-true, cond-false}
use Rattle.std.proofs.lemmas.Option.{cond_some}
use Rattle.std.proofs.lemmas.List.{drop_at, take_at, length-take-le}
use Rattle.hx_words.specs.LittleEndian.{number_of, bytes_of, AreBytes}
use Rattle.hx_words.proofs.LittleEndianLaws.{length-bytes_of, number_of_lt, bytes_of-number_of, AreBytes-take, AreBytes-drop}
use Rattle.hx_bits.proofs.LowBytes.{number_of-low_bytes}
use Rattle.hx_bits.specs.Numbers.{number_at}

-- a number is read where its bytes stand
pub number_at-bytes_of : (n v : ℕ) (before after : List ℕ) → number_at n (before ++ (bytes_of n v ++ after)) (length before) ≡ Some (v % 256 ^ n)
number_at-bytes_of n v before after =
    let long : length before + n ≤ length (before ++ (bytes_of n v ++ after)) = omega (arith, length-append before (bytes_of n v ++ after), length-append (bytes_of n v) after, length-bytes_of n v) in
    cond-true _ _ _ (le-leb _ _ long)
    ∙ ap (λ xs. Some (number_of (take n xs))) (drop_at before (bytes_of n v ++ after) (length before) refl)
    ∙ ap (λ xs. Some (number_of xs)) (take_at (bytes_of n v) after n (length-bytes_of n v))
    ∙ ap Some (number_of-low_bytes n v)

-- none is read exactly where it ends past the bytes
pub number_at_none : (n : ℕ) (xs : List ℕ) (at : ℕ) → length xs < at + n → number_at n xs at ≡ None
number_at_none n xs at h = cond-false _ _ _ (lt-leb _ _ h)

pub number_at_some : (n : ℕ) (xs : List ℕ) (at : ℕ) → at + n ≤ length xs → number_at n xs at ≡ Some (number_of (take n (drop at xs)))
number_at_some n xs at h = cond-true _ _ _ (le-leb _ _ h)

-- the bytes of what is read are those that stand there
pub bytes_of-number_at : (n : ℕ) (xs : List ℕ) (at v : ℕ) → AreBytes xs → number_at n xs at ≡ Some v → bytes_of n v ≡ take n (drop at xs)
bytes_of-number_at n xs at v h e =
    let p = cond_some _ _ v e in
    let fits : at + n ≤ length xs = leb-true _ _ p.0 in
    let long : length (take n (drop at xs)) ≡ n = length-take-le n (drop at xs) (omega (arith, length-drop at xs)) in
    ap (bytes_of n) (sym p.1) ∙ ap (λ k. bytes_of k (number_of (take n (drop at xs)))) (sym long) ∙ bytes_of-number_of (take n (drop at xs)) (AreBytes-take n _ (AreBytes-drop at xs h))

pub number_at_lt : (n : ℕ) (xs : List ℕ) (at v : ℕ) → AreBytes xs → number_at n xs at ≡ Some v → v < 256 ^ n
number_at_lt n xs at v h e =
    let p = cond_some _ _ v e in
    let fits : at + n ≤ length xs = leb-true _ _ p.0 in
    let long : length (take n (drop at xs)) ≡ n = length-take-le n (drop at xs) (omega (arith, length-drop at xs)) in
    let bound : number_of (take n (drop at xs)) < 256 ^ length (take n (drop at xs)) = number_of_lt (take n (drop at xs)) (AreBytes-take n _ (AreBytes-drop at xs h)) in
    subst (λ k. k < 256 ^ n) p.1 (subst (λ k. number_of (take n (drop at xs)) < 256 ^ k) long bound)
