-- A write inside a stretch that is read.
use Rattle.hx_mem.specs.Segments.{Segment}
use Rattle.std.proofs.Common.{◌≡◌, ℕ, ◌+◌, ◌-◌, ◌<◌, ◌≤◌, true, zero, suc, List, [], ◌∷◌, ◌++◌, length, take, drop, Some, refl, sym, ap, ◌∙◌, arith, ⊎_elim, cond, length-drop}
use Rattle.std.proofs.lemmas.Bool.{cases_Bool, cond-true, cond-false}
use Rattle.std.proofs.lemmas.Option.{none-some}
use Rattle.std.proofs.lemmas.List.{drop-drop, take-take, drop-take, length-take-le, drop-append-le}
use Rattle.hx_mem.specs.Space.{has, splice, writable_in, put_in, read, writable, put, IsLaidOut}
use Rattle.hx_mem.proofs.Writes.{has-true, has_from, read_fits, read_from, length-bytes_after, bytes_if, has-put_in}
use Rattle.hx_mem.proofs.Within.{below_read, writable_in_within}

-- the first bytes of two lists in a row, past the first list
pub take_past : (xs ys : List ℕ) (n k : ℕ) → length xs + n ≡ k → take k (xs ++ ys) ≡ xs ++ take n ys
take_past [] ys n k e = let h : k ≡ n = omega arith in ap (λ m. take m ys) h
take_past (x ∷ xs) ys n zero e = absurd (omega arith)
take_past (x ∷ xs) ys n (suc k) e = ap (λ l. x ∷ l) (take_past xs ys n k (omega arith))

-- a part of a list with bytes written inside the part
pub part-splice : (xs bs : List ℕ) (j k i : ℕ) → j + k ≤ length xs → i + length bs ≤ k → take k (drop j (splice xs (j + i) bs)) ≡ splice (take k (drop j xs)) i bs
unfolding splice
part-splice xs bs j k i h l =
    let n = k - (i + length bs) in
    let front : drop j (take (j + i) xs) ≡ take i (drop j xs) = drop-take j i xs in
    let front_len : length (take i (drop j xs)) ≡ i = length-take-le i (drop j xs) (omega (arith, length-drop j xs)) in
    let long : j ≤ length (take (j + i) xs) = omega (arith, length-take-le (j + i) xs (omega arith)) in
    let tail = drop (j + i + length bs) xs in
    let e : i + length bs + n ≡ k = omega arith in
    let same : j + i + length bs ≡ j + (i + length bs) = omega arith in
    let left : take k (drop j (take (j + i) xs ++ (bs ++ tail))) ≡ take i (drop j xs) ++ (bs ++ take n tail) =
    ap (take k) (drop-append-le j (take (j + i) xs) (bs ++ tail) long ∙ ap (λ t. t ++ (bs ++ tail)) front)
    ∙ take_past (take i (drop j xs)) (bs ++ tail) (length bs + n) k (omega arith)
    ∙ ap (λ t. take i (drop j xs) ++ t) (take_past bs tail n (length bs + n) refl) in
    let cut : drop (i + length bs) (take k (drop j xs)) ≡ take n tail =
    ap (λ m. drop (i + length bs) (take m (drop j xs))) (sym e) ∙ drop-take (i + length bs) n (drop j xs) ∙ ap (take n) (drop-drop (i + length bs) j xs ∙ ap (λ m. drop m xs) (sym same)) in
    left ∙ sym (ap (λ t. t ++ (bs ++ drop (i + length bs) (take k (drop j xs)))) (take-take i k (drop j xs) (omega arith)) ∙ ap (λ t. take i (drop j xs) ++ (bs ++ t)) cut)

-- bytes written inside a stretch
pub read-put_inside : (rs : List Segment) (a k i : ℕ) (bs xs : List ℕ) → IsLaidOut rs → read rs a k ≡ Some xs → writable rs a k ≡ true → 0 < length bs → i + length bs ≤ k → read (put rs (a + i) bs) a k ≡ Some (splice xs i bs)
read-put_inside [] a k i bs xs w e r p l = absurd (none-some xs e)
read-put_inside (r ∷ rs) a k i bs xs w e wr p l = ⊎_elim
    (λ h. let f = read_fits r a k xs (sym (cond-true _ _ _ h) ∙ e) in
    let q = has-true r a h in
    let wk : writable_in r a k ≡ true = sym (cond-true _ _ _ h) ∙ wr in
    let ha = has_from r (a + i) (omega (arith, q)) (omega (arith, f.0)) in
    let wi = writable_in_within r a k i (length bs) wk l in
    let off : a + i - r.start ≡ a - r.start + i = omega (arith, q) in
    ap (λ c. read (cond c (put_in r (a + i) bs ∷ rs) (r ∷ put rs (a + i) bs)) a k) ha
    ∙ cond-true _ _ _ (has-put_in r (a + i) bs ha a ∙ h)
    ∙ read_from (put_in r (a + i) bs) a k (omega (arith, length-bytes_after r (a + i) bs ha, f.0))
    ∙ ap Some (ap (λ l. take k (drop (a - r.start) l)) (bytes_if r (a + i) bs ha wi ∙ ap (λ o. splice r.bytes o bs) off)
    ∙ part-splice r.bytes bs (a - r.start) k i (omega (arith, q, f.0)) l
    ∙ ap (λ t. splice t i bs) f.1))
    (λ h. let e' = sym (cond-false _ _ _ h) ∙ e in
    let ha = below_read r rs a k i xs w.1.0 e' in
    ap (λ c. read (cond c (put_in r (a + i) bs ∷ rs) (r ∷ put rs (a + i) bs)) a k) ha
    ∙ cond-false _ _ _ h
    ∙ read-put_inside rs a k i bs xs w.1.1 e' (sym (cond-false _ _ _ h) ∙ wr) p l)
    (cases_Bool (has r a))
