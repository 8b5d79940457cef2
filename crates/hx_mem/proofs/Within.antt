-- Parts of a stretch that lies in one region.
use Rattle.std.proofs.Common.{◌≡◌, ℕ, ◌+◌, ◌-◌, ◌<◌, ◌≤◌, true, false, leb, List, [], ◌∷◌, length, take, drop, Some, refl, sym, ap, ◌∙◌, arith, ⊎_elim, cond, length-drop}
use Rattle.std.proofs.lemmas.Bool.{cases_Bool, cond-true, cond-false, false≢true, and_parts, and_from, le-leb}
use Rattle.std.proofs.lemmas.Option.{none-some}
use Rattle.std.proofs.lemmas.List.{drop-drop, take-take, drop-take, length-take-le}
use Rattle.hx_mem.specs.Segments.{Segment}
use Rattle.hx_mem.specs.Space.{end_of, has, writable_in, put_in, read, writable, code_of, put, IsPlaced, IsBelow, IsLaidOut}
use Rattle.hx_words.specs.LittleEndian.{AreBytes}
use Rattle.hx_mem.proofs.Splices.{AreBytes-bytes_after}
use Rattle.hx_mem.proofs.Writes.{has-true, has_from, has_above, writable_fits, read_fits, read_from, length-bytes_after}

-- a part of a part
pub part_of_part : (xs : List ℕ) (j i n k : ℕ) → i + n ≤ k → take n (drop i (take k (drop j xs))) ≡ take n (drop (j + i) xs)
part_of_part xs j i n k h =
    let m = k - i in
    let e : i + m ≡ k = omega arith in
    ap (λ q. take n (drop i (take q (drop j xs)))) (sym e) ∙ ap (take n) (drop-take i m (drop j xs)) ∙ take-take n m (drop i (drop j xs)) (omega arith) ∙ ap (take n) (drop-drop i j xs)

-- a region that ends below the others has none of their addresses
pub below_read : (r : Segment) (rs : List Segment) (a k i : ℕ) (xs : List ℕ) → IsBelow r rs → read rs a k ≡ Some xs → has r (a + i) ≡ false
below_read r [] a k i xs d e = absurd (none-some xs e)
below_read r (s ∷ rs) a k i xs d e = ⊎_elim
    (λ h. has_above r (a + i) (omega (arith, d.0, has-true s a h)))
    (λ h. below_read r rs a k i xs d.1 (sym (cond-false _ _ _ h) ∙ e))
    (cases_Bool (has s a))

below_writable : (r : Segment) (rs : List Segment) (a k i : ℕ) → IsBelow r rs → writable rs a k ≡ true → has r (a + i) ≡ false
below_writable r [] a k i d e = absurd (false≢true e)
below_writable r (s ∷ rs) a k i d e = ⊎_elim
    (λ h. has_above r (a + i) (omega (arith, d.0, has-true s a h)))
    (λ h. below_writable r rs a k i d.1 (sym (cond-false _ _ _ h) ∙ e))
    (cases_Bool (has s a))

below_code : (r : Segment) (rs : List Segment) (a k i : ℕ) (xs : List ℕ) → IsBelow r rs → code_of rs a k ≡ Some xs → has r (a + i) ≡ false
below_code r [] a k i xs d e = absurd (none-some xs e)
below_code r (s ∷ rs) a k i xs d e = ⊎_elim
    (λ h. has_above r (a + i) (omega (arith, d.0, has-true s a h)))
    (λ h. below_code r rs a k i xs d.1 (sym (cond-false _ _ _ h) ∙ e))
    (cases_Bool (has s a))

-- a part of what is read
pub read_within : (rs : List Segment) (a k i n : ℕ) (xs : List ℕ) → IsLaidOut rs → read rs a k ≡ Some xs → 0 < n → i + n ≤ k → read rs (a + i) n ≡ Some (take n (drop i xs))
read_within [] a k i n xs w e p l = absurd (none-some xs e)
read_within (r ∷ rs) a k i n xs w e p l = ⊎_elim
    (λ h. let f = read_fits r a k xs (sym (cond-true _ _ _ h) ∙ e) in
    let q = has-true r a h in
    let off : a - r.start + i ≡ a + i - r.start = omega (arith, q) in
    cond-true _ _ _ (has_from r (a + i) (omega (arith, q)) (omega (arith, f.0)))
    ∙ read_from r (a + i) n (omega (arith, f.0))
    ∙ ap Some (ap (λ o. take n (drop o r.bytes)) (sym off) ∙ sym (part_of_part r.bytes (a - r.start) i n k l) ∙ ap (λ q. take n (drop i q)) f.1))
    (λ h. cond-false _ _ _ (below_read r rs a k i xs w.1.0 (sym (cond-false _ _ _ h) ∙ e))
    ∙ read_within rs a k i n xs w.1.1 (sym (cond-false _ _ _ h) ∙ e) p l)
    (cases_Bool (has r a))

pub writable_in_within : (r : Segment) (a k i n : ℕ) → writable_in r a k ≡ true → i + n ≤ k → writable_in r (a + i) n ≡ true
unfolding writable_in
writable_in_within r a k i n e l =
    let p : (r.write ≡ true) × (leb (a + k) (end_of r) ≡ true) = and_parts _ _ e in
    let fits : a + i + n ≤ end_of r = omega (arith, writable_fits r a k e) in
    and_from _ _ p.0 (le-leb _ _ fits)

pub writable_within : (rs : List Segment) (a k i n : ℕ) → IsLaidOut rs → writable rs a k ≡ true → 0 < n → i + n ≤ k → writable rs (a + i) n ≡ true
writable_within [] a k i n w e p l = absurd (false≢true e)
writable_within (r ∷ rs) a k i n w e p l = ⊎_elim
    (λ h. let f = sym (cond-true _ _ _ h) ∙ e in
    cond-true _ _ _ (has_from r (a + i) (omega (arith, has-true r a h)) (omega (arith, writable_fits r a k f)))
    ∙ writable_in_within r a k i n f l)
    (λ h. cond-false _ _ _ (below_writable r rs a k i w.1.0 (sym (cond-false _ _ _ h) ∙ e))
    ∙ writable_within rs a k i n w.1.1 (sym (cond-false _ _ _ h) ∙ e) p l)
    (cases_Bool (has r a))

-- what may be written may be read
pub readable : (rs : List Segment) (a n : ℕ) → writable rs a n ≡ true → (xs : List ℕ) × (read rs a n ≡ Some xs)
readable [] a n e = absurd (false≢true e)
readable (r ∷ rs) a n e = ⊎_elim
    (λ h. (take n (drop (a - r.start) r.bytes), cond-true _ _ _ h ∙ read_from r a n (writable_fits r a n (sym (cond-true _ _ _ h) ∙ e))))
    (λ h. let s = readable rs a n (sym (cond-false _ _ _ h) ∙ e) in (s.0, cond-false _ _ _ h ∙ s.1))
    (cases_Bool (has r a))

-- a read gives as many bytes as it asks for
pub length-read : (rs : List Segment) (a n : ℕ) (xs : List ℕ) → read rs a n ≡ Some xs → length xs ≡ n
length-read [] a n xs e = absurd (none-some xs e)
length-read (r ∷ rs) a n xs e = ⊎_elim
    (λ h. let f = read_fits r a n xs (sym (cond-true _ _ _ h) ∙ e) in
    sym (ap length f.1) ∙ length-take-le n (drop (a - r.start) r.bytes) (omega (arith, length-drop (a - r.start) r.bytes, f.0, has-true r a h)))
    (λ h. length-read rs a n xs (sym (cond-false _ _ _ h) ∙ e))
    (cases_Bool (has r a))

-- a write keeps the regions' places
same_end : (r : Segment) (a : ℕ) (bs : List ℕ) → has r a ≡ true → end_of (put_in r a bs) ≡ end_of r
same_end r a bs h = ap (λ n. r.start + n) (length-bytes_after r a bs h)

IsBelow-put : (r : Segment) (rs : List Segment) (a : ℕ) (bs : List ℕ) → IsBelow r rs → IsBelow r (put rs a bs)
IsBelow-put r [] a bs d = d
IsBelow-put r (s ∷ rs) a bs d =
    elim (has s a) as (λ c. IsBelow r (cond c (put_in s a bs ∷ rs) (s ∷ put rs a bs))) [
      | true ↦ d
      | false ↦ (d.0, IsBelow-put r rs a bs d.1)
    ]

pub IsBelow-same_end : (r q : Segment) (rs : List Segment) → end_of q ≡ end_of r → IsBelow r rs → IsBelow q rs
IsBelow-same_end r q [] e d = d
IsBelow-same_end r q (s ∷ rs) e d = (omega (arith, e, d.0), IsBelow-same_end r q rs e d.1)

IsPlaced-put_in : (r : Segment) (a : ℕ) (bs : List ℕ) → has r a ≡ true → AreBytes bs → IsPlaced r → IsPlaced (put_in r a bs)
IsPlaced-put_in r a bs h g p = record {
  some = omega (arith, p.some, length-bytes_after r a bs h);
  low = omega (arith, p.low, same_end r a bs h);
  bytes = AreBytes-bytes_after r a bs p.bytes g;
}

pub IsLaidOut-put : (rs : List Segment) (a : ℕ) (bs : List ℕ) → AreBytes bs → IsLaidOut rs → IsLaidOut (put rs a bs)
IsLaidOut-put [] a bs g w = w
IsLaidOut-put (r ∷ rs) a bs g w =
    elim (has r a) as (λ c. has r a ≡ c → IsLaidOut (cond c (put_in r a bs ∷ rs) (r ∷ put rs a bs))) [
      | true ↦ λ h. (IsPlaced-put_in r a bs h g w.0, (IsBelow-same_end r (put_in r a bs) rs (same_end r a bs h) w.1.0, w.1.1))
      | false ↦ λ h. (w.0, (IsBelow-put r rs a bs w.1.0, IsLaidOut-put rs a bs g w.1.1))
    ] refl
