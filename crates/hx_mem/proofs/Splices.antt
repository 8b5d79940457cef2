-- Parts of a list with bytes written over a part of it.
use Rattle.std.proofs.Common.{◌≡◌, ℕ, ◌+◌, ◌-◌, ◌≤◌, List, [], ◌∷◌, ◌++◌, length, take, drop, refl, sym, ap, ◌∙◌, arith, append_assoc, length-append, length-drop}
use Rattle.std.proofs.lemmas.List.{take-append-le, drop-append-le, drop-take, take-take, drop-drop, drop_at, take_at, length-take-le}
use Rattle.std.proofs.Common.{set, suc, ◌<◌, take-append-drop}
use Rattle.std.proofs.lemmas.List.{take_more_set, drop-set-lt}
use Rattle.hx_words.specs.LittleEndian.{AreBytes}
use Rattle.hx_words.proofs.LittleEndianLaws.{AreBytes-append, AreBytes-take, AreBytes-drop}
use Rattle.hx_mem.specs.Segments.{Segment}
use Rattle.hx_mem.specs.Space.{splice, writable_in, bytes_after}
use Rattle.std.proofs.Common.{cond, true, false}

module _ (xs : List ℕ) (i : ℕ) (bs : List ℕ) (fits : i + length bs ≤ length xs) where
  front_len : length (take i xs) ≡ i
  front_len = length-take-le i xs (omega arith)

  pub length-splice : length (splice xs i bs) ≡ length xs
  unfolding splice
  length-splice = omega (arith, length-append (take i xs) (bs ++ drop (i + length bs) xs), length-append bs (drop (i + length bs) xs), front_len, length-drop (i + length bs) xs)

  -- what was written
  pub mid-splice : take (length bs) (drop i (splice xs i bs)) ≡ bs
  unfolding splice
  mid-splice = ap (take (length bs)) (drop_at (take i xs) (bs ++ drop (i + length bs) xs) i front_len) ∙ take_at bs (drop (i + length bs) xs) (length bs) refl

  -- what lies below it
  pub below-splice : (j n : ℕ) → j + n ≤ i → take n (drop j (splice xs i bs)) ≡ take n (drop j xs)
  unfolding splice
  below-splice j n h =
      let k = i - j in
      let e : j + k ≡ i = omega arith in
      let part : drop j (take i xs) ≡ take k (drop j xs) = ap (λ m. drop j (take m xs)) (sym e) ∙ drop-take j k xs in
      let len : length (drop j (take i xs)) ≡ k = omega (arith, length-drop j (take i xs), front_len) in
      ap (take n) (drop-append-le j (take i xs) (bs ++ drop (i + length bs) xs) (omega (arith, front_len)))
      ∙ take-append-le n (drop j (take i xs)) (bs ++ drop (i + length bs) xs) (omega arith)
      ∙ ap (take n) part ∙ take-take n k (drop j xs) (omega arith)

  -- what lies above it
  pub above-splice : (j n : ℕ) → i + length bs ≤ j → take n (drop j (splice xs i bs)) ≡ take n (drop j xs)
  unfolding splice
  above-splice j n h =
      let k = j - (i + length bs) in
      let e : i + length bs + k ≡ j = omega arith in
      let at : length (take i xs ++ bs) ≡ i + length bs = omega (arith, length-append (take i xs) bs, front_len) in
      let cut : drop (i + length bs) (take i xs ++ (bs ++ drop (i + length bs) xs)) ≡ drop (i + length bs) xs = ap (drop (i + length bs)) (sym (append_assoc (take i xs) bs (drop (i + length bs) xs))) ∙ drop_at (take i xs ++ bs) (drop (i + length bs) xs) (i + length bs) at in
      ap (take n) (ap (λ m. drop m (take i xs ++ (bs ++ drop (i + length bs) xs))) (sym e) ∙ sym (drop-drop k (i + length bs) _) ∙ ap (drop k) cut ∙ drop-drop k (i + length bs) xs ∙ ap (λ m. drop m xs) e)

-- one byte, and the others after it
pub splice_more : (xs : List ℕ) (i b : ℕ) (bs : List ℕ) → i < length xs → splice (set xs i b) (i + 1) bs ≡ splice xs i (b ∷ bs)
unfolding splice
splice_more xs i b bs h =
    let n : i + 1 + length bs ≡ i + suc (length bs) = omega arith in
    let cut : drop (i + 1 + length bs) (set xs i b) ≡ drop (i + suc (length bs)) xs = drop-set-lt _ xs i b (omega arith) ∙ ap (λ m. drop m xs) n in
    ap (λ t. t ++ (bs ++ drop (i + 1 + length bs) (set xs i b))) (take_more_set xs i b h)
    ∙ append_assoc (take i xs) (b ∷ []) (bs ++ drop (i + 1 + length bs) (set xs i b))
    ∙ ap (λ t. take i xs ++ (b ∷ (bs ++ t))) cut

-- no byte
pub splice_none : (xs : List ℕ) (i : ℕ) → splice xs i [] ≡ xs
unfolding splice
splice_none xs i = let n : i + 0 ≡ i = omega arith in ap (λ m. take i xs ++ drop m xs) n ∙ take-append-drop i xs

pub AreBytes-splice : (xs : List ℕ) (i : ℕ) (bs : List ℕ) → AreBytes xs → AreBytes bs → AreBytes (splice xs i bs)
unfolding splice
AreBytes-splice xs i bs h g = AreBytes-append _ _ (AreBytes-take i xs h) (AreBytes-append _ _ g (AreBytes-drop _ xs h))

pub AreBytes-bytes_after : (r : Segment) (a : ℕ) (bs : List ℕ) → AreBytes r.bytes → AreBytes bs → AreBytes (bytes_after r a bs)
unfolding bytes_after
AreBytes-bytes_after r a bs h g =
    elim (writable_in r a (length bs)) as (λ c. AreBytes (cond c (splice r.bytes (a - r.start) bs) r.bytes)) [
      | true ↦ AreBytes-splice r.bytes (a - r.start) bs h g
      | false ↦ h
    ]
