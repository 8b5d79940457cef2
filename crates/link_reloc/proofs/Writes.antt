-- Bytes written over a part of others.
use Rattle.std.proofs.Common.{◌≡◌, ℕ, ◌+◌, ◌-◌, ◌≤◌, List, [], ◌++◌, length, take, drop, refl, sym, ap, ◌∙◌, arith, append_assoc, length-append, length-drop, append-nil, take-append-drop}
use Rattle.std.proofs.lemmas.List.{take-append-le, drop-append-le, drop-take, take-take, drop-drop, drop_at, take_at, length-take-le, take_rest, drop_all}
use borrow.Rule.Slice.PartMut.{put_mid}
use Rattle.hx_words.specs.LittleEndian.{bytes_of}
use Rattle.hx_words.proofs.LittleEndianLaws.{length-bytes_of}
use Rattle.link_reloc.specs.Sites.{overwritten}

-- no byte
pub overwritten_none : (xs : List ℕ) (i : ℕ) → overwritten xs i [] ≡ xs
unfolding overwritten
overwritten_none xs i = let n : i + 0 ≡ i = omega arith in ap (λ m. take i xs ++ drop m xs) n ∙ take-append-drop i xs

-- the bytes that a number written from a place on leaves
pub written : (xs ys : List ℕ) (i n v : ℕ) → i + n ≤ length xs → ys ≡ bytes_of n v ++ drop n (take (length xs - i) (drop i xs)) → put_mid i (length xs - i) xs ys ≡ overwritten xs i (bytes_of n v)
unfolding overwritten
written xs ys i n v h e =
    let m : i + n ≡ i + length (bytes_of n v) = omega (arith, length-bytes_of n v) in
    let rest : drop n (take (length xs - i) (drop i xs)) ≡ drop (i + length (bytes_of n v)) xs = ap (drop n) (take_rest xs i) ∙ drop-drop n i xs ∙ ap (λ k. drop k xs) m in
    let all : drop (length xs - i) (drop i xs) ≡ [] = drop_all (length xs - i) (drop i xs) (omega (arith, length-drop i xs)) in
    ap (λ l. take i xs ++ l) (ap (λ l. ys ++ l) all ∙ append-nil ys ∙ e ∙ ap (λ l. bytes_of n v ++ l) rest)

module _ (xs : List ℕ) (i : ℕ) (bs : List ℕ) (fits : i + length bs ≤ length xs) where
  front_len : length (take i xs) ≡ i
  front_len = length-take-le i xs (omega arith)

  pub length-overwritten : length (overwritten xs i bs) ≡ length xs
  unfolding overwritten
  length-overwritten = omega (arith, length-append (take i xs) (bs ++ drop (i + length bs) xs), length-append bs (drop (i + length bs) xs), front_len, length-drop (i + length bs) xs)

  -- what was written
  pub overwritten_inside : take (length bs) (drop i (overwritten xs i bs)) ≡ bs
  unfolding overwritten
  overwritten_inside = ap (take (length bs)) (drop_at (take i xs) (bs ++ drop (i + length bs) xs) i front_len) ∙ take_at bs (drop (i + length bs) xs) (length bs) refl

  -- what lies below it
  pub overwritten_below : (j n : ℕ) → j + n ≤ i → take n (drop j (overwritten xs i bs)) ≡ take n (drop j xs)
  unfolding overwritten
  overwritten_below j n h =
      let k = i - j in
      let e : j + k ≡ i = omega arith in
      let part : drop j (take i xs) ≡ take k (drop j xs) = ap (λ m. drop j (take m xs)) (sym e) ∙ drop-take j k xs in
      let len : length (drop j (take i xs)) ≡ k = omega (arith, length-drop j (take i xs), front_len) in
      ap (take n) (drop-append-le j (take i xs) (bs ++ drop (i + length bs) xs) (omega (arith, front_len)))
      ∙ take-append-le n (drop j (take i xs)) (bs ++ drop (i + length bs) xs) (omega arith)
      ∙ ap (take n) part ∙ take-take n k (drop j xs) (omega arith)

  -- what lies above it
  pub overwritten_above : (j n : ℕ) → i + length bs ≤ j → take n (drop j (overwritten xs i bs)) ≡ take n (drop j xs)
  unfolding overwritten
  overwritten_above j n h =
      let k = j - (i + length bs) in
      let e : i + length bs + k ≡ j = omega arith in
      let at : length (take i xs ++ bs) ≡ i + length bs = omega (arith, length-append (take i xs) bs, front_len) in
      let cut : drop (i + length bs) (take i xs ++ (bs ++ drop (i + length bs) xs)) ≡ drop (i + length bs) xs = ap (drop (i + length bs)) (sym (append_assoc (take i xs) bs (drop (i + length bs) xs))) ∙ drop_at (take i xs ++ bs) (drop (i + length bs) xs) (i + length bs) at in
      ap (take n) (ap (λ m. drop m (take i xs ++ (bs ++ drop (i + length bs) xs))) (sym e) ∙ sym (drop-drop k (i + length bs) _) ∙ ap (drop k) cut ∙ drop-drop k (i + length bs) xs ∙ ap (λ m. drop m xs) e)
