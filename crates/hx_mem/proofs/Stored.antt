-- What the code's steps make of a region.
use Rattle.std.proofs.Common.{◌≡◌, ℕ, ◌+◌, ◌-◌, ◌<◌, ◌≤◌, true, false, List, ◌++◌, length, take, drop, sym, ap, ◌∙◌, arith, length-drop, subst, [], append-nil}
use Rattle.std.proofs.lemmas.Bool.{and_from, and_left, and_right, le-leb, lt-leb, cond-true, cond-false}
use Rattle.std.proofs.lemmas.List.{drop-drop, take_rest, drop_all}
use borrow.Rule.Slice.PartMut.{put_mid}
use Rattle.hx_words.specs.LittleEndian.{bytes_of}
use Rattle.hx_words.proofs.LittleEndianLaws.{length-bytes_of}
use Rattle.hx_mem.specs.Segments.{Segment}
use Rattle.hx_mem.specs.Space.{end_of, splice, writable_in, bytes_after, put_in}

-- a write that the region takes, and those that it does not
pub stored_as : (r : Segment) (a n v : ℕ) → r.write ≡ true → a + n ≤ end_of r → put_in r a (bytes_of n v) ≡ record r { bytes = splice r.bytes (a - r.start) (bytes_of n v) }
unfolding bytes_after writable_in
stored_as r a n v w h = ap (λ bs. record r { bytes = bs }) (cond-true _ _ _ (ap (λ m. writable_in r a m) (length-bytes_of n v) ∙ and_from _ _ w (le-leb _ _ h)))

pub refused_past : (r : Segment) (a n v : ℕ) → end_of r < a + n → put_in r a (bytes_of n v) ≡ r
unfolding bytes_after writable_in
refused_past r a n v h = ap (λ bs. record r { bytes = bs }) (cond-false _ _ _ (ap (λ m. writable_in r a m) (length-bytes_of n v) ∙ and_right _ _ (lt-leb _ _ h)))

pub refused_right : (r : Segment) (a : ℕ) (bs : List ℕ) → r.write ≡ false → put_in r a bs ≡ r
unfolding bytes_after writable_in
refused_right r a bs w = ap (λ bs. record r { bytes = bs }) (cond-false _ _ _ (and_left r.write _ w))

-- the bytes that a number written from a place on leaves
pub spliced : (xs ys : List ℕ) (i n v : ℕ) → i + n ≤ length xs → ys ≡ bytes_of n v ++ drop n (take (length xs - i) (drop i xs)) → put_mid i (length xs - i) xs ys ≡ splice xs i (bytes_of n v)
unfolding splice
spliced xs ys i n v h e =
    let m : i + n ≡ i + length (bytes_of n v) = omega (arith, length-bytes_of n v) in
    let rest : drop n (take (length xs - i) (drop i xs)) ≡ drop (i + length (bytes_of n v)) xs = ap (drop n) (take_rest xs i) ∙ drop-drop n i xs ∙ ap (λ k. drop k xs) m in
    let all : drop (length xs - i) (drop i xs) ≡ [] = drop_all (length xs - i) (drop i xs) (omega (arith, length-drop i xs)) in
    ap (λ l. take i xs ++ l) (ap (λ l. ys ++ l) all ∙ append-nil ys ∙ e ∙ ap (λ l. bytes_of n v ++ l) rest)

-- as the code does it
pub store_as : (inside r : Segment) (a n v : ℕ) (ws bs old : List ℕ) → inside ≡ r → ws ≡ bs → bs ≡ splice old (a - inside.start) (bytes_of n v) → old ≡ inside.bytes → inside.write ≡ true → a + n ≤ end_of r → record inside { bytes = ws } ≡ put_in r a (bytes_of n v)
store_as inside r a n v ws bs old e ew eb eo w h =
    let hi : a + n ≤ end_of inside = subst (λ q. a + n ≤ end_of q) (sym e) h in
    ap (λ bs. record inside { bytes = bs }) (ew ∙ eb ∙ ap (λ l. splice l (a - inside.start) (bytes_of n v)) eo)
    ∙ sym (stored_as inside a n v w hi) ∙ ap (λ q. put_in q a (bytes_of n v)) e
