-- Laws of reads and writes.
use Rattle.hx_mem.specs.Segments.{Segment}
use Rattle.std.proofs.Common.{◌≡◌, ℕ, ◌+◌, ◌-◌, ◌<◌, ◌≤◌, true, false, ◌&&◌, leb, ltb, List, [], ◌∷◌, length, take, drop, Some, None, refl, sym, ap, ◌∙◌, arith, ⊎_elim, cond}
use Rattle.std.proofs.lemmas.Bool.{cases_Bool, and_parts, and_from, and_left, and_right, leb-true, ltb-true, le-leb, lt-leb, lt-ltb, le-ltb, cond-true, cond-false, false≢true}
use Rattle.std.proofs.lemmas.Bool.Decides.{nat_tests}
use Rattle.std.proofs.lemmas.Option.{cond_some}
use Rattle.hx_mem.specs.Space.{end_of, has, splice, read_in, writable_in, bytes_after, put_in, code_in, read, writable, put, code_of, Apart}
use Rattle.hx_mem.proofs.Splices.{length-splice, mid-splice, below-splice, above-splice}

-- one region
pub has-true : (r : Segment) (a : ℕ) → has r a ≡ true → (r.start ≤ a) × (a < end_of r)
unfolding has
has-true r a h = let p = and_parts _ _ h in (leb-true _ _ p.0, ltb-true _ _ p.1)

pub has_from : (r : Segment) (a : ℕ) → r.start ≤ a → a < end_of r → has r a ≡ true
unfolding has
has_from r a l h = and_from _ _ (le-leb _ _ l) (lt-ltb _ _ h)

pub has_below : (r : Segment) (a : ℕ) → a < r.start → has r a ≡ false
unfolding has
has_below r a l = and_left _ _ (lt-leb _ _ l)

pub has_above : (r : Segment) (a : ℕ) → end_of r ≤ a → has r a ≡ false
unfolding has
has_above r a l = and_right _ _ (le-ltb _ _ l)

pub writable_fits : (r : Segment) (a n : ℕ) → writable_in r a n ≡ true → a + n ≤ end_of r
unfolding writable_in
writable_fits r a n h = leb-true _ _ (and_parts _ _ h).1

pub read_fits : (r : Segment) (a n : ℕ) (xs : List ℕ) → read_in r a n ≡ Some xs → (a + n ≤ end_of r) × (take n (drop (a - r.start) r.bytes) ≡ xs)
unfolding read_in
read_fits r a n xs h = let p = cond_some (leb (a + n) (end_of r)) _ xs h in (leb-true _ _ p.0, p.1)

pub read_from : (r : Segment) (a n : ℕ) → a + n ≤ end_of r → read_in r a n ≡ Some (take n (drop (a - r.start) r.bytes))
unfolding read_in
read_from r a n h = cond-true _ _ _ (le-leb _ _ h)

-- a write keeps a region's length
module _ (r : Segment) (a : ℕ) (bs : List ℕ) (at : has r a ≡ true) where
  pub bytes_if : writable_in r a (length bs) ≡ true → bytes_after r a bs ≡ splice r.bytes (a - r.start) bs
  unfolding bytes_after
  bytes_if h = cond-true _ _ _ h

  bytes_unless : writable_in r a (length bs) ≡ false → bytes_after r a bs ≡ r.bytes
  unfolding bytes_after
  bytes_unless h = cond-false _ _ _ h

  pub fits_in : writable_in r a (length bs) ≡ true → a - r.start + length bs ≤ length r.bytes
  fits_in h = omega (arith, writable_fits r a (length bs) h, has-true r a at)

  pub length-bytes_after : length (bytes_after r a bs) ≡ length r.bytes
  length-bytes_after = ⊎_elim (λ h. ap length (bytes_if h) ∙ length-splice r.bytes (a - r.start) bs (fits_in h)) (λ h. ap length (bytes_unless h)) (cases_Bool (writable_in r a (length bs)))

  -- so where it lies
  pub has-put_in : (b : ℕ) → has (put_in r a bs) b ≡ has r b
  unfolding has
  has-put_in b = ap (λ n. leb r.start b && ltb b (r.start + n)) length-bytes_after

  writable-put_in : (b k : ℕ) → writable_in (put_in r a bs) b k ≡ writable_in r b k
  unfolding writable_in
  writable-put_in b k = ap (λ n. r.write && leb (b + k) (r.start + n)) length-bytes_after

  -- what was written
  read-put_in_same : writable_in r a (length bs) ≡ true → read_in (put_in r a bs) a (length bs) ≡ Some bs
  read-put_in_same h =
      read_from (put_in r a bs) a (length bs) (omega (arith, length-bytes_after, writable_fits r a (length bs) h))
      ∙ ap Some (ap (λ l. take (length bs) (drop (a - r.start) l)) (bytes_if h) ∙ mid-splice r.bytes (a - r.start) bs (fits_in h))

  -- what was not
  part_apart : (b k : ℕ) → has r b ≡ true → Apart a (length bs) b k → take k (drop (b - r.start) (bytes_after r a bs)) ≡ take k (drop (b - r.start) r.bytes)
  part_apart b k hb ap_ = ⊎_elim
      (λ h. ap (λ l. take k (drop (b - r.start) l)) (bytes_if h) ∙ ⊎_elim
      (λ l. above-splice r.bytes (a - r.start) bs (fits_in h) (b - r.start) k (omega (arith, has-true r a at, has-true r b hb)))
      (λ l. below-splice r.bytes (a - r.start) bs (fits_in h) (b - r.start) k (omega (arith, has-true r a at, has-true r b hb)))
      ap_)
      (λ h. ap (λ l. take k (drop (b - r.start) l)) (bytes_unless h))
      (cases_Bool (writable_in r a (length bs)))

  read-put_in_apart : (b k : ℕ) → has r b ≡ true → Apart a (length bs) b k → read_in (put_in r a bs) b k ≡ read_in r b k
  unfolding read_in
  read-put_in_apart b k hb d =
      ap (λ n. cond (leb (b + k) (r.start + n)) (Some (take k (drop (b - r.start) (bytes_after r a bs)))) None) length-bytes_after
      ∙ ap (λ l. cond (leb (b + k) (r.start + length r.bytes)) (Some l) None) (part_apart b k hb d)

-- all regions: where a write may go is the same after any write
pub writable-put : (rs : List Segment) (a : ℕ) (bs : List ℕ) (b k : ℕ) → writable (put rs a bs) b k ≡ writable rs b k
writable-put [] a bs b k = refl
writable-put (r ∷ rs) a bs b k = ⊎_elim
    (λ h. ap (λ c. writable (cond c (put_in r a bs ∷ rs) (r ∷ put rs a bs)) b k) h
    ∙ ap (λ c. cond c (writable_in (put_in r a bs) b k) (writable rs b k)) (has-put_in r a bs h b)
    ∙ ap (λ w. cond (has r b) w (writable rs b k)) (writable-put_in r a bs h b k))
    (λ h. ap (λ c. writable (cond c (put_in r a bs ∷ rs) (r ∷ put rs a bs)) b k) h
    ∙ ap (λ w. cond (has r b) (writable_in r b k) w) (writable-put rs a bs b k))
    (cases_Bool (has r a))

-- what was written is read back
pub read-put_same : (rs : List Segment) (a : ℕ) (bs : List ℕ) → writable rs a (length bs) ≡ true → read (put rs a bs) a (length bs) ≡ Some bs
read-put_same [] a bs w = absurd (false≢true w)
read-put_same (r ∷ rs) a bs w = ⊎_elim
    (λ h. ap (λ c. read (cond c (put_in r a bs ∷ rs) (r ∷ put rs a bs)) a (length bs)) h
    ∙ cond-true _ _ _ (has-put_in r a bs h a ∙ h)
    ∙ read-put_in_same r a bs h (sym (cond-true _ _ _ h) ∙ w))
    (λ h. ap (λ c. read (cond c (put_in r a bs ∷ rs) (r ∷ put rs a bs)) a (length bs)) h
    ∙ cond-false _ _ _ h
    ∙ read-put_same rs a bs (sym (cond-false _ _ _ h) ∙ w))
    (cases_Bool (has r a))

-- nothing else changes
pub read-put_apart : (rs : List Segment) (a : ℕ) (bs : List ℕ) (b k : ℕ) → Apart a (length bs) b k → read (put rs a bs) b k ≡ read rs b k
read-put_apart [] a bs b k d = refl
read-put_apart (r ∷ rs) a bs b k d = ⊎_elim
    (λ h. ap (λ c. read (cond c (put_in r a bs ∷ rs) (r ∷ put rs a bs)) b k) h
    ∙ ap (λ c. cond c (read_in (put_in r a bs) b k) (read rs b k)) (has-put_in r a bs h b)
    ∙ ⊎_elim
    (λ hb. cond-true _ _ _ hb ∙ read-put_in_apart r a bs h b k hb d ∙ sym (cond-true _ _ _ hb))
    (λ hb. cond-false _ _ _ hb ∙ sym (cond-false _ _ _ hb))
    (cases_Bool (has r b)))
    (λ h. ap (λ c. read (cond c (put_in r a bs ∷ rs) (r ∷ put rs a bs)) b k) h
    ∙ ap (λ w. cond (has r b) (read_in r b k) w) (read-put_apart rs a bs b k d))
    (cases_Bool (has r a))

-- the code is not written: a region that may be written has none
code_in-put_in : (r : Segment) (a : ℕ) (bs : List ℕ) (b k : ℕ) → code_in (put_in r a bs) b k ≡ code_in r b k
unfolding code_in bytes_after writable_in
code_in-put_in r a bs b k = grind (arith, nat_tests)

pub code_of-put : (rs : List Segment) (a : ℕ) (bs : List ℕ) (b k : ℕ) → code_of (put rs a bs) b k ≡ code_of rs b k
code_of-put [] a bs b k = refl
code_of-put (r ∷ rs) a bs b k = ⊎_elim
    (λ h. ap (λ c. code_of (cond c (put_in r a bs ∷ rs) (r ∷ put rs a bs)) b k) h
    ∙ ap (λ c. cond c (code_in (put_in r a bs) b k) (code_of rs b k)) (has-put_in r a bs h b)
    ∙ ap (λ w. cond (has r b) w (code_of rs b k)) (code_in-put_in r a bs b k))
    (λ h. ap (λ c. code_of (cond c (put_in r a bs ∷ rs) (r ∷ put rs a bs)) b k) h
    ∙ ap (λ w. cond (has r b) (code_in r b k) w) (code_of-put rs a bs b k))
    (cases_Bool (has r a))
