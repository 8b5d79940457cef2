-- The laws that a simulation cites, with each count of bytes and each list of bytes as a variable of its own.
use Rattle.std.proofs.Common.{◌≡◌, ℕ, ◌+◌, ◌-◌, ◌%◌, ◌^◌, ◌<◌, Bool, true, false, ◌&&◌, cond, leb, List, [], ◌∷◌, length, Some, None, Result, Ok, Err, refl, sym, ap, ap₂, ◌∙◌, arith, ⊎_elim, subst}
use Rattle.std.proofs.lemmas.Bool.{cases_Bool, cond-false, false≢true}
use Rattle.std.proofs.lemmas.Bool.Decides.{nat_tests}
use Rattle.std.proofs.lemmas.Option.{none-some, same_Some}
use Rattle.hx_words.specs.LittleEndian.{number_of, bytes_of, AreBytes}
use Rattle.hx_words.proofs.LittleEndianLaws.{length-bytes_of, number_of_lt, AreBytes-take, AreBytes-drop}
use Rattle.hx_bits.proofs.LowBytes.{number_of-low_bytes}
use Rattle.hx_mem.specs.declared.fault.MemBad.{MemBad}
use Rattle.hx_mem.specs.declared.fault.MemBad.TheVariants.{Unmapped, Protected}
use Rattle.hx_mem.specs.Segments.{Segment}
use Rattle.hx_mem.specs.Space.{Space, Apart, has, writable_in, bytes_after, put_in, read, writable, code_of, put, region_of, no_region, load_bad, loaded, load_of, store_of, stored_in, after_store, fetch_of, fetched_in, IsLaidOut, IsMemory}
use Rattle.hx_mem.specs.Refusals.{IsWriteOrExec}
use Rattle.hx_mem.proofs.Within.{length-read}
use Rattle.hx_mem.proofs.Writes.{read-put_same, read-put_apart, writable-put, code_of-put, read_fits}
use Rattle.hx_mem.proofs.Regions.{writable_of_region, writable_of_none, store_of_region, store_of_none, fetch_of_region, fetch_of_none, IsRegionAfter, region_of-put}
use Rattle.hx_mem.proofs.First.{read_of_region, read_of_none}
use Rattle.hx_mem.proofs.Places.{region_of-put_none, IsMemory-after_store}

-- n bytes that were written are read back
pub same_after : (rs : List Segment) (a n : ℕ) (bs : List ℕ) → length bs ≡ n → writable rs a n ≡ true → read (put rs a bs) a n ≡ Some bs
same_after rs a n bs e = let P : ℕ → Type 0 = λ n. writable rs a n ≡ true → read (put rs a bs) a n ≡ Some bs in subst P e (read-put_same rs a bs)

-- and no others change
pub apart_after : (rs : List Segment) (a n : ℕ) (bs : List ℕ) (b k : ℕ) → length bs ≡ n → Apart a n b k → read (put rs a bs) b k ≡ read rs b k
apart_after rs a n bs b k e = let P : ℕ → Type 0 = λ n. Apart a n b k → read (put rs a bs) b k ≡ read rs b k in subst P e (read-put_apart rs a bs b k)

-- a load of bytes that stand there
pub load_ok : (m : Space) (a n : ℕ) {bs : List ℕ} → read m.regions a n ≡ Some bs → load_of m a n ≡ Ok (number_of bs)
load_ok m a n e = ap (λ o. loaded o (load_bad (region_of m.regions a) m.guard a)) e

-- a store is taken exactly where its bytes may be written
refused_is_not_ok : (bad : MemBad) → ◌≡◌ {A = Result (Unit {0}) MemBad} (Err bad) (Ok tt) → ⊥
refused_is_not_ok bad e = cc

store_ok_in : (r : Segment) (a n : ℕ) → writable_in r a n ≡ true → stored_in r a n ≡ Ok tt
unfolding writable_in
store_ok_in r a n w = grind (arith, nat_tests)

ok_writable_in : (r : Segment) (a n : ℕ) → stored_in r a n ≡ Ok tt → writable_in r a n ≡ true
unfolding writable_in
ok_writable_in r a n e = grind (arith, nat_tests)

pub store_ok : (m : Space) (a n : ℕ) → writable m.regions a n ≡ true → store_of m a n ≡ Ok tt
store_ok m a n w =
    elim (region_of m.regions a) as (λ o. region_of m.regions a ≡ o → store_of m a n ≡ Ok tt) [
      | None ↦ λ e. absurd (false≢true (sym (writable_of_none m.regions a n e) ∙ w))
      | Some r ↦ λ e. store_of_region m a n r e ∙ store_ok_in r a n (sym (writable_of_region m.regions a n r e) ∙ w)
    ] refl

pub store_ok-writable : (m : Space) (a n : ℕ) → store_of m a n ≡ Ok tt → writable m.regions a n ≡ true
store_ok-writable m a n s =
    elim (region_of m.regions a) as (λ o. region_of m.regions a ≡ o → writable m.regions a n ≡ true) [
      | None ↦ λ e. absurd (refused_is_not_ok (no_region m.guard a) (sym (store_of_none m a n e) ∙ s))
      | Some r ↦ λ e. writable_of_region m.regions a n r e ∙ ok_writable_in r a n (sym (store_of_region m a n r e) ∙ s)
    ] refl

-- what a store makes loadable
pub load_after_store : (m : Space) (a n v : ℕ) → writable m.regions a n ≡ true → load_of (after_store m a n v) a n ≡ Ok (v % 256 ^ n)
load_after_store m a n v w =
    load_ok (after_store m a n v) a n (same_after m.regions a n (bytes_of n v) (length-bytes_of n v) w) ∙ ap Ok (number_of-low_bytes n v)

-- what a store answers is the same after any store
stored_in_after : (r q : Segment) (a n : ℕ) → IsRegionAfter r q → stored_in q a n ≡ stored_in r a n
stored_in_after r q a n p = ap₂ (λ e w. cond (leb (a + n) e) (cond w (Ok tt) (Err (Protected a))) (Err (Unmapped e))) p.ends p.write

pub store_of-after_store : (m : Space) (a n v b k : ℕ) → store_of (after_store m a n v) b k ≡ store_of m b k
store_of-after_store m a n v b k =
    elim (region_of m.regions b) as (λ o. region_of m.regions b ≡ o → store_of (after_store m a n v) b k ≡ store_of m b k) [
      | None ↦ λ e. store_of_none (after_store m a n v) b k (region_of-put_none m.regions a (bytes_of n v) b e) ∙ sym (store_of_none m b k e)
      | Some r ↦ λ e. let p = region_of-put m.regions a (bytes_of n v) b r e in
          store_of_region (after_store m a n v) b k p.0 p.1 ∙ stored_in_after r p.0 b k p.2 ∙ sym (store_of_region m b k r e)
    ] refl

-- a load of other bytes is the same after a store, refused or not
load_bad-put : (m : Space) (a : ℕ) (bs : List ℕ) (b : ℕ) → load_bad (region_of (put m.regions a bs) b) m.guard b ≡ load_bad (region_of m.regions b) m.guard b
load_bad-put m a bs b =
    elim (region_of m.regions b) as (λ o. region_of m.regions b ≡ o → load_bad (region_of (put m.regions a bs) b) m.guard b ≡ load_bad o m.guard b) [
      | None ↦ λ e. ap (λ o. load_bad o m.guard b) (region_of-put_none m.regions a bs b e)
      | Some r ↦ λ e. let p = region_of-put m.regions a bs b r e in
          ap (λ o. load_bad o m.guard b) p.1 ∙ ap Unmapped p.2.ends
    ] refl

pub load_of-after_store : (m : Space) (a n v b k : ℕ) → Apart a n b k → load_of (after_store m a n v) b k ≡ load_of m b k
load_of-after_store m a n v b k d =
    ap₂ loaded (apart_after m.regions a n (bytes_of n v) b k (length-bytes_of n v) d) (load_bad-put m a (bytes_of n v) b)

-- a store that is refused changes nothing
put_in_unless : (r : Segment) (a : ℕ) (bs : List ℕ) → writable_in r a (length bs) ≡ false → put_in r a bs ≡ r
unfolding bytes_after
put_in_unless r a bs e = ap (λ l. record r { bytes = l }) (cond-false _ _ _ e)

put_unless : (rs : List Segment) (a : ℕ) (bs : List ℕ) → writable rs a (length bs) ≡ false → put rs a bs ≡ rs
put_unless [] a bs w = refl
put_unless (r ∷ rs) a bs w =
    elim (has r a) as (λ c. cond c (writable_in r a (length bs)) (writable rs a (length bs)) ≡ false → cond c (put_in r a bs ∷ rs) (r ∷ put rs a bs) ≡ r ∷ rs) [
      | true ↦ λ e. ap (λ q. q ∷ rs) (put_in_unless r a bs e)
      | false ↦ λ e. ap (λ l. r ∷ l) (put_unless rs a bs e)
    ] w

pub after_refused : (m : Space) (a n v : ℕ) (bad : MemBad) → store_of m a n ≡ Err bad → after_store m a n v ≡ m
after_refused m a n v bad e = ⊎_elim
    (λ w. absurd (refused_is_not_ok bad (sym e ∙ store_ok m a n w)))
    (λ w. ap (λ rs. record m { regions = rs }) (put_unless m.regions a (bytes_of n v) (ap (writable m.regions a) (length-bytes_of n v) ∙ w)))
    (cases_Bool (writable m.regions a n))

-- a region that may not be written keeps its bytes: loads and fetches from it are the same after any store
pub region_fixed : (rs : List Segment) (a : ℕ) (bs : List ℕ) (b : ℕ) (r : Segment) → region_of rs b ≡ Some r → r.write ≡ false → region_of (put rs a bs) b ≡ Some r
region_fixed rs a bs b r e w = let p = region_of-put rs a bs b r e in p.1 ∙ ap Some (p.2.fixed w)

pub read_fixed : (rs : List Segment) (a : ℕ) (bs : List ℕ) (b k : ℕ) (r : Segment) → region_of rs b ≡ Some r → r.write ≡ false → read (put rs a bs) b k ≡ read rs b k
read_fixed rs a bs b k r e w = read_of_region (put rs a bs) b k r (region_fixed rs a bs b r e w) ∙ sym (read_of_region rs b k r e)

pub fetch_fixed : (m : Space) (a n v b k : ℕ) (r : Segment) → region_of m.regions b ≡ Some r → r.write ≡ false → fetch_of (after_store m a n v) b k ≡ fetch_of m b k
fetch_fixed m a n v b k r e w =
    fetch_of_region (after_store m a n v) b k r (region_fixed m.regions a (bytes_of n v) b r e w) ∙ sym (fetch_of_region m b k r e)

-- where no region may be both written and executed, every fetch is the same after any store
fetched_in_after : (r q : Segment) (a n : ℕ) → IsRegionAfter r q → (r.write && r.exec) ≡ false → fetched_in q a n ≡ fetched_in r a n
fetched_in_after r q a n p both = ⊎_elim
    (λ x. ap (λ t. fetched_in t a n) (p.fixed (not_both r.write r.exec both x)))
    (λ x. cond-false q.exec _ _ (p.exec ∙ x) ∙ sym (cond-false r.exec _ _ x))
    (cases_Bool r.exec)
  where
    not_both : (w x : Bool) → (w && x) ≡ false → x ≡ true → w ≡ false
    not_both true x e h = absurd (false≢true (sym e ∙ h))
    not_both false x e h = refl

region_not_both : (rs : List Segment) (a : ℕ) (r : Segment) → IsWriteOrExec rs → region_of rs a ≡ Some r → (r.write && r.exec) ≡ false
region_not_both [] a r h e = absurd (none-some r e)
region_not_both (s ∷ rs) a r h e =
    elim (has s a) as (λ c. cond c (Some s) (region_of rs a) ≡ Some r → (r.write && r.exec) ≡ false) [
      | true ↦ λ q. let P : Segment → Type 0 = λ t. (t.write && t.exec) ≡ false in subst P (same_Some s r q) h.0
      | false ↦ λ q. region_not_both rs a r h.1 q
    ] e

pub fetch_of-after_store : (m : Space) (a n v b k : ℕ) → IsWriteOrExec m.regions → fetch_of (after_store m a n v) b k ≡ fetch_of m b k
fetch_of-after_store m a n v b k h =
    elim (region_of m.regions b) as (λ o. region_of m.regions b ≡ o → fetch_of (after_store m a n v) b k ≡ fetch_of m b k) [
      | None ↦ λ e. fetch_of_none (after_store m a n v) b k (region_of-put_none m.regions a (bytes_of n v) b e) ∙ sym (fetch_of_none m b k e)
      | Some r ↦ λ e. let p = region_of-put m.regions a (bytes_of n v) b r e in
          fetch_of_region (after_store m a n v) b k p.0 p.1 ∙ fetched_in_after r p.0 b k p.2 (region_not_both m.regions b r h e) ∙ sym (fetch_of_region m b k r e)
    ] refl

pub IsWriteOrExec-put : (rs : List Segment) (a : ℕ) (bs : List ℕ) → IsWriteOrExec rs → IsWriteOrExec (put rs a bs)
IsWriteOrExec-put [] a bs h = h
IsWriteOrExec-put (r ∷ rs) a bs h =
    elim (has r a) as (λ c. IsWriteOrExec (cond c (put_in r a bs ∷ rs) (r ∷ put rs a bs))) [
      | true ↦ h
      | false ↦ (h.0, IsWriteOrExec-put rs a bs h.1)
    ]

-- a number that is loaded is one of n bytes
AreBytes-region : (rs : List Segment) (a : ℕ) (r : Segment) → IsLaidOut rs → region_of rs a ≡ Some r → AreBytes r.bytes
AreBytes-region [] a r w e = absurd (none-some r e)
AreBytes-region (s ∷ rs) a r w e =
    elim (has s a) as (λ c. cond c (Some s) (region_of rs a) ≡ Some r → AreBytes r.bytes) [
      | true ↦ λ q. let P : Segment → Type 0 = λ t. AreBytes t.bytes in subst P (same_Some s r q) w.0.bytes
      | false ↦ λ q. AreBytes-region rs a r w.1.1 q
    ] e

pub AreBytes-read : (rs : List Segment) (a n : ℕ) (xs : List ℕ) → IsLaidOut rs → read rs a n ≡ Some xs → AreBytes xs
AreBytes-read rs a n xs w e =
    elim (region_of rs a) as (λ o. region_of rs a ≡ o → AreBytes xs) [
      | None ↦ λ q. absurd (none-some xs (sym (read_of_none rs a n q) ∙ e))
      | Some r ↦ λ q. let f = read_fits r a n xs (sym (read_of_region rs a n r q) ∙ e) in
          subst AreBytes f.1 (AreBytes-take n _ (AreBytes-drop (a - r.start) r.bytes (AreBytes-region rs a r w q)))
    ] refl

pub load_lt : (m : Space) (a n v : ℕ) → IsMemory m → load_of m a n ≡ Ok v → v < 256 ^ n
load_lt m a n v w e =
    elim (read m.regions a n) as (λ o. read m.regions a n ≡ o → loaded o (load_bad (region_of m.regions a) m.guard a) ≡ Ok v → v < 256 ^ n) [
      | None ↦ λ q h. absurd (err_is_not_ok _ v h)
      | Some xs ↦ λ q h.
          let bound : number_of xs < 256 ^ length xs = number_of_lt xs (AreBytes-read m.regions a n xs w.regions q) in
          let long : length xs ≡ n = length-read m.regions a n xs q in
          subst (λ k. k < 256 ^ n) (same_Ok _ _ h) (subst (λ k. number_of xs < 256 ^ k) long bound)
    ] refl e
  where
    err_is_not_ok : (bad : MemBad) (v : ℕ) → ◌≡◌ {A = Result ℕ MemBad} (Err bad) (Ok v) → ⊥
    err_is_not_ok bad v e = cc

    same_Ok : (x y : ℕ) → ◌≡◌ {A = Result ℕ MemBad} (Ok x) (Ok y) → x ≡ y
    same_Ok x y e = cc

-- a memory after a store, as a simulation takes it: a new memory and these facts of it
pub record IsAfterStore (m after : Space) (a n v : ℕ) : Type 0 where
  pub here : read after.regions a n ≡ Some (bytes_of n v)
  pub others : (b k : ℕ) → Apart a n b k → read after.regions b k ≡ read m.regions b k
  pub rights : (b k : ℕ) → writable after.regions b k ≡ writable m.regions b k
  pub code : (b k : ℕ) → code_of after.regions b k ≡ code_of m.regions b k
  pub loaded : load_of after a n ≡ Ok (v % 256 ^ n)
  pub loads : (b k : ℕ) → Apart a n b k → load_of after b k ≡ load_of m b k
  pub stores : (b k : ℕ) → store_of after b k ≡ store_of m b k
  pub fetches : IsWriteOrExec m.regions → (b k : ℕ) → fetch_of after b k ≡ fetch_of m b k
  pub guard : after.guard ≡ m.guard
  pub whole : IsMemory m → IsMemory after
  pub fixed : IsWriteOrExec m.regions → IsWriteOrExec after.regions

pub IsAfterStore-after_store : (m : Space) (a n v : ℕ) → writable m.regions a n ≡ true → IsAfterStore m (after_store m a n v) a n v
IsAfterStore-after_store m a n v w = record {
  here = same_after m.regions a n (bytes_of n v) (length-bytes_of n v) w;
  others = λ b k d. apart_after m.regions a n (bytes_of n v) b k (length-bytes_of n v) d;
  rights = λ b k. writable-put m.regions a (bytes_of n v) b k;
  code = λ b k. code_of-put m.regions a (bytes_of n v) b k;
  loaded = load_after_store m a n v w;
  loads = load_of-after_store m a n v;
  stores = store_of-after_store m a n v;
  fetches = λ h b k. fetch_of-after_store m a n v b k h;
  guard = refl;
  whole = λ h. IsMemory-after_store m a n v h;
  fixed = λ h. IsWriteOrExec-put m.regions a (bytes_of n v) h;
}

-- so that the next step meets a variable, and no nested term
pub with_after_store : (P : Space → Type 0) (m : Space) (a n v : ℕ) → writable m.regions a n ≡ true → ((after : Space) → IsAfterStore m after a n v → P after) → P (after_store m a n v)
with_after_store P m a n v w go = go (after_store m a n v) (IsAfterStore-after_store m a n v w)
