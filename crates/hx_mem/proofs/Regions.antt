-- What the region of an address decides, and what a write makes of it.
use Rattle.std.proofs.Common.{◌≡◌, ℕ, ◌+◌, ◌<◌, ◌≤◌, true, false, cond, List, [], ◌∷◌, Some, None, Err, refl, sym, ap, ◌∙◌, ⊎_elim, subst}
use Rattle.std.proofs.lemmas.Bool.{cases_Bool, cond-true, cond-false}
use Rattle.std.proofs.lemmas.Option.{none-some, same_Some}
use Rattle.hx_mem.specs.declared.fault.MemBad.TheVariants.{Unmapped}
use Rattle.hx_mem.specs.Segments.{Segment}
use Rattle.hx_mem.specs.Space.{Space, end_of, has, read_in, writable_in, code_in, put_in, writable, code_of, put, region_of, no_region, load_bad, loaded, load_of, store_of, stored, stored_in, fetch_of, fetched, fetched_in}
use Rattle.hx_mem.proofs.Writes.{has-true, has-put_in, length-bytes_after}
use Rattle.hx_mem.proofs.First.{read_of_region, read_of_none}
use Rattle.hx_mem.proofs.Stored.{refused_right}

pub region_has : (rs : List Segment) (a : ℕ) (r : Segment) → region_of rs a ≡ Some r → (r.start ≤ a) × (a < end_of r)
region_has [] a r e = absurd (none-some r e)
region_has (s ∷ rs) a r e =
    elim (has s a) as (λ c. has s a ≡ c → cond c (Some s) (region_of rs a) ≡ Some r → (r.start ≤ a) × (a < end_of r)) [
      | true ↦ λ h q. let P : Segment → Type 0 = λ t. (t.start ≤ a) × (a < end_of t) in subst P (same_Some _ _ q) (has-true s a h)
      | false ↦ λ h q. region_has rs a r q
    ] refl e

pub writable_of_region : (rs : List Segment) (a n : ℕ) (r : Segment) → region_of rs a ≡ Some r → writable rs a n ≡ writable_in r a n
writable_of_region [] a n r e = absurd (none-some r e)
writable_of_region (s ∷ rs) a n r e =
    elim (has s a) as (λ c. cond c (Some s) (region_of rs a) ≡ Some r → cond c (writable_in s a n) (writable rs a n) ≡ writable_in r a n) [
      | true ↦ λ q. ap (λ t. writable_in t a n) (same_Some _ _ q)
      | false ↦ λ q. writable_of_region rs a n r q
    ] e

pub writable_of_none : (rs : List Segment) (a n : ℕ) → region_of rs a ≡ None → writable rs a n ≡ false
writable_of_none [] a n e = refl
writable_of_none (s ∷ rs) a n e =
    elim (has s a) as (λ c. cond c (Some s) (region_of rs a) ≡ None → cond c (writable_in s a n) (writable rs a n) ≡ false) [
      | true ↦ λ q. absurd (none-some _ (sym q))
      | false ↦ λ q. writable_of_none rs a n q
    ] e

pub code_of_region : (rs : List Segment) (a n : ℕ) (r : Segment) → region_of rs a ≡ Some r → code_of rs a n ≡ code_in r a n
code_of_region [] a n r e = absurd (none-some r e)
code_of_region (s ∷ rs) a n r e =
    elim (has s a) as (λ c. cond c (Some s) (region_of rs a) ≡ Some r → cond c (code_in s a n) (code_of rs a n) ≡ code_in r a n) [
      | true ↦ λ q. ap (λ t. code_in t a n) (same_Some _ _ q)
      | false ↦ λ q. code_of_region rs a n r q
    ] e

pub code_of_none : (rs : List Segment) (a n : ℕ) → region_of rs a ≡ None → code_of rs a n ≡ None
code_of_none [] a n e = refl
code_of_none (s ∷ rs) a n e =
    elim (has s a) as (λ c. cond c (Some s) (region_of rs a) ≡ None → cond c (code_in s a n) (code_of rs a n) ≡ None) [
      | true ↦ λ q. absurd (none-some _ (sym q))
      | false ↦ λ q. code_of_none rs a n q
    ] e

-- accesses by the region of their address
pub load_of_region : (m : Space) (a n : ℕ) (r : Segment) → region_of m.regions a ≡ Some r → load_of m a n ≡ loaded (read_in r a n) (Unmapped (end_of r))
load_of_region m a n r e = ap (λ o. loaded o (load_bad (region_of m.regions a) m.guard a)) (read_of_region m.regions a n r e) ∙ ap (λ o. loaded (read_in r a n) (load_bad o m.guard a)) e

pub load_of_none : (m : Space) (a n : ℕ) → region_of m.regions a ≡ None → load_of m a n ≡ Err (no_region m.guard a)
load_of_none m a n e = ap (λ o. loaded o (load_bad (region_of m.regions a) m.guard a)) (read_of_none m.regions a n e) ∙ ap (λ o. Err (load_bad o m.guard a)) e

pub store_of_region : (m : Space) (a n : ℕ) (r : Segment) → region_of m.regions a ≡ Some r → store_of m a n ≡ stored_in r a n
store_of_region m a n r e = ap (λ o. stored o m.guard a n) e

pub store_of_none : (m : Space) (a n : ℕ) → region_of m.regions a ≡ None → store_of m a n ≡ Err (no_region m.guard a)
store_of_none m a n e = ap (λ o. stored o m.guard a n) e

pub fetch_of_region : (m : Space) (a n : ℕ) (r : Segment) → region_of m.regions a ≡ Some r → fetch_of m a n ≡ fetched_in r a n
fetch_of_region m a n r e = ap (λ o. fetched o m.guard a n) e

pub fetch_of_none : (m : Space) (a n : ℕ) → region_of m.regions a ≡ None → fetch_of m a n ≡ Err (no_region m.guard a)
fetch_of_none m a n e = ap (λ o. fetched o m.guard a n) e

-- a region after a write somewhere: its place and rights stay, and all of it if it may not be written
pub record IsRegionAfter (r q : Segment) : Type 0 where
  pub ends : end_of q ≡ end_of r
  pub write : q.write ≡ r.write
  pub exec : q.exec ≡ r.exec
  pub fixed : r.write ≡ false → q ≡ r

pub region_of-put : (rs : List Segment) (b : ℕ) (bs : List ℕ) (a : ℕ) (r : Segment) → region_of rs a ≡ Some r → (q : Segment) × (region_of (put rs b bs) a ≡ Some q) × IsRegionAfter r q
region_of-put [] b bs a r e = absurd (none-some r e)
region_of-put (s ∷ rs) b bs a r e = ⊎_elim
    (λ here. let same : s ≡ r = same_Some s r (sym (cond-true (has s a) (Some s) (region_of rs a) here) ∙ e) in
    let P : Segment → Type 0 = λ t. (q : Segment) × (region_of (put (s ∷ rs) b bs) a ≡ Some q) × IsRegionAfter t q in
    subst P same (⊎_elim
    (λ hb. (put_in s b bs, ap (λ c. region_of (cond c (put_in s b bs ∷ rs) (s ∷ put rs b bs)) a) hb ∙ cond-true (has (put_in s b bs) a) (Some (put_in s b bs)) (region_of rs a) (has-put_in s b bs hb a ∙ here), after s hb))
    (λ hb. (s, ap (λ c. region_of (cond c (put_in s b bs ∷ rs) (s ∷ put rs b bs)) a) hb ∙ cond-true (has s a) (Some s) (region_of (put rs b bs) a) here, record { ends = refl; write = refl; exec = refl; fixed = λ _. refl }))
    (cases_Bool (has s b))))
    (λ off. let rest : region_of rs a ≡ Some r = sym (cond-false (has s a) (Some s) (region_of rs a) off) ∙ e in
    ⊎_elim
    (λ hb. (r, ap (λ c. region_of (cond c (put_in s b bs ∷ rs) (s ∷ put rs b bs)) a) hb ∙ cond-false (has (put_in s b bs) a) (Some (put_in s b bs)) (region_of rs a) (has-put_in s b bs hb a ∙ off) ∙ rest, record { ends = refl; write = refl; exec = refl; fixed = λ _. refl }))
    (λ hb. let more = region_of-put rs b bs a r rest in
    (more.0, ap (λ c. region_of (cond c (put_in s b bs ∷ rs) (s ∷ put rs b bs)) a) hb ∙ cond-false (has s a) (Some s) (region_of (put rs b bs) a) off ∙ more.1, more.2))
    (cases_Bool (has s b)))
    (cases_Bool (has s a))
  where
    after : (s : Segment) → has s b ≡ true → IsRegionAfter s (put_in s b bs)
    after s h = record {
      ends = ap (λ n. s.start + n) (length-bytes_after s b bs h);
      write = refl;
      exec = refl;
      fixed = λ w. refused_right s b bs w;
    }
