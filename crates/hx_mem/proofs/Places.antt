-- Regions at their places: what adding one and a write make of the order.
use Rattle.std.proofs.Common.{◌≡◌, ℕ, zero, suc, ◌+◌, ◌<◌, ◌≤◌, min, max, true, false, ◌&&◌, leb, ltb, cond, List, [], ◌∷◌, length, insert, Option, Some, None, refl, sym, ap, ◌∙◌, arith, ⊎_elim, subst}
use Rattle.std.proofs.lemmas.Bool.{cases_Bool, cond-true, cond-false, leb-true, leb-false, ltb-true, ltb-false, and_from, le-leb, lt-leb, lt-ltb, and_parts, false≢true}
use Rattle.std.proofs.lemmas.Option.{none-some}
use Rattle.hx_words.specs.LittleEndian.{bytes_of, AreBytes}
use Rattle.hx_mem.specs.declared.memory.GuardRange.{GuardRange}
use Rattle.hx_mem.specs.Segments.{Segment}
use Rattle.hx_mem.specs.Space.{Space, end_of, has, put, put_in, region_of, guarded, shares_none, misses, misses_guard, with_region, after_add, after_store, has_room, has_room_for_guard, IsPlaced, IsBelow, IsLaidOut, IsMemory}
use Rattle.hx_mem.specs.Refusals.{EndBy, IsWriteOrExec}
use Rattle.hx_mem.specs.Found.{AllStartBy, AllStartPast}
use Rattle.hx_mem.proofs.Writes.{has-true, has-put_in}
use Rattle.hx_mem.proofs.Within.{IsLaidOut-put}
use Rattle.hx_words.proofs.LittleEndianLaws.{AreBytes-bytes_of}

-- a stretch that shares no address with a region has none of its addresses
outside : (r : Segment) (s n a : ℕ) → shares_none s n r.start (length r.bytes) ≡ true → s ≤ a → a < s + n → has r a ≡ false
outside r s n a e l h = ⊎_elim
    (λ p. let q = has-true r a p in absurd (omega (arith, leb-true _ _ e, q)))
    (λ p. p)
    (cases_Bool (has r a))

pub misses_has : (rs : List Segment) (s n a : ℕ) → misses rs s n ≡ true → s ≤ a → a < s + n → region_of rs a ≡ None
misses_has [] s n a e l h = refl
misses_has (r ∷ rs) s n a e l h =
    let p = and_parts _ _ e in
    cond-false _ _ _ (outside r s n a p.0 l h) ∙ misses_has rs s n a p.1 l h

-- one more region
pub region_of-with_region : (r : Segment) (rs : List Segment) (a : ℕ) → has r a ≡ false → region_of (with_region r rs) a ≡ region_of rs a
region_of-with_region r [] a h = cond-false _ _ _ h
region_of-with_region r (s ∷ rs) a h =
    elim (leb s.start r.start) as (λ c. region_of (cond c (s ∷ with_region r rs) (r ∷ (s ∷ rs))) a ≡ cond (has s a) (Some s) (region_of rs a)) [
      | true ↦ ap (λ o. cond (has s a) (Some s) o) (region_of-with_region r rs a h)
      | false ↦ cond-false _ _ _ h
    ]

IsBelow-with_region : (s r : Segment) (rs : List Segment) → end_of s ≤ r.start → IsBelow s rs → IsBelow s (with_region r rs)
IsBelow-with_region s r [] l b = (l, tt)
IsBelow-with_region s r (t ∷ rs) l b =
    elim (leb t.start r.start) as (λ c. IsBelow s (cond c (t ∷ with_region r rs) (r ∷ (t ∷ rs)))) [
      | true ↦ (b.0, IsBelow-with_region s r rs l b.1)
      | false ↦ (l, b)
    ]

IsBelow-lower : (r s : Segment) (rs : List Segment) → end_of r ≤ end_of s → IsBelow s rs → IsBelow r rs
IsBelow-lower r s [] l b = tt
IsBelow-lower r s (t ∷ rs) l b = (omega (arith, l, b.0), IsBelow-lower r s rs l b.1)

pub IsLaidOut-with_region : (r : Segment) (rs : List Segment) → IsPlaced r → misses rs r.start (length r.bytes) ≡ true → IsLaidOut rs → IsLaidOut (with_region r rs)
IsLaidOut-with_region r [] p e w = (p, (tt, tt))
IsLaidOut-with_region r (s ∷ rs) p e w =
    let m = and_parts _ _ e in
    let apart : min (r.start + length r.bytes) (s.start + length s.bytes) ≤ max r.start s.start = leb-true _ _ m.0 in
    let mine : 0 < length r.bytes = p.some in
    let other : 0 < length s.bytes = w.0.some in
    elim (leb s.start r.start) as (λ c. leb s.start r.start ≡ c → IsLaidOut (cond c (s ∷ with_region r rs) (r ∷ (s ∷ rs)))) [
      | true ↦ λ h. let l : s.start ≤ r.start = leb-true _ _ h in
          (w.0, (IsBelow-with_region s r rs (omega (arith, apart)) w.1.0, IsLaidOut-with_region r rs p m.1 w.1.1))
      | false ↦ λ h. let l : r.start < s.start = leb-false _ _ h in
          let first : end_of r ≤ s.start = omega (arith, apart) in
          (p, ((first, IsBelow-lower r s rs (omega arith) w.1.0), w))
    ] refl

-- the code puts it after those that start by its start
pub inserted : (r : Segment) (rs : List Segment) (i : ℕ) → i ≤ length rs → AllStartBy rs r.start i → AllStartPast rs r.start i → insert rs i r ≡ with_region r rs
inserted r [] zero h by past = refl
inserted r [] (suc i) h by past = absurd (omega arith)
inserted r (s ∷ rs) zero h by past = sym (cond-false _ _ _ (lt-leb _ _ (past 0 (omega arith) (omega arith))))
inserted r (s ∷ rs) (suc i) h by past =
    ap (λ l. s ∷ l) (inserted r rs i (omega arith) (λ k l. by (suc k) (omega arith)) (λ k l m. past (suc k) (omega arith) (omega arith)))
    ∙ sym (cond-true _ _ _ (le-leb _ _ (by 0 (omega arith))))

-- the place where the code puts it
pub record IsPlaceFor (r : Segment) (rs : List Segment) (i : ℕ) : Type 0 where
  pub bound : i ≤ length rs
  pub started : AllStartBy rs r.start i
  pub others : AllStartPast rs r.start i

pub place_from : (r q : Segment) (rs there : List Segment) (i : ℕ) → there ≡ rs → q ≡ r → i ≤ length there → AllStartBy there q.start i → AllStartPast there q.start i → IsPlaceFor r rs i
place_from r q rs there i e f b s o =
    let P : List Segment → Type 0 = λ l. IsPlaceFor r l i in
    let Q : Segment → Type 0 = λ t. IsPlaceFor t there i in
    subst P e (subst Q f (record { bound = b; started = s; others = o }))

-- as the code adds it
pub added : (m : Space) (r : Segment) (old ws : List Segment) (g : Option GuardRange) (i : ℕ) → record { regions = old; guard = g } ≡ m → 0 < length r.bytes → ws ≡ insert old i r → IsPlaceFor r old i → record { regions = ws; guard = g } ≡ after_add m r
added m r old ws g i e some items at =
    let P : Space → Type 0 = λ q. record { regions = ws; guard = g } ≡ after_add q r in
    subst P e (ap (λ l. record { regions = l; guard = g }) (items ∙ inserted r old i at.bound at.started at.others) ∙ sym (cond-true _ _ _ (lt-ltb _ _ some)))

-- the guard range
guard_parts : (g : GuardRange) (a : ℕ) → guarded (Some g) a ≡ true → (g.start ≤ a) × (a < g.start + g.length)
guard_parts g a h = let p = and_parts _ _ h in (leb-true _ _ p.0, ltb-true _ _ p.1)

guarded_in : (g : Option GuardRange) (r : Segment) (a : ℕ) → misses_guard g r.start (length r.bytes) ≡ true → guarded g a ≡ true → has r a ≡ false
guarded_in None r a e h = absurd (false≢true h)
guarded_in (Some g) r a e h = ⊎_elim
    (λ p. let q = has-true r a p in
    let inside = guard_parts g a h in
    let apart : min (r.start + length r.bytes) (g.start + g.length) ≤ max r.start g.start = leb-true _ _ e in
    absurd (omega (arith, q, inside)))
    (λ p. p)
    (cases_Bool (has r a))

pub IsMemory-with_region : (m : Space) (r : Segment) → IsPlaced r → has_room m r.start (length r.bytes) ≡ true → IsMemory m → IsMemory (record m { regions = with_region r m.regions })
IsMemory-with_region m r p e w =
    let parts = and_parts _ _ e in
    let rest = and_parts _ _ parts.1 in
    record {
      regions = IsLaidOut-with_region r m.regions p rest.1 w.regions;
      guard = λ a h. region_of-with_region r m.regions a (guarded_in m.guard r a rest.0 h) ∙ w.guard a h;
    }

pub IsMemory-guard : (m : Space) (s n : ℕ) → has_room_for_guard m s n ≡ true → IsMemory m → IsMemory (record m { guard = Some (record { start = s; length = n }) })
IsMemory-guard m s n e w =
    let parts = and_parts _ _ e in
    record {
      regions = w.regions;
      guard = λ a h. let inside = guard_parts (record { start = s; length = n }) a h in misses_has m.regions s n a parts.1 inside.0 inside.1;
    }

-- a write keeps every region at its place
pub region_of-put_none : (rs : List Segment) (b : ℕ) (bs : List ℕ) (a : ℕ) → region_of rs a ≡ None → region_of (put rs b bs) a ≡ None
region_of-put_none [] b bs a e = refl
region_of-put_none (r ∷ rs) b bs a e = ⊎_elim
    (λ here. let some : Some r ≡ None = sym (cond-true (has r a) (Some r) (region_of rs a) here) ∙ e in absurd (none-some r (sym some)))
    (λ off. let rest : region_of rs a ≡ None = sym (cond-false (has r a) (Some r) (region_of rs a) off) ∙ e in
    elim (has r b) as (λ c. has r b ≡ c → region_of (cond c (put_in r b bs ∷ rs) (r ∷ put rs b bs)) a ≡ None) [
      | true ↦ λ h. cond-false (has (put_in r b bs) a) (Some (put_in r b bs)) (region_of rs a) (has-put_in r b bs h a ∙ off) ∙ rest
      | false ↦ λ h. cond-false (has r a) (Some r) (region_of (put rs b bs) a) off ∙ region_of-put_none rs b bs a rest
    ] refl)
    (cases_Bool (has r a))

pub IsMemory-put : (m : Space) (a : ℕ) (bs : List ℕ) → AreBytes bs → IsMemory m → IsMemory (record m { regions = put m.regions a bs })
IsMemory-put m a bs g w = record {
  regions = IsLaidOut-put m.regions a bs g w.regions;
  guard = λ b h. region_of-put_none m.regions a bs b (w.guard b h);
}

-- so a store leaves a memory
pub IsMemory-after_store : (m : Space) (a n v : ℕ) → IsMemory m → IsMemory (after_store m a n v)
IsMemory-after_store m a n v w = IsMemory-put m a (bytes_of n v) (AreBytes-bytes_of n v) w

-- as the code of a store leaves it
pub IsMemory-written : (m : Space) (ws rs : List Segment) (a n v : ℕ) → ws ≡ rs → rs ≡ put m.regions a (bytes_of n v) → IsMemory m → IsMemory (record m { regions = ws })
IsMemory-written m ws rs a n v e f w = let P : List Segment → Type 0 = λ l. IsMemory (record m { regions = l }) in subst P (sym (e ∙ f)) (IsMemory-after_store m a n v w)

pub IsMemory-added : (old ws : List Segment) (g : Option GuardRange) (r : Segment) (i : ℕ) (m : Space) → record { regions = old; guard = g } ≡ m → 0 < length r.bytes → AreBytes r.bytes → has_room m r.start (length r.bytes) ≡ true → ws ≡ insert old i r → IsPlaceFor r old i → IsMemory (record { regions = old; guard = g }) → IsMemory (record { regions = ws; guard = g })
IsMemory-added old ws g r i m e some bytes room items at w =
    let P : List Segment → Type 0 = λ l. IsMemory (record { regions = l; guard = g }) in
    let here : has_room (record { regions = old; guard = g }) r.start (length r.bytes) ≡ true = ap (λ q. has_room q r.start (length r.bytes)) e ∙ room in
    let placed : IsPlaced r = record { some = some; low = leb-true _ _ (and_parts _ _ here).0; bytes = bytes } in
    subst P (sym (items ∙ inserted r old i at.bound at.started at.others)) (IsMemory-with_region (record { regions = old; guard = g }) r placed here w)

-- the region of an address after one more region
region_of-with_region_here : (r : Segment) (rs : List Segment) (a : ℕ) → misses rs r.start (length r.bytes) ≡ true → has r a ≡ true → region_of (with_region r rs) a ≡ Some r
region_of-with_region_here r [] a e h = cond-true _ _ _ h
region_of-with_region_here r (s ∷ rs) a e h =
    let p = and_parts _ _ e in
    let q = has-true r a h in
    let off : has s a ≡ false = outside s r.start (length r.bytes) a p.0 q.0 q.1 in
    elim (leb s.start r.start) as (λ c. region_of (cond c (s ∷ with_region r rs) (r ∷ (s ∷ rs))) a ≡ Some r) [
      | true ↦ cond-false (has s a) (Some s) (region_of (with_region r rs) a) off ∙ region_of-with_region_here r rs a p.1 h
      | false ↦ cond-true (has r a) (Some r) (region_of (s ∷ rs) a) h
    ]

pub region_of-after_add : (m : Space) (r : Segment) (a : ℕ) → has_room m r.start (length r.bytes) ≡ true → region_of (after_add m r).regions a ≡ cond (has r a) (Some r) (region_of m.regions a)
region_of-after_add m r a e =
    let room = (and_parts _ _ (and_parts _ _ e).1).1 in
    ⊎_elim
    (λ some. ap (λ q. region_of q.regions a) (cond-true (ltb 0 (length r.bytes)) (record m { regions = with_region r m.regions }) m some)
    ∙ ⊎_elim
    (λ h. region_of-with_region_here r m.regions a room h ∙ sym (cond-true (has r a) (Some r) (region_of m.regions a) h))
    (λ h. region_of-with_region r m.regions a h ∙ sym (cond-false (has r a) (Some r) (region_of m.regions a) h))
    (cases_Bool (has r a)))
    (λ none. ap (λ q. region_of q.regions a) (cond-false (ltb 0 (length r.bytes)) (record m { regions = with_region r m.regions }) m none)
    ∙ sym (cond-false (has r a) (Some r) (region_of m.regions a) (no_byte (ltb-false _ _ none))))
    (cases_Bool (ltb 0 (length r.bytes)))
  where
    no_byte : length r.bytes ≤ 0 → has r a ≡ false
    no_byte h = ⊎_elim (λ p. let q = has-true r a p in absurd (omega (arith, q))) (λ p. p) (cases_Bool (has r a))

pub guard-after_add : (m : Space) (r : Segment) → (after_add m r).guard ≡ m.guard
guard-after_add m r =
    elim (ltb 0 (length r.bytes)) as (λ c. (cond c (record m { regions = with_region r m.regions }) m).guard ≡ m.guard) [
      | true ↦ refl
      | false ↦ refl
    ]

pub IsMemory-after_add : (m : Space) (r : Segment) → AreBytes r.bytes → has_room m r.start (length r.bytes) ≡ true → IsMemory m → IsMemory (after_add m r)
IsMemory-after_add m r bytes room w =
    elim (ltb 0 (length r.bytes)) as (λ c. ltb 0 (length r.bytes) ≡ c → IsMemory (cond c (record m { regions = with_region r m.regions }) m)) [
      | true ↦ λ h. IsMemory-with_region m r (record { some = ltb-true _ _ h; low = leb-true _ _ (and_parts _ _ room).0; bytes = bytes }) room w
      | false ↦ λ h. w
    ] refl

pub IsMemory-new : IsMemory (record { regions = []; guard = None })
IsMemory-new = record { regions = tt; guard = λ a h. refl }

-- past the ends of all regions there is room
pub misses_past : (rs : List Segment) (a n : ℕ) → EndBy rs a → misses rs a n ≡ true
misses_past [] a n h = refl
misses_past (r ∷ rs) a n h = and_from _ _ (le-leb _ _ (omega (arith, h.0))) (misses_past rs a n h.1)

pub EndBy-with_region : (r : Segment) (rs : List Segment) (a : ℕ) → end_of r ≤ a → EndBy rs a → EndBy (with_region r rs) a
EndBy-with_region r [] a l h = (l, tt)
EndBy-with_region r (s ∷ rs) a l h =
    elim (leb s.start r.start) as (λ c. EndBy (cond c (s ∷ with_region r rs) (r ∷ (s ∷ rs))) a) [
      | true ↦ (h.0, EndBy-with_region r rs a l h.1)
      | false ↦ (l, h)
    ]

pub EndBy-later : (rs : List Segment) (a b : ℕ) → a ≤ b → EndBy rs a → EndBy rs b
EndBy-later [] a b l h = tt
EndBy-later (r ∷ rs) a b l h = (omega (arith, l, h.0), EndBy-later rs a b l h.1)

pub IsWriteOrExec-with_region : (r : Segment) (rs : List Segment) → (r.write && r.exec) ≡ false → IsWriteOrExec rs → IsWriteOrExec (with_region r rs)
IsWriteOrExec-with_region r [] e h = (e, tt)
IsWriteOrExec-with_region r (s ∷ rs) e h =
    elim (leb s.start r.start) as (λ c. IsWriteOrExec (cond c (s ∷ with_region r rs) (r ∷ (s ∷ rs)))) [
      | true ↦ (h.0, IsWriteOrExec-with_region r rs e h.1)
      | false ↦ (e, h)
    ]
