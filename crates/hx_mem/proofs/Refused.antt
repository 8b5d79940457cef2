-- Refusals are exact.
use Rattle.std.proofs.Common.{◌≡◌, ◌↔◌, ℕ, ◌+◌, ◌-◌, ◌<◌, ◌≤◌, true, false, cond, leb, List, take, drop, Option, Some, None, Result, Ok, Err, refl, sym, ap, ◌∙◌, arith, ⊎_elim, subst}
use Rattle.std.proofs.lemmas.Bool.{cases_Bool, false≢true, leb-true, leb-false, cases_lt}
use Rattle.std.proofs.lemmas.Bool.Decides.{nat_tests}
use Rattle.std.proofs.lemmas.Option.{none-some, same_Some}
use Rattle.hx_mem.specs.declared.fault.MemBad.{MemBad}
use Rattle.hx_mem.specs.declared.fault.MemBad.TheVariants.{Guard, Unmapped, Protected}
use Rattle.hx_mem.specs.declared.memory.GuardRange.{GuardRange}
use Rattle.hx_mem.specs.Segments.{Segment}
use Rattle.hx_mem.specs.Space.{Space, end_of, read_in, region_of, guarded, no_region, loaded, load_of, store_of, stored_in, fetch_of, fetched_in, IsMemory}
use Rattle.hx_mem.specs.Refusals.{IsIn, IsFirstOutside, IsReadOnly, IsNoCode}
use Rattle.hx_mem.proofs.Regions.{region_has, load_of_region, load_of_none, store_of_region, store_of_none, fetch_of_region, fetch_of_none}

abbrev Answer : Type 0
Answer = Result ℕ MemBad

-- where no region has the address
none_guard : (T : Type 0) (g : Option GuardRange) (a b : ℕ) → (◌≡◌ {A = Result T MemBad} (Err (no_region g a)) (Err (Guard b))) ↔ ((b ≡ a) × (guarded g a ≡ true))
none_guard T g a b =
    elim (guarded g a) as (λ c. (◌≡◌ {A = Result T MemBad} (Err (cond c (Guard a) (Unmapped a))) (Err (Guard b))) ↔ ((b ≡ a) × (c ≡ true))) [
      | true ↦ (λ e. (cc, refl), λ p. ap (λ x. Err (Guard x)) (sym p.0))
      | false ↦ (λ e. absurd cc, λ p. absurd (false≢true p.1))
    ]

none_unmapped : (T : Type 0) (g : Option GuardRange) (a b : ℕ) → (◌≡◌ {A = Result T MemBad} (Err (no_region g a)) (Err (Unmapped b))) ↔ ((guarded g a ≡ false) × (b ≡ a))
none_unmapped T g a b =
    elim (guarded g a) as (λ c. (◌≡◌ {A = Result T MemBad} (Err (cond c (Guard a) (Unmapped a))) (Err (Unmapped b))) ↔ ((c ≡ false) × (b ≡ a))) [
      | true ↦ (λ e. absurd cc, λ p. absurd (false≢true (sym p.0)))
      | false ↦ (λ e. (refl, cc), λ p. ap (λ x. Err (Unmapped x)) (sym p.1))
    ]

none_protected : (T : Type 0) (g : Option GuardRange) (a b : ℕ) → ◌≡◌ {A = Result T MemBad} (Err (no_region g a)) (Err (Protected b)) → ⊥
none_protected T g a b =
    elim (guarded g a) as (λ c. ◌≡◌ {A = Result T MemBad} (Err (cond c (Guard a) (Unmapped a))) (Err (Protected b)) → ⊥) [
      | true ↦ λ e. cc
      | false ↦ λ e. cc
    ]

-- the first byte outside, by the region of the address
in_none : (rs : List Segment) (a b : ℕ) → region_of rs a ≡ None → IsIn (region_of rs a) b → ⊥
in_none rs a b e h = subst (λ o. IsIn o b) e h

first_of_none : (m : Space) (a n b : ℕ) → 0 < n → region_of m.regions a ≡ None → IsFirstOutside m a n b ↔ (b ≡ a)
first_of_none m a n b some e = (
  λ f. ⊎_elim (λ l. absurd (in_none m.regions a a e (f.inside a (omega arith) l))) (λ l. omega (arith, f.from, l)) (cases_lt a b),
  λ q. record {
    from = omega arith;
    before = omega arith;
    outside = λ h. in_none m.regions a b e h;
    inside = λ c l h. absurd (omega arith);
  },
)

first_of_some : (m : Space) (a n b : ℕ) (r : Segment) → region_of m.regions a ≡ Some r → IsFirstOutside m a n b ↔ ((b ≡ end_of r) × (end_of r < a + n))
first_of_some m a n b r e =
    let h = region_has m.regions a r e in
    let into : (c : ℕ) → (r.start ≤ c) × (c < end_of r) → IsIn (region_of m.regions a) c = λ c p. subst (λ o. IsIn o c) (sym e) p in
    let out : (c : ℕ) → IsIn (region_of m.regions a) c → (r.start ≤ c) × (c < end_of r) = λ c p. subst (λ o. IsIn o c) e p in (
      λ f. ⊎_elim
          (λ l. absurd (f.outside (into b (omega (arith, h, f.from), l))))
          (λ l. ⊎_elim
          (λ k. let p = out (end_of r) (f.inside (end_of r) (omega (arith, h)) k) in absurd (omega (arith, p)))
          (λ k. let q : b ≡ end_of r = omega arith in (q, omega (arith, q, f.before)))
          (cases_lt (end_of r) b))
          (cases_lt b (end_of r)),
      λ p. record {
        from = omega (arith, h, p.0);
        before = omega (arith, p);
        outside = λ q. let k = out b q in omega (arith, k, p.0);
        inside = λ c l k. into c (omega (arith, h), omega (arith, p.0));
      },
    )

-- a load, a store and a fetch in a region
loaded_guard : (r : Segment) (a n b : ℕ) → loaded (read_in r a n) (Unmapped (end_of r)) ≡ Err (Guard b) → ⊥
unfolding read_in
loaded_guard r a n b =
    elim (leb (a + n) (end_of r)) as (λ c. ◌≡◌ {A = Answer} (loaded (cond c (Some (take n (drop (a - r.start) r.bytes))) None) (Unmapped (end_of r))) (Err (Guard b)) → ⊥) [
      | true ↦ λ e. cc
      | false ↦ λ e. cc
    ]

loaded_protected : (r : Segment) (a n b : ℕ) → loaded (read_in r a n) (Unmapped (end_of r)) ≡ Err (Protected b) → ⊥
unfolding read_in
loaded_protected r a n b =
    elim (leb (a + n) (end_of r)) as (λ c. ◌≡◌ {A = Answer} (loaded (cond c (Some (take n (drop (a - r.start) r.bytes))) None) (Unmapped (end_of r))) (Err (Protected b)) → ⊥) [
      | true ↦ λ e. cc
      | false ↦ λ e. cc
    ]

loaded_unmapped : (r : Segment) (a n b : ℕ) → (loaded (read_in r a n) (Unmapped (end_of r)) ≡ Err (Unmapped b)) ↔ ((b ≡ end_of r) × (end_of r < a + n))
unfolding read_in
loaded_unmapped r a n b =
    elim (leb (a + n) (end_of r)) as (λ c. leb (a + n) (end_of r) ≡ c → (◌≡◌ {A = Answer} (loaded (cond c (Some (take n (drop (a - r.start) r.bytes))) None) (Unmapped (end_of r))) (Err (Unmapped b))) ↔ ((b ≡ end_of r) × (end_of r < a + n))) [
      | true ↦ λ h. let fits : a + n ≤ end_of r = leb-true _ _ h in (λ e. absurd cc, λ p. absurd (omega (arith, p)))
      | false ↦ λ h. let past : end_of r < a + n = leb-false _ _ h in (λ e. (cc, past), λ p. ap (λ x. Err (Unmapped x)) (sym p.0))
    ] refl

stored_guard : (r : Segment) (a n b : ℕ) → stored_in r a n ≡ Err (Guard b) → ⊥
stored_guard r a n b e = grind (arith, nat_tests)

stored_unmapped : (r : Segment) (a n b : ℕ) → (stored_in r a n ≡ Err (Unmapped b)) ↔ ((b ≡ end_of r) × (end_of r < a + n))
stored_unmapped r a n b = (λ e. grind (arith, nat_tests), λ p. grind (arith, nat_tests))

stored_protected : (r : Segment) (a n b : ℕ) → (stored_in r a n ≡ Err (Protected b)) ↔ ((b ≡ a) × (a + n ≤ end_of r) × (r.write ≡ false))
stored_protected r a n b = (λ e. grind (arith, nat_tests), λ p. grind (arith, nat_tests))

fetched_guard : (r : Segment) (a n b : ℕ) → fetched_in r a n ≡ Err (Guard b) → ⊥
fetched_guard r a n b =
    elim r.exec as (λ c. ◌≡◌ {A = Result (List ℕ) MemBad} (cond c (Ok (take n (drop (a - r.start) r.bytes))) (Err (Protected a))) (Err (Guard b)) → ⊥) [
      | true ↦ λ e. cc
      | false ↦ λ e. cc
    ]

fetched_unmapped : (r : Segment) (a n b : ℕ) → fetched_in r a n ≡ Err (Unmapped b) → ⊥
fetched_unmapped r a n b =
    elim r.exec as (λ c. ◌≡◌ {A = Result (List ℕ) MemBad} (cond c (Ok (take n (drop (a - r.start) r.bytes))) (Err (Protected a))) (Err (Unmapped b)) → ⊥) [
      | true ↦ λ e. cc
      | false ↦ λ e. cc
    ]

fetched_protected : (r : Segment) (a n b : ℕ) → (fetched_in r a n ≡ Err (Protected b)) ↔ ((b ≡ a) × (r.exec ≡ false))
fetched_protected r a n b =
    elim r.exec as (λ c. (◌≡◌ {A = Result (List ℕ) MemBad} (cond c (Ok (take n (drop (a - r.start) r.bytes))) (Err (Protected a))) (Err (Protected b))) ↔ ((b ≡ a) × (c ≡ false))) [
      | true ↦ (λ e. absurd cc, λ p. absurd (false≢true (sym p.1)))
      | false ↦ (λ e. (cc, refl), λ p. ap (λ x. Err (Protected x)) (sym p.0))
    ]

-- in a memory the address of a region is not in the guard range
region_unguarded : (m : Space) (a : ℕ) (r : Segment) → IsMemory m → region_of m.regions a ≡ Some r → guarded m.guard a ≡ false
region_unguarded m a r w e = ⊎_elim
    (λ h. absurd (none-some r (sym (w.guard a h) ∙ e)))
    (λ h. h)
    (cases_Bool (guarded m.guard a))

region_not_guarded : (m : Space) (a : ℕ) (r : Segment) → IsMemory m → region_of m.regions a ≡ Some r → guarded m.guard a ≡ true → ⊥
region_not_guarded m a r w e h = false≢true (sym (region_unguarded m a r w e) ∙ h)

-- the laws, by the region of the address
module _ (m : Space) (a b : ℕ) (w : IsMemory m) where
  pub load_guard : (n : ℕ) → (load_of m a n ≡ Err (Guard b)) ↔ ((b ≡ a) × (guarded m.guard a ≡ true))
  load_guard n =
      elim (region_of m.regions a) as (λ o. region_of m.regions a ≡ o → (load_of m a n ≡ Err (Guard b)) ↔ ((b ≡ a) × (guarded m.guard a ≡ true))) [
        | None ↦ λ e. let k = none_guard ℕ m.guard a b in (λ h. k.0 (sym (load_of_none m a n e) ∙ h), λ p. load_of_none m a n e ∙ k.1 p)
        | Some r ↦ λ e. (λ h. absurd (loaded_guard r a n b (sym (load_of_region m a n r e) ∙ h)), λ p. absurd (region_not_guarded m a r w e p.1))
      ] refl

  pub store_guard : (n : ℕ) → (store_of m a n ≡ Err (Guard b)) ↔ ((b ≡ a) × (guarded m.guard a ≡ true))
  store_guard n =
      elim (region_of m.regions a) as (λ o. region_of m.regions a ≡ o → (store_of m a n ≡ Err (Guard b)) ↔ ((b ≡ a) × (guarded m.guard a ≡ true))) [
        | None ↦ λ e. let k = none_guard (Unit {0}) m.guard a b in (λ h. k.0 (sym (store_of_none m a n e) ∙ h), λ p. store_of_none m a n e ∙ k.1 p)
        | Some r ↦ λ e. (λ h. absurd (stored_guard r a n b (sym (store_of_region m a n r e) ∙ h)), λ p. absurd (region_not_guarded m a r w e p.1))
      ] refl

  pub fetch_guard : (n : ℕ) → (fetch_of m a n ≡ Err (Guard b)) ↔ ((b ≡ a) × (guarded m.guard a ≡ true))
  fetch_guard n =
      elim (region_of m.regions a) as (λ o. region_of m.regions a ≡ o → (fetch_of m a n ≡ Err (Guard b)) ↔ ((b ≡ a) × (guarded m.guard a ≡ true))) [
        | None ↦ λ e. let k = none_guard (List ℕ) m.guard a b in (λ h. k.0 (sym (fetch_of_none m a n e) ∙ h), λ p. fetch_of_none m a n e ∙ k.1 p)
        | Some r ↦ λ e. (λ h. absurd (fetched_guard r a n b (sym (fetch_of_region m a n r e) ∙ h)), λ p. absurd (region_not_guarded m a r w e p.1))
      ] refl

  pub load_unmapped : (n : ℕ) → 0 < n → (load_of m a n ≡ Err (Unmapped b)) ↔ ((guarded m.guard a ≡ false) × IsFirstOutside m a n b)
  load_unmapped n some =
      elim (region_of m.regions a) as (λ o. region_of m.regions a ≡ o → (load_of m a n ≡ Err (Unmapped b)) ↔ ((guarded m.guard a ≡ false) × IsFirstOutside m a n b)) [
        | None ↦ λ e. let k = none_unmapped ℕ m.guard a b in
            let f = first_of_none m a n b some e in (
              λ h. let p = k.0 (sym (load_of_none m a n e) ∙ h) in (p.0, f.1 p.1),
              λ p. load_of_none m a n e ∙ k.1 (p.0, f.0 p.1),
            )
        | Some r ↦ λ e. let k = loaded_unmapped r a n b in
            let f = first_of_some m a n b r e in (
              λ h. (region_unguarded m a r w e, f.1 (k.0 (sym (load_of_region m a n r e) ∙ h))),
              λ p. load_of_region m a n r e ∙ k.1 (f.0 p.1),
            )
      ] refl

  pub store_unmapped : (n : ℕ) → 0 < n → (store_of m a n ≡ Err (Unmapped b)) ↔ ((guarded m.guard a ≡ false) × IsFirstOutside m a n b)
  store_unmapped n some =
      elim (region_of m.regions a) as (λ o. region_of m.regions a ≡ o → (store_of m a n ≡ Err (Unmapped b)) ↔ ((guarded m.guard a ≡ false) × IsFirstOutside m a n b)) [
        | None ↦ λ e. let k = none_unmapped (Unit {0}) m.guard a b in
            let f = first_of_none m a n b some e in (
              λ h. let p = k.0 (sym (store_of_none m a n e) ∙ h) in (p.0, f.1 p.1),
              λ p. store_of_none m a n e ∙ k.1 (p.0, f.0 p.1),
            )
        | Some r ↦ λ e. let k = stored_unmapped r a n b in
            let f = first_of_some m a n b r e in (
              λ h. (region_unguarded m a r w e, f.1 (k.0 (sym (store_of_region m a n r e) ∙ h))),
              λ p. store_of_region m a n r e ∙ k.1 (f.0 p.1),
            )
      ] refl

  pub fetch_unmapped : (n : ℕ) → (fetch_of m a n ≡ Err (Unmapped b)) ↔ ((guarded m.guard a ≡ false) × IsFirstOutside m a 1 b)
  fetch_unmapped n =
      elim (region_of m.regions a) as (λ o. region_of m.regions a ≡ o → (fetch_of m a n ≡ Err (Unmapped b)) ↔ ((guarded m.guard a ≡ false) × IsFirstOutside m a 1 b)) [
        | None ↦ λ e. let k = none_unmapped (List ℕ) m.guard a b in
            let f = first_of_none m a 1 b (omega arith) e in (
              λ h. let p = k.0 (sym (fetch_of_none m a n e) ∙ h) in (p.0, f.1 p.1),
              λ p. fetch_of_none m a n e ∙ k.1 (p.0, f.0 p.1),
            )
        | Some r ↦ λ e. let f = first_of_some m a 1 b r e in
            let h = region_has m.regions a r e in (
              λ q. absurd (fetched_unmapped r a n b (sym (fetch_of_region m a n r e) ∙ q)),
              λ p. let past = (f.0 p.1).1 in absurd (omega (arith, past, h)),
            )
      ] refl

  pub load_protected : (n : ℕ) → load_of m a n ≡ Err (Protected b) → ⊥
  load_protected n =
      elim (region_of m.regions a) as (λ o. region_of m.regions a ≡ o → load_of m a n ≡ Err (Protected b) → ⊥) [
        | None ↦ λ e h. none_protected ℕ m.guard a b (sym (load_of_none m a n e) ∙ h)
        | Some r ↦ λ e h. loaded_protected r a n b (sym (load_of_region m a n r e) ∙ h)
      ] refl

  pub store_protected : (n : ℕ) → (store_of m a n ≡ Err (Protected b)) ↔ ((b ≡ a) × IsReadOnly m a n)
  store_protected n =
      elim (region_of m.regions a) as (λ o. region_of m.regions a ≡ o → (store_of m a n ≡ Err (Protected b)) ↔ ((b ≡ a) × IsReadOnly m a n)) [
        | None ↦ λ e. (λ h. absurd (none_protected (Unit {0}) m.guard a b (sym (store_of_none m a n e) ∙ h)), λ p. absurd (none-some p.1.0 (sym e ∙ p.1.1)))
        | Some r ↦ λ e. let k = stored_protected r a n b in (
          λ h. let p = k.0 (sym (store_of_region m a n r e) ∙ h) in (p.0, (r, e, p.1, p.2)),
          λ p. let same : p.1.0 ≡ r = same_Some _ _ (sym p.1.1 ∙ e) in
              let fits : a + n ≤ end_of r = subst (λ (t : Segment). a + n ≤ end_of t) same p.1.2 in
              let right : r.write ≡ false = subst (λ (t : Segment). t.write ≡ false) same p.1.3 in
              store_of_region m a n r e ∙ k.1 (p.0, fits, right),
        )
      ] refl

  pub fetch_protected : (n : ℕ) → (fetch_of m a n ≡ Err (Protected b)) ↔ ((b ≡ a) × IsNoCode m a)
  fetch_protected n =
      elim (region_of m.regions a) as (λ o. region_of m.regions a ≡ o → (fetch_of m a n ≡ Err (Protected b)) ↔ ((b ≡ a) × IsNoCode m a)) [
        | None ↦ λ e. (λ h. absurd (none_protected (List ℕ) m.guard a b (sym (fetch_of_none m a n e) ∙ h)), λ p. absurd (none-some p.1.0 (sym e ∙ p.1.1)))
        | Some r ↦ λ e. let k = fetched_protected r a n b in (
          λ h. let p = k.0 (sym (fetch_of_region m a n r e) ∙ h) in (p.0, (r, e, p.1)),
          λ p. let same : p.1.0 ≡ r = same_Some _ _ (sym p.1.1 ∙ e) in
              let right : r.exec ≡ false = subst (λ (t : Segment). t.exec ≡ false) same p.1.2 in
              fetch_of_region m a n r e ∙ k.1 (p.0, right),
        )
      ] refl
