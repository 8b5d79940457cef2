-- Fetches of code that is known.
use Rattle.std.proofs.Common.{◌≡◌, ℕ, ◌+◌, ◌-◌, ◌<◌, ◌≤◌, true, false, not, ◌&&◌, List, [], ◌∷◌, ◌++◌, length, take, drop, Some, None, Ok, refl, sym, ap, ◌∙◌, arith, ⊎_elim, length-take, length-drop, subst, take-append-drop}
use Rattle.std.proofs.lemmas.Bool.{cases_Bool, cond-true, cond-false, and_parts}
use Rattle.std.proofs.lemmas.Option.{none-some, same_Some, cond_some}
use Rattle.std.proofs.lemmas.List.{drop-drop, drop-append-le, take-append-le}
use Rattle.hx_mem.specs.Segments.{Segment}
use Rattle.hx_mem.specs.Space.{Space, end_of, has, code_in, code_of, region_of, fetch_of, IsBelow, IsLaidOut}
use Rattle.hx_mem.proofs.Writes.{has-true, has_from, has_above}
use Rattle.hx_mem.proofs.Regions.{region_has, code_of_region, code_of_none, fetch_of_region}

-- known code is what a fetch gives
pub code_parts : (r : Segment) (a n : ℕ) (xs : List ℕ) → code_in r a n ≡ Some xs → (r.exec ≡ true) × (take n (drop (a - r.start) r.bytes) ≡ xs)
unfolding code_in
code_parts r a n xs e = let p = cond_some (r.exec && not r.write) _ xs e in ((and_parts _ _ p.0).0, p.1)

pub fetch_of_code : (m : Space) (a n : ℕ) (xs : List ℕ) → code_of m.regions a n ≡ Some xs → fetch_of m a n ≡ Ok xs
fetch_of_code m a n xs e =
    elim (region_of m.regions a) as (λ o. region_of m.regions a ≡ o → fetch_of m a n ≡ Ok xs) [
      | None ↦ λ q. absurd (none-some xs (sym (code_of_none m.regions a n q) ∙ e))
      | Some r ↦ λ q. let p = code_parts r a n xs (sym (code_of_region m.regions a n r q) ∙ e) in
          fetch_of_region m a n r q ∙ cond-true _ _ _ p.0 ∙ ap Ok p.1
    ] refl

-- the region of a later byte of known code is the same
region_of_later : (rs : List Segment) (a i : ℕ) (r : Segment) → IsLaidOut rs → region_of rs a ≡ Some r → a + i < end_of r → region_of rs (a + i) ≡ Some r
region_of_later [] a i r w e l = absurd (none-some r e)
region_of_later (s ∷ rs) a i r w e l = ⊎_elim
    (λ here. let same : s ≡ r = same_Some s r (sym (cond-true (has s a) (Some s) (region_of rs a) here) ∙ e) in
    let h = has-true s a here in
    let later : a + i < end_of s = subst (λ (t : Segment). a + i < end_of t) (sym same) l in
    cond-true (has s (a + i)) (Some s) (region_of rs (a + i)) (has_from s (a + i) (omega (arith, h)) later) ∙ ap Some same)
    (λ off. let rest : region_of rs a ≡ Some r = sym (cond-false (has s a) (Some s) (region_of rs a) off) ∙ e in
    cond-false (has s (a + i)) (Some s) (region_of rs (a + i)) (below_region s rs a i r w.1.0 rest) ∙ region_of_later rs a i r w.1.1 rest l)
    (cases_Bool (has s a))
  where
    below_region : (s : Segment) (rs : List Segment) (a i : ℕ) (r : Segment) → IsBelow s rs → region_of rs a ≡ Some r → has s (a + i) ≡ false
    below_region s [] a i r b e = absurd (none-some r e)
    below_region s (t ∷ rs) a i r b e = ⊎_elim
        (λ h. has_above s (a + i) (omega (arith, b.0, has-true t a h)))
        (λ h. below_region s rs a i r b.1 (sym (cond-false (has t a) (Some t) (region_of rs a) h) ∙ e))
        (cases_Bool (has t a))

-- a fetch inside known code gives the code from there on, and then what follows it in the region
pub fetch_in_code : (m : Space) (a k i most : ℕ) (code : List ℕ) → IsLaidOut m.regions → code_of m.regions a k ≡ Some code → i < length code → length code ≡ k → (rest : List ℕ) × (fetch_of m (a + i) most ≡ Ok (take most (drop i code ++ rest)))
fetch_in_code m a k i most code w e l n =
    elim (region_of m.regions a) as (λ o. region_of m.regions a ≡ o → (rest : List ℕ) × (fetch_of m (a + i) most ≡ Ok (take most (drop i code ++ rest)))) [
      | None ↦ λ q. absurd (none-some code (sym (code_of_none m.regions a k q) ∙ e))
      | Some r ↦ λ q. let p = code_parts r a k code (sym (code_of_region m.regions a k r q) ∙ e) in
          let h = region_has m.regions a r q in
          let tail = drop (a - r.start) r.bytes in
          let long : k ≤ length tail = omega (arith, ap length p.1, length-take k tail, n) in
          let within : a + i < end_of r = omega (arith, h, long, length-drop (a - r.start) r.bytes, n, l) in
          let whole : tail ≡ code ++ drop k tail = sym (take-append-drop k tail) ∙ ap (λ xs. xs ++ drop k tail) p.1 in
          let off : a - r.start + i ≡ a + i - r.start = omega (arith, h) in
          let from : drop (a + i - r.start) r.bytes ≡ drop i code ++ drop k tail =
          ap (λ j. drop j r.bytes) (sym off) ∙ sym (drop-drop i (a - r.start) r.bytes) ∙ ap (drop i) whole ∙ drop-append-le i code (drop k tail) (omega arith) in (
            drop k tail,
            fetch_of_region m (a + i) most r (region_of_later m.regions a i r w q within) ∙ cond-true _ _ _ p.0 ∙ ap (λ xs. Ok (take most xs)) from,
          )
    ] refl

-- a fetch that stays inside known code gives a part of it
pub fetch_of_part : (m : Space) (a k i most : ℕ) (code : List ℕ) → IsLaidOut m.regions → code_of m.regions a k ≡ Some code → i < length code → length code ≡ k → i + most ≤ k → fetch_of m (a + i) most ≡ Ok (take most (drop i code))
fetch_of_part m a k i most code w e l n fits =
    let f = fetch_in_code m a k i most code w e l n in
    f.1 ∙ ap Ok (take-append-le most (drop i code) f.0 (omega (arith, length-drop i code)))
