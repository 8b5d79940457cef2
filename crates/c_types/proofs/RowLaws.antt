-- Behind one more bracket an array comes to the same extent.
use Rattle.std.proofs.Common.{◌≡◌, ℕ, zero, suc, ◌-◌, ◌*◌, ◌<◌, ◌≤◌, max, true, false, cond, Option, Some, None, slice_get, refl, sym, ap, subst, ◌∙◌, ⊎_elim, arith}
use Rattle.std.specs.Prelude.{nat_lt}
use Rattle.std.proofs.lemmas.Bool.{cases_Bool, cond-true, cond-false, ltb-true, ltb-false, lt-ltb, le-ltb}
use Rattle.std.proofs.lemmas.Option.{none-some}
use Rattle.std.proofs.Math.Nat.{mul_assoc, mul-le-mul_right, le-mul_of_pos_right, mul-zero, min-eq_left, min-eq_right, max-eq_left, max-eq_right, le-max_left, le-max_right, min-le_left, min-le_right}
use Rattle.c_types.specs.declared.types.Ty.{Ty}
use Rattle.c_types.specs.declared.types.Ty.TheVariants.{Void, Int, Ptr, Fun, Struct, Array}
use Rattle.c_types.specs.declared.types.IntTy.TheVariants.{I8, U8, I16, U16, I32, U32, I64, U64}
use Rattle.c_types.specs.declared.types.Types.{Types}
use Rattle.c_types.specs.declared.parts.Extent.{Extent}
use Rattle.c_types.specs.declared.measure.Rows.{Rows}
use Rattle.c_types.specs.Layout.{bytes_of, below_limit, after, whole, fields_from, empty_struct, elements, element_by, struct_by, extent_by, extent_within}
use Rattle.c_types.specs.Rows.{capped, row_extent, IsRows, IsInner}
use Rattle.c_types.proofs.LayoutLaws.{within_step, within_zero}

-- ---- each extent is below the limit

same_extent : (x y : Extent) → Some x ≡ Some y → x ≡ y
same_extent x y h = cc

small_below : (n a : ℕ) (e : Extent) → below_limit n a ≡ Some e → e.size < 4611686018427387904
unfolding below_limit
small_below n a e h = ⊎_elim
    (λ t.
    let is : record { size = n; align = a } ≡ e = same_extent _ _ (sym (cond-true (nat_lt n 4611686018427387904) (Some (record { size = n; align = a })) None t) ∙ h) in
    subst (λ (x : Extent). x.size < 4611686018427387904) is (ltb-true n 4611686018427387904 t))
    (λ f. absurd (none-some e (sym (cond-false (nat_lt n 4611686018427387904) (Some (record { size = n; align = a })) None f) ∙ h)))
    (cases_Bool (nat_lt n 4611686018427387904))

-- ---- one bracket

min-up : (a b : ℕ) → a ≤ b → capped a ≤ capped b
min-up a b h = ⊎_elim
    (λ t. omega (arith, min-le_left a 4611686018427387904, h, min-eq_left {n = b} {m = 4611686018427387904} (omega (arith, ltb-true b 4611686018427387904 t))))
    (λ f. omega (arith, min-le_right a 4611686018427387904, min-eq_right {n = 4611686018427387904} {m = b} (ltb-false b 4611686018427387904 f)))
    (cases_Bool (nat_lt b 4611686018427387904))

max-le : {a b c : ℕ} → a ≤ c → b ≤ c → max a b ≤ c
max-le {a} {b} {c} h k = ⊎_elim
    (λ t. omega (arith, k, max-eq_right {n = a} {m = b} (omega (arith, ltb-true a b t))))
    (λ f. omega (arith, h, max-eq_left {n = a} {m = b} (ltb-false a b f)))
    (cases_Bool (nat_lt a b))

module _ (m n s : ℕ) where
  too_large : 0 < s → 4611686018427387904 ≤ m * (n * s) → 4611686018427387904 ≤ max (capped (m * n)) 1 * s
  too_large some over = ⊎_elim
      (λ t.
      let whole : capped (m * n) ≡ m * n = min-eq_left (omega (arith, ltb-true (m * n) 4611686018427387904 t)) in
      let up : m * n * s ≤ max (capped (m * n)) 1 * s = mul-le-mul_right s (subst (λ (k : ℕ). k ≤ max (capped (m * n)) 1) whole (le-max_left (capped (m * n)) 1)) in
      omega (arith, up, over, mul_assoc m n s))
      (λ f.
      let cut : capped (m * n) ≡ 4611686018427387904 = min-eq_right (ltb-false (m * n) 4611686018427387904 f) in
      let up : capped (m * n) * s ≤ max (capped (m * n)) 1 * s = mul-le-mul_right s (le-max_left (capped (m * n)) 1) in
      let some_more : 4611686018427387904 ≤ capped (m * n) * s = subst (λ (k : ℕ). 4611686018427387904 ≤ k * s) (sym cut) (le-mul_of_pos_right 4611686018427387904 some) in
      omega (arith, up, some_more))
      (cases_Bool (nat_lt (m * n) 4611686018427387904))

  below : 0 < s → m * (n * s) < 4611686018427387904 → m * n < 4611686018427387904
  below some under = omega (arith, le-mul_of_pos_right (m * n) some, mul_assoc m n s, under)

  small_enough : 0 < s → s < 4611686018427387904 → m * (n * s) < 4611686018427387904 → max (capped (m * n)) 1 * s < 4611686018427387904
  small_enough some small under =
      let whole : capped (m * n) ≡ m * n = min-eq_left (omega (arith, below some under)) in
      ⊎_elim
      (λ t.
      let none : max (capped (m * n)) 1 ≡ 1 = max-eq_right (omega (arith, whole, ltb-true (m * n) 1 t)) in
      omega (arith, ap (λ (k : ℕ). k * s) none, small))
      (λ f.
      let more : max (capped (m * n)) 1 ≡ m * n = max-eq_left (omega (arith, whole, ltb-false (m * n) 1 f)) ∙ whole in
      omega (arith, ap (λ (k : ℕ). k * s) more, mul_assoc m n s, under))
      (cases_Bool (nat_lt (m * n) 1))

some_size : (n s : ℕ) → 4611686018427387904 ≤ n * s → 0 < s
some_size n s over = ⊎_elim
    (λ t. ltb-true 0 s t)
    (λ f.
    let none : s ≡ zero = omega (arith, ltb-false 0 s f) in
    let never : ⊥ = omega (arith, over, ap (λ (k : ℕ). n * k) none, mul-zero n) in
    absurd never)
    (cases_Bool (nat_lt 0 s))

sizes_agree : (p m n s : ℕ) → p ≤ m → m * (n * s) < 4611686018427387904 → p * (n * s) ≡ capped (p * n) * s
sizes_agree p m n s within under = ⊎_elim
    (λ t.
    let some : 0 < s = ltb-true 0 s t in
    let up : p * n ≤ m * n = mul-le-mul_right n within in
    let whole : capped (p * n) ≡ p * n = min-eq_left (omega (arith, up, below m n s some under)) in
    sym (ap (λ (k : ℕ). k * s) whole ∙ mul_assoc p n s))
    (λ f.
    let none : s ≡ zero = omega (arith, ltb-false 0 s f) in
    ap (λ (k : ℕ). p * (n * k)) none ∙ ap (λ (k : ℕ). p * k) (mul-zero n) ∙ mul-zero p ∙ sym (mul-zero (capped (p * n))) ∙ ap (λ (k : ℕ). capped (p * n) * k) (sym none))
    (cases_Bool (nat_lt 0 s))

within_most : (m n s : ℕ) → s < 4611686018427387904 → m * (n * s) < 4611686018427387904 → max (capped (m * n)) 1 * s < 4611686018427387904
within_most m n s small under = ⊎_elim
    (λ t. small_enough m n s (ltb-true 0 s t) small under)
    (λ f.
    let none : s ≡ zero = omega (arith, ltb-false 0 s f) in
    omega (arith, ap (λ (k : ℕ). max (capped (m * n)) 1 * k) none, mul-zero (max (capped (m * n)) 1)))
    (cases_Bool (nat_lt 0 s))

module _ (p m n : ℕ) (e : Extent) (some : 0 < m) (within : p ≤ m) (small : e.size < 4611686018427387904) where
  abbrev row_of : ℕ → Option Extent
  row_of c = Some (record { size = c; align = e.align })

  cut_off : 4611686018427387904 ≤ max (capped (m * n)) 1 * e.size → row_extent (capped (p * n)) (max (capped (m * n)) 1) (Some e) ≡ None
  cut_off over = cond-false (nat_lt (max (capped (m * n)) 1 * e.size) 4611686018427387904) (row_of (capped (p * n) * e.size)) None (le-ltb (max (capped (m * n)) 1 * e.size) 4611686018427387904 over)

  elements_over : nat_lt (n * e.size) 4611686018427387904 ≡ false → elements n (Some e) ≡ None
  unfolding below_limit
  elements_over f = cond-false (nat_lt (n * e.size) 4611686018427387904) (row_of (n * e.size)) None f

  elements_in : nat_lt (n * e.size) 4611686018427387904 ≡ true → elements n (Some e) ≡ Some (record { size = n * e.size; align = e.align })
  unfolding below_limit
  elements_in t = cond-true (nat_lt (n * e.size) 4611686018427387904) (row_of (n * e.size)) None t

  outside : nat_lt (n * e.size) 4611686018427387904 ≡ false → row_extent p m (elements n (Some e)) ≡ row_extent (capped (p * n)) (max (capped (m * n)) 1) (Some e)
  outside f =
      let over : 4611686018427387904 ≤ n * e.size = ltb-false (n * e.size) 4611686018427387904 f in
      let up : 1 * (n * e.size) ≤ m * (n * e.size) = mul-le-mul_right (n * e.size) some in
      ap (row_extent p m) (elements_over f) ∙ sym (cut_off (too_large m n e.size (some_size n e.size over) (omega (arith, over, up))))

  inside : nat_lt (n * e.size) 4611686018427387904 ≡ true → row_extent p m (elements n (Some e)) ≡ row_extent (capped (p * n)) (max (capped (m * n)) 1) (Some e)
  inside t = ap (row_extent p m) (elements_in t) ∙ ⊎_elim
      (λ u.
      let under : m * (n * e.size) < 4611686018427387904 = ltb-true (m * (n * e.size)) 4611686018427387904 u in
      cond-true (nat_lt (m * (n * e.size)) 4611686018427387904) (row_of (p * (n * e.size))) None u
      ∙ ap row_of (sizes_agree p m n e.size within under)
      ∙ sym (cond-true (nat_lt (max (capped (m * n)) 1 * e.size) 4611686018427387904) (row_of (capped (p * n) * e.size)) None (lt-ltb (max (capped (m * n)) 1 * e.size) 4611686018427387904 (within_most m n e.size small under))))
      (λ f.
      let over : 4611686018427387904 ≤ m * (n * e.size) = ltb-false (m * (n * e.size)) 4611686018427387904 f in
      let some_more : 0 < e.size = some_size (m * n) e.size (omega (arith, over, mul_assoc m n e.size)) in
      cond-false (nat_lt (m * (n * e.size)) 4611686018427387904) (row_of (p * (n * e.size))) None f ∙ sym (cut_off (too_large m n e.size some_more over)))
      (cases_Bool (nat_lt (m * (n * e.size)) 4611686018427387904))

  one_bracket : row_extent p m (elements n (Some e)) ≡ row_extent (capped (p * n)) (max (capped (m * n)) 1) (Some e)
  one_bracket = ⊎_elim inside outside (cases_Bool (nat_lt (n * e.size) 4611686018427387904))

-- ---- the extent of the element is below the limit

bytes_small : (i : _) → bytes_of i < 4611686018427387904
bytes_small I8 = omega arith
bytes_small U8 = omega arith
bytes_small I16 = omega arith
bytes_small U16 = omega arith
bytes_small I32 = omega arith
bytes_small U32 = omega arith
bytes_small I64 = omega arith
bytes_small U64 = omega arith

after_small : (o : Option Extent) (e : Extent) → after o whole ≡ Some e → e.size < 4611686018427387904
after_small None e h = absurd (none-some e h)
after_small (Some x) e h = small_below _ _ e h

struct_small : (b : _) (o : Option Extent) (e : Extent) → cond b (after o whole) None ≡ Some e → e.size < 4611686018427387904
struct_small true o e h = after_small o e h
struct_small false o e h = absurd (none-some e h)

elements_small : (n : ℕ) (o : Option Extent) (e : Extent) → elements n o ≡ Some e → e.size < 4611686018427387904
elements_small n None e h = absurd (none-some e h)
elements_small n (Some x) e h = small_below _ _ e h

module _ (t : Types) (f : Ty → Option Extent) where
  structs_small : (o : _) (e : Extent) → struct_by f o ≡ Some e → e.size < 4611686018427387904
  structs_small None e h = absurd (none-some e h)
  structs_small (Some s) e h = struct_small s.complete (fields_from f empty_struct s.fields) e h

  by_small : (ty : Ty) (e : Extent) → extent_by t f ty ≡ Some e → e.size < 4611686018427387904
  by_small Void e h = absurd (none-some e h)
  by_small (Int i) e h = subst (λ (x : Extent). x.size < 4611686018427387904) (same_extent _ _ h) (bytes_small i)
  by_small (Ptr k) e h = subst (λ (x : Extent). x.size < 4611686018427387904) (same_extent _ _ h) (omega arith)
  by_small (Fun k) e h = subst (λ (x : Extent). x.size < 4611686018427387904) (same_extent _ _ h) (omega arith)
  by_small (Struct k) e h = structs_small (slice_get t.structs k) e h
  by_small (Array k n) e h = elements_small n (element_by f (slice_get t.tys k)) e h

within_small : (d : ℕ) (t : Types) (ty : Ty) (e : Extent) → extent_within d t ty ≡ Some e → e.size < 4611686018427387904
unfolding extent_within
within_small zero t ty e h = absurd (none-some e h)
within_small (suc d) t ty e h = by_small t (extent_within d t) ty e h

-- ---- a type behind one bracket

any_bracket : (p m n : ℕ) (o : Option Extent) → 0 < m → p ≤ m → ((e : Extent) → o ≡ Some e → e.size < 4611686018427387904) → row_extent p m (elements n o) ≡ row_extent (capped (p * n)) (max (capped (m * n)) 1) o
any_bracket p m n None some within small = refl
any_bracket p m n (Some e) some within small = one_bracket p m n e some within (small e refl)

module _ (t : Types) (r : Rows) (k n : ℕ) (some : 0 < r.depth) (array : r.element ≡ Array k n) where
  behind : extent_within r.depth t r.element ≡ elements n (element_by (extent_within (r.depth - 1) t) (slice_get t.tys k))
  behind = within_step r.depth t r.element some ∙ ap (extent_by t (extent_within (r.depth - 1) t)) array

  pub inner_none : slice_get t.tys k ≡ None → extent_within r.depth t r.element ≡ None
  inner_none is = behind ∙ ap (λ o. elements n (element_by (extent_within (r.depth - 1) t) o)) is

  pub inner_left : (x : Ty) → IsRows r → slice_get t.tys k ≡ Some x → IsInner t r (record { element = x; depth = r.depth - 1; count = capped (r.count * n); most = max (capped (r.most * n)) 1 })
  inner_left x is there = record {
    rows = record {
      some = omega (arith, le-max_right (capped (r.most * n)) 1);
      capped = max-le (min-le_right (r.most * n) 4611686018427387904) (omega arith);
      within = omega (arith, le-max_left (capped (r.most * n)) 1, min-up (r.count * n) (r.most * n) (mul-le-mul_right n is.within));
    };
    depth = omega (arith, some);
    extent = ap (row_extent r.count r.most) (behind ∙ ap (λ o. elements n (element_by (extent_within (r.depth - 1) t) o)) there)
        ∙ any_bracket r.count r.most n (extent_within (r.depth - 1) t x) is.some is.within (λ e h. within_small (r.depth - 1) t x e h);
  }

-- ---- before the first bracket, and where no depth is left

plain : (o : Option Extent) → ((e : Extent) → o ≡ Some e → e.size < 4611686018427387904) → o ≡ row_extent 1 1 o
plain None small = refl
plain (Some e) small =
    let same : e.size ≡ 1 * e.size = omega arith in
    ap (λ (k : ℕ). Some (record { size = k; align = e.align })) same
    ∙ sym (cond-true (nat_lt (1 * e.size) 4611686018427387904) (Some (record { size = 1 * e.size; align = e.align })) None (lt-ltb (1 * e.size) 4611686018427387904 (omega (arith, same, small e refl))))

pub no_bracket : (d : ℕ) (t : Types) (ty : Ty) → extent_within d t ty ≡ row_extent 1 1 (extent_within d t ty)
no_bracket d t ty = plain (extent_within d t ty) (λ e h. within_small d t ty e h)

pub no_depth : (d p m : ℕ) (t : Types) (ty : Ty) → d ≡ 0 → row_extent p m (extent_within d t ty) ≡ None
no_depth d p m t ty h = ap (row_extent p m) (within_zero d t ty h)
