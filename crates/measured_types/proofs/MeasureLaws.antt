-- What is known of types stays right as more types come.
use Rattle.std.proofs.Common.{◌≡◌, ◌⊎◌, ℕ, zero, suc, ◌+◌, ◌-◌, ◌<◌, ◌≤◌, max, Bool, true, false, cond, List, [], ◌∷◌, ◌++◌, length, drop, get_or, slice_get, slice_set, Option, Some, None, IfSome, refl, sym, ap, subst, ◌∙◌, inl, inr, ⊎_elim, length-append, length-set, drop-cons, arith}
use Rattle.std.proofs.lemmas.Bool.{true≢false, cases_lt}
use Rattle.std.proofs.lemmas.Option.{same_Some, none-some, slice_get_within}
use Rattle.c_types.specs.declared.types.Ty.{Ty}
use Rattle.c_types.specs.declared.types.Ty.TheVariants.{Void, Int, Ptr, Fun, Struct, Array}
use Rattle.c_types.specs.declared.types.FieldDef.{FieldDef}
use Rattle.c_types.specs.declared.types.FunTy.{FunTy}
use Rattle.c_types.specs.declared.types.StructDef.{StructDef}
use Rattle.c_types.specs.declared.types.Types.{Types}
use Rattle.c_types.specs.declared.parts.Extent.{Extent}
use Rattle.c_types.specs.Layout.{leaf_of, extent_within, extent_by, depth_of, element_by, elements, struct_by, fields_from, with_field, after, whole, empty_struct, IsSmall}
use Rattle.c_types.proofs.LayoutLaws.{within_step}
use Rattle.measured_types.specs.declared.measure.Measured.{Measured}
use Rattle.measured_types.specs.Measures.{IsExtent, IsMeasure, IsMeasureAt, IsFieldsMeasure, IsStructMeasure, AreMeasures, AreUnknown, complete_in, with_struct}

-- ---- what an extent comes from

after_some : (o : Option Extent) (then : Extent → Option Extent) (e : Extent) → after o then ≡ Some e → (x : Extent) × (o ≡ Some x) × (then x ≡ Some e)
after_some None then e h = absurd (none-some e h)
after_some (Some x) then e h = (x, refl, h)

element_some : (f : Ty → Option Extent) (o : Option Ty) (e : Extent) → element_by f o ≡ Some e → (ty : Ty) × (o ≡ Some ty) × (f ty ≡ Some e)
element_some f None e h = absurd (none-some e h)
element_some f (Some ty) e h = (ty, refl, h)

elements_some : (n : ℕ) (o : Option Extent) (e : Extent) → elements n o ≡ Some e → (x : Extent) × (o ≡ Some x) × (elements n (Some x) ≡ Some e)
elements_some n None e h = absurd (none-some e h)
elements_some n (Some x) e h = (x, refl, h)

true_of : (b : Bool) (o : Option Extent) (e : Extent) → cond b o None ≡ Some e → (b ≡ true) × (o ≡ Some e)
true_of true o e h = (refl, h)
true_of false o e h = absurd (none-some e h)

cond_at : (b : Bool) (o : Option Extent) → b ≡ true → cond b o None ≡ o
cond_at b o t = ap (λ (c : Bool). cond c o None) t

struct_some : (f : Ty → Option Extent) (o : Option StructDef) (e : Extent) → struct_by f o ≡ Some e → (s : StructDef) × (o ≡ Some s) × (s.complete ≡ true)
struct_some f None e h = absurd (none-some e h)
struct_some f (Some s) e h = (s, refl, (true_of s.complete (after (fields_from f empty_struct s.fields) whole) e h).0)

-- ---- more types, or more depth, keep each extent

-- the types of t stand in u too, and so do its complete structs
pub record Extends (t u : Types) : Type 0 where
  pub tys : (k : ℕ) (ty : Ty) → slice_get t.tys k ≡ Some ty → slice_get u.tys k ≡ Some ty
  pub structs : (k : ℕ) (s : StructDef) → slice_get t.structs k ≡ Some s → s.complete ≡ true → slice_get u.structs k ≡ Some s

module _ (f g : Ty → Option Extent) (up : (ty : Ty) (e : Extent) → f ty ≡ Some e → g ty ≡ Some e) where
  fields_up : (so : Extent) (xs : List FieldDef) (e : Extent) → fields_from f so xs ≡ Some e → fields_from g so xs ≡ Some e
  fields_up so [] e h = h
  fields_up so (x ∷ xs) e h =
      let own = after_some (f x.ty) (λ (d : Extent). after (with_field so d) (λ next. fields_from f next xs)) e h in
      let more = after_some (with_field so own.0) (λ (next : Extent). fields_from f next xs) e own.2 in
      ap (λ (o : Option Extent). after o (λ d. after (with_field so d) (λ next. fields_from g next xs))) (up x.ty own.0 own.1)
      ∙ ap (λ (o : Option Extent). after o (λ next. fields_from g next xs)) more.1
      ∙ fields_up more.0 xs e more.2

  struct_up : (s : StructDef) (e : Extent) → struct_by f (Some s) ≡ Some e → struct_by g (Some s) ≡ Some e
  struct_up s e h =
      let is = true_of s.complete (after (fields_from f empty_struct s.fields) whole) e h in
      let parts = after_some (fields_from f empty_struct s.fields) whole e is.1 in
      cond_at s.complete (after (fields_from g empty_struct s.fields) whole) is.0
      ∙ ap (λ (o : Option Extent). after o whole) (fields_up empty_struct s.fields parts.0 parts.1)
      ∙ parts.2

  element_up : (t u : Types) (k : ℕ) (e : Extent) → Extends t u → element_by f (slice_get t.tys k) ≡ Some e → element_by g (slice_get u.tys k) ≡ Some e
  element_up t u k e x h =
      let is = element_some f (slice_get t.tys k) e h in
      ap (element_by g) (x.tys k is.0 is.1) ∙ up is.0 e is.2

  by_up : (t u : Types) (ty : Ty) (e : Extent) → Extends t u → extent_by t f ty ≡ Some e → extent_by u g ty ≡ Some e
  by_up t u Void e x h = h
  by_up t u (Int i) e x h = h
  by_up t u (Ptr k) e x h = h
  by_up t u (Fun k) e x h = h
  by_up t u (Struct k) e x h =
      let is = struct_some f (slice_get t.structs k) e h in
      ap (struct_by g) (x.structs k is.0 is.1 is.2) ∙ struct_up is.0 e (ap (struct_by f) (sym is.1) ∙ h)
  by_up t u (Array k n) e x h =
      let is = elements_some n (element_by f (slice_get t.tys k)) e h in
      ap (elements n) (element_up t u k is.0 x is.1) ∙ is.2

pub grows : (t u : Types) (d c : ℕ) (ty : Ty) (e : Extent) → Extends t u → d ≤ c → extent_within d t ty ≡ Some e → extent_within c u ty ≡ Some e
unfolding extent_within
grows t u zero c ty e x le h = absurd (none-some e h)
grows t u (suc d) zero ty e x le h = let never : ⊥ = omega arith in absurd never
grows t u (suc d) (suc c) ty e x le h = let below : d ≤ c = omega arith in by_up (extent_within d t) (extent_within c u) (λ y b k. grows t u d c y b x below k) t u ty e x h

extends_self : (t : Types) → Extends t t
extends_self t = record { tys = λ k ty h. h; structs = λ k s h c. h }

-- ---- one type more

pub is_extent : (t : Types) (ty : Ty) (m : Measured) → IsMeasure t ty m → m.height ≤ depth_of t → IsExtent t ty m.extent
is_extent t ty m is le = record { extent = grows t t m.height (depth_of t) ty m.extent (extends_self t) le is.extent; small = is.small }

-- a type without parts
leaf_by : (t : Types) (f : Ty → Option Extent) (ty : Ty) (e : Extent) → leaf_of ty ≡ Some e → extent_by t f ty ≡ Some e
leaf_by t f Void e h = h
leaf_by t f (Int i) e h = h
leaf_by t f (Ptr k) e h = h
leaf_by t f (Fun k) e h = h
leaf_by t f (Struct k) e h = absurd (none-some e h)
leaf_by t f (Array k n) e h = absurd (none-some e h)

pub leaf : (t : Types) (ty : Ty) (e : Extent) → leaf_of ty ≡ Some e → IsSmall e → IsMeasure t ty (record { extent = e; height = 1 })
leaf t ty e h small = record { extent = within_step 1 t ty (omega arith) ∙ leaf_by t (extent_within 0 t) ty e h; small = small }

pub array_above : (t : Types) (k n : ℕ) (m : Measured) (e : Extent) → IsMeasureAt t k m → elements n (Some m.extent) ≡ Some e → IsSmall e → IsMeasure t (Array k n) (record { extent = e; height = m.height + 1 })
array_above t k n m e is h small =
    let one : m.height + 1 - 1 ≡ m.height = omega arith in
    record {
      extent = within_step (m.height + 1) t (Array k n) (omega arith) ∙ ap (λ d. elements n (element_by (extent_within d t) (slice_get t.tys k))) one ∙ ap (elements n) is.extent ∙ h;
      small = small;
    }

pub struct_element : (t : Types) (k s : ℕ) (m : Measured) → slice_get t.tys k ≡ Some (Struct s) → IsMeasure t (Struct s) m → IsMeasureAt t k m
struct_element t k s m h is = record { extent = ap (element_by (extent_within m.height t)) h ∙ is.extent; small = is.small }

pub struct_above : (t : Types) (s : StructDef) (m : Measured) (e : Extent) → IsFieldsMeasure t s.fields m → s.complete ≡ true → whole m.extent ≡ Some e → IsSmall e → IsStructMeasure t s (record { extent = e; height = m.height + 1 })
struct_above t s m e is complete h small =
    let one : m.height + 1 - 1 ≡ m.height = omega arith in
    record {
      some = omega arith;
      extent = ap (λ d. struct_by (extent_within d t) (Some s)) one ∙ cond_at s.complete (after (fields_from (extent_within m.height t) empty_struct s.fields) whole) complete ∙ ap (λ (o : Option Extent). after o whole) is.extent ∙ h;
      small = small;
    }

-- the fields from one on, where it and the part before it are known
field_step : (t : Types) (d : ℕ) (so next : Extent) (m : Measured) (x : FieldDef) (xs : List FieldDef) → IsMeasure t x.ty m → m.height ≤ d → with_field so m.extent ≡ Some next
    → fields_from (extent_within d t) so (x ∷ xs) ≡ fields_from (extent_within d t) next xs
field_step t d so next m x xs is le h =
    ap (λ (o : Option Extent). after o (λ e. after (with_field so e) (λ n. fields_from (extent_within d t) n xs))) (grows t t m.height d x.ty m.extent (extends_self t) le is.extent)
    ∙ ap (λ (o : Option Extent). after o (λ n. fields_from (extent_within d t) n xs)) h

drop_split : (xs : List FieldDef) (i : ℕ) (x : FieldDef) → i < length xs → x ≡ get_or xs i x → drop i xs ≡ x ∷ drop (i + 1) xs
drop_split xs i x h e =
    let next : suc i ≡ i + 1 = omega arith in
    drop-cons xs i x h ∙ ap (λ (z : FieldDef). z ∷ drop (suc i) xs) (sym e) ∙ ap (λ n. x ∷ drop n xs) next

pub fields_step : (t : Types) (xs : List FieldDef) (i : ℕ) (so own next : Measured) (x : FieldDef) → i < length xs → x ≡ get_or xs i x → IsMeasure t x.ty own
    → with_field so.extent own.extent ≡ Some next.extent → next.height ≡ max so.height own.height
    → ((d : ℕ) → so.height ≤ d → fields_from (extent_within d t) empty_struct xs ≡ fields_from (extent_within d t) so.extent (drop i xs))
    → (d : ℕ) → next.height ≤ d → fields_from (extent_within d t) empty_struct xs ≡ fields_from (extent_within d t) next.extent (drop (i + 1) xs)
fields_step t xs i so own next x lt at is sum high rest d le =
    let below : so.height ≤ d = omega arith in
    let own_below : own.height ≤ d = omega arith in
    rest d below
    ∙ ap (fields_from (extent_within d t) so.extent) (drop_split xs i x lt at)
    ∙ field_step t d so.extent next.extent own x (drop (i + 1) xs) is own_below sum

-- ---- lists with one more entry, or with another

kept_by_push : {A : Type 0} (xs ys : List A) (k : ℕ) (x : A) → slice_get xs k ≡ Some x → slice_get (xs ++ ys) k ≡ Some x
kept_by_push [] ys k x h = absurd (none-some x h)
kept_by_push (y ∷ xs) ys zero x h = h
kept_by_push (y ∷ xs) ys (suc k) x h = kept_by_push xs ys k x h

at_end : {A : Type 0} (xs : List A) (x : A) → slice_get (xs ++ x ∷ []) (length xs) ≡ Some x
at_end [] x = refl
at_end (y ∷ xs) x = at_end xs x

push_cases : {A : Type 0} (xs : List A) (y x : A) (k : ℕ) → slice_get (xs ++ y ∷ []) k ≡ Some x → (slice_get xs k ≡ Some x) ⊎ ((k ≡ length xs) × (y ≡ x))
push_cases [] y x zero h = inr (refl, same_Some y x h)
push_cases [] y x (suc k) h = absurd (none-some x h)
push_cases (z ∷ xs) y x zero h = inl h
push_cases (z ∷ xs) y x (suc k) h = ⊎_elim (λ old. inl old) (λ new. inr (ap suc new.0, new.1)) (push_cases xs y x k h)

set_cases : {A : Type 0} (xs : List A) (place : ℕ) (y x : A) (k : ℕ) → slice_get (slice_set xs place y) k ≡ Some x → (slice_get xs k ≡ Some x) ⊎ ((k ≡ place) × (y ≡ x))
set_cases [] place y x k h = absurd (none-some x h)
set_cases (z ∷ xs) zero y x zero h = inr (refl, same_Some y x h)
set_cases (z ∷ xs) zero y x (suc k) h = inl h
set_cases (z ∷ xs) (suc place) y x zero h = inl h
set_cases (z ∷ xs) (suc place) y x (suc k) h = ⊎_elim (λ old. inl old) (λ new. inr (ap suc new.0, new.1)) (set_cases xs place y x k h)

at_set : {A : Type 0} (xs : List A) (place : ℕ) (y : A) → place < length xs → slice_get (slice_set xs place y) place ≡ Some y
at_set [] place y h = let never : ⊥ = omega arith in absurd never
at_set (z ∷ xs) zero y h = refl
at_set (z ∷ xs) (suc place) y h = at_set xs place y (omega arith)

kept_by_set : (xs : List StructDef) (place : ℕ) (y : StructDef) (k : ℕ) (s : StructDef) → complete_in (slice_get xs place) ≡ false → slice_get xs k ≡ Some s → s.complete ≡ true → slice_get (slice_set xs place y) k ≡ Some s
kept_by_set [] place y k s n h c = h
kept_by_set (z ∷ xs) zero y zero s n h c = absurd (true≢false (sym c ∙ ap (λ (o : Option StructDef). complete_in o) (sym h) ∙ n))
kept_by_set (z ∷ xs) zero y (suc k) s n h c = h
kept_by_set (z ∷ xs) (suc place) y zero s n h c = h
kept_by_set (z ∷ xs) (suc place) y (suc k) s n h c = kept_by_set xs place y k s n h c

if_some : {A : Type 0} (P : A → Type 0) (o : Option A) (x : A) → o ≡ Some x → IfSome o P → P x
if_some {A = A} P o x e h = let Q : Option A → Type 0 = λ p. IfSome p P in subst Q e h

-- ---- what is known of types is known of more types

extends_by_ty : (t : Types) (ty : Ty) → Extends t (record t { tys = t.tys ++ ty ∷ [] })
extends_by_ty t ty = record { tys = λ k y h. kept_by_push t.tys (ty ∷ []) k y h; structs = λ k s h c. h }

extends_by_fun : (t : Types) (f : FunTy) → Extends t (record t { funs = t.funs ++ f ∷ [] })
extends_by_fun t f = record { tys = λ k y h. h; structs = λ k s h c. h }

extends_by_struct : (t : Types) (s : StructDef) → Extends t (record t { structs = t.structs ++ s ∷ [] })
extends_by_struct t s = record { tys = λ k y h. h; structs = λ k y h c. kept_by_push t.structs (s ∷ []) k y h }

extends_by_set : (t : Types) (place : ℕ) (s : StructDef) → complete_in (slice_get t.structs place) ≡ false → Extends t (with_struct t place s)
extends_by_set t place s n = record { tys = λ k y h. h; structs = λ k y h c. kept_by_set t.structs place s k y n h c }

module _ (t u : Types) (x : Extends t u) where
  measure_up : (ty : Ty) (m : Measured) → IsMeasure t ty m → IsMeasure u ty m
  measure_up ty m is = record { extent = grows t u m.height m.height ty m.extent x (omega arith) is.extent; small = is.small }

  measure_at_up : (k : ℕ) (m : Measured) → IsMeasureAt t k m → IsMeasureAt u k m
  measure_at_up k m is = record {
    extent = element_up (extent_within m.height t) (extent_within m.height u) (λ ty e h. grows t u m.height m.height ty e x (omega arith) h) t u k m.extent x is.extent;
    small = is.small;
  }

  struct_measure_up : (s : StructDef) (m : Measured) → IsStructMeasure t s m → IsStructMeasure u s m
  struct_measure_up s m is = record {
    some = is.some;
    extent = struct_up (extent_within (m.height - 1) t) (extent_within (m.height - 1) u) (λ ty e h. grows t u (m.height - 1) (m.height - 1) ty e x (omega arith) h) s m.extent is.extent;
    small = is.small;
  }

-- a type at a place
placed : (t : Types) (k : ℕ) (ty : Ty) (m : Measured) → slice_get t.tys k ≡ Some ty → IsMeasure t ty m → IsMeasureAt t k m
placed t k ty m h is = record { extent = ap (element_by (extent_within m.height t)) h ∙ is.extent; small = is.small }

-- a struct at a place
struct_placed : (t : Types) (k : ℕ) (s : StructDef) (m : Measured) → slice_get t.structs k ≡ Some s → IsStructMeasure t s m → IsMeasure t (Struct k) m
struct_placed t k s m h is = record {
  extent = within_step m.height t (Struct k) is.some ∙ ap (struct_by (extent_within (m.height - 1) t)) h ∙ is.extent;
  small = is.small;
}

module _ (t : Types) (tys structs : List (Option Measured)) where
  pub ty_pushed : (ty : Ty) (o : Option Measured) → AreMeasures t tys structs → IfSome o (λ m. IsMeasure t ty m) → AreMeasures (record t { tys = t.tys ++ ty ∷ [] }) (tys ++ o ∷ []) structs
  ty_pushed ty o are is =
      let u : Types = record t { tys = t.tys ++ ty ∷ [] } in
      let x : Extends t u = extends_by_ty t ty in
      record {
        elements_length = length-append tys (o ∷ []) ∙ ap (λ n. n + 1) are.elements_length ∙ sym (length-append t.tys (ty ∷ []));
        structs_length = are.structs_length;
        elements_known = λ k m h. ⊎_elim
            (λ old. measure_at_up t u x k m (are.elements_known k m old))
            (λ new. placed u k ty m (subst (λ n. slice_get u.tys n ≡ Some ty) (sym (new.0 ∙ are.elements_length)) (at_end t.tys ty)) (measure_up t u x ty m (if_some (λ m. IsMeasure t ty m) o m new.1 is)))
            (push_cases tys o (Some m) k h);
        structs_known = λ k m h. measure_up t u x (Struct k) m (are.structs_known k m h);
      }

  pub fun_pushed : (f : FunTy) → AreMeasures t tys structs → AreMeasures (record t { funs = t.funs ++ f ∷ [] }) tys structs
  fun_pushed f are =
      let u : Types = record t { funs = t.funs ++ f ∷ [] } in
      let x : Extends t u = extends_by_fun t f in
      record {
        elements_length = are.elements_length;
        structs_length = are.structs_length;
        elements_known = λ k m h. measure_at_up t u x k m (are.elements_known k m h);
        structs_known = λ k m h. measure_up t u x (Struct k) m (are.structs_known k m h);
      }

  pub struct_pushed : (s : StructDef) (o : Option Measured) → AreMeasures t tys structs → IfSome o (λ m. IsStructMeasure t s m) → AreMeasures (record t { structs = t.structs ++ s ∷ [] }) tys (structs ++ o ∷ [])
  struct_pushed s o are is =
      let u : Types = record t { structs = t.structs ++ s ∷ [] } in
      let x : Extends t u = extends_by_struct t s in
      record {
        elements_length = are.elements_length;
        structs_length = length-append structs (o ∷ []) ∙ ap (λ n. n + 1) are.structs_length ∙ sym (length-append t.structs (s ∷ []));
        elements_known = λ k m h. measure_at_up t u x k m (are.elements_known k m h);
        structs_known = λ k m h. ⊎_elim
            (λ old. measure_up t u x (Struct k) m (are.structs_known k m old))
            (λ new. struct_placed u k s m (subst (λ n. slice_get u.structs n ≡ Some s) (sym (new.0 ∙ are.structs_length)) (at_end t.structs s)) (struct_measure_up t u x s m (if_some (λ m. IsStructMeasure t s m) o m new.1 is)))
            (push_cases structs o (Some m) k h);
      }

  -- a struct in the place of an incomplete one
  pub struct_completed : (place : ℕ) (s : StructDef) → complete_in (slice_get t.structs place) ≡ false → AreMeasures t tys structs → AreMeasures (with_struct t place s) tys structs
  struct_completed place s n are =
      let u : Types = with_struct t place s in
      let x : Extends t u = extends_by_set t place s n in
      record {
        elements_length = are.elements_length;
        structs_length = are.structs_length ∙ sym (length-set t.structs place s);
        elements_known = λ k m h. measure_at_up t u x k m (are.elements_known k m h);
        structs_known = λ k m h. measure_up t u x (Struct k) m (are.structs_known k m h);
      }

  -- or of any other, with all forgotten
  pub struct_changed : (place : ℕ) (s : StructDef) → length tys ≡ length t.tys → length structs ≡ length t.structs → AreUnknown tys → AreUnknown structs → AreMeasures (with_struct t place s) tys structs
  struct_changed place s el sl e n = record {
    elements_length = el;
    structs_length = sl ∙ sym (length-set t.structs place s);
    elements_known = λ k m h. absurd (e k m h);
    structs_known = λ k m h. absurd (n k m h);
  }

  -- and that struct's own measure
  pub struct_measured : (place : ℕ) (s : StructDef) (o : Option Measured) → AreMeasures (with_struct t place s) tys structs → IfSome o (λ m. IsStructMeasure (with_struct t place s) s m)
      → AreMeasures (with_struct t place s) tys (slice_set structs place o)
  struct_measured place s o are is =
      let u : Types = with_struct t place s in
      record {
        elements_length = are.elements_length;
        structs_length = length-set structs place o ∙ are.structs_length;
        elements_known = are.elements_known;
        structs_known = λ k m h. ⊎_elim
            (λ old. are.structs_known k m old)
            (λ new.
            let within : place < length t.structs = omega (arith, slice_get_within (slice_set structs place o) k (Some m) h, length-set structs place o, length-set t.structs place s, are.structs_length, new.0) in
            struct_placed u k s m (subst (λ n. slice_get u.structs n ≡ Some s) (sym new.0) (at_set t.structs place s within)) (if_some (λ m. IsStructMeasure u s m) o m new.1 is))
            (set_cases structs place o (Some m) k h);
      }

module _ (t : Types) (tys structs : List (Option Measured)) where
  -- nothing is known yet
  pub none_noted : length tys ≡ length t.tys → length structs ≡ length t.structs → AreUnknown tys → AreUnknown structs → AreMeasures t tys structs
  none_noted el sl e n = record {
    elements_length = el;
    structs_length = sl;
    elements_known = λ k m h. absurd (e k m h);
    structs_known = λ k m h. absurd (n k m h);
  }

  -- a type of the list is noted
  pub element_noted : (place : ℕ) (ty : Ty) (o : Option Measured) → slice_get t.tys place ≡ Some ty → AreMeasures t tys structs → IfSome o (λ m. IsMeasure t ty m) → AreMeasures t (slice_set tys place o) structs
  element_noted place ty o at are is = record {
    elements_length = length-set tys place o ∙ are.elements_length;
    structs_length = are.structs_length;
    elements_known = λ k m h. ⊎_elim
        (λ old. are.elements_known k m old)
        (λ new. placed t k ty m (subst (λ n. slice_get t.tys n ≡ Some ty) (sym new.0) at) (if_some (λ m. IsMeasure t ty m) o m new.1 is))
        (set_cases tys place o (Some m) k h);
    structs_known = are.structs_known;
  }

  -- a struct of the list is noted
  pub struct_noted : (place : ℕ) (s : StructDef) (o : Option Measured) → slice_get t.structs place ≡ Some s → AreMeasures t tys structs → IfSome o (λ m. IsStructMeasure t s m) → AreMeasures t tys (slice_set structs place o)
  struct_noted place s o at are is = record {
    elements_length = are.elements_length;
    structs_length = length-set structs place o ∙ are.structs_length;
    elements_known = are.elements_known;
    structs_known = λ k m h. ⊎_elim
        (λ old. are.structs_known k m old)
        (λ new. struct_placed t k s m (subst (λ n. slice_get t.structs n ≡ Some s) (sym new.0) at) (if_some (λ m. IsStructMeasure t s m) o m new.1 is))
        (set_cases structs place o (Some m) k h);
  }

pub struct_measure_completed : (t : Types) (place : ℕ) (s : StructDef) (o : Option Measured) → complete_in (slice_get t.structs place) ≡ false → IfSome o (λ m. IsStructMeasure t s m) → IfSome o (λ m. IsStructMeasure (with_struct t place s) s m)
struct_measure_completed t place s None n is = tt
struct_measure_completed t place s (Some m) n is = struct_measure_up t (with_struct t place s) (extends_by_set t place s n) s m is

below_or_at : (k i : ℕ) → k < i + 1 → (k < i) ⊎ (k ≡ i)
below_or_at k i lt = ⊎_elim (λ below. inl below) (λ past. inr (omega arith)) (cases_lt k i)

-- an entry that is forgotten, behind others
pub forgotten : (xs : List (Option Measured)) (i : ℕ) → ((k : ℕ) (m : Measured) → k < i → slice_get xs k ≡ Some (Some m) → ⊥)
    → (k : ℕ) (m : Measured) → k < i + 1 → slice_get (slice_set xs i None) k ≡ Some (Some m) → ⊥
forgotten xs i none k m lt h = ⊎_elim
    (λ old. ⊎_elim
    (λ below. none k m below old)
    (λ at.
    let within : i < length xs = omega (arith, slice_get_within xs k (Some m) old, at) in
    let same : ◌≡◌ {A = Option (Option Measured)} (Some None) (Some (Some m)) = sym (at_set xs i None within) ∙ ap (slice_get (slice_set xs i None)) (sym at) ∙ h in
    none-some m (same_Some None (Some m) same))
    (below_or_at k i lt))
    (λ new. none-some m new.1)
    (set_cases xs i None (Some m) k h)

-- ---- what is known, where the program names it otherwise

pub along : (t u : Types) (xs ys zs ws : List (Option Measured)) → t ≡ u → xs ≡ ys → zs ≡ ws → AreMeasures t xs zs → AreMeasures u ys ws
along t u xs ys zs ws a b c h =
    subst (λ (v : Types). AreMeasures v ys ws) a (subst (λ (l : List (Option Measured)). AreMeasures t l ws) b (subst (λ (l : List (Option Measured)). AreMeasures t xs l) c h))

pub along_measure : (t u : Types) (ty : Ty) (o : Option Measured) → t ≡ u → IfSome o (λ m. IsMeasure t ty m) → IfSome o (λ m. IsMeasure u ty m)
along_measure t u ty o a h = subst (λ (v : Types). IfSome o (λ m. IsMeasure v ty m)) a h

pub along_struct_measure : (t u : Types) (s : StructDef) (o : Option Measured) → t ≡ u → IfSome o (λ m. IsStructMeasure t s m) → IfSome o (λ m. IsStructMeasure u s m)
along_struct_measure t u s o a h = subst (λ (v : Types). IfSome o (λ m. IsStructMeasure v s m)) a h
