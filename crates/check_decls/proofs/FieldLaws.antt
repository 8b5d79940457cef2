-- Lists of fields and tags, one element at a time.
use Rattle.std.proofs.Common.{◌≡◌, ◌≢◌, ℕ, ◌+◌, ◌<◌, suc, true, false, ◌&&◌, bytes_eq, List, [], ◌∷◌, ◌++◌, take, drop, length, Some, None, slice_get, slice_set, if◌then◌else◌, ◌≤◌, zero, refl, sym, add-one, arith, ap, ◌∙◌}
use Rattle.std.proofs.Math.Bool.{and-false}
use Rattle.c_types.specs.declared.types.FieldDef.{FieldDef}
use Rattle.c_typing.specs.declared.scopes.UnitTag.{UnitTag}
use Rattle.c_typing.specs.TypeForms.{same_type}
use Rattle.c_typing.specs.Structs.{same_fields, completed}
use Rattle.check_decls.specs.Steps.{completed_tag, set_completed, completed_at}

pub same_counts : (fs gs : List FieldDef) → length fs ≢ length gs → same_fields fs gs ≡ false
same_counts [] [] h = absurd (h refl)
same_counts [] (g ∷ gs) h = refl
same_counts (f ∷ fs) [] h = refl
same_counts (f ∷ fs) (g ∷ gs) h = ap (λ b. bytes_eq f.name g.name && same_type f.ty g.ty && b) (same_counts fs gs (λ e. h (ap suc e))) ∙ and-false (bytes_eq f.name g.name && same_type f.ty g.ty)

pub shift : (name : List ℕ) (i : ℕ) (t : UnitTag) (ts : List UnitTag) → completed_at name (suc i) (t ∷ ts) ≡ t ∷ completed_at name i ts
shift name i t ts = elim (slice_get ts i) as (λ o. set_completed name (suc i) (t ∷ ts) o ≡ t ∷ set_completed name i ts o) [ None ↦ refl | Some x ↦ shift-found name i t ts x ]
  where
    shift-found : (name : List ℕ) (i : ℕ) (t : UnitTag) (ts : List UnitTag) (x : UnitTag) → set_completed name (suc i) (t ∷ ts) (Some x) ≡ t ∷ set_completed name i ts (Some x)
    shift-found name i t ts x = elim (bytes_eq x.name name) as (λ b. (if b then slice_set (t ∷ ts) (suc i) (record x { complete = true }) else t ∷ ts) ≡ t ∷ (if b then slice_set ts i (record x { complete = true }) else ts)) [ true ↦ refl | false ↦ refl ]

pub first-completed : (name : List ℕ) (t : UnitTag) (ts : List UnitTag) → completed_at name 0 (t ∷ ts) ≡ completed_tag name t ∷ ts
first-completed name t ts = elim (bytes_eq t.name name) as (λ b. (if b then slice_set (t ∷ ts) 0 (record t { complete = true }) else t ∷ ts) ≡ (if b then record t { complete = true } else t) ∷ ts) [ true ↦ refl | false ↦ refl ]

-- one more tag of those before it is completed
pub one_completed : (name : List ℕ) (tags : List UnitTag) (i : ℕ) → i < length tags →
    completed_at name i (completed (take i tags) name ++ drop i tags) ≡ completed (take (i + 1) tags) name ++ drop (i + 1) tags
one_completed name tags i h = next-completed name tags i h ∙ ap (λ n. completed (take n tags) name ++ drop n tags) (sym (add-one i))
  where
    next-completed : (name : List ℕ) (tags : List UnitTag) (i : ℕ) → i < length tags →
        completed_at name i (completed (take i tags) name ++ drop i tags) ≡ completed (take (suc i) tags) name ++ drop (suc i) tags
    next-completed name [] i h = absurd (omega (arith, h))
    next-completed name (t ∷ ts) zero h = first-completed name t ts
    next-completed name (t ∷ ts) (suc i) h =
        shift name i (completed_tag name t) (completed (take i ts) name ++ drop i ts) ∙ ap (λ xs. completed_tag name t ∷ xs) (next-completed name ts i (omega (arith, h)))

-- at the end all are
pub all_completed : (name : List ℕ) (tags : List UnitTag) (i : ℕ) → length tags ≤ i → completed (take i tags) name ++ drop i tags ≡ completed tags name
all_completed name [] zero h = refl
all_completed name [] (suc i) h = refl
all_completed name (t ∷ ts) zero h = absurd (omega (arith, h))
all_completed name (t ∷ ts) (suc i) h = ap (λ xs. completed_tag name t ∷ xs) (all_completed name ts i (omega (arith, h)))
