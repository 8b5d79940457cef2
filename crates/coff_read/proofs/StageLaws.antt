-- The list of refusals in parts, and what the answer of the reader says.
use Rattle.std.proofs.Common.{◌≡◌, ◌≢◌, ℕ, true, false, List, [], ◌∷◌, ◌++◌, Some, None, Result, Ok, Err, refl, sym, ap, subst, ◌∙◌}
use Rattle.std.specs.Prelude.{find, IfOk}
use Rattle.coff_write.specs.declared.object.Object.{Object}
use Rattle.file_words.specs.Firsts.{first_of, NoneHolds, IsFirst}
use Rattle.file_words.proofs.FirstLaws.{first_skips, first_refused, first_accepted, find_first, find_none}
use Rattle.coff_read.specs.declared.refusal.ObjRefusal.{ObjRefusal}
use Rattle.coff_read.specs.declared.refusal.ObjRefusal.TheVariants.{Comdat, RelocationPlace, HybridRecord, NoMemory}
use Rattle.coff_read.specs.Refusals.{bad_symbol_range, bad_comdat, bad_relocation_place, bad_hybrid_record, holds, refusals}
use Rattle.coff_read.specs.Objects.{object_in, object_of, Tells}
use Rattle.coff_read.specs.Stages.{early_refusals, row_refusals}

abbrev last_refusals : List ObjRefusal
last_refusals = RelocationPlace ∷ HybridRecord ∷ []

abbrev late_refusals : List ObjRefusal
late_refusals = Comdat ∷ (row_refusals ++ last_refusals)

pub homes_known : (b : List ℕ) → find (holds b) early_refusals ≡ None → bad_symbol_range b ≡ false
homes_known b e = let h = find_none (holds b) early_refusals e in h.1.1.1.1.1.1.0

pub early_refused : (b : List ℕ) (k : ObjRefusal) → Some k ≡ find (holds b) early_refusals → object_of b ≡ Err k
unfolding object_of
early_refused b k e = find_first (holds b) early_refusals late_refusals (object_in b) k (sym e)

past_early : (b : List ℕ) → find (holds b) early_refusals ≡ None → object_of b ≡ first_of (holds b) late_refusals (object_in b)
unfolding object_of
past_early b e = first_skips (holds b) early_refusals late_refusals (object_in b) (find_none (holds b) early_refusals e)

pub comdat_refused : (b : List ℕ) → find (holds b) early_refusals ≡ None → true ≡ bad_comdat b → object_of b ≡ Err Comdat
comdat_refused b e t = past_early b e ∙ rw (sym t) refl

past_comdat : (b : List ℕ) → find (holds b) early_refusals ≡ None → bad_comdat b ≡ false → object_of b ≡ first_of (holds b) (row_refusals ++ last_refusals) (object_in b)
past_comdat b e f = past_early b e ∙ rw f refl

pub rows_refused : (b : List ℕ) (k : ObjRefusal) → find (holds b) early_refusals ≡ None → bad_comdat b ≡ false → Some k ≡ find (holds b) row_refusals → object_of b ≡ Err k
rows_refused b k e f g = past_comdat b e f ∙ find_first (holds b) row_refusals last_refusals (object_in b) k (sym g)

past_rows : (b : List ℕ) → find (holds b) early_refusals ≡ None → bad_comdat b ≡ false → find (holds b) row_refusals ≡ None → object_of b ≡ first_of (holds b) last_refusals (object_in b)
past_rows b e f g = past_comdat b e f ∙ first_skips (holds b) row_refusals last_refusals (object_in b) (find_none (holds b) row_refusals g)

pub place_refused : (b : List ℕ) → find (holds b) early_refusals ≡ None → bad_comdat b ≡ false → find (holds b) row_refusals ≡ None → true ≡ bad_relocation_place b → object_of b ≡ Err RelocationPlace
place_refused b e f g t = past_rows b e f g ∙ rw (sym t) refl

pub hybrid_refused : (b : List ℕ) → find (holds b) early_refusals ≡ None → bad_comdat b ≡ false → find (holds b) row_refusals ≡ None → bad_relocation_place b ≡ false → true ≡ bad_hybrid_record b → object_of b ≡ Err HybridRecord
hybrid_refused b e f g h t = past_rows b e f g ∙ rw (h, sym t) refl

pub is_read : (b : List ℕ) (o : Object) → find (holds b) early_refusals ≡ None → bad_comdat b ≡ false → find (holds b) row_refusals ≡ None → bad_relocation_place b ≡ false → bad_hybrid_record b ≡ false → o ≡ object_in b → object_of b ≡ Ok o
is_read b o e f g h k same = past_rows b e f g ∙ rw (h, k) (ap (λ (x : Object). Ok x) (sym same))

-- ---- what the clauses of `read` say beyond its exact answer

object_refused : (b : List ℕ) (k : ObjRefusal) → object_of b ≡ Err k → IsFirst (holds b) refusals k
unfolding object_of
object_refused b k e = first_refused (holds b) refusals (object_in b) k e

object_accepted : (b : List ℕ) (o : Object) → object_of b ≡ Ok o → NoneHolds (holds b) refusals × (object_in b ≡ o)
unfolding object_of
object_accepted b o e = first_accepted (holds b) refusals (object_in b) o e

pub is_refused : (b : List ℕ) (r : Result Object ObjRefusal) (k : ObjRefusal) → Tells r (object_of b) → r ≡ Err k → k ≢ NoMemory → IsFirst (holds b) refusals k
is_refused b r k given e ne = object_refused b k ((subst (λ (x : Result Object ObjRefusal). Tells x (object_of b)) e given) ne)

pub is_accepted : (b : List ℕ) (r : Result Object ObjRefusal) → Tells r (object_of b) → IfOk r (λ o. NoneHolds (holds b) refusals × (o ≡ object_in b))
is_accepted b (Ok o) given = let h = object_accepted b o given in (h.0, sym h.1)
is_accepted b (Err e) given = tt
