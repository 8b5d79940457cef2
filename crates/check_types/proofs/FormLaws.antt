-- Stars and lengths in brackets, one more at a time.
use Rattle.std.proofs.Common.{◌≡◌, ℕ, ◌+◌, suc, zero, ◌<◌, Bool, true, false, List, [], ◌∷◌, drop, length, get_or, Result, Ok, Err, refl, sym, ap, ◌∙◌, arith, add-one}
use Rattle.std.proofs.lemmas.List.{drop_all}
use Rattle.std.proofs.lemmas.Bool.{false≢true}
use Rattle.std.proofs.Math.Seq.{drop-cons}
use Rattle.c_types.specs.declared.types.Ty.{Ty}
use Rattle.c_types.specs.declared.types.Ty.TheVariants.{Ptr}
use Rattle.c_types.specs.declared.types.Span.{Span}
use Rattle.c_tree.specs.declared.expressions.Literal.{Literal}
use Rattle.c_typing.specs.declared.faults.Fault.{Fault}
use Rattle.c_typing.specs.declared.faults.Refusal.{Refusal}
use Rattle.c_typing.specs.declared.faults.Refusal.TheVariants as refusal
use Rattle.c_typing.specs.declared.faults.TypeKind.TheVariants.{Incomplete}
use Rattle.c_typing.specs.declared.tables.Tables.{Tables}
use Rattle.c_typing.specs.Visits.{fault, followed, onward, give, refuse, Leaves}
use Rattle.c_typing.specs.TypeForms.{result_of, enter_type, pointer_type, array_type, array_types}

no_span : Span
no_span = record { start = 0; end = 0 }

pointers-more : (stars : List Span) (i : ℕ) (ty : Ty) (t : Tables) → i < length stars →
    pointer_type (drop i stars) ty t ≡ onward (enter_type ty t) (λ k. pointer_type (drop (i + 1) stars) (Ptr k))
unfolding pointer_type followed
pointers-more stars i ty t h =
    ap (λ ss. pointer_type ss ty t) (drop-cons stars i no_span h) ∙ ap (λ j. onward (enter_type ty t) (λ k. pointer_type (drop j stars) (Ptr k))) (sym (add-one i))

pub pointers_kept : (stars : List Span) (i : ℕ) (ty : Ty) (t t' : Tables) (k : ℕ) (whole : Result (Ty × Tables) Fault) →
    i < length stars → enter_type ty t ≡ Ok (k, t') → pointer_type (drop i stars) ty t ≡ whole → pointer_type (drop (i + 1) stars) (Ptr k) t' ≡ whole
pointers_kept stars i ty t t' k whole h e inv =
    sym (ap (λ r. onward r (λ k. pointer_type (drop (i + 1) stars) (Ptr k))) e) ∙ sym (pointers-more stars i ty t h) ∙ inv

pub pointers_left : (stars : List Span) (i : ℕ) (ty : Ty) (t t' : Tables) (e : Refusal) (whole : Result (Ty × Tables) Fault) →
    i < length stars → Leaves (enter_type ty t) (Err e) t' → pointer_type (drop i stars) ty t ≡ whole → Leaves whole (Err e) t'
pointers_left stars i ty t t' (refusal.Fault f) whole h e inv =
    sym inv ∙ pointers-more stars i ty t h ∙ ap (λ r. onward r (λ k. pointer_type (drop (i + 1) stars) (Ptr k))) e
pointers_left stars i ty t t' refusal.NoMemory whole h e inv = tt

pub arrays_begun : (at : ℕ) (ns : List Literal) (ty : Ty) (t : Tables) → array_types at (drop (length ns) ns) ty t ≡ Ok (ty, t)
unfolding array_types give
arrays_begun at ns ty t = ap (λ xs. array_types at xs ty t) (drop_all (length ns) ns (omega arith))

-- one more length
pub arrays_more : (at : ℕ) (ns : List Literal) (k j : ℕ) (d : Literal) (ty ty' : Ty) (t t' : Tables) (r : Result (Ty × Tables) Fault) →
    k < length ns → j ≡ k + 1 → array_types at (drop j ns) ty t ≡ Ok (ty', t') → array_type at (get_or ns k d).value ty' t' ≡ r →
    array_types at (drop k ns) ty t ≡ r
unfolding array_types followed
arrays_more at ns k j d ty ty' t t' r h p v e =
    ap (λ xs. array_types at xs ty t) (drop-cons ns k d h)
    ∙ ap (λ i. onward (array_types at (drop i ns) ty t) (array_type at (get_or ns k d).value)) (sym (p ∙ add-one k))
    ∙ ap (λ q. onward q (array_type at (get_or ns k d).value)) v ∙ e

-- a fault of the last lengths is the fault of all
arrays-failed : (at : ℕ) (ns : List Literal) (k : ℕ) (ty : Ty) (t : Tables) (f : Fault) → array_types at (drop k ns) ty t ≡ Err f → array_types at ns ty t ≡ Err f
unfolding array_types followed
arrays-failed at [] zero ty t f h = h
arrays-failed at [] (suc k) ty t f h = h
arrays-failed at (n ∷ ns) zero ty t f h = h
arrays-failed at (n ∷ ns) (suc k) ty t f h = ap (λ r. onward r (array_type at n.value)) (arrays-failed at ns k ty t f h)

pub arrays_left : (at : ℕ) (ns : List Literal) (k j : ℕ) (d : Literal) (ty ty' : Ty) (t t' t'' : Tables) (e : Refusal) →
    k < length ns → j ≡ k + 1 → array_types at (drop j ns) ty t ≡ Ok (ty', t') →
    Leaves (array_type at (get_or ns k d).value ty' t') (Err e) t'' → Leaves (array_types at ns ty t) (Err e) t''
arrays_left at ns k j d ty ty' t t' t'' (refusal.Fault f) h p v r = arrays-failed at ns k ty t f (arrays_more at ns k j d ty ty' t t' (Err f) h p v r)
arrays_left at ns k j d ty ty' t t' t'' refusal.NoMemory h p v r = tt

pub result_complete : (at : ℕ) (ty : Ty) (b : Bool) (t : Tables) → b ≡ true → result_of at (record { ty = ty; complete = b }) t ≡ Ok (ty, t)
unfolding give
result_complete at ty true t h = refl
result_complete at ty false t h = absurd (false≢true h)

pub result_incomplete : (at : ℕ) (ty : Ty) (b : Bool) (t : Tables) → b ≡ false → result_of at (record { ty = ty; complete = b }) t ≡ Err (fault Incomplete at)
unfolding refuse
result_incomplete at ty true t h = absurd (false≢true (sym h))
result_incomplete at ty false t h = refl
