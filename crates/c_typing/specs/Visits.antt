-- Visits (this project's own form): a part of a program is visited from a state, into which it enters
-- what later parts rest on, and gives something and the state after it, or the first fault in it. One
-- part is visited after the other, so the first fault in the order of visit is the one that is given.
use Rattle.std.specs.Prelude.{◌≡◌, ℕ, List, [], ◌∷◌, ◌++◌, Option, Some, None, Result, Ok, Err}
use Rattle.c_typing.specs.declared.faults.Fault.{Fault}
use Rattle.c_typing.specs.declared.faults.TypeKind.{TypeKind}
use Rattle.c_typing.specs.declared.faults.Refusal.{Refusal}
use Rattle.c_typing.specs.declared.faults.Refusal.TheVariants as refusal

abbrev pub Visit : Type 0 → Type 0 → Type 0
Visit S A = S → Result (A × S) Fault

abbrev pub fault : TypeKind → ℕ → Fault
fault k at = record { kind = k; at = at }

-- what isn't there is a fault
abbrev pub or_fault : {A : Type 0} → TypeKind → ℕ → Option A → Result A Fault
or_fault k at None = Err (fault k at)
or_fault k at (Some x) = Ok x

-- what is told of something that was told
abbrev pub and_then : {A B : Type 0} → Result A Fault → (A → Result B Fault) → Result B Fault
and_then (Ok x) next = next x
and_then (Err e) next = Err e

abbrev pub onward : {S A B : Type 0} → Result (A × S) Fault → (A → Visit S B) → Result (B × S) Fault
onward (Ok x) next = next x.0 x.1
onward (Err e) next = Err e

-- the second part, from what the first gave and left
unfoldable pub followed : {S A B : Type 0} → Visit S A → (A → Visit S B) → Visit S B
followed v next s = onward (v s) next

infixr 20 ◌>>=◌
abbrev pub ◌>>=◌ : {S A B : Type 0} → Visit S A → (A → Visit S B) → Visit S B
v >>= next = followed v next

-- something that enters nothing
unfoldable pub give : {S A : Type 0} → A → Visit S A
give x s = Ok (x, s)

unfoldable pub refuse : {S A : Type 0} → TypeKind → ℕ → Visit S A
refuse k at s = Err (fault k at)

abbrev pub judged_from : {S A : Type 0} → Result A Fault → S → Result (A × S) Fault
judged_from (Ok x) s = Ok (x, s)
judged_from (Err e) s = Err e

-- what is told without the state
unfoldable pub judged : {S A : Type 0} → Result A Fault → Visit S A
judged r s = judged_from r s

-- what is told of the state, which stays
unfoldable pub looked : {S A : Type 0} → (S → Result A Fault) → Visit S A
looked f s = judged_from (f s) s

-- the state becomes another
unfoldable pub changed : {S : Type 0} → (S → S) → Visit S (Unit {0})
changed f s = Ok (tt, f s)

-- parts in order, and what each gave
unfoldable pub each_in_order : {S A : Type 0} → List (Visit S A) → Visit S (List A)
each_in_order [] = give []
each_in_order (v ∷ vs) = v >>= (λ x. each_in_order vs >>= (λ xs. give (x ∷ xs)))

-- what follows something that may be missing
abbrev pub optionally : {S A B : Type 0} → (A → Visit S B) → Option A → Visit S (Option B)
optionally visit None = give None
optionally visit (Some x) = visit x >>= (λ y. give (Some y))

-- What a call of a checker says of a rule: it gives what the rule gives, or refuses with the rule's
-- fault. Want of memory says nothing.

abbrev pub Tells : {A : Type 0} → Result A Fault → Result A Refusal → Type 0
Tells rule (Ok x) = rule ≡ Ok x
Tells rule (Err (refusal.Fault f)) = rule ≡ Err f
Tells rule (Err refusal.NoMemory) = Unit {0}

-- and of a visit, with the state that the call leaves
abbrev pub Leaves : {S A : Type 0} → Result (A × S) Fault → Result A Refusal → S → Type 0
Leaves rule (Ok x) s = rule ≡ Ok (x, s)
Leaves rule (Err (refusal.Fault f)) s = rule ≡ Err f
Leaves rule (Err refusal.NoMemory) s = Unit {0}

-- what parts in order give, behind what those before them gave
abbrev pub behind : {S A : Type 0} → List A → Result (List A × S) Fault → Result (List A × S) Fault
behind front (Ok x) = Ok (front ++ x.0, x.1)
behind front (Err e) = Err e
