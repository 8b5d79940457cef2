-- What a call says that goes on after another call, or gives up with it.
use Rattle.std.proofs.Common.{◌≡◌, Result, Ok, Err, sym, ap, subst}
use Rattle.c_typing.specs.declared.faults.Fault.{Fault}
use Rattle.c_typing.specs.declared.faults.Refusal.{Refusal}
use Rattle.c_typing.specs.declared.faults.Refusal.TheVariants as refusal
use Rattle.c_typing.specs.declared.operands.Value.{Value}
use Rattle.c_typing.specs.Conversions.{tree_of}
use Rattle.c_typing.specs.Visits.{Visit, onward, judged_from, and_then, Tells, Leaves}

-- the first part gave something
pub leaves_next : {S A B : Type 0} (rule : Result (A × S) Fault) (next : A → Visit S B) (x : A) (s : S) (r : Result B Refusal) (s' : S) →
    rule ≡ Ok (x, s) → Leaves (next x s) r s' → Leaves (onward rule next) r s'
leaves_next rule next x s r s' e h = subst (λ q. Leaves (onward q next) r s') (sym e) h

-- the first part refused
pub leaves_refused : {S A B : Type 0} (rule : Result (A × S) Fault) (next : A → Visit S B) (e : Refusal) (s s' : S) →
    Leaves {A = A} rule (Err e) s → Leaves {A = B} (onward rule next) (Err e) s'
leaves_refused rule next (refusal.Fault f) s s' h = ap (λ r. onward r next) h
leaves_refused rule next refusal.NoMemory s s' h = tt

-- the part is told without the state
pub leaves_judged : {S A : Type 0} (rule : Result A Fault) (r : Result A Refusal) (s : S) → Tells rule r → Leaves (judged_from rule s) r s
leaves_judged rule (Ok x) s h = ap (λ q. judged_from q s) h
leaves_judged rule (Err (refusal.Fault f)) s h = ap (λ q. judged_from q s) h
leaves_judged rule (Err refusal.NoMemory) s h = tt

-- a telling first part gave something, or refused
pub leaves_told : {S A : Type 0} (rule : Result A Fault) (e : Refusal) (s s' : S) → Tells {A = A} rule (Err e) → Leaves (judged_from rule s) (Err e) s'
leaves_told rule (refusal.Fault f) s s' h = ap (λ q. judged_from q s) h
leaves_told rule refusal.NoMemory s s' h = tt

pub tells_next : {A B : Type 0} (rule : Result A Fault) (next : A → Result B Fault) (x : A) (r : Result B Refusal) →
    rule ≡ Ok x → Tells (next x) r → Tells (and_then rule next) r
tells_next rule next x r e h = subst (λ q. Tells (and_then q next) r) (sym e) h

pub tells_refused : {A B : Type 0} (rule : Result A Fault) (next : A → Result B Fault) (e : Refusal) →
    Tells {A = A} rule (Err e) → Tells {A = B} (and_then rule next) (Err e)
tells_refused rule next (refusal.Fault f) h = ap (λ r. and_then r next) h
tells_refused rule next refusal.NoMemory h = tt

pub tells_tree : (rule : Result Value Fault) (e : Refusal) → Tells rule (Err e) → Tells (tree_of rule) (Err e)
tells_tree rule (refusal.Fault f) h = ap tree_of h
tells_tree rule refusal.NoMemory h = tt
