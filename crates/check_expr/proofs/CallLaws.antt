-- Calls of a function of a type, from what is passed to it.
use Rattle.std.proofs.Common.{◌≡◌, ℕ, List, Option, Some, None, Result, Ok, Err, refl, ap, ◌∙◌}
use Rattle.std.specs.Prelude.{slice_get, length, ◌-◌}
use Rattle.c_types.specs.declared.types.Ty.{Ty}
use Rattle.c_types.specs.declared.types.FunTy.{FunTy}
use Rattle.c_program.specs.declared.expressions.TypedExpr.{TypedExpr}
use Rattle.c_typing.specs.declared.faults.Fault.{Fault}
use Rattle.c_typing.specs.declared.faults.Refusal.{Refusal}
use Rattle.c_typing.specs.declared.faults.Refusal.TheVariants as refusal
use Rattle.c_typing.specs.declared.tables.Tables.{Tables}
use Rattle.c_typing.specs.declared.operands.Operand.{Operand}
use Rattle.c_typing.specs.declared.operands.Value.{Value}
use Rattle.c_typing.specs.Visits.{followed, judged, changed, give, refuse, and_then, Tells, Leaves}
use Rattle.c_typing.specs.Expressions.{given, passed, with_extras, call_of, call_at}
use Rattle.check_expr.specs.declared.arguments.Passed.{Passed}
use Rattle.check_expr.specs.Calls.{passed_to}

told : List Value → (List TypedExpr → Ty → TypedExpr) → ℕ → Tables → Result Passed Fault → Result (Operand × Tables) Fault
told vs make at t (Ok p) = Ok (given at p.result (make p.arguments p.result), with_extras p.extras t)
told vs make at t (Err e) = Err e

of-passed : (at : ℕ) (vs : List Value) (make : List TypedExpr → Ty → TypedExpr) (f : FunTy) (t : Tables) (r : Result (List TypedExpr) Fault) → passed at f.params f.variadic vs ≡ r →
    call_of at vs make (Some f) t ≡ told vs make at t (and_then r (λ es. Ok (record { arguments = es; result = f.result; extras = length vs - length f.params })))
unfolding told followed judged changed give
of-passed at vs make f t (Ok es) h = rw h refl
of-passed at vs make f t (Err e) h = rw h refl

call-told : (at : ℕ) (vs : List Value) (make : List TypedExpr → Ty → TypedExpr) (o : Option FunTy) (t : Tables) → call_of at vs make o t ≡ told vs make at t (passed_to at vs o)
unfolding told refuse
call-told at vs make None t = refl
call-told at vs make (Some f) t = of-passed at vs make f t (passed at f.params f.variadic vs) refl

pub call_passed : (at k : ℕ) (vs : List Value) (make : List TypedExpr → Ty → TypedExpr) (t : Tables) (p : Passed) → passed_to at vs (slice_get t.types.funs k) ≡ Ok p →
    call_at at k vs make t ≡ Ok (given at p.result (make p.arguments p.result), with_extras p.extras t)
unfolding told
call_passed at k vs make t p h = call-told at vs make (slice_get t.types.funs k) t ∙ ap (told vs make at t) h

pub call_left : (at k : ℕ) (vs : List Value) (make : List TypedExpr → Ty → TypedExpr) (t t' : Tables) (e : Refusal) →
    Tells (passed_to at vs (slice_get t.types.funs k)) (Err e) → Leaves (call_at at k vs make t) (Err e) t'
unfolding told
call_left at k vs make t t' (refusal.Fault f) h = call-told at vs make (slice_get t.types.funs k) t ∙ ap (told vs make at t) h
call_left at k vs make t t' refusal.NoMemory h = tt
