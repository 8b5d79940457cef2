-- Adjustors (this project's own): `__adjustor A = F , n , m ;` has the type of its target, and adds the
-- literal m to the parameter n, from 1, on the way to it.
use Rattle.std.specs.Prelude.{ℕ, ℤ, pos, neg_ℤ, ◌+◌, ◌-◌, Bool, false, not, ◌&&◌, ◌||◌, ◌==◌, nat_lt, nat_le, List, [], ◌∷◌, ◌++◌, length, Option, Some, None, is_some, Result, Ok, Err, slice_get, if◌then◌else◌}
use Rattle.c_types.specs.declared.types.Span.{Span}
use Rattle.c_types.specs.declared.types.Ty.{Ty}
use Rattle.c_types.specs.declared.types.FunTy.{FunTy}
use Rattle.c_types.specs.declared.types.Types.{Types}
use Rattle.c_tree.specs.declared.expressions.Name.{Name}
use Rattle.c_tree.specs.declared.expressions.Literal.{Literal}
use Rattle.c_program.specs.declared.expressions.Target.{Target}
use Rattle.c_program.specs.declared.expressions.Target.TheVariants as target
use Rattle.c_program.specs.declared.program.AdjustDef.{AdjustDef}
use Rattle.c_typing.specs.declared.faults.Fault.{Fault}
use Rattle.c_typing.specs.declared.faults.TypeKind.TheVariants as kind
use Rattle.c_typing.specs.declared.scopes.Meaning.{Meaning}
use Rattle.c_typing.specs.declared.scopes.Meaning.TheVariants.{Typedef, Function, Adjustor, Global}
use Rattle.c_typing.specs.declared.scopes.UnitScope.{UnitScope}
use Rattle.c_typing.specs.declared.tables.Progress.{Progress}
use Rattle.c_typing.specs.Visits.{Visit, fault, ◌>>=◌, looked}
use Rattle.c_typing.specs.Scopes.{meaning_in, service_named}
use Rattle.c_typing.specs.TypeForms.{integer_in}
use Rattle.c_typing.specs.Heads.{gives_word}
use Rattle.c_typing.specs.Externals.{no_adjustor, unless_taken, declare}

-- a target is a function or an adjustor of the unit, with its type's place
abbrev pub target_in : ℕ → Option Meaning → Result (Target × ℕ) Fault
target_in at None = Err (fault kind.BadAdjustor at)
target_in at (Some (Typedef k)) = Err (fault kind.BadAdjustor at)
target_in at (Some (Function f k)) = Ok (target.Function f, k)
target_in at (Some (Adjustor a k)) = Ok (target.Adjustor a, k)
target_in at (Some (Global g ty)) = Err (fault kind.BadAdjustor at)

-- the name of a service is declared, and is no target
abbrev pub target_named : ℕ → UnitScope → List ℕ → Result (Target × ℕ) Fault
target_named at unit name =
    if is_some (meaning_in unit.names name) || is_some (service_named name) then target_in at (meaning_in unit.names name)
    else Err (fault kind.Unknown at)

-- on x64 the first four slots are registers, and a result that goes through memory takes the first; the
-- parameters of these slots take at most seven of the eight registers of Arm64EC
abbrev pub slot_of : Types → FunTy → ℕ → ℕ
slot_of t f n = if gives_word t f.result then n else n + 1

abbrev pub is_integer : Option Ty → Bool
is_integer None = false
is_integer (Some ty) = is_some (integer_in ty)

-- a parameter, from 0, that is an integer in a register on both sides, and doesn't tell the number of
-- extra arguments
abbrev pub is_adjustable : Types → FunTy → ℕ → Bool
is_adjustable t f n = is_integer (slice_get f.params n) && nat_lt (slot_of t f n) 4 && not (f.variadic && n == length f.params - 1)

abbrev pub adjusts : Types → Option FunTy → ℕ → Bool
adjusts t None n = false
adjusts t (Some f) n = is_adjustable t f n

abbrev pub is_amount : Option Span → ℕ → Bool
is_amount None n = nat_le n 32767
is_amount (Some s) n = nat_le n 32768

abbrev pub amount_of : Option Span → ℕ → ℤ
amount_of None n = pos n
amount_of (Some s) n = neg_ℤ (pos n)

abbrev pub fits : ℕ → Types → ℕ → Literal → Option Span → Literal → Result (Unit {0}) Fault
fits at t k p m n = if not (p.value == 0) && adjusts t (slice_get t.funs k) (p.value - 1) && is_amount m n.value then Ok tt else Err (fault kind.BadAdjustor at)

abbrev pub new_adjustor : ℕ → List ℕ → (Target × ℕ) → Literal → Option Span → Literal → Progress → AdjustDef
new_adjustor unit name f p m n so = record { name = name; ty = f.1; unit = unit; number = so.defined; target = f.0; parameter = p.value - 1; amount = amount_of m n.value }

abbrev pub with_adjustor : (Progress → AdjustDef) → Progress → Progress
with_adjustor a p = record p { adjustors = p.adjustors ++ a p ∷ []; defined = p.defined + 1 }

-- an adjustor is defined where it stands, and gets the next number of the order of definition
unfoldable pub define_adjustor : (Progress → AdjustDef) → Visit Progress ℕ
define_adjustor a p = Ok (length p.adjustors, with_adjustor a p)

unfoldable pub visit_adjustor : ℕ → Name → Name → Literal → Option Span → Literal → Visit Progress (Unit {0})
visit_adjustor unit a b p m n =
    unless_taken no_adjustor a >>= (λ u.
    looked (λ so. target_named a.span.start so.scope b.text) >>= (λ f.
    looked (λ so. fits a.span.start so.tables.types f.1 p m n) >>= (λ w.
    define_adjustor (new_adjustor unit a.text f p m n) >>= (λ k.
    declare a.text (Adjustor k f.1)))))
