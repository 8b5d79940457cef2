-- What a call says of a part of a body, with the scope behind it. Want of memory says nothing.
use Rattle.std.specs.Prelude.{◌≡◌, ℕ, List, Result, Ok, Err, slice_get}
use Rattle.c_tree.specs.declared.statements.BlockItem.{BlockItem}
use Rattle.c_typing.specs.declared.faults.Fault.{Fault}
use Rattle.c_typing.specs.declared.faults.Refusal.{Refusal}
use Rattle.c_typing.specs.declared.faults.Refusal.TheVariants as refusal
use Rattle.c_typing.specs.declared.scopes.LocalScope.{LocalScope}
use Rattle.c_typing.specs.declared.tables.Progress.{Progress}
use Rattle.c_typing.specs.Visits.{Visit, ◌>>=◌, looked}
use Rattle.c_typing.specs.Statements.{Scoped, visit_body}
use Rattle.c_typing.specs.UnitVisits.{with_scope}
use Rattle.c_typing.specs.Externals.{enclosing_in, define_function}

abbrev pub LeavesScoped : {A : Type 0} → Result (Scoped A × Progress) Fault → Result (A × LocalScope) Refusal → Progress → Type 0
LeavesScoped rule (Ok x) p = rule ≡ Ok (record { part = x.0; locals = x.1 }, p)
LeavesScoped rule (Err (refusal.Fault f)) p = rule ≡ Err f
LeavesScoped rule (Err refusal.NoMemory) p = Unit {0}

-- the body of a function behind its parameters and its declaration
abbrev pub defined_behind : ℕ → (ℕ × ℕ) → LocalScope → List BlockItem → Visit Progress (Unit {0})
defined_behind unit f parameters items =
    looked (λ (p : Progress). Ok (enclosing_in (slice_get p.tables.types.funs f.1))) >>= (λ e.
    with_scope (λ s. visit_body s e parameters items) >>= (λ block.
    define_function unit f.0 block.part))
