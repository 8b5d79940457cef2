-- Ends and steps of loops over parts in order.
use Rattle.std.proofs.Common.{◌≡◌, ℕ, ◌+◌, ◌<◌, List, [], ◌∷◌, ◌++◌, map, drop, length, get_or, Result, Ok, Err}
use Rattle.c_typing.specs.declared.faults.Fault.{Fault}
use Rattle.c_typing.specs.declared.faults.Refusal.{Refusal}
use Rattle.c_typing.specs.declared.faults.Refusal.TheVariants as refusal
use Rattle.c_typing.specs.declared.scopes.LocalScope.{LocalScope}
use Rattle.c_typing.specs.declared.tables.Tables.{Tables}
use Rattle.c_typing.specs.Statements.{Scoped, ScopeVisit, in_scopes, scoped_behind}
use Rattle.c_typing.proofs.LoopLaws.{scopes_kept, scopes_refused}
use Rattle.check_decls.specs.Steps.{LeavesOne, LeavesAll}

-- a part that gives one thing, which is pushed
pub scopes_pushed : {A B : Type 0} (visit : A → ScopeVisit B) (xs : List A) (i : ℕ) (x : A) (front next : List B) (locals after : LocalScope) (t t' : Tables) (y : B) (whole : Result (Scoped (List B) × Tables) Fault) →
    i < length xs → x ≡ get_or xs i x → visit x locals t ≡ Ok (record { part = y ∷ []; locals = after }, t') → next ≡ front ++ y ∷ [] →
    scoped_behind front (in_scopes (map visit (drop i xs)) locals t) ≡ whole → scoped_behind next (in_scopes (map visit (drop (i + 1) xs)) after t') ≡ whole
scopes_pushed visit xs i x front next locals after t t' y whole h e v n inv =
    scopes_kept visit xs i x front next locals t t' (record { part = y ∷ []; locals = after }) whole h e v n inv

-- a call for a part refused: so does the whole
pub scopes_given_up : {A B : Type 0} (visit : A → ScopeVisit B) (xs : List A) (i : ℕ) (x : A) (front : List B) (locals after : LocalScope) (t t' : Tables) (e : Refusal) (whole : Result (Scoped (List B) × Tables) Fault) →
    i < length xs → x ≡ get_or xs i x → LeavesOne (visit x locals t) (Err e) after t' → scoped_behind front (in_scopes (map visit (drop i xs)) locals t) ≡ whole → LeavesAll whole (Err e) after t'
scopes_given_up visit xs i x front locals after t t' (refusal.Fault f) whole h w v inv = scopes_refused visit xs i x front locals t f whole h w v inv
scopes_given_up visit xs i x front locals after t t' refusal.NoMemory whole h w v inv = tt
