-- Declarators of a block as items of it.
use Rattle.std.specs.Prelude.{◌≡◌, ℕ, Bool, true, Option, List, ◌++◌, map, Result, Ok, Err}
use Rattle.c_program.specs.declared.statements.Declared.{Declared}
use Rattle.c_program.specs.declared.statements.TypedItem.{TypedItem}
use Rattle.c_program.specs.declared.statements.TypedItem.TheVariants as item
use Rattle.c_typing.specs.declared.faults.Fault.{Fault}
use Rattle.c_typing.specs.declared.faults.Refusal.{Refusal}
use Rattle.c_typing.specs.declared.faults.Refusal.TheVariants as refusal
use Rattle.c_typing.specs.declared.scopes.LocalScope.{LocalScope}
use Rattle.c_typing.specs.declared.tables.Tables.{Tables}
use Rattle.c_typing.specs.declared.scopes.LocalName.{LocalName}
use Rattle.c_typing.specs.Scopes.{inside}
use Rattle.c_tree.specs.declared.expressions.Expr.{Expr}
use Rattle.c_tree.specs.declared.statements.BlockItem.{BlockItem}
use Rattle.c_program.specs.declared.statements.TypedStmt.{TypedStmt}
use Rattle.c_program.specs.declared.statements.TypedStmt.TheVariants as typed
use Rattle.c_typing.specs.declared.operands.Value.{Value}
use Rattle.c_typing.specs.declared.scopes.UnitScope.{UnitScope}
use Rattle.c_typing.specs.declared.tables.Enclosing.{Enclosing}
use Rattle.c_typing.specs.Visits.{Visit, ◌>>=◌, give, judged, optionally}
use Rattle.c_tree.specs.declared.statements.ForStart.{ForStart}
use Rattle.c_typing.specs.Statements.{Scoped, StmtVisit, visit_block, visit_value, visit_effect, visit_start, condition_of, returned}

-- declarators that come behind items
abbrev pub items_behind : List TypedItem → Result (Scoped (List Declared) × Tables) Fault → Result (Scoped (List TypedItem) × Tables) Fault
items_behind front (Ok x) = Ok (record { part = front ++ map item.Declare x.0.part; locals = x.0.locals }, x.1)
items_behind front (Err e) = Err e

-- What a call says of a part of a statement, with the scope and the tables that it leaves. Want of memory
-- says nothing.
abbrev pub LeavesScope : {A : Type 0} → Result (Scoped A × Tables) Fault → Result A Refusal → LocalScope → Tables → Type 0
LeavesScope rule (Ok x) locals t = rule ≡ Ok (record { part = x; locals = locals }, t)
LeavesScope rule (Err (refusal.Fault f)) locals t = rule ≡ Err f
LeavesScope rule (Err refusal.NoMemory) locals t = Unit {0}

-- where these blocks were around, the innermost of them is the one that goes on
abbrev pub left_block : List (List LocalName) → LocalScope → Type 0
left_block outer locals = (around : LocalScope) → outer ≡ (inside around).outer → locals ≡ around

-- a block with a scope of its own, as a statement
abbrev pub inner_block : UnitScope → Enclosing → Bool → List BlockItem → LocalScope → Visit Tables TypedStmt
inner_block unit f loop items locals = visit_block unit f loop items (inside locals) >>= (λ x. give (typed.Block x.part))

abbrev pub visit_return : UnitScope → Enclosing → ℕ → Option Expr → LocalScope → Visit Tables TypedStmt
visit_return unit f at e locals = optionally (visit_value unit locals) e >>= (λ v. judged (returned f at v) >>= (λ x. give (typed.Return x)))

-- a `for` from its first part on, in the scope that it begins
unfoldable pub visit_for_inside : UnitScope → ℕ → ForStart → Option Expr → Option Expr → StmtVisit → LocalScope → Visit Tables TypedStmt
visit_for_inside unit at a c b x locals =
    visit_start unit locals a >>= (λ first.
    optionally (visit_value unit first.locals) c >>= (λ test.
    optionally (visit_effect unit first.locals) b >>= (λ step.
    x true first.locals >>= (λ body.
    optionally (condition_of at) test >>= (λ e.
    give (typed.For first.part e step body))))))

-- an `if` with an `else` behind its parts: the rule that the condition is scalar
abbrev pub either_of : ℕ → Value → TypedStmt → TypedStmt → Visit Tables TypedStmt
either_of at v a b = condition_of at v >>= (λ e. give (typed.IfElse e a b))
