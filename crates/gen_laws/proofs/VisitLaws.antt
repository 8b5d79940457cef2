-- The visit of each line, behind those before it.
use Rattle.std.proofs.Common.{◌≡◌, ℕ, zero, suc, ◌+◌, ◌-◌, ◌*◌, ◌/◌, ◌^◌, ◌<◌, Bool, true, false, List, [], ◌∷◌, ◌++◌, Some, None, Ok, refl, subst, arith}
use Rattle.std.specs.Prelude.{bytes_eq, nat_le, codes, if◌then◌else◌}
use Rattle.std.proofs.Math.Nat.{mod-lt}
use Rattle.c_types.specs.declared.types.Span.{Span}
use Rattle.c_types.specs.declared.types.Ty.{Ty}
use Rattle.c_lex.specs.declared.token.Token.{Token}
use Rattle.c_tree.specs.declared.statements.BlockItem.{BlockItem}
use Rattle.c_program.specs.declared.expressions.Target.TheVariants as target
use Rattle.c_program.specs.declared.statements.TypedItem.{TypedItem}
use Rattle.c_typing.specs.declared.scopes.UnitScope.{UnitScope}
use Rattle.c_typing.specs.declared.scopes.LocalScope.{LocalScope}
use Rattle.c_typing.specs.declared.scopes.Meaning.{Meaning}
use Rattle.c_typing.specs.declared.scopes.Meaning.TheVariants as meaning
use Rattle.c_typing.specs.declared.operands.Designated.TheVariants as designated
use Rattle.c_typing.specs.declared.tables.Progress.{Progress}
use Rattle.c_typing.specs.Scopes.{meaning_in, of_unit}
use Rattle.c_typing.specs.Statements.{visit_body}
use Rattle.c_typing.specs.Externals.{visit_definition}
use Rattle.c_typing.specs.Adjustors.{target_in}
use Rattle.c_typing.specs.Items.{visit_item}
use Rattle.case_gen.specs.Numbers.{state_at}
use Rattle.gen_tokens.specs.UnitPieces.{Shape, Added, Multiplied, Pointed, Adjusted, shape_at, target_at, held_at}
use Rattle.gen_units.specs.Trees.{f_name, span_at, function_head, line_item, function_item}
use Rattle.gen_laws.specs.Programs.{is_adjusted, adjusts, functions_before, adjustors_before, meaning_at, callee_at, names_up, line_block, line_locals, function_block, locals_up, defined_up, adjust_def, functions_up, adjustors_up, progress_of, progress_up}
use Rattle.gen_laws.proofs.NameLaws.{meaning_front, meaning_behind, means_nothing, type_means, new_function, function_means}
use Rattle.gen_laws.proofs.ListLaws.{functions_length, adjustors_length, no_function_next, no_adjustor_next}
use Rattle.gen_laws.proofs.BodyLaws.{tables, enclosing, parameters, two, three, with_pointer, zero_body, added_body, multiplied_body, pointed_body}
use Rattle.gen_laws.proofs.DefinitionLaws.{with_function, function_defined, adjustor_defined}

-- what the name of a function designates, and is a target

designated_by : (b : Bool) (n m : ℕ) → of_unit (if b then meaning.Adjustor n 0 else meaning.Function m 0) ≡ designated.Function 0 (if b then target.Adjustor n else target.Function m)
designated_by true n m = refl
designated_by false n m = refl

designates : (number j : ℕ) → of_unit (meaning_at number j) ≡ designated.Function 0 (callee_at number j)
designates number j = designated_by (adjusts number j) (adjustors_before number j) (functions_before number j)

target_by : (b : Bool) (at n m : ℕ) → target_in at (Some (if b then meaning.Adjustor n 0 else meaning.Function m 0)) ≡ Ok ((if b then target.Adjustor n else target.Function m), 0)
target_by true at n m = refl
target_by false at n m = refl

is_target : (number at j : ℕ) → target_in at (Some (meaning_at number j)) ≡ Ok (callee_at number j, 0)
is_target number at j = target_by (adjusts number j) at (adjustors_before number j) (functions_before number j)

-- the functions before a line

pub earlier_means : (number k j : ℕ) → k < 2147483648 → j < k → meaning_in (names_up number k) (f_name j) ≡ Some (meaning_at number j)
earlier_means number k j h less =
    let more = k - suc j in
    let sum : suc (j + more) ≡ k = omega (arith, less) in
    subst (λ n. meaning_in (names_up number n) (f_name j) ≡ Some (meaning_at number j)) sum (function_means number j more (omega (arith, h, less)))

pub single_means : (number k : ℕ) (x : List ℕ) → bytes_eq (codes "fn") x ≡ false → ((i : ℕ) → bytes_eq (f_name i) x ≡ false) → meaning_in (names_up number k) x ≡ None
single_means number k x first other = means_nothing number k x first (λ i h. other i)

-- behind a line of a form

abbrev next_of : ℕ → ℕ → Bool → Shape → Progress
next_of number k b f = progress_of
    (if b then locals_up number k else line_locals f)
    (if b then functions_up number k else functions_up number k ++ record { name = f_name k; ty = 0; body = Some (record { unit = 0; number = defined_up k; locals = line_locals f; block = line_block f (callee_at number (target_at number k)) (held_at number k) }) } ∷ [])
    (if b then adjustors_up number k ++ adjust_def number k ∷ [] else adjustors_up number k)
    (defined_up k + 1)
    (names_up number k ++ record { name = f_name k; meaning = if b then meaning.Adjustor (adjustors_before number k) 0 else meaning.Function (functions_before number k) 0 } ∷ [])

target_below : (number k : ℕ) → target_at number (suc k) < suc k
target_below number k = mod-lt (drawn_from number (suc k)) (omega arith)
  where
    drawn_from : ℕ → ℕ → ℕ
    drawn_from number k = state_at number (3 * k - 1) / 2 ^ 33

held_small : (number k : ℕ) → nat_le (held_at number k) 32767 ≡ true
held_small number k = small (held_at number k) (mod-lt (state_at number (3 * k) / 2 ^ 33) (omega arith))
  where
    small : (n : ℕ) → n < 1000 → nat_le n 32767 ≡ true
    small n h = grind arith

-- a function of the unit, and an adjustor

function_line : (number k : ℕ) (s0 s2 s4 s6 s8 s10 : Span) (items : List BlockItem) (block : List TypedItem) (inner : LocalScope) (locals : List Ty) → k < 2147483648 →
    visit_body (record { names = with_function (names_up number k) k (functions_before number k); tags = [] }) enclosing parameters items (tables two) ≡ Ok (record { part = block; locals = inner }, tables locals) →
    visit_definition 0 (function_head k s0 s2 s4 s6 s8 s10) items (progress_up number k) ≡ Ok (tt, progress_of locals (functions_up number k ++ record { name = f_name k; ty = 0; body = Some (record { unit = 0; number = defined_up k; locals = locals; block = block }) } ∷ []) (adjustors_up number k) (defined_up k + 1) (with_function (names_up number k) k (functions_before number k)))
function_line number k s0 s2 s4 s6 s8 s10 items block inner locals h body =
    function_defined k s0 s2 s4 s6 s8 s10 items block inner locals (locals_up number k) (functions_up number k) (adjustors_up number k) (defined_up k) (names_up number k) (functions_before number k) (functions_length number k)
    (new_function number k h) (single_means number k (codes "a") refl (λ i. refl)) (single_means number k (codes "b") refl (λ i. refl)) (no_function_next number k h) (no_adjustor_next number k h) body

-- a function's own name is declared when its block is visited
abbrev inside_line : ℕ → ℕ → UnitScope
inside_line number k = record { names = with_function (names_up number k) k (functions_before number k); tags = [] }

inside_means : (number k : ℕ) (x : List ℕ) (m : Meaning) → meaning_in (names_up number k) x ≡ Some m → meaning_in (inside_line number k).names x ≡ Some m
inside_means number k x m h = meaning_front (names_up number k) (record { name = f_name k; meaning = meaning.Function (functions_before number k) 0 } ∷ []) x m h

inside_nothing : (number k : ℕ) → meaning_in (inside_line number k).names (codes "p") ≡ None
inside_nothing number k = meaning_behind (names_up number k) (record { name = f_name k; meaning = meaning.Function (functions_before number k) 0 } ∷ []) (codes "p") (single_means number k (codes "p") refl (λ i. refl))

line_visited : (number k : ℕ) (f : Shape) (ts : List Token) → suc k < 2147483648 → visit_item 0 (line_item f (suc k) (target_at number (suc k)) (held_at number (suc k)) ts) (progress_up number (suc k)) ≡ Ok (tt, next_of number (suc k) (is_adjusted f) f)
line_visited number k Added ts h =
    let j = target_at number (suc k) in
    function_line number (suc k) (span_at 0 ts) (span_at 2 ts) (span_at 4 ts) (span_at 6 ts) (span_at 8 ts) (span_at 10 ts) _ (line_block Added (callee_at number j) (held_at number (suc k))) parameters two h
    (added_body (inside_line number (suc k)) j (held_at number (suc k)) (meaning_at number j) (callee_at number j) (span_at 13 ts) (span_at 14 ts) (span_at 15 ts) (span_at 16 ts) (span_at 17 ts) (span_at 18 ts) (span_at 20 ts) (span_at 22 ts) (span_at 23 ts)
    (inside_means number (suc k) (f_name j) (meaning_at number j) (earlier_means number (suc k) j h (target_below number k))) (designates number j))
line_visited number k Multiplied ts h =
    let j = target_at number (suc k) in
    function_line number (suc k) (span_at 0 ts) (span_at 2 ts) (span_at 4 ts) (span_at 6 ts) (span_at 8 ts) (span_at 10 ts) _ (line_block Multiplied (callee_at number j) (held_at number (suc k))) parameters two h
    (multiplied_body (inside_line number (suc k)) j (held_at number (suc k)) (meaning_at number j) (callee_at number j) (span_at 13 ts) (span_at 14 ts) (span_at 15 ts) (span_at 16 ts) (span_at 17 ts) (span_at 18 ts) (span_at 19 ts) (span_at 20 ts) (span_at 22 ts)
    (inside_means number (suc k) (f_name j) (meaning_at number j) (earlier_means number (suc k) j h (target_below number k))) (designates number j))
line_visited number k Pointed ts h =
    let j = target_at number (suc k) in
    function_line number (suc k) (span_at 0 ts) (span_at 2 ts) (span_at 4 ts) (span_at 6 ts) (span_at 8 ts) (span_at 10 ts) _ (line_block Pointed (callee_at number j) (held_at number (suc k))) with_pointer three h
    (pointed_body (inside_line number (suc k)) j (held_at number (suc k)) (meaning_at number j) (callee_at number j) (span_at 13 ts) (span_at 14 ts) (span_at 16 ts) (span_at 18 ts) (span_at 19 ts) (span_at 20 ts) (span_at 21 ts) (span_at 22 ts) (span_at 23 ts) (span_at 25 ts)
    (inside_means number (suc k) (f_name j) (meaning_at number j) (earlier_means number (suc k) j h (target_below number k))) (designates number j)
    (inside_means number (suc k) (codes "fn") (meaning.Typedef 0) (type_means number (suc k))) (inside_nothing number (suc k)))
line_visited number k Adjusted ts h =
    let j = target_at number (suc k) in
    adjustor_defined (suc k) j (held_at number (suc k)) (meaning_at number j) (callee_at number j) (span_at 1 ts) (span_at 3 ts) (span_at 5 ts) (span_at 7 ts) (locals_up number (suc k)) (functions_up number (suc k)) (adjustors_up number (suc k)) (defined_up (suc k)) (names_up number (suc k)) (adjustors_before number (suc k)) (adjustors_length number (suc k))
    (new_function number (suc k) h) (no_function_next number (suc k) h) (no_adjustor_next number (suc k) h) (earlier_means number (suc k) j h (target_below number k)) (is_target number (span_at 1 ts).start j) (held_small number (suc k))

-- the line of each number
pub function_visited : (number k : ℕ) (ts : List Token) → k < 2147483648 → visit_item 0 (function_item number k ts) (progress_up number k) ≡ Ok (tt, progress_up number (suc k))
function_visited number zero ts h =
    function_line number 0 (span_at 0 ts) (span_at 2 ts) (span_at 4 ts) (span_at 6 ts) (span_at 8 ts) (span_at 10 ts) _ (function_block number 0) parameters two h
    (zero_body (inside_line number 0) (span_at 13 ts) (span_at 14 ts) (span_at 15 ts) (span_at 16 ts))
function_visited number (suc k) ts h = line_visited number k (shape_at number (suc k)) ts h
