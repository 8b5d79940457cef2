-- The visit of a whole unit, and the program that it is.
use Rattle.std.proofs.Common.{◌≡◌, ℕ, zero, suc, ◌+◌, ◌*◌, ◌<◌, ◌≤◌, Bool, true, false, List, [], ◌∷◌, ◌++◌, length, Option, Some, None, Result, Ok, Err, refl, ap, ◌∙◌, arith, append_assoc}
use Rattle.std.specs.Prelude.{codes, ◌==◌, nat_lt, nat_le, ◌||◌}
use Rattle.std.specs.List.{list_any}
use Rattle.std.specs.Option.{option_or}
use Rattle.std.proofs.lemmas.List.{length_push}
use Rattle.c_types.specs.declared.types.Span.{Span}
use Rattle.c_types.specs.declared.types.IntTy.TheVariants.{I32}
use Rattle.c_types.specs.declared.types.Ty.{Ty}
use Rattle.c_types.specs.declared.types.Ty.TheVariants.{Int, Array}
use Rattle.c_lex.specs.declared.token.Token.{Token}
use Rattle.c_tree.specs.declared.expressions.Base.TheVariants as base
use Rattle.c_tree.specs.declared.statements.BlockItem.{BlockItem}
use Rattle.c_tree.specs.declared.declarations.Item.{Item}
use Rattle.c_program.specs.declared.statements.TypedItem.{TypedItem}
use Rattle.c_program.specs.declared.program.Constant.TheVariants as constant
use Rattle.c_program.specs.declared.program.GlobalDef.{GlobalDef}
use Rattle.c_program.specs.declared.program.FunDef.{FunDef}
use Rattle.c_program.specs.declared.program.AdjustDef.{AdjustDef}
use Rattle.c_typing.specs.declared.faults.Fault.{Fault}
use Rattle.c_typing.specs.declared.scopes.LocalScope.{LocalScope}
use Rattle.c_typing.specs.declared.scopes.Meaning.TheVariants as meaning
use Rattle.c_typing.specs.declared.scopes.UnitName.{UnitName}
use Rattle.c_typing.specs.declared.tables.Progress.{Progress}
use Rattle.c_typing.specs.Visits.{onward, followed, give, refuse, looked, changed, each_in_order}
use Rattle.c_typing.specs.Scopes.{meaning_in, no_locals}
use Rattle.c_typing.specs.Statements.{visit_body, in_scopes}
use Rattle.c_typing.specs.UnitVisits.{with_scope}
use Rattle.c_typing.specs.TypeForms.{enter_function, starred, formed_type, result_type, object_type}
use Rattle.c_typing.specs.Heads.{param_types, visit_parameters, head_type, check_variadic}
use Rattle.c_typing.specs.Externals.{global_named, function_named, adjustor_named, no_function, typed_where, unless_taken, declare, enter_program_function, declare_function, no_new_function, begin_body, define_function, visit_definition, no_typedef, visit_typedef}
use Rattle.c_typing.specs.Items.{visit_item, visit_items, visit_unit, without_names}
use Rattle.c_typing.specs.Units.{nothing_yet, visit_units, item_undefined, items_undefined, is_main, has_main, missing, program_of, typed}
use Rattle.parse_terms.specs.Terminals.{name_of}
use Rattle.parse_terms.specs.TypeNames.{type_name}
use Rattle.parse_decl.specs.Params.{params}
use Rattle.parse_item.specs.ItemGrammar.{head_of}
use Rattle.gen_tokens.specs.Pieces.{joined, tokens_at}
use Rattle.gen_tokens.specs.UnitPieces.{Shape, Added, Multiplied, Pointed, Adjusted, shape_at, target_at, held_at, typedef_pieces, function_pieces, table_head, main_pieces}
use Rattle.gen_units.specs.Trees.{f_name, span_at, typedef_item, main_item, line_item, function_item, entry_inits, table_item, function_place, main_place, items_up, unit_tree}
use Rattle.gen_laws.specs.Programs.{long_type, call_type, meaning_at, names_up, locals_up, functions_up, adjustors_up, defined_up, progress_up, main_block, entries_up, callee_at, table_def, table_name, main_type, main_def, progress_behind, progress_table, progress_main}
use Rattle.gen_laws.proofs.NameLaws.{meaning_front, meaning_behind, type_means}
use Rattle.gen_laws.proofs.ListLaws.{slice_get_end, slice_set_end, no_function_named, no_adjustor_named}
use Rattle.gen_laws.proofs.BodyLaws.{main_tables, main_enclosing, main_locals, main_body}
use Rattle.gen_laws.proofs.VisitLaws.{earlier_means, single_means, function_visited}
use Rattle.gen_laws.proofs.TableLaws.{entries_visited, table_defined}

-- items behind items

append_by : (o : Result (Unit {0} × Progress) Fault) (xs ys : List Item) → ((q : Progress) → visit_items 0 (xs ++ ys) q ≡ onward (visit_items 0 xs q) (λ u. visit_items 0 ys)) →
    onward o (λ u. visit_items 0 (xs ++ ys)) ≡ onward (onward o (λ u. visit_items 0 xs)) (λ u. visit_items 0 ys)
append_by (Ok x) xs ys more = more x.1
append_by (Err e) xs ys more = refl

items_append : (xs ys : List Item) (p : Progress) → visit_items 0 (xs ++ ys) p ≡ onward (visit_items 0 xs p) (λ u. visit_items 0 ys)
unfolding visit_items followed give
items_append [] ys p = refl
items_append (x ∷ xs) ys p = append_by (visit_item 0 x p) xs ys (λ q. items_append xs ys q)

last_item : (x : Item) (q r : Progress) → visit_item 0 x q ≡ Ok (tt, r) → visit_items 0 (x ∷ []) q ≡ Ok (tt, r)
unfolding visit_items followed give
last_item x q r h = rw h refl

one_item : (xs : List Item) (x : Item) (p q r : Progress) → visit_items 0 xs p ≡ Ok (tt, q) → visit_item 0 x q ≡ Ok (tt, r) → visit_items 0 (xs ++ x ∷ []) p ≡ Ok (tt, r)
one_item xs x p q r h last = items_append xs (x ∷ []) p ∙ rw h (last_item x q r last)

-- the lines

type_visited : (ts : List Token) → visit_item 0 (typedef_item ts) (without_names nothing_yet) ≡ Ok (tt, progress_up 0 0)
unfolding visit_typedef with_scope param_types each_in_order object_type formed_type starred unless_taken no_typedef head_type result_type enter_function check_variadic declare followed give refuse looked changed
type_visited ts = refl

lines_visited : (number k : ℕ) → k < 2147483648 → visit_items 0 (items_up number k) (without_names nothing_yet) ≡ Ok (tt, progress_up number k)
lines_visited number zero h = last_item (typedef_item (tokens_at 0 typedef_pieces)) (without_names nothing_yet) (progress_up number 0) (type_visited (tokens_at 0 typedef_pieces))
lines_visited number (suc k) h =
    let ts = tokens_at (function_place number k) (function_pieces number k) in
    one_item (items_up number k) (function_item number k ts) (without_names nothing_yet) (progress_up number k) (progress_up number (suc k)) (lines_visited number k (omega (arith, h))) (function_visited number k ts (omega (arith, h)))

-- the table

entries_length : (number n : ℕ) → length (entries_up number n) ≡ n
entries_length number zero = refl
entries_length number (suc n) = length_push (entries_up number n) (constant.Function (callee_at number n)) ∙ omega (arith, entries_length number n)

some_entries : (n : ℕ) → 1 ≤ n → (n == 0) ≡ false
some_entries n h = grind arith

small_table : (n : ℕ) → n ≤ 1000 → nat_lt 33554432 (n * 8) ≡ false
small_table n h = below (n * 8) (omega (arith, h))
  where
    below : (m : ℕ) → m ≤ 8000 → nat_lt 33554432 m ≡ false
    below m h = grind arith

few_entries : (m n : ℕ) → m ≡ n → nat_le m n ≡ true
few_entries m n h = grind arith

table_visited : (number n at : ℕ) → 1 ≤ n → n ≤ 1000 → visit_item 0 (table_item at n) (progress_up number n) ≡ Ok (tt, progress_table number n)
table_visited number n at h most =
    let first = at + length (joined (table_head n)) in
    table_defined n (entry_inits first n) (entries_up number n) (tokens_at at (table_head n)) (locals_up number n) (functions_up number n) (adjustors_up number n) (defined_up n) (names_up number n)
    (type_means number n) (single_means number n (codes "table") refl (λ i. refl)) (no_function_named number n (codes "table") (λ i less. refl)) (no_adjustor_named number n (codes "table") (λ i less. refl)) (some_entries n h) (small_table n most)
    (entries_visited number n first n (record { names = names_up number n ++ table_name n ∷ []; tags = [] }) (omega arith) (λ j less. meaning_front (names_up number n) (table_name n ∷ []) (f_name j) (meaning_at number j) (earlier_means number n j (omega (arith, most)) less)))
    (few_entries (length (entries_up number n)) n (entries_length number n))

-- `main`

abbrev main_name : ℕ → UnitName
main_name f = record { name = codes "main"; meaning = meaning.Function f 1 }

main_defined : (s0 s1 : Span) (items : List BlockItem) (block : List TypedItem) (inner : LocalScope) (before locals : List Ty) (gs : List GlobalDef) (fs : List FunDef) (as' : List AdjustDef) (d : ℕ) (ns : List UnitName) →
    meaning_in ns (codes "main") ≡ None → global_named gs (codes "main") ≡ None → function_named fs (codes "main") ≡ None → adjustor_named as' (codes "main") ≡ None →
    visit_body (record { names = ns ++ main_name (length fs) ∷ []; tags = [] }) main_enclosing no_locals items (main_tables []) ≡ Ok (record { part = block; locals = inner }, main_tables locals) →
    visit_definition 0 (head_of (type_name (base.Int I32 s0) []) (name_of (codes "main") s1) (params [] None)) items (progress_behind (call_type ∷ []) before gs fs as' d ns) ≡ Ok (tt, progress_behind (call_type ∷ main_type ∷ []) locals gs (fs ++ record { name = codes "main"; ty = 1; body = Some (record { unit = 0; number = d; locals = locals; block = block }) } ∷ []) as' (d + 1) (ns ++ main_name (length fs) ∷ []))
unfolding visit_definition begin_body with_scope visit_parameters in_scopes formed_type starred declare_function unless_taken no_new_function no_function typed_where head_type result_type enter_function enter_program_function check_variadic declare define_function followed give refuse looked changed
main_defined s0 s1 items block inner before locals gs fs as' d ns new global function adjustor body = simp (new, global, function, adjustor, body, slice_get_end, slice_set_end) refl

-- behind the table and the name of `main`
unit_means : (number n f : ℕ) (x : List ℕ) → meaning_in (names_up number n) x ≡ None → meaning_in ((names_up number n ++ table_name n ∷ []) ++ main_name f ∷ []) x ≡ meaning_in (table_name n ∷ main_name f ∷ []) x
unit_means number n f x h =
    ap (λ ns. meaning_in ns x) (append_assoc (names_up number n) (table_name n ∷ []) (main_name f ∷ [])) ∙ meaning_behind (names_up number n) (table_name n ∷ main_name f ∷ []) x h

same_table : (number n f : ℕ) → meaning_in ((names_up number n ++ table_name n ∷ []) ++ main_name f ∷ []) (codes "table") ≡ Some (meaning.Global 0 (Array 0 n))
same_table number n f = unit_means number n f (codes "table") (single_means number n (codes "table") refl (λ i. refl))

main_visited : (number n : ℕ) (ts : List Token) → visit_item 0 (main_item n ts) (progress_table number n) ≡ Ok (tt, progress_main number n)
main_visited number n ts =
    let f = length (functions_up number n) in
    main_defined (span_at 0 ts) (span_at 1 ts) _ (main_block n) main_locals (locals_up number n) (Int I32 ∷ long_type ∷ []) (table_def number n ∷ []) (functions_up number n) (adjustors_up number n) (defined_up n) (names_up number n ++ table_name n ∷ [])
    (meaning_behind (names_up number n) (table_name n ∷ []) (codes "main") (single_means number n (codes "main") refl (λ i. refl))) refl (no_function_named number n (codes "main") (λ i less. refl)) (no_adjustor_named number n (codes "main") (λ i less. refl))
    (main_body (record { names = (names_up number n ++ table_name n ∷ []) ++ main_name f ∷ []; tags = [] }) n (span_at 6 ts) (span_at 7 ts) (span_at 9 ts) (span_at 11 ts) (span_at 13 ts) (span_at 15 ts) (span_at 17 ts) (span_at 18 ts) (span_at 19 ts) (span_at 21 ts) (span_at 22 ts) (span_at 23 ts) (span_at 25 ts) (span_at 26 ts) (span_at 28 ts) (span_at 29 ts) (span_at 30 ts) (span_at 31 ts) (span_at 32 ts) (span_at 33 ts) (span_at 35 ts) (span_at 36 ts) (span_at 38 ts) (span_at 40 ts) (span_at 41 ts) (span_at 43 ts) (span_at 44 ts) (span_at 45 ts) (span_at 46 ts) (span_at 47 ts) (span_at 48 ts) (span_at 50 ts) (span_at 51 ts) (span_at 52 ts) (span_at 56 ts) (span_at 57 ts) (span_at 58 ts) (span_at 63 ts) (span_at 64 ts)
    (unit_means number n f (codes "i") (single_means number n (codes "i") refl (λ i. refl))) (unit_means number n f (codes "v") (single_means number n (codes "v") refl (λ i. refl))) (unit_means number n f (codes "put_byte") (single_means number n (codes "put_byte") refl (λ i. refl))) (same_table number n f))

unit_visited : (number n : ℕ) → 1 ≤ n → n ≤ 1000 → visit_unit 0 (unit_tree number n) nothing_yet ≡ Ok (tt, progress_main number n)
unfolding visit_unit
unit_visited number n h most =
    let table = table_item (function_place number n) n in
    let main = main_item n (tokens_at (main_place number n) (main_pieces n)) in
    let start = without_names nothing_yet in
    one_item (items_up number n ++ table ∷ []) main start (progress_table number n) (progress_main number n)
    (one_item (items_up number n) table start (progress_up number n) (progress_table number n) (lines_visited number n (omega (arith, most))) (table_visited number n (function_place number n) h most))
    (main_visited number n (tokens_at (main_place number n) (main_pieces n)))

units_visited : (number n : ℕ) → 1 ≤ n → n ≤ 1000 → visit_units 0 (unit_tree number n ∷ []) nothing_yet ≡ Ok (progress_main number n)
unfolding visit_units
units_visited number n h most = rw (unit_visited number n h most) refl

-- nothing is missing

or_by : (a b c : Option ℕ) → (b ≡ None → c ≡ None) → option_or a b ≡ None → option_or a c ≡ None
or_by None b c more h = more h
or_by (Some at) b c more h = h

defined_with : (p : Progress) (xs : List Item) (x : Item) → items_undefined p xs ≡ None → item_undefined p x ≡ None → items_undefined p (xs ++ x ∷ []) ≡ None
defined_with p [] x h last = rw last refl
defined_with p (y ∷ ys) x h last = or_by (item_undefined p y) (items_undefined p ys) (items_undefined p (ys ++ x ∷ [])) (λ e. defined_with p ys x e last) h

line_defined : (p : Progress) (f : Shape) (k j c : ℕ) (ts : List Token) → item_undefined p (line_item f k j c ts) ≡ None
line_defined p Added k j c ts = refl
line_defined p Multiplied k j c ts = refl
line_defined p Pointed k j c ts = refl
line_defined p Adjusted k j c ts = refl

function_is_defined : (p : Progress) (number k : ℕ) (ts : List Token) → item_undefined p (function_item number k ts) ≡ None
function_is_defined p number zero ts = refl
function_is_defined p number (suc k) ts = line_defined p (shape_at number (suc k)) (suc k) (target_at number (suc k)) (held_at number (suc k)) ts

lines_defined : (p : Progress) (number k : ℕ) → items_undefined p (items_up number k) ≡ None
lines_defined p number zero = refl
lines_defined p number (suc k) =
    let ts = tokens_at (function_place number k) (function_pieces number k) in
    defined_with p (items_up number k) (function_item number k ts) (lines_defined p number k) (function_is_defined p number k ts)

unit_defined : (p : Progress) (number n : ℕ) → items_undefined p (unit_tree number n).items ≡ None
unit_defined p number n =
    let table = table_item (function_place number n) n in
    defined_with p (items_up number n ++ table ∷ []) (main_item n (tokens_at (main_place number n) (main_pieces n))) (defined_with p (items_up number n) table (lines_defined p number n) refl) refl

or_true : (a b : Bool) → b ≡ true → (a || b) ≡ true
or_true true b h = refl
or_true false b h = h

any_last : {A : Type 0} (test : A → Bool) (xs : List A) (x : A) → test x ≡ true → list_any test (xs ++ x ∷ []) ≡ true
any_last test [] x h = rw h refl
any_last test (y ∷ ys) x h = or_true (test y) (list_any test (ys ++ x ∷ [])) (any_last test ys x h)

main_stands : (number n : ℕ) → has_main (progress_main number n) ≡ true
main_stands number n = any_last (is_main (call_type ∷ main_type ∷ [])) (functions_up number n) (main_def n) refl

nothing_missing : (number n : ℕ) → missing (unit_tree number n ∷ []) (progress_main number n) ≡ None
unfolding missing
nothing_missing number n = rw (unit_defined (progress_main number n) number n) (rw (main_stands number n) refl)

-- the program that the unit is
pub unit_typed : (number n : ℕ) → 1 ≤ n → n ≤ 1000 → typed (unit_tree number n ∷ []) true ≡ Ok (program_of (unit_tree number n ∷ []) (progress_main number n))
unfolding typed
unit_typed number n h most = rw (units_visited number n h most) (rw (nothing_missing number n) refl)
