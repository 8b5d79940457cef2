-- A unit of at most 1,000 functions is within the limits.
use Rattle.std.proofs.Common.{◌≡◌, ℕ, zero, suc, ◌+◌, ◌*◌, ◌≤◌, Bool, true, false, List, [], ◌∷◌, ◌++◌, length, sum_by, Option, Some, None, refl, ap, ◌∙◌, arith, lit≤}
use Rattle.std.specs.Prelude.{cond, ◌-◌, nat_lt, slice_get, if◌then◌else◌}
use Rattle.std.proofs.lemmas.List.Sums.{sum_by_push}
use Rattle.std.proofs.lemmas.List.{length_push}
use Rattle.c_types.specs.declared.types.Ty.TheVariants.{Fun}
use Rattle.c_types.specs.declared.types.Types.{Types}
use Rattle.c_types.specs.Layout.{extent_within, below_limit, size_in}
use Rattle.c_lex.specs.declared.token.Token.{Token}
use Rattle.c_program.specs.declared.expressions.Target.{Target}
use Rattle.c_program.specs.declared.program.FunDef.{FunDef}
use Rattle.c_program.specs.declared.program.AdjustDef.{AdjustDef}
use Rattle.c_program.specs.declared.program.Program.{Program}
use Rattle.c_program.specs.Nodes.{function_nodes, block_nodes, program_nodes, small}
use Rattle.c_program.specs.FrameBytes.{typed_bytes, adjustor_bytes, bytes_at, frame_bytes_of}
use Rattle.c_program.proofs.NodeLaws.{place_counts, expr_counts, item_counts, stmt_counts}
use Rattle.c_program.proofs.ByteLaws.{place_sums, expr_sums, item_sums, stmt_sums}
use Rattle.c_typing.specs.Items.{init_nodes, item_nodes, unit_nodes}
use Rattle.c_typing.specs.Units.{program_of}
use Rattle.c_check.proofs.NodeLaws.{init_counts}
use Rattle.ec_report.specs.declared.kinds.LimitKind.TheVariants.{Nodes, Functions, Parameters, Extras, StructBytes, FrameBytes, GlobalBytes, NameBytes}
use Rattle.ec_limits.specs.Limits.{greatest_below, places, function_count, parameter_count, struct_bytes, frame_bytes, global_bytes, first_passed, passed}
use Rattle.gen_tokens.specs.Pieces.{joined, tokens_at}
use Rattle.gen_tokens.specs.UnitPieces.{Shape, Added, Multiplied, Pointed, Adjusted, shape_at, target_at, held_at, function_pieces, entry_pieces, entries_pieces, table_head, main_pieces}
use Rattle.gen_units.specs.Trees.{f_name, line_item, function_item, entry_init, entry_inits, table_item, main_item, function_place, main_place, items_up, unit_tree}
use Rattle.gen_laws.specs.Programs.{call_type, main_type, adjusts, callee_at, line_block, line_locals, function_block, defined_up, function_def, adjust_def, functions_up, adjustors_up, main_def, table_def, progress_main, program_at}

-- Nodes of what is no definition

line_none : (f : Shape) (k j c : ℕ) (ts : List Token) → item_nodes (line_item f k j c ts) ≡ 0
line_none Added k j c ts = refl
line_none Multiplied k j c ts = refl
line_none Pointed k j c ts = refl
line_none Adjusted k j c ts = refl

function_none : (number k : ℕ) (ts : List Token) → item_nodes (function_item number k ts) ≡ 0
function_none number zero ts = refl
function_none number (suc k) ts = line_none (shape_at number (suc k)) (suc k) (target_at number (suc k)) (held_at number (suc k)) ts

lines_nodes : (number k : ℕ) → sum_by item_nodes (items_up number k) ≡ 3
lines_nodes number zero = refl
lines_nodes number (suc k) =
    let ts = tokens_at (function_place number k) (function_pieces number k) in
    sum_by_push item_nodes (items_up number k) (function_item number k ts) ∙ omega (arith, lines_nodes number k, function_none number k ts)

entry_one : (k : ℕ) (ts : List Token) → init_nodes (entry_init k ts) ≡ 1
entry_one zero ts = simp init_counts refl
entry_one (suc k) ts = simp init_counts refl

inits_nodes : (at n : ℕ) → sum_by init_nodes (entry_inits at n) ≡ n
inits_nodes at zero = refl
inits_nodes at (suc n) =
    let ts = tokens_at (at + length (joined (entries_pieces n))) (entry_pieces n) in
    sum_by_push init_nodes (entry_inits at n) (entry_init n ts) ∙ omega (arith, inits_nodes at n, entry_one n ts)

table_nodes : (at n : ℕ) → item_nodes (table_item at n) ≡ n + 3
table_nodes at n = simp init_counts (omega (arith, inits_nodes (at + length (joined (table_head n))) n))

other_nodes : (number n : ℕ) → unit_nodes (unit_tree number n) ≡ n + 6
other_nodes number n =
    let table = table_item (function_place number n) n in
    let main = main_item n (tokens_at (main_place number n) (main_pieces n)) in
    let none : item_nodes main ≡ 0 = refl in
    sum_by_push item_nodes (items_up number n ++ table ∷ []) main ∙ omega (arith, sum_by_push item_nodes (items_up number n) table, lines_nodes number n, table_nodes (function_place number n) n, none)

-- Nodes of definitions

abbrev types : Types
types = record { tys = Fun 0 ∷ []; structs = []; funs = call_type ∷ main_type ∷ [] }

line_small : (f : Shape) (g : Target) (c : ℕ) → block_nodes (line_block f g c) ≤ 17
line_small Added g c = simp (place_counts, expr_counts, item_counts, stmt_counts) (lit≤ tt)
line_small Multiplied g c = simp (place_counts, expr_counts, item_counts, stmt_counts) (lit≤ tt)
line_small Pointed g c = simp (place_counts, expr_counts, item_counts, stmt_counts) (lit≤ tt)
line_small Adjusted g c = lit≤ tt

block_small : (number k : ℕ) → block_nodes (function_block number k) ≤ 17
block_small number zero = simp (place_counts, expr_counts, item_counts, stmt_counts) (lit≤ tt)
block_small number (suc k) = line_small (shape_at number (suc k)) (callee_at number (target_at number (suc k))) (held_at number (suc k))

function_small : (number k : ℕ) → function_nodes types.funs (function_def number k) ≤ 20
function_small number k = omega (arith, block_small number k)

sum_by_test : (b : Bool) (f : FunDef → ℕ) (fs : List FunDef) (x : FunDef) (m : ℕ) → sum_by f fs ≤ m → f x ≤ 20 → sum_by f (if b then fs else fs ++ x ∷ []) ≤ m + 20
sum_by_test true f fs x m h last = omega (arith, h)
sum_by_test false f fs x m h last = omega (arith, sum_by_push f fs x, h, last)

functions_small : (number k : ℕ) → sum_by (function_nodes types.funs) (functions_up number k) ≤ 20 * k
functions_small number zero = lit≤ tt
functions_small number (suc k) = omega (arith, sum_by_test (adjusts number k) (function_nodes types.funs) (functions_up number k) (function_def number k) (20 * k) (functions_small number k) (function_small number k))

main_small : (n : ℕ) → function_nodes types.funs (main_def n) ≤ 100
main_small n = simp (place_counts, expr_counts, item_counts, stmt_counts) (lit≤ tt)

-- How many

functions_by : (b : Bool) (fs : List FunDef) (x : FunDef) (m : ℕ) → length fs ≤ m → length (if b then fs else fs ++ x ∷ []) ≤ m + 1
functions_by true fs x m h = omega (arith, h)
functions_by false fs x m h = omega (arith, length_push fs x, h)

functions_few : (number k : ℕ) → length (functions_up number k) ≤ k
functions_few number zero = lit≤ tt
functions_few number (suc k) = omega (arith, functions_by (adjusts number k) (functions_up number k) (function_def number k) k (functions_few number k))

adjustors_by : (b : Bool) (xs : List AdjustDef) (x : AdjustDef) (m : ℕ) → length xs ≤ m → length (if b then xs ++ x ∷ [] else xs) ≤ m + 1
adjustors_by true xs x m h = omega (arith, length_push xs x, h)
adjustors_by false xs x m h = omega (arith, h)

adjustors_few : (number k : ℕ) → length (adjustors_up number k) ≤ k
adjustors_few number zero = lit≤ tt
adjustors_few number (suc k) = omega (arith, adjustors_by (adjusts number k) (adjustors_up number k) (adjust_def number k) k (adjustors_few number k))

-- Frames

abbrev low : (FunDef → ℕ) → ℕ → Option FunDef → Type 0
low f m None = Unit {0}
low f m (Some x) = f x ≤ m

low_with : (f : FunDef → ℕ) (m : ℕ) (xs : List FunDef) (x : FunDef) → ((k : ℕ) → low f m (slice_get xs k)) → f x ≤ m → (k : ℕ) → low f m (slice_get (xs ++ x ∷ []) k)
low_with f m [] x h last zero = last
low_with f m [] x h last (suc k) = tt
low_with f m (y ∷ ys) x h last zero = h zero
low_with f m (y ∷ ys) x h last (suc k) = low_with f m ys x (λ i. h (suc i)) last k

abbrev bytes : FunDef → ℕ
bytes f = typed_bytes types 0 f.body (slice_get types.funs f.ty)

line_low : (f : Shape) (g : Target) (c k d : ℕ) → bytes (record { name = f_name k; ty = 0; body = Some (record { unit = 0; number = d; locals = line_locals f; block = line_block f g c }) }) ≤ 64
unfolding extent_within
line_low Added g c k d = simp (place_sums, expr_sums, item_sums, stmt_sums) (lit≤ tt)
line_low Multiplied g c k d = simp (place_sums, expr_sums, item_sums, stmt_sums) (lit≤ tt)
line_low Pointed g c k d = simp (place_sums, expr_sums, item_sums, stmt_sums) (lit≤ tt)
line_low Adjusted g c k d = lit≤ tt

function_low : (number k : ℕ) → bytes (function_def number k) ≤ 64
unfolding extent_within
function_low number zero = simp (place_sums, expr_sums, item_sums, stmt_sums) (lit≤ tt)
function_low number (suc k) = line_low (shape_at number (suc k)) (callee_at number (target_at number (suc k))) (held_at number (suc k)) (suc k) (defined_up (suc k))

main_low : (n : ℕ) → bytes (main_def n) ≤ 64
unfolding extent_within
main_low n = simp (place_sums, expr_sums, item_sums, stmt_sums) (lit≤ tt)

low_by : (b : Bool) (f : FunDef → ℕ) (m : ℕ) (xs : List FunDef) (x : FunDef) → ((k : ℕ) → low f m (slice_get xs k)) → f x ≤ m → (k : ℕ) → low f m (slice_get (if b then xs else xs ++ x ∷ []) k)
low_by true f m xs x h last k = h k
low_by false f m xs x h last k = low_with f m xs x h last k

functions_low : (number n : ℕ) (k : ℕ) → low bytes 64 (slice_get (functions_up number n) k)
functions_low number zero k = tt
functions_low number (suc n) k = low_by (adjusts number n) bytes 64 (functions_up number n) (function_def number n) (functions_low number n) (function_low number n) k

type_low : (k : ℕ) → typed_bytes types 0 None (slice_get types.funs k) ≤ 64
unfolding extent_within
type_low zero = lit≤ tt
type_low (suc zero) = lit≤ tt
type_low (suc (suc k)) = lit≤ tt

-- the program, whose other nodes are so many
abbrev program_with : ℕ → ℕ → ℕ → Program
program_with number n others = record { types = types; globals = table_def number n ∷ []; functions = functions_up number n ++ main_def n ∷ []; adjustors = adjustors_up number n; other_nodes = others; extras = 0 }

adjustor_low : (number n others : ℕ) (a : Option AdjustDef) → adjustor_bytes (program_with number n others) a ≤ 64
adjustor_low number n others None = lit≤ tt
adjustor_low number n others (Some a) = type_low a.ty

frame_by : (number n others k : ℕ) (f : Option FunDef) → low bytes 64 f → bytes_at (program_with number n others) k f ≤ 64
frame_by number n others k None h = adjustor_low number n others (slice_get (adjustors_up number n) (k - length (functions_up number n ++ main_def n ∷ [])))
frame_by number n others k (Some f) h = h

frame_low : (number n others k : ℕ) → frame_bytes_of (program_with number n others) k ≤ 64
frame_low number n others k =
    let fs = functions_up number n ++ main_def n ∷ [] in
    frame_by number n others k (slice_get fs k) (low_with bytes 64 (functions_up number n) (main_def n) (functions_low number n) (main_low n) k)

greatest_low : (n m : ℕ) (f : ℕ → ℕ) → ((k : ℕ) → f k ≤ m) → greatest_below n f ≤ m
unfolding greatest_below
greatest_low zero m f h = omega arith
greatest_low (suc n) m f h = omega (arith, greatest_low n m f h, h n)

-- Each count

nodes_within : (number n others : ℕ) → n ≤ 1000 → others ≤ n + 6 → program_nodes (program_with number n others) ≤ 65536
nodes_within number n others most few =
    omega (arith, most, few, sum_by_push (function_nodes types.funs) (functions_up number n) (main_def n), functions_small number n, main_small n, adjustors_few number n)

functions_within : (number n others : ℕ) → n ≤ 1000 → function_count (program_with number n others) ≤ 4096
functions_within number n others most = omega (arith, most, length_push (functions_up number n) (main_def n), functions_few number n, adjustors_few number n)

parameters_within : (number n others : ℕ) → parameter_count (program_with number n others) ≤ 64
parameters_within number n others = lit≤ tt

structs_within : (number n others : ℕ) → struct_bytes (program_with number n others) ≤ 65536
unfolding greatest_below
structs_within number n others = lit≤ tt

frames_within : (number n others : ℕ) → frame_bytes (program_with number n others) ≤ 524288
frames_within number n others =
    omega (arith, greatest_low (places (function_count (program_with number n others))) 64 (frame_bytes_of (program_with number n others)) (frame_low number n others))

array_within : (b : Bool) (n : ℕ) → n ≤ 1000 → size_in (cond b (Some (record { size = n * 8; align = 8 })) None) ≤ 8000
array_within true n most = omega (arith, most)
array_within false n most = lit≤ tt

globals_within : (number n others : ℕ) → n ≤ 1000 → global_bytes (program_with number n others) ≤ 33554432
unfolding extent_within below_limit
globals_within number n others most = omega (arith, array_within (nat_lt (n * 8) 4611686018427387904) n most)

-- no count passes its number

not_over : (n most : ℕ) → n ≤ most → nat_lt most n ≡ false
not_over n most h = grind arith

none_passed : (a b c d e f g h : ℕ) → a ≤ 65536 → b ≤ 4096 → c ≤ 64 → d ≤ 256 → e ≤ 65536 → f ≤ 524288 → g ≤ 33554432 → h ≤ 255 →
    first_passed (record { which = Nodes; most = 65536; count = a } ∷ record { which = Functions; most = 4096; count = b } ∷ record { which = Parameters; most = 64; count = c } ∷ record { which = Extras; most = 256; count = d } ∷ record { which = StructBytes; most = 65536; count = e } ∷ record { which = FrameBytes; most = 524288; count = f } ∷ record { which = GlobalBytes; most = 33554432; count = g } ∷ record { which = NameBytes; most = 255; count = h } ∷ []) ≡ None
none_passed a b c d e f g h ha hb hc hd he hf hg hh =
    simp (not_over a 65536 ha, not_over b 4096 hb, not_over c 64 hc, not_over d 256 hd, not_over e 65536 he, not_over f 524288 hf, not_over g 33554432 hg, not_over h 255 hh) refl

at_within : (number n others longest : ℕ) → n ≤ 1000 → others ≤ n + 6 → longest ≤ 255 → passed (program_with number n others) longest ≡ None
unfolding passed
at_within number n others longest most few short =
    let p = program_with number n others in
    none_passed (program_nodes p) (function_count p) (parameter_count p) 0 (struct_bytes p) (frame_bytes p) (global_bytes p) longest
    (nodes_within number n others most few) (functions_within number n others most) (parameters_within number n others) (lit≤ tt) (structs_within number n others) (frames_within number n others) (globals_within number n others most) short

others : (number n : ℕ) → n ≤ 1000 → small (sum_by unit_nodes (unit_tree number n ∷ [])) ≡ n + 6
others number n most = omega (arith, other_nodes number n, most)

-- the program that the unit is
pub unit_program : (number n : ℕ) → n ≤ 1000 → program_of (unit_tree number n ∷ []) (progress_main number n) ≡ program_at number n
unit_program number n most = ap (λ (o : ℕ). program_with number n o) (others number n most)

-- and it passes no limit
pub unit_within : (number n longest : ℕ) → n ≤ 1000 → longest ≤ 255 → passed (program_at number n) longest ≡ None
unit_within number n longest most short = at_within number n (n + 6) longest most (omega arith) short
