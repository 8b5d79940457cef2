-- How long a unit's text is, and its names.
use Rattle.std.proofs.Common.{◌≡◌, ℕ, zero, suc, ◌+◌, ◌*◌, ◌-◌, ◌^◌, ◌<◌, ◌≤◌, max, Bool, true, false, List, [], ◌∷◌, ◌++◌, length, refl, arith, lit≤, length-append}
use Rattle.std.specs.Prelude.{codes, decimal, nat_le, ◌&&◌, ◌==◌, if◌then◌else◌}
use Rattle.std.proofs.lemmas.Fmt.{length-decimal-le}
use Rattle.case_gen.specs.declared.units.Form.{Form}
use Rattle.case_gen.specs.declared.units.Form.TheVariants as form
use Rattle.case_gen.specs.Units.{line_of, choice_at, function_at, functions_of, entry_of, entries_of, table_of, main_of, unit_of}
use Rattle.ec_units.specs.Verdicts.{longest_in}
use Rattle.gen_tokens.specs.Pieces.{Piece, Space, Line, Reserved, Called, Function, Constant, Sign, text_of, tokens_at, AreSmall}
use Rattle.gen_tokens.specs.UnitPieces.{Shape, Added, Multiplied, Pointed, Adjusted, shape_at, target_at, held_at, typedef_pieces, line_pieces, function_pieces, functions_pieces, entry_pieces, entries_pieces, table_head, table_end, table_pieces, main_pieces, unit_pieces, unit_tokens}
use Rattle.gen_tokens.proofs.UnitLaws.{drawn_below, unit_small}

-- identifiers that aren't a function's

abbrev all_short : List Piece → Bool
all_short [] = true
all_short (Called x ∷ ps) = nat_le (length x) 255 && all_short ps
all_short (_ ∷ ps) = all_short ps

and_both : (a b c : Bool) → (b ≡ true → c ≡ true) → (a && b) ≡ true → (a && c) ≡ true
and_both true b c more h = more h
and_both false b c more h = h

short-append : (ps qs : List Piece) → all_short ps ≡ true → all_short qs ≡ true → all_short (ps ++ qs) ≡ true
short-append [] qs h more = more
short-append (Space ∷ ps) qs h more = short-append ps qs h more
short-append (Line ∷ ps) qs h more = short-append ps qs h more
short-append (Reserved w ∷ ps) qs h more = short-append ps qs h more
short-append (Called x ∷ ps) qs h more = and_both (nat_le (length x) 255) (all_short ps) (all_short (ps ++ qs)) (λ e. short-append ps qs e more) h
short-append (Function k ∷ ps) qs h more = short-append ps qs h more
short-append (Constant k ∷ ps) qs h more = short-append ps qs h more
short-append (Sign m ∷ ps) qs h more = short-append ps qs h more

line_short : (f : Shape) (k j c : ℕ) → all_short (line_pieces f k j c) ≡ true
line_short Added k j c = refl
line_short Multiplied k j c = refl
line_short Pointed k j c = refl
line_short Adjusted k j c = refl

function_short : (number k : ℕ) → all_short (function_pieces number k) ≡ true
function_short number zero = refl
function_short number (suc k) = line_short (shape_at number (suc k)) (suc k) (target_at number (suc k)) (held_at number (suc k))

functions_short : (number k : ℕ) → all_short (functions_pieces number k) ≡ true
functions_short number zero = refl
functions_short number (suc k) = short-append (functions_pieces number k) (function_pieces number k) (functions_short number k) (function_short number k)

entry_short : (k : ℕ) → all_short (entry_pieces k) ≡ true
entry_short zero = refl
entry_short (suc k) = refl

entries_short : (k : ℕ) → all_short (entries_pieces k) ≡ true
entries_short zero = refl
entries_short (suc k) = short-append (entries_pieces k) (entry_pieces k) (entries_short k) (entry_short k)

unit_short : (number n : ℕ) → all_short (unit_pieces number n) ≡ true
unit_short number n =
    short-append typedef_pieces (functions_pieces number n ++ (table_pieces n ++ main_pieces n)) refl
    (short-append (functions_pieces number n) (table_pieces n ++ main_pieces n) (functions_short number n)
    (short-append (table_pieces n) (main_pieces n) (short-append (table_head n) (entries_pieces n ++ table_end) refl (short-append (entries_pieces n) table_end (entries_short n) refl)) refl))

-- the longest identifier

decimal_short : (k : ℕ) → k < 2147483648 → length (decimal k) ≤ 10
decimal_short k h =
    let ten : 2147483648 ≤ 10 ^ 10 = lit≤ tt in
    let wide : 2147483648 ≤ 2 ^ 64 = lit≤ tt in
    length-decimal-le 10 k (omega arith) (omega (arith, h, ten)) (omega (arith, h, wide))

both_low : (a b : ℕ) → a ≤ 255 → b ≤ 255 → max a b ≤ 255
both_low a b ha hb = omega (arith, ha, hb)

le_by : (n m : ℕ) (b : Bool) → (nat_le n m && b) ≡ true → n ≤ m
le_by n m b h = by (nat_le n m) b refl h
  where
    by : (a b : Bool) → nat_le n m ≡ a → (a && b) ≡ true → n ≤ m
    by true b e h = grind arith
    by false b e h = cc

and_rest : (a b : Bool) → (a && b) ≡ true → b ≡ true
and_rest true b h = h
and_rest false b h = cc

names_low : (at : ℕ) (ps : List Piece) → AreSmall ps → all_short ps ≡ true → longest_in (tokens_at at ps) ≤ 255
names_low at [] small short = lit≤ tt
names_low at (Space ∷ ps) small short = names_low (at + length (text_of Space)) ps small short
names_low at (Line ∷ ps) small short = names_low (at + length (text_of Line)) ps small short
names_low at (Reserved w ∷ ps) small short = both_low 0 (longest_in (tokens_at (at + length (text_of (Reserved w))) ps)) (lit≤ tt) (names_low (at + length (text_of (Reserved w))) ps small short)
names_low at (Called x ∷ ps) small short = both_low (length x) (longest_in (tokens_at (at + length x) ps)) (le_by (length x) 255 (all_short ps) short) (names_low (at + length x) ps small (and_rest (nat_le (length x) 255) (all_short ps) short))
names_low at (Function k ∷ ps) small short = both_low (length (text_of (Function k))) (longest_in (tokens_at (at + length (text_of (Function k))) ps)) (omega (arith, decimal_short k small.0)) (names_low (at + length (text_of (Function k))) ps small.1 short)
names_low at (Constant k ∷ ps) small short = both_low 0 (longest_in (tokens_at (at + length (text_of (Constant k))) ps)) (lit≤ tt) (names_low (at + length (text_of (Constant k))) ps small.1 short)
names_low at (Sign m ∷ ps) small short = both_low 0 (longest_in (tokens_at (at + length (text_of (Sign m))) ps)) (lit≤ tt) (names_low (at + length (text_of (Sign m))) ps small short)

pub unit_names : (number n : ℕ) → n ≤ 1000 → longest_in (unit_tokens number n) ≤ 255
unit_names number n h = names_low 0 (unit_pieces number n) (unit_small number n h) (unit_short number n)

-- the text

line_length : (o : Form) (k j c : ℕ) → k < 2147483648 → j < 2147483648 → c < 2147483648 → length (line_of o k j c) ≤ 200
line_length form.Added k j c hk hj hc = simp length-append (omega (arith, decimal_short k hk, decimal_short j hj, decimal_short c hc))
line_length form.Multiplied k j c hk hj hc = simp length-append (omega (arith, decimal_short k hk, decimal_short j hj, decimal_short c hc))
line_length form.Pointed k j c hk hj hc = simp length-append (omega (arith, decimal_short k hk, decimal_short j hj, decimal_short c hc))
line_length form.Adjusted k j c hk hj hc = simp length-append (omega (arith, decimal_short k hk, decimal_short j hj, decimal_short c hc))

either_length : (b : Bool) (x y : List ℕ) (m : ℕ) → length x ≤ m → length y ≤ m → length (if b then x else y) ≤ m
either_length true x y m hx hy = hx
either_length false x y m hx hy = hy

function_length : (number k : ℕ) → k < 1000 → length (function_at number k) ≤ 200
function_length number zero h = lit≤ tt
function_length number (suc k) h =
    let target = drawn_below number (3 * suc k - 1) (suc k) (omega arith) in
    let held = drawn_below number (3 * suc k) 1000 (omega arith) in
    let choice = choice_at number (suc k) in
    either_length (suc k == 0) (codes "long long f0(long long a, long long b) { return a + b; }\n") (line_of choice.form (suc k) choice.target choice.held) 200 (lit≤ tt)
    (line_length choice.form (suc k) choice.target choice.held (omega (arith, h)) (omega (arith, h, target)) (omega (arith, held)))

functions_length : (number k : ℕ) → k ≤ 1000 → length (functions_of number k) ≤ 200 * k
functions_length number zero h = lit≤ tt
functions_length number (suc k) h = omega (arith, length-append (functions_of number k) (function_at number k), functions_length number k (omega (arith, h)), function_length number k (omega (arith, h)))

entry_length : (k : ℕ) → k < 1000 → length (entry_of k) ≤ 20
entry_length k h =
    let head : List ℕ = if k == 0 then codes "f" else codes ", f" in
    omega (arith, length-append head (decimal k), either_length (k == 0) (codes "f") (codes ", f") 3 (lit≤ tt) (lit≤ tt), decimal_short k (omega (arith, h)))

entries_length : (k : ℕ) → k ≤ 1000 → length (entries_of k) ≤ 20 * k
entries_length zero h = lit≤ tt
entries_length (suc k) h = omega (arith, length-append (entries_of k) (entry_of k), entries_length k (omega (arith, h)), entry_length k (omega (arith, h)))

table_length : (n : ℕ) → n ≤ 1000 → length (table_of n) ≤ 20 * n + 100
table_length n h = simp length-append (omega (arith, decimal_short n (omega (arith, h)), entries_length n h))

main_length : (n : ℕ) → n ≤ 1000 → length (main_of n) ≤ 300
main_length n h = simp length-append (omega (arith, decimal_short n (omega (arith, h))))

pub unit_length : (number n : ℕ) → n ≤ 1000 → length (unit_of number n) ≤ 1048576
unit_length number n h =
    let head : List ℕ = codes "typedef long long (*fn)(long long, long long);\n" in
    let first : length head ≤ 60 = lit≤ tt in
    omega (arith, h, length-append head (functions_of number n ++ (table_of n ++ main_of n)), first, length-append (functions_of number n) (table_of n ++ main_of n), length-append (table_of n) (main_of n), functions_length number n h, table_length n h, main_length n h)
