-- The pieces of a unit: they join to its text, fit, and are small.
use Rattle.std.proofs.Common.{◌≡◌, ℕ, zero, suc, ◌-◌, ◌*◌, ◌/◌, ◌^◌, ◌<◌, ◌≤◌, Bool, true, false, List, [], ◌∷◌, ◌++◌, Ok, refl, sym, ap, subst, ◌∙◌, arith, append_assoc, append-nil, eqb, mod-lt}
use Rattle.std.specs.Prelude.{codes, decimal, if◌then◌else◌}
use Rattle.std.specs.Fmt.{digits}
use Rattle.std.proofs.lemmas.Bool.{ne_eqb}
use Rattle.case_gen.specs.Numbers.{state_at, value_of, drawn}
use Rattle.case_gen.specs.Units.{form_of, line_of, function_at, functions_of, entry_of, entries_of, table_of, main_of, unit_of}
use Rattle.c_lex.specs.Bytes.{is_letter, is_decimal, is_word_byte}
use Rattle.c_lex.specs.Spelling.{number_of_word}
use Rattle.c_lex.specs.Reading.{tokens_of}
use Rattle.c_lex.specs.Grammar.{is_name}
use Rattle.c_lex.proofs.QuoteLaws.{and_left, and_right}
use Rattle.gen_tokens.specs.Pieces.{Piece, Space, Line, Reserved, Called, Function, Constant, Sign, text_of, joined, ends_word, is_blank_piece, fits, all_fit, AreSmall}
use Rattle.gen_tokens.specs.UnitPieces.{Shape, Added, Multiplied, Pointed, Adjusted, shape_of, shape_at, target_at, held_at, typedef_pieces, line_pieces, function_pieces, functions_pieces, entry_pieces, entries_pieces, table_head, table_end, table_pieces, main_pieces, unit_pieces, unit_tokens}
use Rattle.gen_tokens.proofs.PieceLaws.{reads_pieces}

-- the text

pub joined-append : (ps qs : List Piece) → joined (ps ++ qs) ≡ joined ps ++ joined qs
joined-append [] qs = refl
joined-append (p ∷ ps) qs = ap (λ l. text_of p ++ l) (joined-append ps qs) ∙ sym (append_assoc (text_of p) (joined ps) (joined qs))

-- numbers that are written out
zero_digits : decimal 0 ≡ codes "0"
unfolding digits
zero_digits = refl

one_digits : decimal 1 ≡ codes "1"
unfolding digits
one_digits = refl

letter_digits : decimal 65 ≡ codes "65"
unfolding digits
letter_digits = refl

letters_digits : decimal 26 ≡ codes "26"
unfolding digits
letters_digits = refl

million_digits : decimal 1000000 ≡ codes "1000000"
unfolding digits
million_digits = refl

not_zero : (k : ℕ) → eqb (suc k) 0 ≡ false
not_zero k = ne_eqb (suc k) 0 (λ e. omega (arith, e))

abbrev LineJoins : ℕ → Type 0
LineJoins o = (k j c : ℕ) → joined (line_pieces (shape_of o) k j c) ≡ line_of (form_of o) k j c

third_joins : (o : ℕ) (b : Bool) → eqb o 0 ≡ false → eqb o 1 ≡ false → eqb o 2 ≡ b → LineJoins o
third_joins o true zeroth first second k j c = rw (zeroth, first, second)
third_joins o false zeroth first second k j c = rw (zeroth, first, second, one_digits)

second_joins : (o : ℕ) (b : Bool) → eqb o 0 ≡ false → eqb o 1 ≡ b → LineJoins o
second_joins o true zeroth first k j c = rw (zeroth, first)
second_joins o false zeroth first k j c = third_joins o (eqb o 2) zeroth first refl k j c

first_joins : (o : ℕ) (b : Bool) → eqb o 0 ≡ b → LineJoins o
first_joins o true zeroth k j c = rw zeroth
first_joins o false zeroth k j c = second_joins o (eqb o 1) zeroth refl k j c

function_joined : (number k : ℕ) → joined (function_pieces number k) ≡ function_at number k
function_joined number zero = rw zero_digits
function_joined number (suc k) =
    let o = drawn number (3 * suc k - 2) 4 in
    let line = line_of (form_of o) (suc k) (target_at number (suc k)) (held_at number (suc k)) in
    first_joins o (eqb o 0) refl (suc k) (target_at number (suc k)) (held_at number (suc k))
    ∙ sym (ap (λ (b : Bool). if b then codes "long long f0(long long a, long long b) { return a + b; }\n" else line) (not_zero k))

functions_joined : (number size : ℕ) → joined (functions_pieces number size) ≡ functions_of number size
functions_joined number zero = refl
functions_joined number (suc k) =
    joined-append (functions_pieces number k) (function_pieces number k)
    ∙ ap (λ l. l ++ joined (function_pieces number k)) (functions_joined number k)
    ∙ ap (λ l. functions_of number k ++ l) (function_joined number k)

entry_joined : (k : ℕ) → joined (entry_pieces k) ≡ entry_of k
entry_joined zero = ap (λ l. 102 ∷ l) (append-nil (decimal 0))
entry_joined (suc k) =
    ap (λ l. 44 ∷ 32 ∷ 102 ∷ l) (append-nil (decimal (suc k)))
    ∙ sym (ap (λ (b : Bool). (if b then codes "f" else codes ", f") ++ decimal (suc k)) (not_zero k))

entries_joined : (n : ℕ) → joined (entries_pieces n) ≡ entries_of n
entries_joined zero = refl
entries_joined (suc k) =
    joined-append (entries_pieces k) (entry_pieces k)
    ∙ ap (λ l. l ++ joined (entry_pieces k)) (entries_joined k)
    ∙ ap (λ l. entries_of k ++ l) (entry_joined k)

head_joined : (n : ℕ) (more : List ℕ) → joined (table_head n) ++ more ≡ codes "fn table[" ++ (decimal n ++ (codes "] = { " ++ more))
head_joined n more = ap (λ l. codes "fn table[" ++ l) (append_assoc (decimal n) (codes "] = { ") more)

table_joined : (n : ℕ) → joined (table_pieces n) ≡ table_of n
table_joined n =
    joined-append (table_head n) (entries_pieces n ++ table_end)
    ∙ ap (λ l. joined (table_head n) ++ l) (joined-append (entries_pieces n) table_end ∙ ap (λ l. l ++ joined table_end) (entries_joined n))
    ∙ head_joined n (entries_of n ++ codes " };\n")

main_joined : (n : ℕ) → joined (main_pieces n) ≡ main_of n
main_joined n = rw (zero_digits, one_digits, letter_digits, letters_digits, million_digits)

unit_joined : (number size : ℕ) → joined (unit_pieces number size) ≡ unit_of number size
unit_joined number size =
    joined-append typedef_pieces (functions_pieces number size ++ (table_pieces size ++ main_pieces size))
    ∙ ap (λ l. joined typedef_pieces ++ l) (joined-append (functions_pieces number size) (table_pieces size ++ main_pieces size)
    ∙ ap (λ l. l ++ joined (table_pieces size ++ main_pieces size)) (functions_joined number size)
    ∙ ap (λ l. functions_of number size ++ l) (joined-append (table_pieces size) (main_pieces size)
    ∙ ap (λ l. l ++ joined (main_pieces size)) (table_joined size)
    ∙ ap (λ l. table_of size ++ l) (main_joined size)))

-- pieces that fit

blank_fits : (p : Piece) (qs : List Piece) → is_blank_piece p ≡ true → fits p qs ≡ true
blank_fits Space [] h = refl
blank_fits Line [] h = refl
blank_fits Space (q ∷ qs) h = refl
blank_fits Line (q ∷ qs) h = refl
blank_fits (Reserved w) qs h = cc
blank_fits (Called x) qs h = cc
blank_fits (Function k) qs h = cc
blank_fits (Constant k) qs h = cc
blank_fits (Sign m) qs h = cc

pub fit-append : (ps qs : List Piece) → all_fit ps ≡ true → all_fit qs ≡ true → all_fit (ps ++ qs) ≡ true
fit-append [] qs h more = more
fit-append (p ∷ []) qs h more = rw (blank_fits p qs (and_left (is_blank_piece p) _ h)) more
fit-append (p ∷ r ∷ rs) qs h more =
    let front : fits p (r ∷ rs) ≡ true = and_left (fits p (r ∷ rs)) _ h in
    rw front (fit-append (r ∷ rs) qs (and_right (fits p (r ∷ rs)) _ h) more)

typedef_fits : all_fit typedef_pieces ≡ true
unfolding is_name is_letter is_word_byte is_decimal number_of_word
typedef_fits = refl

line_fits : (f : Shape) (k j c : ℕ) → all_fit (line_pieces f k j c) ≡ true
unfolding is_name is_letter is_word_byte is_decimal number_of_word
line_fits Added k j c = refl
line_fits Multiplied k j c = refl
line_fits Pointed k j c = refl
line_fits Adjusted k j c = refl

function_fits : (number k : ℕ) → all_fit (function_pieces number k) ≡ true
unfolding is_name is_letter is_word_byte is_decimal number_of_word
function_fits number zero = refl
function_fits number (suc k) = line_fits (shape_at number (suc k)) (suc k) (target_at number (suc k)) (held_at number (suc k))

functions_fit : (number size : ℕ) → all_fit (functions_pieces number size) ≡ true
functions_fit number zero = refl
functions_fit number (suc k) = fit-append (functions_pieces number k) (function_pieces number k) (functions_fit number k) (function_fits number k)

-- entries of the table fit in front of what may stand behind a word
abbrev opens_end : List Piece → Bool
opens_end [] = false
opens_end (q ∷ qs) = ends_word q

entry_fits : (k : ℕ) (more : List Piece) → opens_end more ≡ true → all_fit more ≡ true → all_fit (entry_pieces k ++ more) ≡ true
entry_fits zero [] h fit = cc
entry_fits (suc k) [] h fit = cc
entry_fits zero (q ∷ qs) h fit = rw h fit
entry_fits (suc k) (q ∷ qs) h fit = rw h fit

entry_opens : (k : ℕ) (more : List Piece) → opens_end (entry_pieces (suc k) ++ more) ≡ true
entry_opens k more = refl

entries_fit : (n : ℕ) (more : List Piece) → opens_end more ≡ true → all_fit more ≡ true → all_fit (entries_pieces n ++ more) ≡ true
entries_fit zero more h fit = fit
entries_fit (suc zero) more h fit = entry_fits zero more h fit
entries_fit (suc (suc k)) more h fit =
    subst (λ l. all_fit l ≡ true) (sym (append_assoc (entries_pieces (suc k)) (entry_pieces (suc k)) more))
    (entries_fit (suc k) (entry_pieces (suc k) ++ more) (entry_opens k more) (entry_fits (suc k) more h fit))

table_end_fits : all_fit table_end ≡ true
table_end_fits = refl

head_fits : (n : ℕ) → all_fit (table_head n) ≡ true
unfolding is_name is_letter is_word_byte is_decimal number_of_word
head_fits n = refl

table_fits : (n : ℕ) → all_fit (table_pieces n) ≡ true
table_fits n = fit-append (table_head n) (entries_pieces n ++ table_end) (head_fits n) (entries_fit n table_end refl table_end_fits)

main_fits : (n : ℕ) → all_fit (main_pieces n) ≡ true
unfolding is_name is_letter is_word_byte is_decimal number_of_word
main_fits n = refl

unit_fits : (number size : ℕ) → all_fit (unit_pieces number size) ≡ true
unit_fits number size =
    fit-append typedef_pieces (functions_pieces number size ++ (table_pieces size ++ main_pieces size)) typedef_fits
    (fit-append (functions_pieces number size) (table_pieces size ++ main_pieces size) (functions_fit number size)
    (fit-append (table_pieces size) (main_pieces size) (table_fits size) (main_fits size)))

-- pieces that are small

pub small-append : (ps qs : List Piece) → AreSmall ps → AreSmall qs → AreSmall (ps ++ qs)
small-append [] qs h more = more
small-append (Space ∷ ps) qs h more = small-append ps qs h more
small-append (Line ∷ ps) qs h more = small-append ps qs h more
small-append (Reserved w ∷ ps) qs h more = small-append ps qs h more
small-append (Called x ∷ ps) qs h more = small-append ps qs h more
small-append (Function k ∷ ps) qs h more = (h.0, small-append ps qs h.1 more)
small-append (Constant k ∷ ps) qs h more = (h.0, small-append ps qs h.1 more)
small-append (Sign m ∷ ps) qs h more = small-append ps qs h more

typedef_small : AreSmall typedef_pieces
typedef_small = tt

line_small : (f : Shape) (k j c : ℕ) → k < 2147483648 → j < 2147483648 → c < 2147483648 → AreSmall (line_pieces f k j c)
line_small Added k j c hk hj hc = (hk, (hj, (hc, tt)))
line_small Multiplied k j c hk hj hc = (hk, (hc, (hj, tt)))
line_small Pointed k j c hk hj hc = (hk, (hj, (hc, tt)))
line_small Adjusted k j c hk hj hc = (hk, (hj, (omega arith, (hc, tt))))

value_below : (x m : ℕ) → 0 < m → value_of x m < m
value_below x m h = mod-lt (x / 2 ^ 33) h

pub drawn_below : (number n m : ℕ) → 0 < m → drawn number n m < m
drawn_below number n m h = value_below (state_at number n) m h

lower : {x b : ℕ} → x < b → b ≤ 1000 → x < 2147483648
lower h bound = omega (arith, h, bound)

function_small : (number k : ℕ) → k < 1000 → AreSmall (function_pieces number k)
function_small number zero h = (omega arith, tt)
function_small number (suc k) h =
    let target = drawn_below number (3 * suc k - 1) (suc k) (omega arith) in
    let held = drawn_below number (3 * suc k) 1000 (omega arith) in
    line_small (shape_at number (suc k)) (suc k) (target_at number (suc k)) (held_at number (suc k)) (omega (arith, h)) (lower target (omega (arith, h))) (lower held (omega arith))

functions_small : (number size : ℕ) → size ≤ 1000 → AreSmall (functions_pieces number size)
functions_small number zero h = tt
functions_small number (suc k) h =
    small-append (functions_pieces number k) (function_pieces number k) (functions_small number k (omega (arith, h))) (function_small number k (omega (arith, h)))

entry_small : (k : ℕ) → k < 1000 → AreSmall (entry_pieces k)
entry_small zero h = (omega arith, tt)
entry_small (suc k) h = (omega (arith, h), tt)

entries_small : (n : ℕ) → n ≤ 1000 → AreSmall (entries_pieces n)
entries_small zero h = tt
entries_small (suc k) h = small-append (entries_pieces k) (entry_pieces k) (entries_small k (omega (arith, h))) (entry_small k (omega (arith, h)))

table_small : (n : ℕ) → n ≤ 1000 → AreSmall (table_pieces n)
table_small n h =
    small-append (table_head n) (entries_pieces n ++ table_end) (omega (arith, h), tt) (small-append (entries_pieces n) table_end (entries_small n h) tt)

main_small : (n : ℕ) → n ≤ 1000 → AreSmall (main_pieces n)
main_small n h = (omega arith, (omega arith, (omega (arith, h), (omega arith, (omega arith, (omega arith, (omega arith, tt)))))))

pub unit_small : (number size : ℕ) → size ≤ 1000 → AreSmall (unit_pieces number size)
unit_small number size h =
    small-append typedef_pieces (functions_pieces number size ++ (table_pieces size ++ main_pieces size)) typedef_small
    (small-append (functions_pieces number size) (table_pieces size ++ main_pieces size) (functions_small number size h)
    (small-append (table_pieces size) (main_pieces size) (table_small size h) (main_small size h)))

pub reads_unit : (number size : ℕ) → size ≤ 1000 → tokens_of (unit_of number size) ≡ Ok (unit_tokens number size)
reads_unit number size h =
    subst (λ text. tokens_of text ≡ Ok (unit_tokens number size)) (unit_joined number size)
    (reads_pieces (unit_pieces number size) (unit_fits number size) (unit_small number size h))
