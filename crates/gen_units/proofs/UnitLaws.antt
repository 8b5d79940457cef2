-- The tokens of a unit are those of its tree, which is low.
use Rattle.std.proofs.Common.{◌≡◌, ℕ, zero, suc, ◌+◌, ◌≤◌, max, List, [], ◌∷◌, ◌++◌, map, length, Option, Some, None, Ok, refl, sym, ap, subst, ◌∙◌, arith, append_assoc, append-nil, add-zero, length-append, lit≤}
use Rattle.std.proofs.lemmas.List.{map-append}
use Rattle.c_lex.specs.declared.token.TokKind.{TokKind}
use Rattle.c_lex.specs.declared.token.Token.{Token}
use Rattle.c_tree.proofs.HeightLaws.{expr_heights, stmt_heights, block_item_heights, init_heights}
use Rattle.c_tree.specs.Height.{tallest, init_height, item_height, unit_height}
use Rattle.parse_terms.specs.declared.terminal.Terminal.{Terminal}
use Rattle.parse_terms.specs.TypeNames.{typedef, no_stars}
use Rattle.parse_terms.specs.Declarators.{no_lengths, declared}
use Rattle.parse_terms.specs.Declarators as pd
use Rattle.parse_decl.specs.Inits.{IsInits, addressed, place, braces, first_init, next_init}
use Rattle.parse_item.specs.ItemGrammar.{IsItem, IsItems, IsUnit, globals, first_global, with_value, no_items, another_item, a_unit}
use Rattle.c_parser.specs.Texts.{terminals}
use Rattle.c_parser.specs.Answers.{answer_of}
use Rattle.c_parser.proofs.AnswerLaws.{answer_whole}
use Rattle.parse_terms.specs.Terminals.{terminal_of}
use Rattle.gen_tokens.specs.Pieces.{Piece, text_of, kind_of, joined, before, tokens_at}
use Rattle.gen_tokens.specs.UnitPieces.{Shape, Added, Multiplied, Pointed, Adjusted, shape_at, target_at, held_at, typedef_pieces, line_pieces, function_pieces, functions_pieces, entry_pieces, entries_pieces, table_head, table_end, table_pieces, main_pieces, unit_tokens}
use Rattle.gen_units.specs.Trees.{line_item, function_item, entry_init, entry_inits, table_item, functions_place, function_place, main_place, items_up, main_item, unit_tree}
use Rattle.gen_units.proofs.LineLaws.{zero_item_reads, added_item_reads, multiplied_item_reads, pointed_item_reads, adjusted_item_reads, typedef_item_reads, main_item_reads}

-- tokens of pieces in front of others

before-append : (o : Option TokKind) (at end : ℕ) (xs ys : List Token) → before o at end (xs ++ ys) ≡ before o at end xs ++ ys
before-append None at end xs ys = refl
before-append (Some k) at end xs ys = refl

tokens_at-append : (at : ℕ) (ps qs : List Piece) → tokens_at at (ps ++ qs) ≡ tokens_at at ps ++ tokens_at (at + length (joined ps)) qs
tokens_at-append at [] qs = ap (λ n. tokens_at n qs) (sym (add-zero at))
tokens_at-append at (p ∷ ps) qs =
    let n = length (text_of p) in
    let places : at + n + length (joined ps) ≡ at + length (text_of p ++ joined ps) = omega (arith, length-append (text_of p) (joined ps)) in
    ap (before (kind_of p) at (at + n)) (tokens_at-append (at + n) ps qs)
    ∙ before-append (kind_of p) at (at + n) (tokens_at (at + n) ps) (tokens_at (at + n + length (joined ps)) qs)
    ∙ ap (λ m. before (kind_of p) at (at + n) (tokens_at (at + n) ps) ++ tokens_at m qs) places

abbrev terms : ℕ → List Piece → List Terminal → List Terminal
terms at ps rest = terminals (tokens_at at ps) ++ rest

terms-append : (at : ℕ) (ps qs : List Piece) (rest : List Terminal) → terms at (ps ++ qs) rest ≡ terms at ps (terms (at + length (joined ps)) qs rest)
terms-append at ps qs rest =
    let behind = at + length (joined ps) in
    ap (λ (ts : List Token). terminals ts ++ rest) (tokens_at-append at ps qs)
    ∙ ap (λ (a : List Terminal). a ++ rest) (map-append terminal_of (tokens_at at ps) (tokens_at behind qs))
    ∙ append_assoc (terminals (tokens_at at ps)) (terminals (tokens_at behind qs)) rest

-- lines

line_reads : (f : Shape) (k j c at : ℕ) (rest : List Terminal) → IsItem (line_item f k j c (tokens_at at (line_pieces f k j c))) (terms at (line_pieces f k j c) rest) rest
line_reads Added k j c at rest = added_item_reads k j c
line_reads Multiplied k j c at rest = multiplied_item_reads k j c
line_reads Pointed k j c at rest = pointed_item_reads k j c
line_reads Adjusted k j c at rest = adjusted_item_reads k j c

function_reads : (number k at : ℕ) (rest : List Terminal) → IsItem (function_item number k (tokens_at at (function_pieces number k))) (terms at (function_pieces number k) rest) rest
function_reads number zero at rest = zero_item_reads
function_reads number (suc k) at rest = line_reads (shape_at number (suc k)) (suc k) (target_at number (suc k)) (held_at number (suc k)) at rest

up_reads : (number k : ℕ) (rest : List Terminal) → IsItems (items_up number k) (terms 0 typedef_pieces (terms functions_place (functions_pieces number k) rest)) rest
up_reads number zero rest = another_item no_items typedef_item_reads
up_reads number (suc k) rest =
    subst (λ l. IsItems (items_up number (suc k)) (terms 0 typedef_pieces l) rest) (sym (terms-append functions_place (functions_pieces number k) (function_pieces number k) rest))
    (another_item (up_reads number k (terms (function_place number k) (function_pieces number k) rest)) (function_reads number k (function_place number k) rest))

-- the table

inits_read : (at n : ℕ) (rest : List Terminal) → IsInits (entry_inits at (suc n)) (terms at (entries_pieces (suc n)) rest) rest
inits_read at zero rest =
    subst (λ l. IsInits (entry_inits at (suc zero)) l rest) (sym (terms-append at [] (entry_pieces zero) rest)) (first_init (addressed place))
inits_read at (suc n) rest =
    subst (λ l. IsInits (entry_inits at (suc (suc n))) l rest) (sym (terms-append at (entries_pieces (suc n)) (entry_pieces (suc n)) rest))
    (next_init (inits_read at n (terms (at + length (joined (entries_pieces (suc n)))) (entry_pieces (suc n)) rest)) (addressed place))

table_parts : (at n : ℕ) (rest : List Terminal) →
    terms at (table_pieces n) rest ≡ terms at (table_head n) (terms (at + length (joined (table_head n))) (entries_pieces n) (terms (at + length (joined (table_head n)) + length (joined (entries_pieces n))) table_end rest))
table_parts at n rest =
    terms-append at (table_head n) (entries_pieces n ++ table_end) rest
    ∙ ap (terms at (table_head n)) (terms-append (at + length (joined (table_head n))) (entries_pieces n) table_end rest)

table_reads : (at n : ℕ) (rest : List Terminal) → IsItem (table_item at (suc n)) (terms at (table_pieces (suc n)) rest) rest
table_reads at n rest =
    let first = at + length (joined (table_head (suc n))) in
    let behind = first + length (joined (entries_pieces (suc n))) in
    subst (λ l. IsItem (table_item at (suc n)) l rest) (sym (table_parts at (suc n) rest))
    (globals typedef (first_global (with_value (declared no_stars (pd.length no_lengths)) (braces (inits_read first n (terms behind table_end rest))))))

main_reads : (at n : ℕ) (rest : List Terminal) → IsItem (main_item n (tokens_at at (main_pieces n))) (terms at (main_pieces n) rest) rest
main_reads at n rest = main_item_reads n

-- the unit

unit_parts : (number n : ℕ) → terminals (unit_tokens number n) ≡
    terms 0 typedef_pieces (terms functions_place (functions_pieces number n) (terms (function_place number n) (table_pieces n) (terms (main_place number n) (main_pieces n) [])))
unit_parts number n =
    sym (append-nil (terminals (unit_tokens number n)))
    ∙ terms-append 0 typedef_pieces (functions_pieces number n ++ (table_pieces n ++ main_pieces n)) []
    ∙ ap (terms 0 typedef_pieces) (terms-append functions_place (functions_pieces number n) (table_pieces n ++ main_pieces n) []
    ∙ ap (terms functions_place (functions_pieces number n)) (terms-append (function_place number n) (table_pieces n) (main_pieces n) []))

unit_reads : (number n : ℕ) → IsUnit (unit_tree number (suc n)) (terminals (unit_tokens number (suc n)))
unit_reads number n =
    let size = suc n in
    let main = terms (main_place number size) (main_pieces size) [] in
    let table = terms (function_place number size) (table_pieces size) main in
    subst (IsUnit (unit_tree number size)) (sym (unit_parts number size))
    (a_unit (another_item (another_item (up_reads number size table) (table_reads (function_place number size) n main)) (main_reads (main_place number size) size [])))

-- heights

tallest_snoc : {A : Type 0} (f : A → ℕ) (most : ℕ) (xs : List A) (x : A) → tallest (map f xs) ≤ most → f x ≤ most → tallest (map f (xs ++ x ∷ [])) ≤ most
tallest_snoc f most [] x h last = omega (arith, last)
tallest_snoc f most (y ∷ ys) x h last =
    let front : f y ≤ most = omega (arith, h) in
    let behind : tallest (map f ys) ≤ most = omega (arith, h) in
    omega (arith, front, tallest_snoc f most ys x behind last)

line_low : (f : Shape) (k j c : ℕ) (ts : List Token) → item_height (line_item f k j c ts) ≤ 20
line_low Added k j c ts = simp (expr_heights, stmt_heights, block_item_heights) (lit≤ tt)
line_low Multiplied k j c ts = simp (expr_heights, stmt_heights, block_item_heights) (lit≤ tt)
line_low Pointed k j c ts = simp (expr_heights, stmt_heights, block_item_heights) (lit≤ tt)
line_low Adjusted k j c ts = lit≤ tt

function_low : (number k : ℕ) (ts : List Token) → item_height (function_item number k ts) ≤ 20
function_low number zero ts = simp (expr_heights, stmt_heights, block_item_heights) (lit≤ tt)
function_low number (suc k) ts = line_low (shape_at number (suc k)) (suc k) (target_at number (suc k)) (held_at number (suc k)) ts

up_low : (number k : ℕ) → tallest (map item_height (items_up number k)) ≤ 20
up_low number zero = lit≤ tt
up_low number (suc k) =
    tallest_snoc item_height 20 (items_up number k) (function_item number k (tokens_at (function_place number k) (function_pieces number k))) (up_low number k) (function_low number k (tokens_at (function_place number k) (function_pieces number k)))

entry_low : (k : ℕ) (ts : List Token) → init_height (entry_init k ts) ≤ 1
entry_low zero ts = simp init_heights (lit≤ tt)
entry_low (suc k) ts = simp init_heights (lit≤ tt)

entries_low : (at n : ℕ) → tallest (map init_height (entry_inits at n)) ≤ 1
entries_low at zero = lit≤ tt
entries_low at (suc n) =
    let ts = tokens_at (at + length (joined (entries_pieces n))) (entry_pieces n) in
    tallest_snoc init_height 1 (entry_inits at n) (entry_init n ts) (entries_low at n) (entry_low n ts)

list_low : (inits : ℕ) → inits ≤ 1 → max (max 1 (inits + 1)) 0 + 1 ≤ 20
list_low inits h = omega (arith, h)

table_low : (at n : ℕ) → item_height (table_item at n) ≤ 20
table_low at n = simp init_heights (list_low _ (entries_low (at + length (joined (table_head n))) n))

main_low : (n : ℕ) (ts : List Token) → item_height (main_item n ts) ≤ 20
main_low n ts = simp (expr_heights, stmt_heights, block_item_heights) (lit≤ tt)

pub unit_low : (number n : ℕ) → unit_height (unit_tree number n) ≤ 21
unit_low number n =
    let table = table_item (function_place number n) n in
    let main = main_item n (tokens_at (main_place number n) (main_pieces n)) in
    let all = tallest_snoc item_height 20 (items_up number n ++ table ∷ []) main (tallest_snoc item_height 20 (items_up number n) table (up_low number n) (table_low (function_place number n) n)) (main_low n (tokens_at (main_place number n) (main_pieces n))) in
    omega (arith, all)

pub tree_read : (number size : ℕ) → 1 ≤ size → IsUnit (unit_tree number size) (terminals (unit_tokens number size))
tree_read number zero h = absurd (omega (arith, h))
tree_read number (suc n) h = unit_reads number n

pub tree_answered : (number size : ℕ) → 1 ≤ size → answer_of (unit_tokens number size) ≡ Ok (unit_tree number size)
tree_answered number size h = answer_whole (unit_tokens number size) (unit_tree number size) (tree_read number size h) (omega (arith, unit_low number size))
