-- The trees of the units that numbers stand for, each node at the place of its token. A tree is given the tokens of its
-- line, counted from 0.
use Rattle.std.specs.Prelude.{ℕ, zero, suc, ◌+◌, List, [], ◌∷◌, ◌++◌, length, Some, None, codes, decimal}
use Rattle.c_types.specs.declared.types.Span.{Span}
use Rattle.c_types.specs.declared.types.IntTy.TheVariants.{I32, I64, U64}
use Rattle.c_lex.specs.declared.token.Token.{Token}
use Rattle.c_tree.specs.declared.operators.BinaryOp.TheVariants as op
use Rattle.c_tree.specs.declared.operators.AssignOp.TheVariants as set
use Rattle.c_tree.specs.declared.expressions.Name.{Name}
use Rattle.c_tree.specs.declared.expressions.Base.TheVariants as base
use Rattle.c_tree.specs.declared.expressions.TypeName.{TypeName}
use Rattle.c_tree.specs.declared.expressions.Expr.TheVariants as expr
use Rattle.c_tree.specs.declared.statements.Local.TheVariants as local
use Rattle.c_tree.specs.declared.statements.ForStart.TheVariants as start
use Rattle.c_tree.specs.declared.statements.BlockItem.TheVariants as block_item
use Rattle.c_tree.specs.declared.statements.Stmt.TheVariants as stmt
use Rattle.c_tree.specs.declared.declarations.Init.{Init}
use Rattle.c_tree.specs.declared.declarations.Init.TheVariants as init
use Rattle.c_tree.specs.declared.declarations.FunctionHead.{FunctionHead}
use Rattle.c_tree.specs.declared.declarations.Item.{Item}
use Rattle.c_tree.specs.declared.declarations.Item.TheVariants as item
use Rattle.c_tree.specs.declared.declarations.Unit.{Unit as Unit'}
use Rattle.parse_terms.specs.Terminals.{name_of}
use Rattle.parse_terms.specs.TypeNames.{type_name}
use Rattle.parse_terms.specs.Declarators.{literal, decl}
use Rattle.parse_stmt.specs.StmtGrammar.{local_decl}
use Rattle.parse_decl.specs.Params.{param, params}
use Rattle.parse_item.specs.ItemGrammar.{head_of, global_of, unit_of}
use Rattle.gen_tokens.specs.Pieces.{joined, tokens_at}
use Rattle.gen_tokens.specs.UnitPieces.{Shape, Added, Multiplied, Pointed, Adjusted, shape_at, target_at, held_at, typedef_pieces, function_pieces, functions_pieces, entry_pieces, entries_pieces, table_head, table_pieces, main_pieces}

-- the bytes of token n
abbrev pub span_at : ℕ → List Token → Span
span_at n [] = record { start = 0; «end» = 0 }
span_at zero (t ∷ ts) = t.span
span_at (suc n) (t ∷ ts) = span_at n ts

-- the name of function k
abbrev pub f_name : ℕ → List ℕ
f_name k = 102 ∷ decimal k

abbrev pub long_long : Span → TypeName
long_long s = type_name (base.Int I64 s) []

-- `long long fk(long long a, long long b)`
abbrev pub function_head : ℕ → Span → Span → Span → Span → Span → Span → FunctionHead
function_head k s name first a second b =
    head_of (long_long s) (name_of (f_name k) name) (params (param (long_long first) (Some (name_of (codes "a") a)) ∷ param (long_long second) (Some (name_of (codes "b") b)) ∷ []) None)

-- `long long f0(long long a, long long b) { return a + b; }`
abbrev pub zero_item : List Token → Item
zero_item ts = item.Define (function_head 0 (span_at 0 ts) (span_at 2 ts) (span_at 4 ts) (span_at 6 ts) (span_at 8 ts) (span_at 10 ts)) (span_at 12 ts) (block_item.Stmt (stmt.Return (span_at 13 ts) (Some (expr.Binary op.Add (span_at 15 ts) (expr.Name (name_of (codes "a") (span_at 14 ts))) (expr.Name (name_of (codes "b") (span_at 16 ts)))))) ∷ [])

-- `long long fk(long long a, long long b) { return fj(a + c, b) - b; }`
abbrev pub added_item : ℕ → ℕ → ℕ → List Token → Item
added_item k j c ts = item.Define (function_head k (span_at 0 ts) (span_at 2 ts) (span_at 4 ts) (span_at 6 ts) (span_at 8 ts) (span_at 10 ts)) (span_at 12 ts) (block_item.Stmt (stmt.Return (span_at 13 ts) (Some (expr.Binary op.Subtract (span_at 22 ts) (expr.Call (expr.Name (name_of (f_name j) (span_at 14 ts))) (span_at 15 ts) (expr.Binary op.Add (span_at 17 ts) (expr.Name (name_of (codes "a") (span_at 16 ts))) (expr.Number (literal c I32 (span_at 18 ts))) ∷ (expr.Name (name_of (codes "b") (span_at 20 ts))) ∷ [])) (expr.Name (name_of (codes "b") (span_at 23 ts)))))) ∷ [])

-- `long long fk(long long a, long long b) { return a * c + fj(b, a); }`
abbrev pub multiplied_item : ℕ → ℕ → ℕ → List Token → Item
multiplied_item k j c ts = item.Define (function_head k (span_at 0 ts) (span_at 2 ts) (span_at 4 ts) (span_at 6 ts) (span_at 8 ts) (span_at 10 ts)) (span_at 12 ts) (block_item.Stmt (stmt.Return (span_at 13 ts) (Some (expr.Binary op.Add (span_at 17 ts) (expr.Binary op.Multiply (span_at 15 ts) (expr.Name (name_of (codes "a") (span_at 14 ts))) (expr.Number (literal c I32 (span_at 16 ts)))) (expr.Call (expr.Name (name_of (f_name j) (span_at 18 ts))) (span_at 19 ts) ((expr.Name (name_of (codes "b") (span_at 20 ts))) ∷ (expr.Name (name_of (codes "a") (span_at 22 ts))) ∷ []))))) ∷ [])

-- `long long fk(long long a, long long b) { fn p = fj; return p(a ^ c, b); }`
abbrev pub pointed_item : ℕ → ℕ → ℕ → List Token → Item
pointed_item k j c ts = item.Define (function_head k (span_at 0 ts) (span_at 2 ts) (span_at 4 ts) (span_at 6 ts) (span_at 8 ts) (span_at 10 ts)) (span_at 12 ts) (block_item.Local (local.Declared (base.Named (name_of (codes "fn") (span_at 13 ts))) (local_decl (decl [] (name_of (codes "p") (span_at 14 ts)) []) (Some (expr.Name (name_of (f_name j) (span_at 16 ts)))) ∷ [])) ∷ block_item.Stmt (stmt.Return (span_at 18 ts) (Some (expr.Call (expr.Name (name_of (codes "p") (span_at 19 ts))) (span_at 20 ts) (expr.Binary op.BitXor (span_at 22 ts) (expr.Name (name_of (codes "a") (span_at 21 ts))) (expr.Number (literal c I32 (span_at 23 ts))) ∷ (expr.Name (name_of (codes "b") (span_at 25 ts))) ∷ [])))) ∷ [])

-- `__adjustor fk = fj, 1, c;`
abbrev pub adjusted_item : ℕ → ℕ → ℕ → List Token → Item
adjusted_item k j c ts = item.Adjustor (span_at 0 ts) (name_of (f_name k) (span_at 1 ts)) (name_of (f_name j) (span_at 3 ts)) (literal 1 I32 (span_at 5 ts)) None (literal c I32 (span_at 7 ts))

-- `typedef long long (*fn)(long long, long long);`
abbrev pub typedef_item : List Token → Item
typedef_item ts = item.Typedef (span_at 0 ts) (head_of (long_long (span_at 1 ts)) (name_of (codes "fn") (span_at 5 ts)) (params (param (long_long (span_at 8 ts)) None ∷ param (long_long (span_at 11 ts)) None ∷ []) None))

-- the function that calls all of a table of n
abbrev pub main_item : ℕ → List Token → Item
main_item n ts = item.Define (head_of (type_name (base.Int I32 (span_at 0 ts)) []) (name_of (codes "main") (span_at 1 ts)) (params [] None)) (span_at 5 ts) (block_item.Local (local.Declared (base.Int I32 (span_at 6 ts)) (local_decl (decl [] (name_of (codes "i") (span_at 7 ts)) []) None ∷ [])) ∷ block_item.Local (local.Declared (base.Int I64 (span_at 9 ts)) (local_decl (decl [] (name_of (codes "v") (span_at 11 ts)) []) (Some (expr.Number (literal 1 I32 (span_at 13 ts)))) ∷ [])) ∷ block_item.Stmt (stmt.For (span_at 15 ts) (start.Effect (expr.Assign set.Set (span_at 18 ts) (expr.Name (name_of (codes "i") (span_at 17 ts))) (expr.Number (literal 0 I32 (span_at 19 ts))))) (Some (expr.Binary op.Less (span_at 22 ts) (expr.Name (name_of (codes "i") (span_at 21 ts))) (expr.Number (literal n I32 (span_at 23 ts))))) (Some (expr.PostIncrement (expr.Name (name_of (codes "i") (span_at 25 ts))) (span_at 26 ts))) (stmt.Block (span_at 28 ts) (block_item.Stmt (stmt.Effect (expr.Assign set.Set (span_at 30 ts) (expr.Name (name_of (codes "v") (span_at 29 ts))) (expr.Binary op.Remainder (span_at 40 ts) (expr.Call (expr.Index (expr.Name (name_of (codes "table") (span_at 31 ts))) (span_at 32 ts) (expr.Name (name_of (codes "i") (span_at 33 ts)))) (span_at 35 ts) ((expr.Name (name_of (codes "v") (span_at 36 ts))) ∷ (expr.Name (name_of (codes "i") (span_at 38 ts))) ∷ [])) (expr.Number (literal 1000000 I32 (span_at 41 ts)))))) ∷ block_item.Stmt (stmt.Effect (expr.Call (expr.Name (name_of (codes "put_byte") (span_at 43 ts))) (span_at 44 ts) (expr.Binary op.Add (span_at 46 ts) (expr.Number (literal 65 I32 (span_at 45 ts))) (expr.Cast (span_at 47 ts) I32 (span_at 48 ts) (expr.Paren (span_at 50 ts) (expr.Binary op.Remainder (span_at 57 ts) (expr.Cast (span_at 51 ts) U64 (span_at 52 ts) (expr.Name (name_of (codes "v") (span_at 56 ts)))) (expr.Number (literal 26 I32 (span_at 58 ts)))))) ∷ []))) ∷ []))) ∷ block_item.Stmt (stmt.Return (span_at 63 ts) (Some (expr.Number (literal 0 I32 (span_at 64 ts))))) ∷ [])

abbrev pub line_item : Shape → ℕ → ℕ → ℕ → List Token → Item
line_item Added k j c ts = added_item k j c ts
line_item Multiplied k j c ts = multiplied_item k j c ts
line_item Pointed k j c ts = pointed_item k j c ts
line_item Adjusted k j c ts = adjusted_item k j c ts

abbrev pub function_item : ℕ → ℕ → List Token → Item
function_item number zero ts = zero_item ts
function_item number (suc k) ts = line_item (shape_at number (suc k)) (suc k) (target_at number (suc k)) (held_at number (suc k)) ts

-- function k in the table, with its name behind the comma
abbrev pub entry_init : ℕ → List Token → Init
entry_init zero ts = init.Name None (name_of (f_name 0) (span_at 0 ts)) []
entry_init (suc k) ts = init.Name None (name_of (f_name (suc k)) (span_at 1 ts)) []

-- the functions in the table, whose first stands at a place
abbrev pub entry_inits : ℕ → ℕ → List Init
entry_inits at zero = []
entry_inits at (suc k) = entry_inits at k ++ entry_init k (tokens_at (at + length (joined (entries_pieces k))) (entry_pieces k)) ∷ []

-- `fn table[n] = { .. };`
abbrev pub table_global : ℕ → List Init → List Token → Item
table_global n inits ts =
    item.Globals (base.Named (name_of (codes "fn") (span_at 0 ts))) (global_of (decl [] (name_of (codes "table") (span_at 1 ts)) (literal n I32 (span_at 3 ts) ∷ [])) (Some (init.List (span_at 6 ts) inits)) ∷ [])

-- the table whose line begins at a place
abbrev pub table_item : ℕ → ℕ → Item
table_item at n = table_global n (entry_inits (at + length (joined (table_head n))) n) (tokens_at at (table_head n))

-- where the functions begin, the function k, the table and `main`
abbrev pub functions_place : ℕ
functions_place = 0 + length (joined typedef_pieces)

abbrev pub function_place : ℕ → ℕ → ℕ
function_place number k = functions_place + length (joined (functions_pieces number k))

abbrev pub main_place : ℕ → ℕ → ℕ
main_place number n = function_place number n + length (joined (table_pieces n))

-- the type of the functions, and so many of them
abbrev pub items_up : ℕ → ℕ → List Item
items_up number zero = typedef_item (tokens_at 0 typedef_pieces) ∷ []
items_up number (suc k) = items_up number k ++ function_item number k (tokens_at (function_place number k) (function_pieces number k)) ∷ []

-- the whole unit
abbrev pub unit_tree : ℕ → ℕ → Unit'
unit_tree number n = unit_of ((items_up number n ++ table_item (function_place number n) n ∷ []) ++ main_item n (tokens_at (main_place number n) (main_pieces n)) ∷ [])
