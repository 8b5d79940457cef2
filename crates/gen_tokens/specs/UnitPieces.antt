-- The pieces of the unit of a number and a count of functions, and its tokens.
use Rattle.std.specs.Prelude.{ℕ, zero, suc, ◌-◌, ◌*◌, ◌==◌, if◌then◌else◌, List, [], ◌∷◌, ◌++◌, codes}
use Rattle.c_lex.specs.declared.words.Word.TheVariants as word
use Rattle.c_lex.specs.declared.marks.Mark.TheVariants as mark
use Rattle.c_lex.specs.declared.token.Token.{Token}
use Rattle.case_gen.specs.Numbers.{drawn}
use Rattle.gen_tokens.specs.Pieces.{Piece, Space, Line, Reserved, Called, Function, Constant, Sign, tokens_at}

-- the forms of a line
pub data Shape : Type 0 where
  Added Multiplied Pointed Adjusted : Shape

-- the form that a draw below 4 gives
abbrev pub shape_of : ℕ → Shape
shape_of o = if o == 0 then Added else (if o == 1 then Multiplied else (if o == 2 then Pointed else Adjusted))

-- what function k draws: its form, the function that it goes on to, and its number
abbrev pub shape_at : ℕ → ℕ → Shape
shape_at number k = shape_of (drawn number (3 * k - 2) 4)

abbrev pub target_at : ℕ → ℕ → ℕ
target_at number k = drawn number (3 * k - 1) k

abbrev pub held_at : ℕ → ℕ → ℕ
held_at number k = drawn number (3 * k) 1000

-- `typedef long long (*fn)(long long, long long);`
abbrev pub typedef_pieces : List Piece
typedef_pieces = Reserved word.Typedef ∷ Space ∷ Reserved word.Long ∷ Space ∷ Reserved word.Long ∷ Space ∷ Sign mark.OpenParen ∷ Sign mark.Star ∷ Called (codes "fn") ∷ Sign mark.CloseParen ∷ Sign mark.OpenParen ∷ Reserved word.Long ∷ Space ∷ Reserved word.Long ∷ Sign mark.Comma ∷ Space ∷ Reserved word.Long ∷ Space ∷ Reserved word.Long ∷ Sign mark.CloseParen ∷ Sign mark.Semicolon ∷ Line ∷ []

-- the line of function k, which goes on to function j and holds the number c
abbrev pub line_pieces : Shape → ℕ → ℕ → ℕ → List Piece
line_pieces Added k j c = Reserved word.Long ∷ Space ∷ Reserved word.Long ∷ Space ∷ Function k ∷ Sign mark.OpenParen ∷ Reserved word.Long ∷ Space ∷ Reserved word.Long ∷ Space ∷ Called (codes "a") ∷ Sign mark.Comma ∷ Space ∷ Reserved word.Long ∷ Space ∷ Reserved word.Long ∷ Space ∷ Called (codes "b") ∷ Sign mark.CloseParen ∷ Space ∷ Sign mark.OpenBrace ∷ Space ∷ Reserved word.Return ∷ Space ∷ Function j ∷ Sign mark.OpenParen ∷ Called (codes "a") ∷ Space ∷ Sign mark.Plus ∷ Space ∷ Constant c ∷ Sign mark.Comma ∷ Space ∷ Called (codes "b") ∷ Sign mark.CloseParen ∷ Space ∷ Sign mark.Minus ∷ Space ∷ Called (codes "b") ∷ Sign mark.Semicolon ∷ Space ∷ Sign mark.CloseBrace ∷ Line ∷ []
line_pieces Multiplied k j c = Reserved word.Long ∷ Space ∷ Reserved word.Long ∷ Space ∷ Function k ∷ Sign mark.OpenParen ∷ Reserved word.Long ∷ Space ∷ Reserved word.Long ∷ Space ∷ Called (codes "a") ∷ Sign mark.Comma ∷ Space ∷ Reserved word.Long ∷ Space ∷ Reserved word.Long ∷ Space ∷ Called (codes "b") ∷ Sign mark.CloseParen ∷ Space ∷ Sign mark.OpenBrace ∷ Space ∷ Reserved word.Return ∷ Space ∷ Called (codes "a") ∷ Space ∷ Sign mark.Star ∷ Space ∷ Constant c ∷ Space ∷ Sign mark.Plus ∷ Space ∷ Function j ∷ Sign mark.OpenParen ∷ Called (codes "b") ∷ Sign mark.Comma ∷ Space ∷ Called (codes "a") ∷ Sign mark.CloseParen ∷ Sign mark.Semicolon ∷ Space ∷ Sign mark.CloseBrace ∷ Line ∷ []
line_pieces Pointed k j c = Reserved word.Long ∷ Space ∷ Reserved word.Long ∷ Space ∷ Function k ∷ Sign mark.OpenParen ∷ Reserved word.Long ∷ Space ∷ Reserved word.Long ∷ Space ∷ Called (codes "a") ∷ Sign mark.Comma ∷ Space ∷ Reserved word.Long ∷ Space ∷ Reserved word.Long ∷ Space ∷ Called (codes "b") ∷ Sign mark.CloseParen ∷ Space ∷ Sign mark.OpenBrace ∷ Space ∷ Called (codes "fn") ∷ Space ∷ Called (codes "p") ∷ Space ∷ Sign mark.Equal ∷ Space ∷ Function j ∷ Sign mark.Semicolon ∷ Space ∷ Reserved word.Return ∷ Space ∷ Called (codes "p") ∷ Sign mark.OpenParen ∷ Called (codes "a") ∷ Space ∷ Sign mark.Caret ∷ Space ∷ Constant c ∷ Sign mark.Comma ∷ Space ∷ Called (codes "b") ∷ Sign mark.CloseParen ∷ Sign mark.Semicolon ∷ Space ∷ Sign mark.CloseBrace ∷ Line ∷ []
line_pieces Adjusted k j c = Reserved word.Adjustor ∷ Space ∷ Function k ∷ Space ∷ Sign mark.Equal ∷ Space ∷ Function j ∷ Sign mark.Comma ∷ Space ∷ Constant 1 ∷ Sign mark.Comma ∷ Space ∷ Constant c ∷ Sign mark.Semicolon ∷ Line ∷ []

-- function 0 draws nothing
abbrev pub function_pieces : ℕ → ℕ → List Piece
function_pieces number zero = Reserved word.Long ∷ Space ∷ Reserved word.Long ∷ Space ∷ Function 0 ∷ Sign mark.OpenParen ∷ Reserved word.Long ∷ Space ∷ Reserved word.Long ∷ Space ∷ Called (codes "a") ∷ Sign mark.Comma ∷ Space ∷ Reserved word.Long ∷ Space ∷ Reserved word.Long ∷ Space ∷ Called (codes "b") ∷ Sign mark.CloseParen ∷ Space ∷ Sign mark.OpenBrace ∷ Space ∷ Reserved word.Return ∷ Space ∷ Called (codes "a") ∷ Space ∷ Sign mark.Plus ∷ Space ∷ Called (codes "b") ∷ Sign mark.Semicolon ∷ Space ∷ Sign mark.CloseBrace ∷ Line ∷ []
function_pieces number (suc k) = line_pieces (shape_at number (suc k)) (suc k) (target_at number (suc k)) (held_at number (suc k))

abbrev pub functions_pieces : ℕ → ℕ → List Piece
functions_pieces number zero = []
functions_pieces number (suc k) = functions_pieces number k ++ function_pieces number k

-- function k in the table, behind a comma where it isn't the first
abbrev pub entry_pieces : ℕ → List Piece
entry_pieces zero = Function 0 ∷ []
entry_pieces (suc k) = Sign mark.Comma ∷ Space ∷ Function (suc k) ∷ []

abbrev pub entries_pieces : ℕ → List Piece
entries_pieces zero = []
entries_pieces (suc k) = entries_pieces k ++ entry_pieces k

-- the table of so many functions: its head, and its end
abbrev pub table_head : ℕ → List Piece
table_head n = Called (codes "fn") ∷ Space ∷ Called (codes "table") ∷ Sign mark.OpenBracket ∷ Constant n ∷ Sign mark.CloseBracket ∷ Space ∷ Sign mark.Equal ∷ Space ∷ Sign mark.OpenBrace ∷ Space ∷ []

abbrev pub table_end : List Piece
table_end = Space ∷ Sign mark.CloseBrace ∷ Sign mark.Semicolon ∷ Line ∷ []

abbrev pub table_pieces : ℕ → List Piece
table_pieces n = table_head n ++ (entries_pieces n ++ table_end)

-- the function that calls them all
abbrev pub main_pieces : ℕ → List Piece
main_pieces n = Reserved word.Int ∷ Space ∷ Called (codes "main") ∷ Sign mark.OpenParen ∷ Reserved word.Void ∷ Sign mark.CloseParen ∷ Space ∷ Sign mark.OpenBrace ∷ Line ∷ Space ∷ Space ∷ Reserved word.Int ∷ Space ∷ Called (codes "i") ∷ Sign mark.Semicolon ∷ Line ∷ Space ∷ Space ∷ Reserved word.Long ∷ Space ∷ Reserved word.Long ∷ Space ∷ Called (codes "v") ∷ Space ∷ Sign mark.Equal ∷ Space ∷ Constant 1 ∷ Sign mark.Semicolon ∷ Line ∷ Space ∷ Space ∷ Reserved word.For ∷ Space ∷ Sign mark.OpenParen ∷ Called (codes "i") ∷ Space ∷ Sign mark.Equal ∷ Space ∷ Constant 0 ∷ Sign mark.Semicolon ∷ Space ∷ Called (codes "i") ∷ Space ∷ Sign mark.Less ∷ Space ∷ Constant n ∷ Sign mark.Semicolon ∷ Space ∷ Called (codes "i") ∷ Sign mark.PlusPlus ∷ Sign mark.CloseParen ∷ Space ∷ Sign mark.OpenBrace ∷ Line ∷ Space ∷ Space ∷ Space ∷ Space ∷ Called (codes "v") ∷ Space ∷ Sign mark.Equal ∷ Space ∷ Called (codes "table") ∷ Sign mark.OpenBracket ∷ Called (codes "i") ∷ Sign mark.CloseBracket ∷ Sign mark.OpenParen ∷ Called (codes "v") ∷ Sign mark.Comma ∷ Space ∷ Called (codes "i") ∷ Sign mark.CloseParen ∷ Space ∷ Sign mark.Percent ∷ Space ∷ Constant 1000000 ∷ Sign mark.Semicolon ∷ Line ∷ Space ∷ Space ∷ Space ∷ Space ∷ Called (codes "put_byte") ∷ Sign mark.OpenParen ∷ Constant 65 ∷ Space ∷ Sign mark.Plus ∷ Space ∷ Sign mark.OpenParen ∷ Reserved word.Int ∷ Sign mark.CloseParen ∷ Sign mark.OpenParen ∷ Sign mark.OpenParen ∷ Reserved word.Unsigned ∷ Space ∷ Reserved word.Long ∷ Space ∷ Reserved word.Long ∷ Sign mark.CloseParen ∷ Called (codes "v") ∷ Space ∷ Sign mark.Percent ∷ Space ∷ Constant 26 ∷ Sign mark.CloseParen ∷ Sign mark.CloseParen ∷ Sign mark.Semicolon ∷ Line ∷ Space ∷ Space ∷ Sign mark.CloseBrace ∷ Line ∷ Space ∷ Space ∷ Reserved word.Return ∷ Space ∷ Constant 0 ∷ Sign mark.Semicolon ∷ Line ∷ Sign mark.CloseBrace ∷ Line ∷ []

-- the whole unit
abbrev pub unit_pieces : ℕ → ℕ → List Piece
unit_pieces number size = typedef_pieces ++ (functions_pieces number size ++ (table_pieces size ++ main_pieces size))

-- the tokens of the whole unit, each with the bytes that it stands in
abbrev pub unit_tokens : ℕ → ℕ → List Token
unit_tokens number size = tokens_at 0 (unit_pieces number size)
