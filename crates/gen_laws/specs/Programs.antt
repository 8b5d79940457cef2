-- The programs that the units of numbers are (C11, 6.5 to 6.9): each line as its definition, with every conversion
-- written out.
use Rattle.std.specs.Prelude.{ℕ, pos, zero, suc, ◌+◌, Bool, true, false, if◌then◌else◌, List, [], ◌∷◌, ◌++◌, length, Some, None, codes}
use Rattle.c_types.specs.declared.types.IntTy.TheVariants.{I32, I64, U64}
use Rattle.c_types.specs.declared.types.Ty.{Ty}
use Rattle.c_types.specs.declared.types.Ty.TheVariants.{Int, Fun, Array}
use Rattle.c_types.specs.declared.types.FunTy.{FunTy}
use Rattle.c_program.specs.declared.expressions.Arithmetic.TheVariants as arithmetic
use Rattle.c_program.specs.declared.expressions.Comparison.TheVariants as comparison
use Rattle.c_program.specs.declared.expressions.Service.TheVariants.{PutByte}
use Rattle.c_program.specs.declared.expressions.Target.{Target}
use Rattle.c_program.specs.declared.expressions.Target.TheVariants as target
use Rattle.c_program.specs.declared.expressions.Place.TheVariants as place
use Rattle.c_program.specs.declared.expressions.TypedExpr.{TypedExpr}
use Rattle.c_program.specs.declared.expressions.TypedExpr.TheVariants as typed
use Rattle.c_program.specs.declared.statements.ForBegin.TheVariants as begin
use Rattle.c_program.specs.declared.statements.TypedItem.{TypedItem}
use Rattle.c_program.specs.declared.statements.TypedItem.TheVariants as typed_item
use Rattle.c_program.specs.declared.statements.TypedStmt.TheVariants as typed_stmt
use Rattle.c_program.specs.declared.program.Constant.{Constant}
use Rattle.c_program.specs.declared.program.Constant.TheVariants as constant
use Rattle.c_program.specs.declared.program.GlobalDef.{GlobalDef}
use Rattle.c_program.specs.declared.program.FunDef.{FunDef}
use Rattle.c_program.specs.declared.program.AdjustDef.{AdjustDef}
use Rattle.c_program.specs.declared.program.Program.{Program}
use Rattle.c_typing.specs.declared.scopes.Meaning.{Meaning}
use Rattle.c_typing.specs.declared.scopes.Meaning.TheVariants as meaning
use Rattle.c_typing.specs.declared.scopes.UnitName.{UnitName}
use Rattle.c_typing.specs.declared.tables.Progress.{Progress}
use Rattle.c_typing.specs.Heads.{function_type}
use Rattle.gen_units.specs.Trees.{f_name}
use Rattle.gen_tokens.specs.UnitPieces.{Shape, Added, Multiplied, Pointed, Adjusted, shape_at, target_at, held_at}

abbrev pub long_type : Ty
long_type = Int I64

-- `long long (long long, long long)`, at place 0 of the types of functions
abbrev pub call_type : FunTy
call_type = function_type long_type (long_type ∷ long_type ∷ []) false

-- which of the lines are adjustors; function 0 is none
abbrev pub is_adjusted : Shape → Bool
is_adjusted Adjusted = true
is_adjusted _ = false

abbrev pub adjusts : ℕ → ℕ → Bool
adjusts number zero = false
adjusts number (suc k) = is_adjusted (shape_at number (suc k))

-- how many of the first k are functions, and how many adjustors: the place of the next in its list
abbrev pub functions_before : ℕ → ℕ → ℕ
functions_before number zero = 0
functions_before number (suc k) = if adjusts number k then functions_before number k else functions_before number k + 1

abbrev pub adjustors_before : ℕ → ℕ → ℕ
adjustors_before number zero = 0
adjustors_before number (suc k) = if adjusts number k then adjustors_before number k + 1 else adjustors_before number k

-- what the name of function k means, and what a call of it calls
abbrev pub meaning_at : ℕ → ℕ → Meaning
meaning_at number k = if adjusts number k then meaning.Adjustor (adjustors_before number k) 0 else meaning.Function (functions_before number k) 0

abbrev pub callee_at : ℕ → ℕ → Target
callee_at number k = if adjusts number k then target.Adjustor (adjustors_before number k) else target.Function (functions_before number k)

-- the names of the unit behind k lines
abbrev pub names_up : ℕ → ℕ → List UnitName
names_up number zero = record { name = codes "fn"; meaning = meaning.Typedef 0 } ∷ []
names_up number (suc k) = names_up number k ++ record { name = f_name k; meaning = meaning_at number k } ∷ []

-- the parameters as values, and a number as a `long long`
abbrev pub first : TypedExpr
first = typed.Load long_type (place.Local 0)

abbrev pub second : TypedExpr
second = typed.Load long_type (place.Local 1)

abbrev pub long_number : ℕ → TypedExpr
long_number c = typed.Convert I64 (typed.Number I32 c)

abbrev pub returned : TypedExpr → TypedItem
returned e = typed_item.Stmt (typed_stmt.Return (Some e))

-- the block of a line that goes on to a target and holds c; an adjustor has none
abbrev pub line_block : Shape → Target → ℕ → List TypedItem
line_block Added f c = returned (typed.Binary arithmetic.Subtract I64 (typed.Call long_type f (typed.Binary arithmetic.Add I64 first (long_number c) ∷ second ∷ [])) second) ∷ []
line_block Multiplied f c = returned (typed.Binary arithmetic.Add I64 (typed.Binary arithmetic.Multiply I64 first (long_number c)) (typed.Call long_type f (second ∷ first ∷ []))) ∷ []
line_block Pointed f c =
    typed_item.Declare (record { local = 2; ty = Fun 0; init = Some (typed.Function (Fun 0) f) })
    ∷ returned (typed.CallPointer long_type 0 (typed.Load (Fun 0) (place.Local 2)) (typed.Binary arithmetic.BitXor I64 first (long_number c) ∷ second ∷ [])) ∷ []
line_block Adjusted f c = []

abbrev pub line_locals : Shape → List Ty
line_locals Pointed = long_type ∷ long_type ∷ Fun 0 ∷ []
line_locals _ = long_type ∷ long_type ∷ []

abbrev pub function_block : ℕ → ℕ → List TypedItem
function_block number zero = returned (typed.Binary arithmetic.Add I64 first second) ∷ []
function_block number (suc k) = line_block (shape_at number (suc k)) (callee_at number (target_at number (suc k))) (held_at number (suc k))

abbrev pub function_locals : ℕ → ℕ → List Ty
function_locals number zero = long_type ∷ long_type ∷ []
function_locals number (suc k) = line_locals (shape_at number (suc k))

-- the lines so far, each the next of the order of definition
abbrev pub defined_up : ℕ → ℕ
defined_up zero = 0
defined_up (suc k) = defined_up k + 1

abbrev pub function_def : ℕ → ℕ → FunDef
function_def number k = record { name = f_name k; ty = 0; body = Some (record { unit = 0; number = defined_up k; locals = function_locals number k; block = function_block number k }) }

abbrev pub adjust_def : ℕ → ℕ → AdjustDef
adjust_def number k = record { name = f_name k; ty = 0; unit = 0; number = defined_up k; target = callee_at number (target_at number k); parameter = 0; amount = pos (held_at number k) }

abbrev pub functions_up : ℕ → ℕ → List FunDef
functions_up number zero = []
functions_up number (suc k) = if adjusts number k then functions_up number k else functions_up number k ++ function_def number k ∷ []

abbrev pub adjustors_up : ℕ → ℕ → List AdjustDef
adjustors_up number zero = []
adjustors_up number (suc k) = if adjusts number k then adjustors_up number k ++ adjust_def number k ∷ [] else adjustors_up number k

abbrev pub locals_up : ℕ → ℕ → List Ty
locals_up number zero = []
locals_up number (suc k) = if adjusts number k then locals_up number k else function_locals number k

-- a unit so far, whose only type of functions is the one
abbrev pub progress_of : List Ty → List FunDef → List AdjustDef → ℕ → List UnitName → Progress
progress_of locals functions adjustors defined names = record {
  tables = record { types = record { tys = []; structs = []; funs = call_type ∷ [] }; locals = locals; has_list = false; extras = 0 };
  globals = [];
  functions = functions;
  adjustors = adjustors;
  defined = defined;
  scope = record { names = names; tags = [] };
}

-- behind k lines
abbrev pub progress_up : ℕ → ℕ → Progress
progress_up number k = progress_of (locals_up number k) (functions_up number k) (adjustors_up number k) (defined_up k) (names_up number k)

-- the block of `main`, behind a table of n functions, which is global 0
abbrev pub main_block : ℕ → List TypedItem
main_block n =
    let i = typed.Load (Int I32) (place.Local 0) in
    let v = typed.Load long_type (place.Local 1) in
    let entry = typed.Load (Fun 0) (place.Element (Fun 0) (place.Global 0) i n) in
    let next = typed.Binary arithmetic.Remainder I64 (typed.CallPointer long_type 0 entry (v ∷ typed.Convert I64 i ∷ [])) (long_number 1000000) in
    let letter = typed.Convert I32 (typed.Binary arithmetic.Remainder U64 (typed.Convert U64 v) (typed.Convert U64 (typed.Number I32 26))) in
    let body = typed_item.Stmt (typed_stmt.Effect (typed.Assign long_type (place.Local 1) next)) ∷ typed_item.Stmt (typed_stmt.Effect (typed.CallService PutByte (typed.Binary arithmetic.Add I32 (typed.Number I32 65) letter ∷ []))) ∷ [] in
    typed_item.Declare (record { local = 0; ty = Int I32; init = None })
    ∷ typed_item.Declare (record { local = 1; ty = long_type; init = Some (long_number 1) })
    ∷ typed_item.Stmt (typed_stmt.For (begin.Effect (typed.Assign (Int I32) (place.Local 0) (typed.Number I32 0))) (Some (typed.Compare comparison.Less (Int I32) i (typed.Number I32 n))) (Some (typed.After I32 true (place.Local 0))) (typed_stmt.Block body))
    ∷ returned (typed.Number I32 0) ∷ []

-- The table, and the whole

-- the functions that the table holds
abbrev pub entries_up : ℕ → ℕ → List Constant
entries_up number zero = []
entries_up number (suc k) = entries_up number k ++ constant.Function (callee_at number k) ∷ []

abbrev pub table_def : ℕ → ℕ → GlobalDef
table_def number n = record { name = codes "table"; ty = Array 0 n; body = Some (record { unit = 0; init = constant.List (entries_up number n) }) }

abbrev pub table_name : ℕ → UnitName
table_name n = record { name = codes "table"; meaning = meaning.Global 0 (Array 0 n) }

-- `int (void)`, at place 1
abbrev pub main_type : FunTy
main_type = function_type (Int I32) [] false

abbrev pub main_def : ℕ → FunDef
main_def n = record { name = codes "main"; ty = 1; body = Some (record { unit = 0; number = defined_up n; locals = Int I32 ∷ long_type ∷ []; block = main_block n }) }

-- a unit behind its table
abbrev pub progress_behind : List FunTy → List Ty → List GlobalDef → List FunDef → List AdjustDef → ℕ → List UnitName → Progress
progress_behind funs locals globals functions adjustors defined names = record {
  tables = record { types = record { tys = Fun 0 ∷ []; structs = []; funs = funs }; locals = locals; has_list = false; extras = 0 };
  globals = globals;
  functions = functions;
  adjustors = adjustors;
  defined = defined;
  scope = record { names = names; tags = [] };
}

abbrev pub progress_table : ℕ → ℕ → Progress
progress_table number n = progress_behind (call_type ∷ []) (locals_up number n) (table_def number n ∷ []) (functions_up number n) (adjustors_up number n) (defined_up n) (names_up number n ++ table_name n ∷ [])

abbrev pub progress_main : ℕ → ℕ → Progress
progress_main number n = progress_behind (call_type ∷ main_type ∷ []) (Int I32 ∷ long_type ∷ []) (table_def number n ∷ []) (functions_up number n ++ main_def n ∷ []) (adjustors_up number n) (defined_up n + 1) ((names_up number n ++ table_name n ∷ []) ++ record { name = codes "main"; meaning = meaning.Function (length (functions_up number n)) 1 } ∷ [])

-- the whole program: behind its definitions it has a node for the type of the functions and each parameter of it, one
-- for the table's line, its declarator and its braces, and one for each entry
abbrev pub program_at : ℕ → ℕ → Program
program_at number n = record {
  types = record { tys = Fun 0 ∷ []; structs = []; funs = call_type ∷ main_type ∷ [] };
  globals = table_def number n ∷ [];
  functions = functions_up number n ++ main_def n ∷ [];
  adjustors = adjustors_up number n;
  other_nodes = n + 6;
  extras = 0;
}
