-- Programs of which the meaning is worked out by hand.
use Rattle.std.specs.Prelude.{ℕ, List, [], ◌∷◌, Some, false, codes}
use Rattle.c_types.specs.declared.types.IntTy.TheVariants.{I32}
use Rattle.c_types.specs.declared.types.Ty.TheVariants as ty
use Rattle.c_types.specs.declared.types.FunTy.{FunTy}
use Rattle.c_program.specs.declared.expressions.TypedExpr.{TypedExpr}
use Rattle.c_program.specs.declared.expressions.TypedExpr.TheVariants as expr
use Rattle.c_program.specs.declared.statements.TypedItem.{TypedItem}
use Rattle.c_program.specs.declared.statements.TypedItem.TheVariants as item
use Rattle.c_program.specs.declared.statements.TypedStmt.TheVariants as stmt
use Rattle.c_program.specs.declared.program.FunctionBody.{FunctionBody}
use Rattle.c_program.specs.declared.program.Program.{Program}
use Rattle.c_meaning.specs.declared.outcome.SourceEnd.TheVariants as ends
use Rattle.c_meaning.specs.Source.{Run}

abbrev pub int_main : FunTy
int_main = record { result = ty.Int I32; params = []; variadic = false }

abbrev pub main_block : List TypedItem → FunctionBody
main_block xs = record { unit = 0; number = 0; locals = []; block = xs }

abbrev pub only_main : List TypedItem → Program
only_main xs = record {
  types = record { tys = []; structs = []; funs = int_main ∷ [] };
  globals = [];
  functions = record { name = codes "main"; ty = 0; body = Some (main_block xs) } ∷ [];
  adjustors = [];
  other_nodes = 0;
  extras = 0;
}

abbrev pub number : ℕ → TypedExpr
number n = expr.Number I32 n

abbrev pub give_number : ℕ → TypedItem
give_number n = item.Stmt (stmt.Return (Some (number n)))

-- int main(void) { return 263; }
abbrev pub gives_seven : Program
gives_seven = only_main (give_number 263 ∷ [])

-- int main(void) { while (1); return 0; }
abbrev pub endless : Program
endless = only_main (item.Stmt (stmt.While (number 1) stmt.Empty) ∷ give_number 0 ∷ [])

-- with 3 units or more: the status is 7, the low 8 bits of 263, and 3 units are paid, for the block, the
-- statement and the number; the charge of main is 1,024 + 64 * 4 + 8 * 4
abbrev pub seven_run : Run
seven_run = record { output = []; outcome = ends.Exit 7; taken = 0; units = 3; peak = 5408; walk = codes "main" ∷ [] }

-- with 1,000 units, 2 of them for the block and the loop, and 2 for each of 499 turns; main has 7 nodes
abbrev pub endless_run : Run
endless_run = record { output = []; outcome = ends.Running; taken = 0; units = 1000; peak = 5600; walk = codes "main" ∷ [] }
