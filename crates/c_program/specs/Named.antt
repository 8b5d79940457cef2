-- The function or adjustor that a program defines with a name, by its number in the one order of
-- definition (this project's own). A function that is only declared is none.
use Rattle.std.specs.Prelude.{ℕ, Bool, cond, List, [], ◌∷◌, Option, Some, None}
use Rattle.std.specs.Option.{option_or}
use Rattle.std.specs.Str.{bytes_eq}
use Rattle.c_program.specs.declared.program.FunctionBody.{FunctionBody}
use Rattle.c_program.specs.declared.program.FunDef.{FunDef}
use Rattle.c_program.specs.declared.program.AdjustDef.{AdjustDef}
use Rattle.c_program.specs.declared.program.Program.{Program}

abbrev pub number_if : Bool → Option FunctionBody → Option ℕ
number_if named None = None
number_if named (Some b) = cond named (Some b.number) None

-- the number of a function that is defined with this name
abbrev pub function_number : List ℕ → FunDef → Option ℕ
function_number name f = number_if (bytes_eq f.name name) f.body

abbrev pub adjustor_number : List ℕ → AdjustDef → Option ℕ
adjustor_number name a = cond (bytes_eq a.name name) (Some a.number) None

-- the first number that the items give
abbrev pub first_number : {A : Type 0} → (A → Option ℕ) → List A → Option ℕ
first_number number [] = None
first_number number (x ∷ xs) = option_or (number x) (first_number number xs)

abbrev pub number_named : Program → List ℕ → Option ℕ
number_named p name = option_or (first_number (function_number name) p.functions) (first_number (adjustor_number name) p.adjustors)
