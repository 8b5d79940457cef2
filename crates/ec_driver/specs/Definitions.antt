-- The names that a marking may turn: those of the functions and adjustors that a program defines, in the
-- one order of definition (this project's own).
use Rattle.std.specs.Prelude.{ℕ, zero, suc, ◌+◌, ◌==◌, List, [], ◌∷◌, Option, Some, None, if◌then◌else◌}
use Rattle.std.specs.Option.{option_or}
use Rattle.c_program.specs.declared.program.FunctionBody.{FunctionBody}
use Rattle.c_program.specs.declared.program.FunDef.{FunDef}
use Rattle.c_program.specs.declared.program.AdjustDef.{AdjustDef}
use Rattle.c_program.specs.declared.program.Program.{Program}

abbrev pub name_if : List ℕ → ℕ → Option FunctionBody → Option (List ℕ)
name_if name number None = None
name_if name number (Some body) = if body.number == number then Some name else None

-- the name of a function, if its definition has this number
abbrev pub function_name : ℕ → FunDef → Option (List ℕ)
function_name number f = name_if f.name number f.body

abbrev pub adjustor_name : ℕ → AdjustDef → Option (List ℕ)
adjustor_name number a = if a.number == number then Some a.name else None

-- the first name that the items give
abbrev pub first_name : {A : Type 0} → (A → Option (List ℕ)) → List A → Option (List ℕ)
first_name name [] = None
first_name name (x ∷ xs) = option_or (name x) (first_name name xs)

-- the name of the definition of this number
abbrev pub name_numbered : Program → ℕ → Option (List ℕ)
name_numbered p number = option_or (first_name (function_name number) p.functions) (first_name (adjustor_name number) p.adjustors)

-- a name, and those that follow it
abbrev pub name_and : Option (List ℕ) → List (List ℕ) → List (List ℕ)
name_and None names = []
name_and (Some name) names = name ∷ names

-- the names of the definitions from a number on, as long as there is one, and so many at most
unfoldable pub names_from : Program → ℕ → ℕ → List (List ℕ)
names_from p number zero = []
names_from p number (suc most) = name_and (name_numbered p number) (names_from p (number + 1) most)

-- the most definitions of a program within the limits
abbrev pub most_definitions : ℕ
most_definitions = 4096

-- the names of all definitions, in order
abbrev pub defined_names : Program → List (List ℕ)
defined_names p = names_from p 0 most_definitions
