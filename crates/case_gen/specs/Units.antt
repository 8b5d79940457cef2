-- The unit of a number and a count of functions: this project's own.
use Rattle.std.specs.Prelude.{ℕ, zero, suc, ◌-◌, ◌*◌, ◌==◌, List, [], ◌++◌, codes, decimal, if◌then◌else◌}
use Rattle.case_gen.specs.declared.units.Form.{Form}
use Rattle.case_gen.specs.declared.units.Form.TheVariants.{Added, Multiplied, Pointed, Adjusted}
use Rattle.case_gen.specs.declared.units.Choice.{Choice}
use Rattle.case_gen.specs.Numbers.{drawn}

-- the form that a draw below 4 gives
abbrev pub form_of : ℕ → Form
form_of o = if o == 0 then Added else if o == 1 then Multiplied else if o == 2 then Pointed else Adjusted

-- the line of function k, which goes on to function j and holds the number c
abbrev pub line_of : Form → ℕ → ℕ → ℕ → List ℕ
line_of Added k j c = codes "long long f" ++ (decimal k ++ (codes "(long long a, long long b) { return f" ++ (decimal j ++ (codes "(a + " ++ (decimal c ++ codes ", b) - b; }\n")))))
line_of Multiplied k j c = codes "long long f" ++ (decimal k ++ (codes "(long long a, long long b) { return a * " ++ (decimal c ++ (codes " + f" ++ (decimal j ++ codes "(b, a); }\n")))))
line_of Pointed k j c = codes "long long f" ++ (decimal k ++ (codes "(long long a, long long b) { fn p = f" ++ (decimal j ++ (codes "; return p(a ^ " ++ (decimal c ++ codes ", b); }\n")))))
line_of Adjusted k j c = codes "__adjustor f" ++ (decimal k ++ (codes " = f" ++ (decimal j ++ (codes ", 1, " ++ (decimal c ++ codes ";\n")))))

-- what function k draws: its form, the function that it goes on to, and its number
abbrev pub choice_at : ℕ → ℕ → Choice
choice_at number k = record { form = form_of (drawn number (3 * k - 2) 4); target = drawn number (3 * k - 1) k; held = drawn number (3 * k) 1000 }

abbrev pub chosen_line : ℕ → Choice → List ℕ
chosen_line k c = line_of c.form k c.target c.held

-- function 0 draws nothing
abbrev pub function_at : ℕ → ℕ → List ℕ
function_at number k = if k == 0 then codes "long long f0(long long a, long long b) { return a + b; }\n" else chosen_line k (choice_at number k)

-- the lines of so many functions
abbrev pub functions_of : ℕ → ℕ → List ℕ
functions_of number zero = []
functions_of number (suc k) = functions_of number k ++ function_at number k

-- function k in the table, behind a comma where it isn't the first
abbrev pub entry_of : ℕ → List ℕ
entry_of k = (if k == 0 then codes "f" else codes ", f") ++ decimal k

abbrev pub entries_of : ℕ → List ℕ
entries_of zero = []
entries_of (suc k) = entries_of k ++ entry_of k

-- the table of so many functions
abbrev pub table_of : ℕ → List ℕ
table_of size = codes "fn table[" ++ (decimal size ++ (codes "] = { " ++ (entries_of size ++ codes " };\n")))

-- the function that calls them all
abbrev pub main_of : ℕ → List ℕ
main_of size = codes "int main(void) {\n  int i;\n  long long v = 1;\n  for (i = 0; i < " ++ (decimal size ++ codes "; i++) {\n    v = table[i](v, i) % 1000000;\n    put_byte(65 + (int)((unsigned long long)v % 26));\n  }\n  return 0;\n}\n")

-- the whole unit
abbrev pub unit_of : ℕ → ℕ → List ℕ
unit_of number size = codes "typedef long long (*fn)(long long, long long);\n" ++ (functions_of number size ++ (table_of size ++ main_of size))
