-- The commands that words are: this project's own.
use Rattle.std.specs.Prelude.{ℕ, List, [], ◌∷◌, map, Option, Some, None, option_map, option_and_then, unwrap_or, slice_get, string_bytes, codes, if◌then◌else◌}
use Rattle.ec_words.specs.declared.table.Verb.{Verb}
use Rattle.ec_words.specs.declared.table.Verb.TheVariants as verb
use Rattle.ec_words.specs.declared.commands.Command.{Command}
use Rattle.ec_words.specs.declared.commands.Command.TheVariants.{Check, Interp, Compile, Link, Build, Run, Exec, Gen, Many}
use Rattle.ec_words.specs.Table.{Text, verb_of}
use Rattle.ec_words.specs.Rule.{operands, options, value_of, is_line}
use Rattle.ec_words.specs.Numbers.{number_of, setting, rounded}
use Rattle.ec_words.specs.Markings.{Marks, marks_of, marking_of}

-- a command: its names as texts, its numbers and its marking
pub data Form : Type 0 where
  check : List Text → Form
  interp : List Text → ℕ → Form
  compile : List Text → Text → Marks → Form
  link : List Text → Text → ℕ → Form
  build : List Text → Text → Marks → ℕ → Form
  run : Text → ℕ → ℕ → Form
  exec : List Text → Text → Marks → ℕ → ℕ → ℕ → Form
  gen : ℕ → ℕ → Form
  many : ℕ → Text → Form

-- a command of the program, as contracts see it
abbrev pub form_of : Command → Form
form_of (Check units) = check (map string_bytes units.items)
form_of (Interp units fuel) = interp (map string_bytes units.items) fuel
form_of (Compile units stem marking) = compile (map string_bytes units.items) (string_bytes stem) (marks_of marking)
form_of (Link objects image stack) = link (map string_bytes objects.items) (string_bytes image) stack
form_of (Build units image marking stack) = build (map string_bytes units.items) (string_bytes image) (marks_of marking) stack
form_of (Run image base fuel) = run (string_bytes image) base fuel
form_of (Exec units image marking stack base fuel) = exec (map string_bytes units.items) (string_bytes image) (marks_of marking) stack base fuel
form_of (Gen number size) = gen number size
form_of (Many number stem) = many number (string_bytes stem)

-- the positional words of a command, and the values of its options where they are there
pub record Parts : Type 0 where
  pub operands : List Text
  pub output : Option Text
  pub marking : Option Text
  pub stack : Option Text
  pub base : Option Text
  pub fuel : Option Text
  pub size : Option Text

abbrev pub parts_of : List Text → Parts
parts_of words = record {
  operands = operands words;
  output = value_of (codes "-o") (options words);
  marking = value_of (codes "-m") (options words);
  stack = value_of (codes "--stack") (options words);
  base = value_of (codes "--base") (options words);
  fuel = value_of (codes "--fuel") (options words);
  size = value_of (codes "--size") (options words);
}

-- the one positional word of a command that takes one
abbrev pub first_of : Parts → Text
first_of p = unwrap_or (slice_get p.operands 0) []

-- the value of `-o` of a command that must have it
abbrev pub output_of : Parts → Text
output_of p = unwrap_or p.output []

-- the bytes of the guest's stack: 64 KiB to 256 MiB, and 1 MiB by default
abbrev pub stack_of : Parts → Option ℕ
stack_of p = option_map rounded (setting 1048576 65536 268435456 p.stack)

-- the base of the image: any number, and 5 GiB by default
abbrev pub base_of : Parts → Option ℕ
base_of p = setting 0x140000000 0 18446744073709551615 p.base

-- steps or units: to a million millions, and a hundred millions by default
abbrev pub fuel_of : Parts → Option ℕ
fuel_of p = setting 100000000 0 1000000000000 p.fuel

-- the size of a generated text: 1 to 1,000, and 200 by default
abbrev pub size_of : Parts → Option ℕ
size_of p = setting 200 1 1000 p.size

abbrev pub also : {A B : Type 0} → Option A → (A → Option B) → Option B
also o f = option_and_then f o

-- the command of this name and these parts
abbrev pub command_in : Verb → Parts → Option Form
command_in verb.Check p = Some (check p.operands)
command_in verb.Interp p = option_map (interp p.operands) (fuel_of p)
command_in verb.Compile p = option_map (compile p.operands (output_of p)) (marking_of p.marking)
command_in verb.Link p = option_map (link p.operands (output_of p)) (stack_of p)
command_in verb.Build p = also (marking_of p.marking) (λ m. option_map (build p.operands (output_of p) m) (stack_of p))
command_in verb.Run p = also (base_of p) (λ base. option_map (run (first_of p) base) (fuel_of p))
command_in verb.Exec p = also (marking_of p.marking) (λ m. also (stack_of p) (λ stack. also (base_of p) (λ base. option_map (exec p.operands (output_of p) m stack base) (fuel_of p))))
command_in verb.Gen p = also (number_of (first_of p)) (λ n. option_map (gen n) (size_of p))
command_in verb.Many p = option_map (λ n. many n (output_of p)) (number_of (first_of p))

-- the words after a command's name, if they are as its row of the table says
abbrev pub command_after : Verb → List Text → Option Form
command_after verb words = if is_line verb words then command_in verb (parts_of words) else None

-- the command that the words are, and none for all other words
abbrev pub command_of : List Text → Option Form
command_of [] = None
command_of (word ∷ words) = option_and_then (λ verb. command_after verb words) (verb_of word)
