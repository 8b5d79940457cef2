-- The rule of words: this project's own. The first word is a command. Its positional words follow, all
-- together, and then options, each a name and one value, in any order, no name twice. No positional word
-- and no value is empty or begins with a hyphen.
use Rattle.std.specs.Prelude.{ℕ, List, [], ◌∷◌, length, Bool, true, false, not, ◌&&◌, ◌||◌, ◌==◌, nat_lt, Option, Some, None, is_some, codes, if◌then◌else◌}
use Rattle.std.specs.Str.{bytes_eq}
use Rattle.std.specs.List.{list_any}
use Rattle.ec_words.specs.declared.table.Verb.{Verb}
use Rattle.ec_words.specs.Table.{Text, takes_many, options_of, needs_output}

-- the word isn't empty, and doesn't begin with a hyphen (45)
abbrev pub is_operand : Text → Bool
is_operand [] = false
is_operand (b ∷ bs) = not (b == 45)

-- the positional words that the words begin with
abbrev pub operands : List Text → List Text
operands [] = []
operands (w ∷ ws) = if is_operand w then w ∷ operands ws else []

-- the words after them
abbrev pub options : List Text → List Text
options [] = []
options (w ∷ ws) = if is_operand w then options ws else w ∷ ws

-- the value of the first option of this name, in words of which every second one is a name
abbrev pub value_of : Text → List Text → Option Text
value_of name [] = None
value_of name (n ∷ []) = None
value_of name (n ∷ (v ∷ rest)) = if bytes_eq n name then Some v else value_of name rest

-- the words are pairs of a name, one of these and none of those that follow, and a value
abbrev pub are_options : List Text → List Text → Bool
are_options names [] = true
are_options names (n ∷ []) = false
are_options names (n ∷ (v ∷ rest)) =
    list_any (λ name. bytes_eq name n) names && (is_operand v
    && (not (is_some (value_of n rest)) && are_options names rest))

-- the command takes this many positional words
abbrev pub takes_count : Verb → ℕ → Bool
takes_count verb n = if takes_many verb then nat_lt 0 n else n == 1

-- the words after the command's name are as its row of the table says
abbrev pub is_line : Verb → List Text → Bool
is_line verb words = takes_count verb (length (operands words))
    && are_options (options_of verb) (options words)
    && (not (needs_output verb) || is_some (value_of (codes "-o") (options words)))
