-- The command line as `clap` has it, and what it found.
use Rattle.std.specs.Prelude.{ℕ, List, [], Some, true, codes, option_map, unwrap_or}
use Rattle.clap.specs.Matches.{found_of, matched_of, raw_values, first_value}
use Rattle.clap.specs.Simple.{App, new_app, new_rule, with_rule, on_top}
use Rattle.clap.specs.Walk.{Rule}
use Rattle.clap.specs.declared.builder.action.ArgAction.TheVariants.{Append}
use Rattle.clap.specs.declared.parser.matches.ArgMatches.{ArgMatches}
use Rattle.ec_words.specs.Commands.{Parts}

-- the positional words, as many as there are
abbrev pub words_rule : Rule
words_rule = record (new_rule (codes "words")) { action = Some Append }

-- an option of one value, by a letter and by a word
abbrev pub short_rule : List ℕ → ℕ → Rule
short_rule id letter = record (new_rule id) { short = Some letter }

abbrev pub long_rule : List ℕ → Rule
long_rule id = record (new_rule id) { long = Some id }

abbrev pub empty_app : App
empty_app = on_top (λ s. record s { disable_help_flag = true }) (new_app (codes "ecc"))

-- positional words, and the options of all commands, each with one value
abbrev pub line_app : App
line_app = with_rule (with_rule (with_rule (with_rule (with_rule (with_rule (with_rule empty_app
    words_rule)
    (short_rule (codes "output") 111))
    (short_rule (codes "marking") 109))
    (long_rule (codes "stack")))
    (long_rule (codes "base")))
    (long_rule (codes "fuel")))
    (long_rule (codes "size"))

-- the positional words and the values of options that a parse found
abbrev pub parts_found : ArgMatches → Parts
parts_found m = record {
  operands = unwrap_or (option_map raw_values (matched_of (found_of m) (codes "words"))) [];
  output = first_value (found_of m) (codes "output");
  marking = first_value (found_of m) (codes "marking");
  stack = first_value (found_of m) (codes "stack");
  base = first_value (found_of m) (codes "base");
  fuel = first_value (found_of m) (codes "fuel");
  size = first_value (found_of m) (codes "size");
}
