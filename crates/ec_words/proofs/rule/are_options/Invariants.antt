use Rattle.std.proofs.Common.{◌≡◌, length, map, string_bytes}
use Rattle.ec_words.specs.Table.{options_of}
use Rattle.ec_words.specs.Rule.{are_options}
use Rattle.ec_words.proofs.rule.are_options.Given as goal

abbrev pub invariant-loop-rest : goal.invariant-loop-rest
invariant-loop-rest l = are_options (options_of l.verb) (map string_bytes l.rest) ≡ are_options (options_of l.verb) (map string_bytes l.words)

abbrev pub decreases-loop-rest : goal.decreases-loop-rest
decreases-loop-rest l = length l.rest
