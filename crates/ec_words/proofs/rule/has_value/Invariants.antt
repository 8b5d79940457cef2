use Rattle.std.proofs.Common.{◌≡◌, length, map, is_some, string_bytes}
use Rattle.ec_words.specs.Rule.{value_of}
use Rattle.ec_words.proofs.rule.has_value.Given as goal

abbrev pub invariant-loop-rest : goal.invariant-loop-rest
invariant-loop-rest l = is_some (value_of l.name (map string_bytes l.rest)) ≡ is_some (value_of l.name (map string_bytes l.words))

abbrev pub decreases-loop-rest : goal.decreases-loop-rest
decreases-loop-rest l = length l.rest
