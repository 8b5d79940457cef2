use Rattle.std.proofs.Common.{◌≡◌, ◌≤◌, ◌-◌, length, take, drop, map, ◌++◌, string_bytes}
use Rattle.ec_words.specs.Rule.{operands, options}
use Rattle.ec_words.proofs.rule.count_operands.Given as goal

abbrev pub invariant-loop-count : goal.invariant-loop-count
invariant-loop-count l = record {
  within : l.count ≤ length l.words;
  front : take l.count (map string_bytes l.words) ++ operands (drop l.count (map string_bytes l.words)) ≡ operands (map string_bytes l.words);
  back : options (drop l.count (map string_bytes l.words)) ≡ options (map string_bytes l.words);
}

abbrev pub decreases-loop-count : goal.decreases-loop-count
decreases-loop-count l = length l.words - l.count
