use Rattle.std.proofs.Common.{◌≡◌, ◌<◌, ◌^◌, drop}
use Rattle.std.specs.Str.Parse.{digits_value_after, digits_value}
use Rattle.ec_words.specs.Numbers.{are_digits}
use Rattle.ec_words.proofs.numbers.number_in.Given as goal

abbrev pub invariant-loop-byte : goal.invariant-loop-byte
invariant-loop-byte l = record {
  small : l.value < 2 ^ 64;
  value : digits_value_after l.base l.value (drop l.byte-index l.digits) ≡ digits_value l.base l.digits;
  digits : are_digits l.base (drop l.byte-index l.digits) ≡ are_digits l.base l.digits;
}
