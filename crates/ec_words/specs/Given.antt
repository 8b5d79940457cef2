-- What was given, as contracts see it.
use Rattle.std.specs.Prelude.{[], map, option_map, unwrap_or}
use Rattle.ec_words.specs.declared.given.Given.{Given}
use Rattle.ec_words.specs.Commands.{Parts}

abbrev pub parts_in : Given → Parts
parts_in g = record {
  operands = unwrap_or (option_map (λ ws. map (λ w. w.now) ws.now) g.operands) [];
  output = option_map (λ w. w.now) g.output;
  marking = option_map (λ w. w.now) g.marking;
  stack = option_map (λ w. w.now) g.stack;
  base = option_map (λ w. w.now) g.base;
  fuel = option_map (λ w. w.now) g.fuel;
  size = option_map (λ w. w.now) g.size;
}
