use Rattle.c_parser.proofs.AnswerLaws.{answer_sound, answer_whole, answer_high, answer_deep, answer_stops, answer_syntax, answer_memory, one_unit}
use Rattle.c_parser.proofs.laws.answers_texts.Goals as goal

pub returns : goal.returns
returns c = record {
  sound = answer_sound;
  whole = answer_whole;
  high = answer_high;
  deep = answer_deep;
  stops = answer_stops;
  syntax = answer_syntax;
  memory = answer_memory;
  one = one_unit;
}
