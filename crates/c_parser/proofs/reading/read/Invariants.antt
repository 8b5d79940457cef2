use Rattle.std.proofs.Common.{◌≡◌, drop}
use Rattle.parse_item.specs.UnitMachine.{unit_start}
use Rattle.c_parser.specs.Answers.{answer_from}
use Rattle.c_parser.proofs.reading.read.Given as goal

abbrev pub invariant-loop-token : goal.invariant-loop-token
invariant-loop-token l = answer_from l.end (drop l.token-index l.tokens) l.state ≡ answer_from 0 l.tokens unit_start
