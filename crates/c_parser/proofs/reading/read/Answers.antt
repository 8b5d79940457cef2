-- the answer to the tokens that are left is that to them all
use Rattle.parse_item.specs.UnitMachine.{unit_start}
use Rattle.c_parser.specs.Answers.{answer_from}
use Rattle.c_parser.proofs.AnswerLaws.{started, goes_on, halts, told}
use Rattle.c_parser.proofs.reading.read.Goals as goal

pub loop-token-init : goal.loop-token-init
loop-token-init c = started c.args.tokens.now c.begin_unit-state.result c.begin_unit-state.ensures

pub returns-in-Ok-None : goal.returns-in-Ok-None
returns-in-Ok-None c =
    halts c.args.tokens.now c.loop-token.token-index c.loop-token.end c.token-item.result c.loop-token.state c.in-Ok-None.field-0 (answer_from 0 c.args.tokens.now unit_start) c.loop-token-test.true c.token-item.is
    c.in-Ok-None.field-0-is c.in-Ok-None.ensures c.loop-token.invariant

pub loop-token-preserved : goal.loop-token-preserved
loop-token-preserved c =
    goes_on c.args.tokens.now c.loop-token.token-index c.loop-token.end c.token-item.result c.loop-token.state c.in-Ok-Some.next c.in-Ok-Some.field-0 (answer_from 0 c.args.tokens.now unit_start) c.loop-token-test.true
    c.token-item.is c.in-Ok-Some.field-0-is c.in-Ok-Some.ensures c.loop-token.invariant

pub returns : goal.returns
returns c =
    told c.args.tokens.now c.loop-token.token-index c.loop-token.end c.loop-token.state c.finish_unit.result c.settle.result (answer_from 0 c.args.tokens.now unit_start) c.loop-token-test.false c.loop-token.invariant
    c.finish_unit.ensures c.settle.ensures
