-- the machine was given the tokens as the grammar sees them
use Rattle.std.proofs.Common.{◌∙◌}
use Rattle.c_parser.proofs.AnswerLaws.{answered}
use Rattle.c_parser.proofs.reading.answer.Goals as goal

pub returns-in-Ok : goal.returns-in-Ok
returns-in-Ok c = answered c.args.tokens.now c.as_slice.result.now c.read.result (c.as_slice.ensures.value ∙ c.in-Ok.ensures) c.read.ensures
