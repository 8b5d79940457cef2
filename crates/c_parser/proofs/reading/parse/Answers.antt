-- the answer is what the grammar says
use Rattle.std.proofs.Common.{Ok, Err}
use Rattle.c_parser.specs.declared.refusals.ParseRefusal.TheVariants.{Syntax, TooDeep}
use Rattle.c_parser.proofs.AnswerLaws.{answer_whole, answer_deep, answer_syntax, one_unit, given, refused, no_unit, gives_this}
use Rattle.c_parser.proofs.reading.parse.Goals as goal

pub returns-clause-whole : goal.returns-clause-whole
returns-clause-whole c = λ u d h. gives_this c.args.tokens.now c.answer.result (Ok u) c.answer.ensures (answer_whole c.args.tokens.now u d h)

pub returns-clause-one : goal.returns-clause-one
returns-clause-one c = one_unit c.args.tokens.now

pub returns-clause-syntax : goal.returns-clause-syntax
returns-clause-syntax c = no_unit c.args.tokens.now c.answer.result c.answer.ensures

pub returns-clause-stops : goal.returns-clause-stops
returns-clause-stops c = λ at h. gives_this c.args.tokens.now c.answer.result (Err (Syntax at)) c.answer.ensures (answer_syntax c.args.tokens.now at h)

pub returns-clause-deep : goal.returns-clause-deep
returns-clause-deep c = λ u d h. gives_this c.args.tokens.now c.answer.result (Err TooDeep) c.answer.ensures (answer_deep c.args.tokens.now u d h)

pub returns-clause-sound : goal.returns-clause-sound
returns-clause-sound c = given c.args.tokens.now c.answer.result c.answer.ensures

pub returns-clause-refused : goal.returns-clause-refused
returns-clause-refused c = refused c.args.tokens.now c.answer.result c.answer.ensures
