use Rattle.parse_item.specs.BodyAnswers.{body_answer}
use Rattle.parse_item.proofs.BodyVerdicts.{answers}
use Rattle.parse_item.proofs.items.advance_body.Goals as goal

pub returns : goal.returns
returns c = answers c.answer_body-verdict.result (body_answer 256 c.args.token.now c.args.so_far) c.answer_body-verdict.new.state c.answer_of.result c.answer_body-verdict.ensures c.answer_of.ensures
