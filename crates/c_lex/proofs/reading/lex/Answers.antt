-- what reading gives is what the grammar says
use Rattle.c_lex.proofs.TextLaws.{gives_tokens, gives_refusal, gives_only, gives_stop}
use Rattle.c_lex.proofs.reading.lex.Goals as goal

pub returns-clause-tokens : goal.returns-clause-tokens
returns-clause-tokens c = gives_tokens c.read.result c.args.bytes.now c.read.ensures.exact

pub returns-clause-only : goal.returns-clause-only
returns-clause-only c = gives_only c.read.result c.args.bytes.now c.read.ensures.exact

pub returns-clause-refused : goal.returns-clause-refused
returns-clause-refused c = gives_refusal c.read.result c.args.bytes.now c.read.ensures.exact

pub returns-clause-stops : goal.returns-clause-stops
returns-clause-stops c = gives_stop c.read.result c.args.bytes.now c.read.ensures.exact
