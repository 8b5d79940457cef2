-- the first end, place by place
use Rattle.std.proofs.Common.{◌≡◌, true, false, drop, ◌∙◌, sym, arith}
use Rattle.c_lex.specs.Reading.{closes}
use Rattle.c_lex.proofs.CommentLaws.{close_found, close_on, close_none}
use Rattle.c_lex.proofs.next.close_of.Goals as goal

pub returns-then-closes : goal.returns-then-closes
returns-then-closes c =
    let text = c.args.text.now in
    let i = c.loop-place.place in
    let here : closes (drop i text) ≡ true = cc in
    sym (close_found text i (omega arith) here) ∙ c.loop-place.invariant

pub loop-place-preserved : goal.loop-place-preserved
loop-place-preserved c =
    let text = c.args.text.now in
    let i = c.loop-place.place in
    let not_here : closes (drop i text) ≡ false = cc in
    close_on text i (omega arith) not_here ∙ c.loop-place.invariant

pub returns : goal.returns
returns c = sym (close_none c.args.text.now c.loop-place.place (omega arith)) ∙ c.loop-place.invariant
