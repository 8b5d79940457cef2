-- a string literal, character by character
use Rattle.std.proofs.Common.{◌≡◌, ◌≢◌, ◌<◌, true, false, eqb, Some, None, length, drop, get_or, sym, arith, length-drop}
use Rattle.std.proofs.lemmas.Bool.{eqb-true, eqb-false}
use Rattle.c_lex.specs.Quotes.{quoted_at}
use Rattle.c_lex.proofs.QuoteLaws.{quoted_bounds}
use Rattle.c_lex.proofs.LiteralLaws.{text_begins, text_found, text_refused, text_open, text_on}
use Rattle.c_lex.proofs.next.text_at.Goals as goal

pub loop-rest-init : goal.loop-rest-init
loop-rest-init c = rw (c.behind-rest.ensures, c.new-bytes.ensures) (text_begins c.args.text.now)

pub returns-then-rest-eq34 : goal.returns-then-rest-eq34
returns-then-rest-eq34 c =
    let rest = c.loop-rest.rest.now in
    let test : eqb (length rest) 0 ≡ false = cc in
    let some : 0 < length rest = omega (arith, eqb-false (length rest) 0 test) in
    let quote : get_or rest 0 0 ≡ 34 = omega arith in
    text_found c.args.text.now c.loop-rest.bytes rest some quote c.loop-rest.invariant

pub returns-in_default : goal.returns-in_default
returns-in_default c =
    let rest = c.loop-rest.rest.now in
    let test : eqb (length rest) 0 ≡ false = cc in
    let some : 0 < length rest = omega (arith, eqb-false (length rest) 0 test) in
    let other : get_or rest 0 0 ≢ 34 = λ e. omega arith in
    text_refused c.args.text.now c.loop-rest.bytes rest some other (sym c.in_default.ensures) c.loop-rest.invariant

pub behind-rest-requires-in-loop-rest : goal.behind-rest-requires-in-loop-rest
behind-rest-requires-in-loop-rest c =
    (quoted_bounds 34 c.loop-rest.rest.now c.in-Some.quoted (sym c.in-Some.ensures)).1

pub loop-rest-smaller : goal.loop-rest-smaller
loop-rest-smaller c =
    let rest = c.loop-rest.rest.now in
    let bounds = quoted_bounds 34 rest c.in-Some.quoted (sym c.in-Some.ensures) in
    let less : length (drop c.in-Some.quoted.length rest) < length rest = simp (length-drop c.in-Some.quoted.length rest) (omega (arith, bounds)) in
    rw c.behind-rest-in-loop-rest.ensures less

pub loop-rest-preserved : goal.loop-rest-preserved
loop-rest-preserved c =
    let rest = c.loop-rest.rest.now in
    let test : eqb (length rest) 0 ≡ false = cc in
    let some : 0 < length rest = omega (arith, eqb-false (length rest) 0 test) in
    let other : get_or rest 0 0 ≢ 34 = λ e. omega arith in
    rw (c.behind-rest-in-loop-rest.ensures, c.in_ok-push.ensures.ok) (text_on c.args.text.now c.loop-rest.bytes rest c.in-Some.quoted some other (sym c.in-Some.ensures) c.loop-rest.invariant)

pub returns : goal.returns
returns c =
    let test : eqb (length c.loop-rest.rest.now) 0 ≡ true = cc in
    text_open c.args.text.now c.loop-rest.bytes c.loop-rest.rest.now (eqb-true _ _ test) c.loop-rest.invariant
