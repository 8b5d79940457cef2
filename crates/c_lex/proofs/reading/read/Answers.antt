-- a text is read step by step
use Rattle.std.proofs.Common.{◌≡◌, ◌<◌, ◌≤◌, true, false, eqb, length, drop, sym, ◌∙◌, arith, length-drop, ⊎_elim}
use Rattle.std.proofs.lemmas.Bool.{eqb-true, eqb-false}
use Rattle.c_lex.specs.declared.next.Next.TheVariants as next
use Rattle.c_lex.specs.Reading.{next_of, token}
use Rattle.c_lex.proofs.ReadingLaws.{read_begins, read_gap, read_found, read_refused, read_ends, gap_bounds, found_bounds, told}
use Rattle.c_lex.proofs.reading.read.Goals as goal
use Rattle.c_lex.proofs.reading.read.Goals.{in-Gap, in-Found+in_ok-push-in-Found}

pub loop-rest-init : goal.loop-rest-init
loop-rest-init c = rw c.new-tokens.ensures.items (read_begins c.args.bytes.now)

pub front-requires : goal.front-requires
front-requires c =
    let rest = c.loop-rest.rest.now in
    let test : eqb (length rest) 0 ≡ false = cc in
    let some : 0 < length rest = omega (arith, eqb-false (length rest) 0 test) in
    (gap_bounds c.loop-rest.first rest c.in-Gap.length some (sym c.in_ok-length.ensures ∙ c.in-Gap.is)).1

pub overflow_cast-end : goal.overflow_cast-end
overflow_cast-end c =
    let rest = c.loop-rest.rest.now in
    let test : eqb (length rest) 0 ≡ false = cc in
    let some : 0 < length rest = omega (arith, eqb-false (length rest) 0 test) in
    let bounds = found_bounds c.loop-rest.first rest c.in-Found.kind c.in-Found.length some (sym c.in_ok-length.ensures ∙ c.in-Found.is) in
    omega (arith, bounds, c.loop-rest.invariant.within)

pub overflow_add-end : goal.overflow_add-end
overflow_add-end c =
    let rest = c.loop-rest.rest.now in
    let test : eqb (length rest) 0 ≡ false = cc in
    let some : 0 < length rest = omega (arith, eqb-false (length rest) 0 test) in
    let bounds = found_bounds c.loop-rest.first rest c.in-Found.kind c.in-Found.length some (sym c.in_ok-length.ensures ∙ c.in-Found.is) in
    omega (arith, bounds, c.loop-rest.invariant.within)

pub returns-in-Refused : goal.returns-in-Refused
returns-in-Refused c =
    let rest = c.loop-rest.rest.now in
    let test : eqb (length rest) 0 ≡ false = cc in
    let some : 0 < length rest = omega (arith, eqb-false (length rest) 0 test) in
    let read = read_refused c.args.bytes.now c.loop-rest.tokens.items c.loop-rest.first rest c.in-Refused.fault some (sym c.in_ok-length.ensures ∙ c.in-Refused.is) c.loop-rest.invariant in
    record { exact = told c.refusal_of.result c.in-Refused.fault _ _ c.refusal_of.ensures read }

pub behind-rest-requires : goal.behind-rest-requires
behind-rest-requires c =
    let rest = c.loop-rest.rest.now in
    let test : eqb (length rest) 0 ≡ false = cc in
    let some : 0 < length rest = omega (arith, eqb-false (length rest) 0 test) in
    elim c.match-branch-2.branch [
      | in-Gap w ↦ rw w.length-is (gap_bounds c.loop-rest.first rest w.in-Gap.length some (sym c.in_ok-length.ensures ∙ w.in-Gap.is)).1
      | in-Found+in_ok-push-in-Found w ↦ rw w.length-is (found_bounds c.loop-rest.first rest w.in-Found.kind w.in-Found.length some (sym c.in_ok-length.ensures ∙ w.in-Found.is)).1
    ]

pub loop-rest-smaller : goal.loop-rest-smaller
loop-rest-smaller c =
    let rest = c.loop-rest.rest.now in
    let test : eqb (length rest) 0 ≡ false = cc in
    let some : 0 < length rest = omega (arith, eqb-false (length rest) 0 test) in
    let takes : 0 < c.match-branch-2.length = elim c.match-branch-2.branch [
      | in-Gap w ↦ rw w.length-is (gap_bounds c.loop-rest.first rest w.in-Gap.length some (sym c.in_ok-length.ensures ∙ w.in-Gap.is)).0
      | in-Found+in_ok-push-in-Found w ↦ rw w.length-is (found_bounds c.loop-rest.first rest w.in-Found.kind w.in-Found.length some (sym c.in_ok-length.ensures ∙ w.in-Found.is)).0
    ] in
    let less : length (drop c.match-branch-2.length rest) < length rest = simp (length-drop c.match-branch-2.length rest) (omega (arith, takes, some)) in
    rw c.behind-rest.ensures less

pub loop-rest-preserved : goal.loop-rest-preserved
unfolding token
loop-rest-preserved c =
    let bytes = c.args.bytes.now in
    let tokens = c.loop-rest.tokens.items in
    let first = c.loop-rest.first in
    let rest = c.loop-rest.rest.now in
    let test : eqb (length rest) 0 ≡ false = cc in
    let some : 0 < length rest = omega (arith, eqb-false (length rest) 0 test) in
    elim c.match-branch-2.branch [
      | in-Gap w ↦
          let read = read_gap bytes tokens first rest w.in-Gap.length some (sym c.in_ok-length.ensures ∙ w.in-Gap.is) c.loop-rest.invariant in
          rw (c.behind-rest.ensures, w.tokens-is, w.first-is, w.length-is, w.is_first-first.ensures, w.front.ensures) read
      | in-Found+in_ok-push-in-Found w ↦
          let read = read_found bytes tokens first rest w.in-Found.kind w.in-Found.length some (sym c.in_ok-length.ensures ∙ w.in-Found.is) c.loop-rest.invariant in
          rw (c.behind-rest.ensures, w.tokens-is, w.first-is, w.length-is, w.in_ok-push-in-Found.ensures.items) read
    ]

pub returns : goal.returns
returns c =
    let test : eqb (length c.loop-rest.rest.now) 0 ≡ true = cc in
    record { exact = read_ends c.args.bytes.now c.loop-rest.tokens.items c.loop-rest.first c.loop-rest.rest.now (eqb-true _ _ test) c.loop-rest.invariant }
