use Rattle.std.proofs.Common.{◌≡◌, ℕ, ◌+◌, ◌≤◌, List, [], ◌∷◌, ◌++◌, length, Some, None, sym, ◌∙◌, subst, arith}
use Rattle.first_form.specs.Reading.{after_head, put_at, status_at}
use Rattle.first_form.proofs.ParseLaws.{ReadsTo, reads_head, reads_none, reads_put, reads_end, answered}
use Rattle.std.proofs.lemmas.Option.{none-some}
use Rattle.first_form.proofs.LengthLaws.{put_shortens}
use Rattle.first_form.proofs.reading.parse.Goals as goal

pub returns-in_default : goal.returns-in_default
returns-in_default c =
    let none : after_head c.args.bytes.now ≡ None = sym c.in_default.ensures in
    record { exact = λ puts status. (λ e. absurd e, λ whole. reads_none c.args.bytes.now puts status none whole) }

pub loop-put-init : goal.loop-put-init
loop-put-init c =
    let some : after_head c.args.bytes.now ≡ Some c.in-Some.rest.now = sym c.in-Some.ensures in
    subst (λ (x : List ℕ). ReadsTo x c.in-Some.rest.now c.args.bytes.now) (sym c.new-puts.ensures.items) (reads_head c.args.bytes.now c.in-Some.rest.now some)

pub loop-put-smaller : goal.loop-put-smaller
loop-put-smaller c =
    let some : put_at c.loop-put.rest.now ≡ Some (c.in-Some-put_at.put, c.in-Some-put_at.after.now) = sym c.in-Some-put_at.ensures in
    let fewer : 12 + length c.in-Some-put_at.after.now ≤ length c.loop-put.rest.now = put_shortens c.loop-put.rest.now c.in-Some-put_at.after.now c.in-Some-put_at.put some in
    omega arith

pub loop-put-preserved : goal.loop-put-preserved
loop-put-preserved c =
    let some : put_at c.loop-put.rest.now ≡ Some (c.in-Some-put_at.put, c.in-Some-put_at.after.now) = sym c.in-Some-put_at.ensures in
    let pushed : c.push.new.self.items ≡ c.loop-put.puts.items ++ c.in-Some-put_at.put ∷ [] = c.in_ok-push.ensures.items in
    subst (λ (x : List ℕ). ReadsTo x c.in-Some-put_at.after.now c.args.bytes.now) (sym pushed)
    (reads_put c.loop-put.puts.items c.loop-put.rest.now c.args.bytes.now c.in-Some-put_at.after.now c.in-Some-put_at.put c.loop-put.invariant some)

pub returns-in_default-status_at : goal.returns-in_default-status_at
returns-in_default-status_at c =
    let no_put : put_at c.loop-put.rest.now ≡ None = sym c.in_default-put_at.ensures in
    let no_status : status_at c.loop-put.rest.now ≡ None = sym c.in_default-status_at.ensures in
    record {
      exact = λ puts status. (
        λ e. absurd e,
        λ whole.
            none-some status (sym no_status ∙ (reads_end c.loop-put.puts.items c.loop-put.rest.now c.args.bytes.now puts status c.loop-put.invariant no_put whole).1),
      );
    }

pub returns : goal.returns
returns c =
    let no_put : put_at c.loop-put.rest.now ≡ None = sym c.in_default-put_at.ensures in
    let read : status_at c.loop-put.rest.now ≡ Some c.in-Some-status_at.status = sym c.in-Some-status_at.ensures in
    record { exact = λ puts status. answered c.loop-put.puts.items c.loop-put.rest.now c.args.bytes.now puts c.in-Some-status_at.status status c.loop-put.invariant no_put read }
