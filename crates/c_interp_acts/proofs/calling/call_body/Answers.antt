use Rattle.std.proofs.Common.{◌≡◌, [], ◌∷◌, length, min, take, drop, refl, ap, ◌∙◌, arith, length-append}
use Rattle.c_meaning.specs.States.{padded}
use Rattle.c_meaning.specs.Start.{setting_of}
use Rattle.c_state.specs.Seen.{state_of, walking}
use Rattle.c_interp_steps.specs.declared.work.Pending.TheVariants as wait
use Rattle.c_interp_acts.proofs.CallLaws.{body_unpaid, body_begins}
use Rattle.c_interp_acts.proofs.calling.call_body.Goals as goal

pub returns-in_default-clause-same : goal.returns-in_default-clause-same
returns-in_default-clause-same c h =
    let m = setting_of c.args.p.now in let x = c.args.machine.now in let vs = c.args.arguments in let f = c.args.callee.0.now in let b = c.args.callee.1.now in
    let io : c.min.result ≡ min (length f.params) (length vs) = cc (c.min.ensures, c.as_slice-given.ensures) in
    let ig : c.in_ok-copies.field-0 ≡ take c.min.result vs = c.in_ok-copies.ensures ∙ c.split_at.ensures.front ∙ ap (take c.min.result) c.as_slice-given.ensures in
    let il : c.in_ok-locals.locals ≡ padded (length b.locals) c.in_ok-copies.field-0 = cc (c.in_ok-locals.ensures) in
    let ie : c.in_ok-extras.extras ≡ drop c.min.result vs = c.in_ok-extras.ensures ∙ c.split_at.ensures.back ∙ ap (drop c.min.result) c.as_slice-given.ensures in
    body_unpaid m c.args.target vs x (record x { store = c.open.new.self }) h f b c.in_ok-charge.charge c.min.result c.in_ok-copies.field-0 c.in_ok-locals.locals c.in_ok-extras.extras
    c.requires.callee c.in_ok-charge.ensures io ig il ie (c.in_ok-open.ensures h) (c.in_default.ensures 1 refl) refl

pub returns-clause-same : goal.returns-clause-same
returns-clause-same c h =
    let m = setting_of c.args.p.now in let x = c.args.machine.now in let vs = c.args.arguments in let f = c.args.callee.0.now in let b = c.args.callee.1.now in let w = c.in-Some.ensures 1 refl in
    let io : c.min.result ≡ min (length f.params) (length vs) = cc (c.min.ensures, c.as_slice-given.ensures) in
    let ig : c.in_ok-copies.field-0 ≡ take c.min.result vs = c.in_ok-copies.ensures ∙ c.split_at.ensures.front ∙ ap (take c.min.result) c.as_slice-given.ensures in
    let il : c.in_ok-locals.locals ≡ padded (length b.locals) c.in_ok-copies.field-0 = cc (c.in_ok-locals.ensures) in
    let ie : c.in_ok-extras.extras ≡ drop c.min.result vs = c.in_ok-extras.ensures ∙ c.split_at.ensures.back ∙ ap (drop c.min.result) c.as_slice-given.ensures in
    body_begins m c.args.target vs x (record x { store = c.open.new.self; stack = c.push.new.self; left = c.in-Some.left }) h f b c.in_ok-charge.charge c.min.result c.in_ok-copies.field-0 c.in_ok-locals.locals c.in_ok-extras.extras
    c.requires.callee c.in_ok-charge.ensures io ig il ie (c.in_ok-open.ensures h)
    c.put.new.self c.in_ok-next.next c.enter_items.result c.as_slice.result.now c.in_ok-push.ensures.items w.0 w.1 c.as_slice.ensures
    c.in_ok-next.ensures.goes c.put.ensures.store c.put.ensures.left (c.enter_items.ensures.gives m c.push.new.self.items (state_of c.open.new.self (walking c.args.target h)) c.in-Some.left)

pub returns-clause-less : goal.returns-clause-less
returns-clause-less c = λ going.
    let w = c.in-Some.ensures 1 refl in let e = ap length c.in_ok-push.ensures.items in let l = length-append c.args.machine.now.stack.items (wait.Leave c.args.callee.0.now.result ∷ []) in
    omega (arith, w.0, w.1, c.put.ensures.left, c.in_ok-next.ensures.less, c.enter_items.ensures.within, e, l)

pub returns-clause-left : goal.returns-clause-left
returns-clause-left c = let w = c.in-Some.ensures 1 refl in omega (arith, w.0, w.1, c.put.ensures.left)

pub returns-in_err-next-clause-left : goal.returns-in_err-next-clause-left
returns-in_err-next-clause-left c = let w = c.in-Some.ensures 1 refl in omega (arith, w.0, w.1, c.put.ensures.left)
