-- Three draws.
use Rattle.std.proofs.Common.{◌≡◌, ◌-◌, ◌*◌, ap, ◌∙◌}
use Rattle.case_gen.specs.Numbers.{next_of, value_of, state_at, drawn}
use Rattle.case_gen.specs.Units.{form_of}
use Rattle.case_gen.proofs.Draws.{first_draw, second_draw, third_draw, same_choice}
use Rattle.case_gen.proofs.units.drawn_choice.Goals as goal

pub returns-clause-choice : goal.returns-clause-choice
returns-clause-choice c =
    let number = c.args.number in
    let k = c.args.k in
    let first : next_of c.args.numbers.now.state ≡ state_at c.args.number (3 * c.args.k - 2) = ap next_of c.requires.state ∙ first_draw number k c.requires.later in
    let second : next_of c.draw-o.new.self.state ≡ state_at c.args.number (3 * c.args.k - 1) = ap next_of (c.draw-o.ensures.state ∙ first) ∙ second_draw number k c.requires.later in
    let third : next_of c.draw-target.new.self.state ≡ state_at c.args.number (3 * c.args.k) = ap next_of (c.draw-target.ensures.state ∙ second) ∙ third_draw number k c.requires.later in
    same_choice c.chosen-form.result (form_of (drawn number (3 * k - 2) 4)) c.draw-target.result (drawn number (3 * k - 1) k) c.draw-held.result (drawn number (3 * k) 1000)
    (c.chosen-form.ensures ∙ ap form_of (c.draw-o.ensures.value ∙ ap (λ x. value_of x 4) first))
    (c.draw-target.ensures.value ∙ ap (λ x. value_of x k) second)
    (c.draw-held.ensures.value ∙ ap (λ x. value_of x 1000) third)

pub returns-clause-state : goal.returns-clause-state
returns-clause-state c =
    let number = c.args.number in
    let k = c.args.k in
    let first : next_of c.args.numbers.now.state ≡ state_at c.args.number (3 * c.args.k - 2) = ap next_of c.requires.state ∙ first_draw number k c.requires.later in
    let second : next_of c.draw-o.new.self.state ≡ state_at c.args.number (3 * c.args.k - 1) = ap next_of (c.draw-o.ensures.state ∙ first) ∙ second_draw number k c.requires.later in
    let third : next_of c.draw-target.new.self.state ≡ state_at c.args.number (3 * c.args.k) = ap next_of (c.draw-target.ensures.state ∙ second) ∙ third_draw number k c.requires.later in
    c.draw-held.ensures.state ∙ third
