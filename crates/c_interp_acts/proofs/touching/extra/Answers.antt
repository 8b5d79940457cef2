use Rattle.std.proofs.Common.{rules, to_z-of_z, ap, ◌∙◌, refl}
use mir.Syntax.{w128}
use mir.Val.{SFits}
use Rattle.c_meaning.specs.declared.outcome.SourceEnd.TheVariants as ends
use Rattle.c_meaning.specs.States.{rest_in}
use Rattle.c_values.specs.declared.value.Value.TheVariants as value
use Rattle.c_state.specs.Seen.{state_of}
use Rattle.c_interp_steps.specs.Stack.{stopped, resume, total}
use Rattle.c_interp_acts.proofs.MachineLaws.{extra_some, extra_none}
use Rattle.c_interp_acts.proofs.touching.extra.Goals as goal

pub returns-in-Some-clause-same : goal.returns-in-Some-clause-same
unfolding total
returns-in-Some-clause-same c m h = let x = c.args.machine.now in let s = state_of x.store h in
    let fits : SFits w128 c.in-Some.z = search rules in
    ap (λ z. (resume m x.stack.items).value (value.Number z) (state_of c.next_extra.new.self h) x.left) (to_z-of_z fits)
    ∙ ap (λ z. (resume m x.stack.items).value (value.Number c.in-Some.z) z x.left) (c.next_extra.ensures.kept h)
    ∙ extra_some c.args.int (rest_in s.frames) (rest_in (state_of c.next_extra.new.self h).frames) c.in-Some.z (resume m x.stack.items).value s x.left (c.in-Some.ensures.given h)

pub returns-in-None-clause-same : goal.returns-in-None-clause-same
unfolding total
returns-in-None-clause-same c m h = let x = c.args.machine.now in let s = state_of x.store h in
    ap (λ z. stopped (ends.Trap 244) z x.left) (c.next_extra.ensures.kept h)
    ∙ extra_none c.args.int (rest_in s.frames) (rest_in (state_of c.next_extra.new.self h).frames) (resume m x.stack.items).value s x.left refl (c.in-None.ensures.given h)
