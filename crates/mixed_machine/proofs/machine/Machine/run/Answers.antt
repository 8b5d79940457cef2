use Rattle.std.proofs.Common.{refl, sym, ap, subst, ◌∙◌, ◌++◌, arith}
use Rattle.machine_rules.specs.Runs.{act_of}
use Rattle.mixed_machine.specs.declared.machine.StepEnd.TheVariants.{Ended}
use Rattle.mixed_machine.specs.States.{guest_of, after_of}
use Rattle.mixed_machine.specs.Answers.{Runs, RunPuts, StepsTo, StepLeaves}
use Rattle.mixed_machine.proofs.Running.{begins, goes_on}
use Rattle.mixed_machine.proofs.Ending.{runs_kept, puts_kept, runs_then, puts_then, tells_on}
use Rattle.mixed_machine.proofs.machine.Machine.run.Goals as goal

pub returns-in-Some-clause-runs : goal.returns-in-Some-clause-runs
returns-in-Some-clause-runs g c = λ t.
    subst (λ r. Runs r c.args.self.now.code c.args.budget (after_of c.args.self.now (g.I.Source.left c.args.input.now)) (after_of c.args.self.now (g.I.Source.left c.args.input.now))) (sym c.run_end.ensures)
    (runs_kept c.args.self.now.code c.args.budget c.args.self.now.end c.in-Some.end (guest_of c.args.self.now.guest) (g.I.Source.left c.args.input.now) c.in-Some.is)

pub returns-in-Some-clause-puts : goal.returns-in-Some-clause-puts
returns-in-Some-clause-puts g c = λ q t.
    subst (λ r. RunPuts r c.args.self.now.code c.args.budget (after_of c.args.self.now (g.I.Source.left c.args.input.now)) (after_of c.args.self.now (g.I.Source.left c.args.input.now)) (g.O.Sink.bytes c.args.out.now) (g.O.Sink.bytes c.args.out.now)) (sym c.run_end.ensures)
    (puts_kept c.args.self.now.code c.args.budget c.args.self.now.end c.in-Some.end (guest_of c.args.self.now.guest) (g.I.Source.left c.args.input.now) (g.O.Sink.bytes c.args.out.now) c.in-Some.is)

pub loop-turn-init : goal.loop-turn-init
loop-turn-init g c = record {
  code = refl;
  going = c.in_default.is;
  input_told = refl;
  out_told = refl;
  input_counted = omega arith;
  out_counted = omega arith;
  ran = λ t. begins c.args.self.now.code c.args.budget (after_of c.args.self.now (g.I.Source.left c.args.input.now)) (g.O.Sink.tells c.args.out.now) (g.O.Sink.bytes c.args.out.now);
}

pub loop-turn-preserved : goal.loop-turn-preserved
loop-turn-preserved g c =
    let i = c.loop-turn.invariant in
    let s = c.in_default-step.ensures in
    record {
      code = s.code ∙ i.code;
      going = s.answer;
      input_told = s.input_told ∙ i.input_told;
      out_told = s.out_told ∙ i.out_told;
      input_counted = omega (arith, i.input_counted, s.input_counted);
      out_counted = omega (arith, i.out_counted, s.out_counted);
      ran = λ t.
          goes_on c.args.self.now.code c.args.budget c.loop-turn._turn (after_of c.args.self.now (g.I.Source.left c.args.input.now)) (after_of c.loop-turn.self (g.I.Source.left c.loop-turn.input)) (g.O.Sink.tells c.args.out.now) (g.O.Sink.bytes c.args.out.now) (g.O.Sink.bytes c.loop-turn.out) c.loop-turn-test.true (i.ran t) (after_of c.step.new.self (g.I.Source.left c.step.new.input)) (g.O.Sink.bytes c.step.new.out)
          (s.moves (tells_on _ _ i.input_told t) ∙ ap (λ code. (act_of code (after_of c.loop-turn.self (g.I.Source.left c.loop-turn.input))).after) i.code)
          (λ q. s.puts (tells_on _ _ i.out_told q) (tells_on _ _ i.input_told t) ∙ ap (λ code. g.O.Sink.bytes c.loop-turn.out ++ (act_of code (after_of c.loop-turn.self (g.I.Source.left c.loop-turn.input))).put) i.code);
    }

pub returns-in-Ended-clause-runs : goal.returns-in-Ended-clause-runs
returns-in-Ended-clause-runs g c = λ t.
    let i = c.loop-turn.invariant in
    let s = c.in-Ended.ensures in
    runs_then c.args.self.now.code c.args.budget c.loop-turn._turn (after_of c.args.self.now (g.I.Source.left c.args.input.now)) (after_of c.loop-turn.self (g.I.Source.left c.loop-turn.input)) (g.O.Sink.tells c.args.out.now) (g.O.Sink.bytes c.args.out.now) (g.O.Sink.bytes c.loop-turn.out) c.loop-turn-test.true (i.ran t) c.step.new.self.end (guest_of c.step.new.self.guest) (g.I.Source.left c.step.new.input) c.in-Ended.end s.answer
    (subst (λ code. StepsTo (Ended c.in-Ended.end) (act_of code (after_of c.loop-turn.self (g.I.Source.left c.loop-turn.input))) (after_of c.loop-turn.self (g.I.Source.left c.loop-turn.input)) (after_of c.step.new.self (g.I.Source.left c.step.new.input))) i.code (s.moves (tells_on _ _ i.input_told t)))

pub returns-in-Ended-clause-puts : goal.returns-in-Ended-clause-puts
returns-in-Ended-clause-puts g c = λ q t.
    let i = c.loop-turn.invariant in
    let s = c.in-Ended.ensures in
    puts_then c.args.self.now.code c.args.budget c.loop-turn._turn (after_of c.args.self.now (g.I.Source.left c.args.input.now)) (after_of c.loop-turn.self (g.I.Source.left c.loop-turn.input)) (g.O.Sink.tells c.args.out.now) (g.O.Sink.bytes c.args.out.now) (g.O.Sink.bytes c.loop-turn.out) c.loop-turn-test.true (i.ran t) c.step.new.self.end (guest_of c.step.new.self.guest) (g.I.Source.left c.step.new.input) c.in-Ended.end (g.O.Sink.bytes c.step.new.out) q s.answer
    (subst (λ code. StepsTo (Ended c.in-Ended.end) (act_of code (after_of c.loop-turn.self (g.I.Source.left c.loop-turn.input))) (after_of c.loop-turn.self (g.I.Source.left c.loop-turn.input)) (after_of c.step.new.self (g.I.Source.left c.step.new.input))) i.code (s.moves (tells_on _ _ i.input_told t)))
    (subst (λ code. StepLeaves (Ended c.in-Ended.end) (g.O.Sink.bytes c.loop-turn.out) (act_of code (after_of c.loop-turn.self (g.I.Source.left c.loop-turn.input))).put (g.O.Sink.bytes c.step.new.out)) i.code (s.puts (tells_on _ _ i.out_told q) (tells_on _ _ i.input_told t)))
