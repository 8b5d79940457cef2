use Rattle.std.proofs.Common.{◌≡◌, ◌+◌, ◌-◌, refl, sym, ◌∙◌, arith, Some}
use Rattle.flat_machine.specs.declared.ends.RunEnd.TheVariants.{WriteFault}
use Rattle.flat_machine.specs.Runs.{flat_run}
use Rattle.flat_machine.specs.States.{guest_of}
use Rattle.flat_machine.proofs.Running.{begins, goes_on, ends, ends_put, spent, spent_put, resized, tells_on}
use Rattle.hx_io.proofs.FaultLaws.{Rose-later}
use Rattle.flat_machine.proofs.run.run.Goals as goal

pub loop-turn-init : goal.loop-turn-init
loop-turn-init g c = record {
  size = c.in_ok-guest.ensures.size;
  told = refl;
  counted = omega arith;
  ran = begins c.args.image.now c.args.budget 0 c.in_ok-guest.guest.size (guest_of c.in_ok-guest.guest) _ _ refl c.in_ok-guest.ensures.size c.in_ok-guest.ensures.state;
}

pub loop-turn-preserved : goal.loop-turn-preserved
loop-turn-preserved g c =
    let i = c.loop-turn.invariant in
    record {
      size = c.step.ensures.size ∙ i.size;
      told = c.step.ensures.told ∙ i.told;
      counted = omega (arith, i.counted, c.step.ensures.counted);
      ran = resized _ c.loop-turn.guest.size c.step.new.self.size (c.args.budget - (c.loop-turn._turn + 1)) (guest_of c.step.new.self) _ _ _ c.step.ensures.size
          (goes_on _ c.loop-turn.guest.size c.args.budget c.loop-turn._turn (guest_of c.loop-turn.guest) (guest_of c.step.new.self) _ _ _ _ c.loop-turn-test.true i.ran c.in_default.ensures.moves (λ t. c.in_default.ensures.puts (tells_on _ _ i.told t)));
    }

pub returns-in-Some : goal.returns-in-Some
returns-in-Some g c =
    let i = c.loop-turn.invariant in
    record {
      ends = ends _ c.loop-turn.guest.size c.args.budget c.loop-turn._turn (guest_of c.loop-turn.guest) (guest_of c.step.new.self) _ _ _ c.in-Some.end c.loop-turn-test.true i.ran c.in-Some.ensures.moves;
      puts = λ t. ends_put _ c.loop-turn.guest.size c.args.budget c.loop-turn._turn (guest_of c.loop-turn.guest) (guest_of c.step.new.self) _ _ _ _ c.in-Some.end c.loop-turn-test.true i.ran c.in-Some.ensures.moves t (c.in-Some.ensures.puts (tells_on _ _ i.told t));
      told = c.step.ensures.told ∙ i.told;
      counted = omega (arith, i.counted, c.step.ensures.counted);
      failed = λ e. Rose-later _ _ _ i.counted (c.step.ensures.failed (let is : c.step.result ≡ Some WriteFault = cc c.in-Some.is in is));
    }

pub returns : goal.returns
returns g c =
    let i = c.loop-turn.invariant in
    record {
      ends = spent _ c.loop-turn.guest.size c.args.budget c.loop-turn._turn (guest_of c.loop-turn.guest) _ _ _ c.loop-turn-test.false i.ran;
      puts = λ t. spent_put _ c.loop-turn.guest.size c.args.budget c.loop-turn._turn (guest_of c.loop-turn.guest) _ _ _ c.loop-turn-test.false i.ran t;
      told = i.told;
      counted = i.counted;
      failed = λ e. absurd cc;
    }
